-- The hashes that are kept by a set of their buckets, and those that share another bucket with a kept one.
use Rattle.std.proofs.Common.{◌≡◌, ◌≢◌, ℕ, ◌+◌, ◌<◌, ◌≤◌, List, [], ◌∷◌, ◌++◌, length, get_or, sym, ap, ◌∙◌, subst, inl, inr, arith}
use Rattle.std.specs.List.{All, Contains}
use Rattle.std.proofs.lemmas.Bool.{cases_lt}
use Rattle.std.proofs.lemmas.List.{length_push, get_or_push, get_or_append_left}
use Rattle.std.proofs.lemmas.List.Elements.{All-nil, All-push, All-weaker, All-contains, Contains-append_left, Contains-push}
use Rattle.mesh_model.specs.BitSet.{HasBit}
use Rattle.mesh_model.specs.Hash.{bucket_of, sieve_of}
use Rattle.mesh_model.specs.RowIndex.{AreKept, ArePassing, AreChosenHashes}

-- ---- hashes that are kept

-- the buckets of the first hashes are in the set, and those of them that equal an earlier one are kept
pub record KeepsHashes (hashes : List ℕ) (mask i : ℕ) (words kept : List ℕ) : Type 0 where
  pub bits : (q : ℕ) → q < i → HasBit words (bucket_of mask (get_or hashes q 0))
  pub are_kept : AreKept hashes i kept
  pub few : length kept ≤ i

pub KeepsHashes-none : (hashes : List ℕ) (mask : ℕ) (words : List ℕ) → KeepsHashes hashes mask 0 words []
KeepsHashes-none hashes mask words = record {
  bits = λ q below. absurd (omega arith);
  are_kept = record { within = All-nil (λ p. p < 0); all = λ p q below. absurd (omega arith) };
  few = omega arith;
}

-- the set has one more bucket
bits-more : (hashes : List ℕ) (mask i : ℕ) (words after : List ℕ) → ((q : ℕ) → q < i → HasBit words (bucket_of mask (get_or hashes q 0))) →
    ((n : ℕ) → HasBit words n → HasBit after n) → HasBit after (bucket_of mask (get_or hashes i 0)) → (q : ℕ) → q < i + 1 → HasBit after (bucket_of mask (get_or hashes q 0))
bits-more hashes mask i words after bits others there q below = elim (cases_lt q i) [
  | inl early ↦ others (bucket_of mask (get_or hashes q 0)) (bits q early)
  | inr past ↦
      let same : i ≡ q = omega arith in
      subst (λ k. HasBit after (bucket_of mask (get_or hashes k 0))) same there
]

-- a hash whose bucket is in the set is kept
pub KeepsHashes-kept : (hashes : List ℕ) (mask i : ℕ) (words after kept : List ℕ) → KeepsHashes hashes mask i words kept →
    ((n : ℕ) → HasBit words n → HasBit after n) → HasBit after (bucket_of mask (get_or hashes i 0)) → KeepsHashes hashes mask (i + 1) after (kept ++ i ∷ [])
KeepsHashes-kept hashes mask i words after kept keeps others there = record {
  bits = bits-more hashes mask i words after keeps.bits others there;
  are_kept = record {
    within = All-push (λ p. p < i + 1) kept i (All-weaker (λ p. p < i) (λ p. p < i + 1) (λ p low. omega arith) kept keeps.are_kept.within) (omega arith);
    all = λ p q below before equal. elim (cases_lt p i) [
      | inl early ↦ Contains-append_left kept (i ∷ []) p (keeps.are_kept.all p q early before equal)
      | inr past ↦
          let same : i ≡ p = omega arith in
          subst (Contains (kept ++ i ∷ [])) same (Contains-push kept i)
    ];
  };
  few = omega (arith, length_push kept i, keeps.few);
}

-- another hash equals no earlier one
pub KeepsHashes-new : (hashes : List ℕ) (mask i : ℕ) (words after kept : List ℕ) → KeepsHashes hashes mask i words kept →
    ((n : ℕ) → HasBit words n → HasBit after n) → HasBit after (bucket_of mask (get_or hashes i 0)) → (HasBit words (bucket_of mask (get_or hashes i 0)) → ⊥) →
    KeepsHashes hashes mask (i + 1) after kept
KeepsHashes-new hashes mask i words after kept keeps others there new = record {
  bits = bits-more hashes mask i words after keeps.bits others there;
  are_kept = record {
    within = All-weaker (λ p. p < i) (λ p. p < i + 1) (λ p low. omega arith) kept keeps.are_kept.within;
    all = λ p q below before equal. elim (cases_lt p i) [
      | inl early ↦ keeps.are_kept.all p q early before equal
      | inr past ↦
          let same : p ≡ i = omega arith in
          let low : q < i = omega arith in
          let at : get_or hashes q 0 ≡ get_or hashes i 0 = equal ∙ ap (λ k. get_or hashes k 0) same in
          absurd (new (subst (λ hash. HasBit words (bucket_of mask hash)) at (keeps.bits q low)))
    ];
  };
  few = omega (arith, keeps.few);
}

-- ---- numbers that pass

pub Passing-none : (Passes : ℕ → Type 0) → ArePassing Passes 0 []
Passing-none Passes = record {
  few = omega arith;
  within = All-nil (λ p. p < 0);
  rising = λ i j before below. absurd (omega arith);
  all = λ p below passes. absurd (omega arith);
}

-- one more that is chosen
pub Passing-chosen : (Passes : ℕ → Type 0) (i : ℕ) (chosen : List ℕ) → ArePassing Passes i chosen → ArePassing Passes (i + 1) (chosen ++ i ∷ [])
Passing-chosen Passes i chosen are = record {
  few = omega (arith, length_push chosen i, are.few);
  within = All-push (λ p. p < i + 1) chosen i (All-weaker (λ p. p < i) (λ p. p < i + 1) (λ p low. omega arith) chosen are.within) (omega arith);
  rising = λ a b before below. elim (cases_lt b (length chosen)) [
    | inl early ↦
        omega (arith, get_or_append_left chosen (i ∷ []) 0 a (omega arith), get_or_append_left chosen (i ∷ []) 0 b early, are.rising a b before early)
    | inr past ↦
        let last : length chosen ≡ b = omega (arith, length_push chosen i) in
        let low : a < length chosen = omega arith in
        omega (arith, get_or_append_left chosen (i ∷ []) 0 a low, get_or_push chosen i 0 b last, are.within a 0 low)
  ];
  all = λ p below passes. elim (cases_lt p i) [
    | inl early ↦ Contains-append_left chosen (i ∷ []) p (are.all p early passes)
    | inr past ↦
        let same : i ≡ p = omega arith in
        subst (Contains (chosen ++ i ∷ [])) same (Contains-push chosen i)
  ];
}

-- one more that doesn't pass
pub Passing-other : (Passes : ℕ → Type 0) (i : ℕ) (chosen : List ℕ) → ArePassing Passes i chosen → (Passes i → ⊥) → ArePassing Passes (i + 1) chosen
Passing-other Passes i chosen are fails = record {
  few = omega (arith, are.few);
  within = All-weaker (λ p. p < i) (λ p. p < i + 1) (λ p low. omega arith) chosen are.within;
  rising = are.rising;
  all = λ p below passes. elim (cases_lt p i) [
    | inl early ↦ are.all p early passes
    | inr past ↦
        let same : p ≡ i = omega arith in
        absurd (fails (subst Passes same passes))
  ];
}

-- ---- hashes that are chosen

-- where the other buckets of kept hashes are in a set, each hash that equals another one has its bucket there
pub Chosen-passing : (hashes : List ℕ) (count mask : ℕ) (words kept chosen : List ℕ) → AreKept hashes count kept →
    All (λ p. HasBit words (sieve_of mask (get_or hashes p 0))) kept → ArePassing (λ p. HasBit words (sieve_of mask (get_or hashes p 0))) count chosen → AreChosenHashes hashes count chosen
Chosen-passing hashes count mask words kept chosen are bits passing = record {
  few = passing.few;
  within = passing.within;
  rising = passing.rising;
  all = λ p below equal. passing.all p below (elim (cases_lt equal.other p) [
    | inl before ↦ All-contains (λ k. HasBit words (sieve_of mask (get_or hashes k 0))) kept p bits (are.all p equal.other below before equal.equal)
    | inr behind ↦
        let q = equal.other in
        let apart : p ≢ q = λ e. equal.apart (sym e) in
        let before : p < q = omega arith in
        subst (λ hash. HasBit words (sieve_of mask hash)) equal.equal
        (All-contains (λ k. HasBit words (sieve_of mask (get_or hashes k 0))) kept q bits (are.all q p equal.within before (sym equal.equal)))
  ]);
}

-- where no hash is kept, none equals another one
pub Chosen-none : (hashes : List ℕ) (count : ℕ) (kept : List ℕ) → AreKept hashes count kept → length kept ≡ 0 → AreChosenHashes hashes count kept
Chosen-none hashes count kept are none = record {
  few = omega (arith, none);
  within = are.within;
  rising = λ i j before below. absurd (omega arith);
  all = λ p below equal. elim (cases_lt equal.other p) [
    | inl before ↦ are.all p equal.other below before equal.equal
    | inr behind ↦
        let q = equal.other in
        let apart : p ≢ q = λ e. equal.apart (sym e) in
        let before : p < q = omega arith in
        let at = are.all q p equal.within before (sym equal.equal) in
        absurd (omega (arith, at.1, none))
  ];
}
