-- The first of the shortest codings.
use Rattle.std.proofs.Common.{◌≡◌, ℕ, ◌+◌, ◌*◌, ◌/◌, ◌%◌, ◌^◌, ◌<◌, ◌≤◌, cond, min, All, List, [], ◌∷◌, length, get_or, sym, refl, ap, ◌∙◌, subst, inl, inr, arith, ne_eqb, lt-ltb, le-ltb, ltb-true}
use Rattle.std.proofs.lemmas.Bool.{cases_Bool, cases_lt, cond-true, cond-false}
use Rattle.std.proofs.lemmas.List.{get_or_default}
use Rattle.std.proofs.lemmas.List.Elements.{All-cons, All-nil}
use Rattle.std.proofs.lemmas.List.MinMax.{IsFirstBest-from_best_of, IsStrictWeakOrder-by_number}
use Rattle.std.specs.List.{IsFirstBest, best_of}
use Rattle.drc_base.specs.declared.limits.TheConstants.{MAX_VALUES}
use Rattle.drc_bits.specs.Spells.{Spells}
use Rattle.symbol_tables.specs.Normal.{greatest_count}
use Rattle.symbol_coding.specs.Block.{HasWidths, block_at, block_bytes, raw_length, widths}
use Rattle.symbol_coding.specs.Symbols.{counts_of}
use Rattle.symbol_coding.proofs.Widths.{whole-groups}
use Rattle.shortest_blocks.specs.Joined.{digits_of_groups, joined_lengths}
use Rattle.shortest_blocks.specs.Shortest.{is_shorter, joined_bytes, other_codings, raw_codings, raw_of, shortest_bytes}
use Rattle.shortest_blocks.proofs.Again.{raw-of-again, tagged-of-again}
use Rattle.shortest_blocks.proofs.BestCuts.{best-kept}
use Rattle.shortest_blocks.proofs.Joined.{digits-of-most, held, joined-above, length-digits}
use Rattle.symbol_coding.proofs.Counts.{greatest-below}
use Rattle.std.proofs.Math.Nat.{div-le_self}

-- ---- the best is no longer than the first

pub best-short : (a : List ℕ) (xs : List (List ℕ)) → length (best_of is_shorter a xs) ≤ length a
best-short a [] = omega arith
best-short a (x ∷ xs) =
    let rest = best-short (cond (is_shorter x a) x a) xs in
    elim (cases_Bool (is_shorter x a)) [
      | inl t ↦ (let e : length (cond (is_shorter x a) x a) ≡ length x = ap length (cond-true _ _ _ t) in let l : length x < length a = ltb-true (length x) (length a) t in omega (arith, e, l, rest))
      | inr f ↦ (let e : length (cond (is_shorter x a) x a) ≡ length a = ap length (cond-false _ _ _ f) in omega (arith, e, rest))
    ]

-- ---- all are read

-- bytes that are read as the values, unless there are too many of them for a computer
abbrev pub AreRead : List ℕ → ℕ → List ℕ → Type 0
AreRead values comps bytes = length bytes < 2 ^ 64 → Spells (block_at (length values) comps) bytes values

pub joined-few : (comps : ℕ) (values : List ℕ) → ((k : ℕ) → get_or (joined_lengths comps (digits_of_groups comps values)) k 0 ≤ 32)
joined-few comps values = λ k.
    let are = joined-above comps (digits_of_groups comps values) in
    let most : greatest_count (digits_of_groups comps values) < 33 = greatest-below (digits_of_groups comps values) 33 (omega arith) (λ i. let h = digits-of-most comps values i in omega (arith, h)) in
    let h = are.most_is k in omega (arith, h, most)

pub groups-some : (comps : ℕ) (values : List ℕ) → length values % comps ≡ 0 → 0 < length values → 0 < length (digits_of_groups comps values)
groups-some comps values divides some =
    let l = length-digits comps values in
    let w = whole-groups (length values) comps divides in
    elim (cases_lt 0 (length (digits_of_groups comps values))) [
      | inl more ↦ more
      | inr none ↦ absurd (let z : length values / comps ≡ 0 = omega (arith, l, none) in let e : length values ≡ 0 * comps = w ∙ ap (λ n. n * comps) z in omega (arith, e, some))
    ]

joined-read : (comps : ℕ) (values : List ℕ) → length values % comps ≡ 0 → 0 < length values → length values ≤ MAX_VALUES → ((k : ℕ) → get_or values k 0 < 2 ^ 32)
    → AreRead values comps (joined_bytes values comps)
unfolding joined_bytes
joined-read comps values divides some few each short =
    let lengths : List ℕ = digits_of_groups comps values in
    let joined : List ℕ = joined_lengths comps lengths in
    let are = joined-above comps lengths in
    let most : greatest_count lengths < 33 = greatest-below lengths 33 (omega arith) (λ i. let h = digits-of-most comps values i in omega (arith, h)) in
    let l = length-digits comps values in
    let g = groups-some comps values divides some in
    let d = div-le_self (length values) comps in
    tagged-of-again values joined (joined_bytes values comps) comps some (omega (arith, g, are.len)) (omega (arith, l, d, few, are.len)) (are.len ∙ l)
    (joined-few comps values) (held comps (greatest_count lengths) values joined divides each (omega (arith, most)) are) refl short

raw-read : (comps : ℕ) (values : List ℕ) → 0 < length values → length values ≤ MAX_VALUES → All (AreRead values comps) (raw_codings values)
unfolding raw_codings
raw-read comps values some few = elim (cases_lt (greatest_count values) (2 ^ 18)) [
  | inl small ↦
      let l : ℕ = raw_length (counts_of values) in
      subst (λ xs. All (AreRead values comps) xs) (sym (cond-true _ _ _ (lt-ltb (greatest_count values) (2 ^ 18) small)))
      (All-cons (AreRead values comps) (raw_of l values) (raw_of (min 18 (l + 2)) values ∷ [])
      (λ short. raw-of-again values (raw_of l values) comps l some few small (omega arith) (omega arith) refl short)
      (All-cons (AreRead values comps) (raw_of (min 18 (l + 2)) values) []
      (λ short. raw-of-again values (raw_of (min 18 (l + 2)) values) comps (min 18 (l + 2)) some few small (omega arith) (omega arith) refl short)
      (All-nil (AreRead values comps))))
  | inr large ↦ subst (λ xs. All (AreRead values comps) xs) (sym (cond-false _ _ _ (le-ltb (greatest_count values) (2 ^ 18) large))) (All-nil (AreRead values comps))
]

pub shortest-read : (comps : ℕ) (values block : List ℕ) → length values % comps ≡ 0 → 0 < length values → length values ≤ MAX_VALUES → ((k : ℕ) → get_or values k 0 < 2 ^ 32)
    → Spells (block_at (length values) comps) block values → AreRead values comps (best_of is_shorter block (other_codings values comps))
shortest-read comps values block divides some few each reads =
    best-kept (AreRead values comps) is_shorter block (other_codings values comps) (λ short. reads)
    (All-cons (AreRead values comps) (joined_bytes values comps) (raw_codings values) (joined-read comps values divides some few each) (raw-read comps values some few))

-- ---- the choice, one after another

pub all-chosen : (values block joined first second : List ℕ) (comps : ℕ) → joined ≡ joined_bytes values comps → first ≡ best_of is_shorter block (joined ∷ [])
    → second ≡ best_of is_shorter first (raw_codings values) → second ≡ best_of is_shorter block (other_codings values comps)
all-chosen values block joined first second comps is chosen chosen' =
    chosen' ∙ ap (λ xs. best_of is_shorter xs (raw_codings values)) chosen ∙ ap (λ xs. best_of is_shorter block (xs ∷ raw_codings values)) is

-- ---- groups and their joined lengths

pub record AreGroups (comps : ℕ) (lengths : List ℕ) : Type 0 where
  pub some : 0 < length lengths
  pub small : length lengths * comps ≤ MAX_VALUES
  pub most : (k : ℕ) → get_or lengths k 0 ≤ 32

pub are-groups : (comps : ℕ) (values lengths : List ℕ) → lengths ≡ digits_of_groups comps values → length values % comps ≡ 0 → 0 < length values → length values ≤ MAX_VALUES → AreGroups comps lengths
are-groups comps values lengths is divides some few =
    let l : length lengths ≡ length values / comps = ap length is ∙ length-digits comps values in
    let w : length values ≡ length values / comps * comps = whole-groups (length values) comps divides in
    let m : length lengths * comps ≡ length values = ap (λ n. n * comps) l ∙ sym w in record {
      some = subst (λ xs. 0 < length xs) (sym is) (groups-some comps values divides some);
      small = omega (arith, m, few);
      most = λ k. subst (λ xs. get_or xs k 0 ≤ 32) (sym is) (digits-of-most comps values k);
    }

pub record AreJoined (comps : ℕ) (values joined : List ℕ) : Type 0 where
  pub some : 0 < length joined
  pub few : length joined ≤ MAX_VALUES
  pub most : (k : ℕ) → get_or joined k 0 ≤ 32
  pub whole : length joined * comps ≡ length values
  pub fit : HasWidths (widths comps joined) values

are-joined : (comps : ℕ) (values : List ℕ) → length values % comps ≡ 0 → 0 < length values → length values ≤ MAX_VALUES → ((k : ℕ) → get_or values k 0 < 2 ^ 32)
    → AreJoined comps values (joined_lengths comps (digits_of_groups comps values))
are-joined comps values divides some few each =
    let lengths : List ℕ = digits_of_groups comps values in
    let joined : List ℕ = joined_lengths comps lengths in
    let are = joined-above comps lengths in
    let most : greatest_count lengths < 33 = greatest-below lengths 33 (omega arith) (λ i. let h = digits-of-most comps values i in omega (arith, h)) in
    let l = length-digits comps values in
    let g = groups-some comps values divides some in
    let d = div-le_self (length values) comps in
    let count : length joined ≡ length values / comps = are.len ∙ l in record {
      some = omega (arith, g, are.len);
      few = omega (arith, count, d, few);
      most = joined-few comps values;
      whole = ap (λ n. n * comps) count ∙ sym (whole-groups (length values) comps divides);
      fit = held comps (greatest_count lengths) values joined divides each (omega (arith, most)) are;
    }

pub are-joined-of : (comps : ℕ) (values lengths joined : List ℕ) → lengths ≡ digits_of_groups comps values → joined ≡ joined_lengths comps lengths → length values % comps ≡ 0 → 0 < length values
    → length values ≤ MAX_VALUES → ((k : ℕ) → get_or values k 0 < 2 ^ 32) → AreJoined comps values joined
are-joined-of comps values lengths joined is so divides some few each =
    subst (λ xs. AreJoined comps values xs) (sym (so ∙ ap (λ xs. joined_lengths comps xs) is)) (are-joined comps values divides some few each)

-- ---- the law

pub shortest-is : (values : List ℕ) (comps : ℕ) → 0 < length values → shortest_bytes values comps ≡ best_of is_shorter (block_bytes values comps) (other_codings values comps)
unfolding shortest_bytes
shortest-is values comps some = cond-false _ _ _ (ne_eqb (length values) 0 (λ e. absurd (omega (arith, e, some))))

pub first-shortest : (values : List ℕ) (comps : ℕ) → 0 < length values
    → (k : ℕ) × IsFirstBest is_shorter (block_bytes values comps ∷ other_codings values comps) (length (block_bytes values comps ∷ other_codings values comps)) k
    × (get_or (block_bytes values comps ∷ other_codings values comps) k [] ≡ shortest_bytes values comps)
first-shortest values comps some =
    let block : List ℕ = block_bytes values comps in
    let others : List (List ℕ) = other_codings values comps in
    let best = IsFirstBest-from_best_of (IsStrictWeakOrder-by_number length) block others in
    (best.0, best.1, get_or_default (block ∷ others) best.0 [] block best.1.0 ∙ best.2 ∙ sym (shortest-is values comps some))
