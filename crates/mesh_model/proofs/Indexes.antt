-- The chains of rows, with one more row, and with one fewer.
use Rattle.std.proofs.Common.{◌≡◌, ◌≢◌, ℕ, ◌+◌, ◌-◌, ◌<◌, ◌≤◌, List, [], ◌∷◌, ◌++◌, length, get_or, set, ℤ, refl, sym, ap, ◌∙◌, subst, inl, inr, arith}
use Rattle.std.specs.List.{All}
use Rattle.std.proofs.lemmas.Bool.{cases_eq, cases_lt}
use Rattle.std.proofs.lemmas.List.{length_push, get_or_push, get_or_append_left, get_or-set_same, get_or-set_other}
use Rattle.mesh_model.specs.Hash.{bucket_of, row_hash}
use Rattle.mesh_model.specs.RowIndex.{row_bucket, AreChained, AreChains, IsTwin}

-- the first `count` rows are linked, and of each bucket the latest of them is known
pub record IsIndex (rows : List (List ℤ)) (mask count : ℕ) (tops links : List ℕ) : Type 0 where
  pub linked : AreChained rows mask count links
  pub long : length links ≡ count
  pub top_in : (b : ℕ) → b ≤ mask → get_or tops b 0 ≤ count
  pub top_same : (b : ℕ) → b ≤ mask → 0 < get_or tops b 0 → row_bucket rows mask (get_or tops b 0 - 1) ≡ b
  pub top_all : (q : ℕ) → q < count → q < get_or tops (row_bucket rows mask q) 0

-- an index of no rows
pub IsIndex-none : (rows : List (List ℤ)) (mask : ℕ) (tops : List ℕ) → length tops ≡ mask + 1 → All (λ top. top ≡ 0) tops → IsIndex rows mask 0 tops []
IsIndex-none rows mask tops buckets zeros = record {
  linked = record {
    back = λ p below. absurd (omega arith);
    same = λ p below more. absurd (omega arith);
    all = λ p q below before same. absurd (omega arith);
  };
  long = refl;
  top_in = λ b inside. omega (arith, zeros b 0 (omega (arith, buckets)));
  top_same = λ b inside more. absurd (omega (arith, zeros b 0 (omega (arith, buckets))));
  top_all = λ q below. absurd (omega arith);
}

-- one more row, at the front of its chain
pub IsIndex-more : (rows : List (List ℤ)) (mask i : ℕ) (tops links : List ℕ) (b : ℕ) → IsIndex rows mask i tops links → length tops ≡ mask + 1 → b ≤ mask → b ≡ row_bucket rows mask i → IsIndex rows mask (i + 1) (set tops b (i + 1)) (links ++ get_or tops b 0 ∷ [])
IsIndex-more rows mask i tops links b is buckets inside bucket = record {
  linked = record {
    back = λ p below. elim (cases_lt p i) [
      | inl early ↦ omega (arith, old p early, is.linked.back p early)
      | inr past ↦ omega (arith, new p (omega arith), is.top_in b inside)
    ];
    same = λ p below more. elim (cases_lt p i) [
      | inl early ↦ ap (λ l. row_bucket rows mask (l - 1)) (old p early) ∙ is.linked.same p early (omega (arith, old p early))
      | inr past ↦
          let at : i ≡ p = omega arith in
          ap (λ l. row_bucket rows mask (l - 1)) (new p at) ∙ is.top_same b inside (omega (arith, new p at)) ∙ bucket ∙ ap (row_bucket rows mask) at
    ];
    all = λ p q below before same. elim (cases_lt p i) [
      | inl early ↦ subst (λ l. q < l) (sym (old p early)) (is.linked.all p q early before same)
      | inr past ↦
          let at : i ≡ p = omega arith in
          let key : row_bucket rows mask q ≡ b = same ∙ ap (row_bucket rows mask) (sym at) ∙ sym bucket in
          subst (λ l. q < l) (sym (new p at)) (subst (λ k. q < get_or tops k 0) key (is.top_all q (omega arith)))
    ];
  };
  long = length_push links (get_or tops b 0) ∙ ap (λ n. n + 1) is.long;
  top_in = λ d within. elim (cases_eq d b) [
    | inl same ↦ omega (arith, at_b d same)
    | inr other ↦ omega (arith, at_other d other, is.top_in d within)
  ];
  top_same = λ d within more. elim (cases_eq d b) [
    | inl same ↦
        let last : get_or (set tops b (i + 1)) d 0 - 1 ≡ i = omega (arith, at_b d same) in
        ap (row_bucket rows mask) last ∙ sym bucket ∙ sym same
    | inr other ↦ ap (λ l. row_bucket rows mask (l - 1)) (at_other d other) ∙ is.top_same d within (omega (arith, at_other d other))
  ];
  top_all = λ q below. elim (cases_eq (row_bucket rows mask q) b) [
    | inl same ↦ subst (λ l. q < l) (sym (at_b (row_bucket rows mask q) same)) (omega arith)
    | inr other ↦
        elim (cases_lt q i) [
          | inl early ↦ subst (λ l. q < l) (sym (at_other (row_bucket rows mask q) other)) (is.top_all q early)
          | inr past ↦ let at : q ≡ i = omega arith in absurd (other (ap (row_bucket rows mask) at ∙ sym bucket))
        ]
  ];
}
  where
    at_b : (d : ℕ) → d ≡ b → get_or (set tops b (i + 1)) d 0 ≡ i + 1
    at_b d same = ap (λ e. get_or (set tops b (i + 1)) e 0) same ∙ get_or-set_same tops b (i + 1) 0 (omega (arith, buckets))

    at_other : (d : ℕ) → d ≢ b → get_or (set tops b (i + 1)) d 0 ≡ get_or tops d 0
    at_other d other = get_or-set_other tops b d (i + 1) 0 other

    old : (p : ℕ) → p < i → get_or (links ++ get_or tops b 0 ∷ []) p 0 ≡ get_or links p 0
    old p below = get_or_append_left links (get_or tops b 0 ∷ []) 0 p (omega (arith, is.long))

    new : (p : ℕ) → i ≡ p → get_or (links ++ get_or tops b 0 ∷ []) p 0 ≡ get_or tops b 0
    new p at = get_or_push links (get_or tops b 0) 0 p (is.long ∙ at)

-- the chains of the rows before row i stay where its link is changed
pub AreChains-before : (rows : List (List ℤ)) (count i link : ℕ) (links : List ℕ) → AreChains rows count links → i < count → AreChains rows i (set links i link)
AreChains-before rows count i link links are inside = record {
  mask = are.mask;
  linked = record {
    back = λ p below. omega (arith, other p below, are.linked.back p (omega arith));
    same = λ p below more. ap (λ l. row_bucket rows are.mask (l - 1)) (other p below) ∙ are.linked.same p (omega arith) (omega (arith, other p below));
    all = λ p q below before same. subst (λ l. q < l) (sym (other p below)) (are.linked.all p q (omega arith) before same);
  };
}
  where
    other : (p : ℕ) → p < i → get_or (set links i link) p 0 ≡ get_or links p 0
    other p below = let apart : p ≢ i = omega arith in get_or-set_other links i p link 0 apart

-- the chain of row i from a link on has every earlier row that equals it
pub record Walks (rows : List (List ℤ)) (links : List ℕ) (i link : ℕ) : Type 0 where
  pub mask : ℕ
  pub linked : AreChained rows mask (i + 1) links
  pub back : link ≤ i
  pub same : 0 < link → row_bucket rows mask (link - 1) ≡ row_bucket rows mask i
  pub all : (q : ℕ) → q < i → get_or rows q [] ≡ get_or rows i [] → q < link

-- at first it has
pub Walks-first : (rows : List (List ℤ)) (links : List ℕ) (i : ℕ) → AreChains rows (i + 1) links → Walks rows links i (get_or links i 0)
Walks-first rows links i are = record {
  mask = are.mask;
  linked = are.linked;
  back = are.linked.back i (omega arith);
  same = λ some. are.linked.same i (omega arith) some;
  all = λ q before equal. are.linked.all i q (omega arith) before (ap (λ row. bucket_of are.mask (row_hash row)) equal);
}

-- it still has behind a row that is another one
pub Walks-next : (rows : List (List ℤ)) (links : List ℕ) (i link : ℕ) → Walks rows links i link → 0 < link → (get_or rows (link - 1) [] ≡ get_or rows i [] → ⊥) → Walks rows links i (get_or links (link - 1) 0)
Walks-next rows links i link walks some other =
    let p = link - 1 in
    let low : p < i = omega (arith, walks.back) in
    let key : row_bucket rows walks.mask p ≡ row_bucket rows walks.mask i = walks.same some in
    record {
      mask = walks.mask;
      linked = walks.linked;
      back = omega (arith, walks.linked.back p (omega arith));
      same = λ more. walks.linked.same p (omega arith) more ∙ key;
      all = λ q before equal.
          let kept : q < link = walks.all q before equal in
          let apart : q ≢ p = λ e. other (ap (λ n. get_or rows n []) (sym e) ∙ equal) in
          walks.linked.all p q (omega arith) (omega arith) (ap (λ row. bucket_of walks.mask (row_hash row)) equal ∙ sym key);
    }

-- where a row of the chain equals row i
pub IsTwin-found : (rows : List (List ℤ)) (links : List ℕ) (i link : ℕ) → Walks rows links i link → 0 < link → get_or rows (link - 1) [] ≡ get_or rows i [] → IsTwin rows i link
IsTwin-found rows links i link walks some equal = record {
  back = walks.back;
  equal = λ _. equal;
  none = λ zero. absurd (omega arith);
}

-- where the chain ends
pub IsTwin-none : (rows : List (List ℤ)) (links : List ℕ) (i : ℕ) → Walks rows links i 0 → IsTwin rows i 0
IsTwin-none rows links i walks = record {
  back = omega arith;
  equal = λ more. absurd (omega arith);
  none = λ _ q before equal. absurd (omega (arith, walks.all q before equal));
}

-- the twins from row i on
pub twins-more : (rows : List (List ℤ)) (count i link : ℕ) (links : List ℕ) → i < length links → IsTwin rows i link → ((p : ℕ) → i + 1 ≤ p → p < count → IsTwin rows p (get_or links p 0)) → (p : ℕ) → i ≤ p → p < count → IsTwin rows p (get_or (set links i link) p 0)
twins-more rows count i link links inside twin twins p behind below = elim (cases_eq p i) [
  | inl same ↦
      subst (λ k. IsTwin rows k (get_or (set links i link) k 0)) (sym same) (subst (IsTwin rows i) (sym (get_or-set_same links i link 0 inside)) twin)
  | inr other ↦ subst (IsTwin rows p) (sym (get_or-set_other links i p link 0 other)) (twins p (omega arith) below)
]
