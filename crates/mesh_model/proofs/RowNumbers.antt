-- Rows by numbers, one integer after another.
use Rattle.std.proofs.Common.{◌≡◌, ℕ, ◌+◌, ◌-◌, ◌<◌, ◌≤◌, ℤ, pos, List, [], ◌∷◌, ◌++◌, length, get_or, take, replicate, inl, inr, sym, refl, ap, ◌∙◌, subst, arith, length-append}
use Rattle.std.specs.Int.{w32, cast_signed, cast_unsigned}
use Rattle.std.proofs.lemmas.List.{take_more_same, take_all, get_or_append_left, get_or_push, get_or-take, get_or-replicate, length-replicate, take-take}
use Rattle.std.proofs.lemmas.Bool.{cases_eq, cases_lt, cond-true, cond-false, eq-eqb, ne_eqb}
use Rattle.first_items.specs.FirstItems.{AreFirstItems}
use Rattle.mesh_model.specs.RowIndex.{IsTwin, AreTwins, AreUnlike}
use Rattle.mesh_model.specs.RowNumbers.{IsColumn, IsFirstRow, AreFirstRows, first_link}

-- the integer of one row more
pub column_more : (rows : List (List ℤ)) (j : ℕ) (bits : List ℕ) (p b : ℕ) → IsColumn rows j bits p → b ≡ cast_unsigned w32 (get_or (get_or rows p []) j (pos 0)) → cast_signed w32 b ≡ get_or (get_or rows p []) j (pos 0) →
    IsColumn rows j (bits ++ b ∷ []) (p + 1)
column_more rows j bits p b C e v = record {
  each = length-append bits (b ∷ []) ∙ (let l = C.each in omega arith);
  bits_are = λ k h. elim (cases_eq k p) [
    | inl q ↦
        ap (λ (i : ℕ). get_or (bits ++ b ∷ []) i 0) q
        ∙ get_or_push bits b 0 p C.each ∙ e ∙ ap (λ (i : ℕ). cast_unsigned w32 (get_or (get_or rows i []) j (pos 0))) (sym q)
    | inr n ↦ (
        let l = C.each in
        get_or_append_left bits (b ∷ []) 0 k (omega arith) ∙ C.bits_are k (omega arith))
  ];
  values_are = λ k h. elim (cases_eq k p) [
    | inl q ↦
        ap (λ (i : ℕ). cast_signed w32 (get_or (bits ++ b ∷ []) i 0)) q
        ∙ ap (cast_signed w32) (get_or_push bits b 0 p C.each) ∙ v ∙ ap (λ (i : ℕ). get_or (get_or rows i []) j (pos 0)) (sym q)
    | inr n ↦ (
        let l = C.each in
        ap (cast_signed w32) (get_or_append_left bits (b ∷ []) 0 k (omega arith)) ∙ C.values_are k (omega arith))
  ];
}

-- by no integer do two rows differ
pub first_rows_begin : (rows : List (List ℤ)) (count : ℕ) → AreFirstRows rows 0 count (replicate count 0)
first_rows_begin rows count = record {
  each = length-replicate count 0;
  first_is = λ p h. subst (IsFirstRow rows 0 p) (sym (get_or-replicate count p 0 0 h)) (record {
    no_later = omega arith;
    same = refl;
    none_before = λ z k e. omega arith;
  });
}

-- rows that begin alike have one first row
pub one_first_row : {rows : List (List ℤ)} {columns p q v w : ℕ} → IsFirstRow rows columns p v → IsFirstRow rows columns q w →
    take columns (get_or rows p []) ≡ take columns (get_or rows q []) → v ≡ w
one_first_row {rows} {columns} {p} {q} {v} {w} I J e = elim (cases_lt v w) [
  | inl l ↦ absurd (J.none_before v l (I.same ∙ e))
  | inr m ↦ elim (cases_lt w v) [
    | inl l ↦ absurd (I.none_before w l (J.same ∙ sym e))
    | inr n ↦ omega arith
  ]
]

-- one integer more
pub record IsMore (rows : List (List ℤ)) (j count : ℕ) (old bits new : List ℕ) : Type 0 where
  pub wide : (p : ℕ) → p < count → j < length (get_or rows p [])
  pub before : AreFirstRows rows j count old
  pub column : IsColumn rows j bits count
  pub numbered : AreFirstItems old bits new

pub first_rows_more : (rows : List (List ℤ)) (j count : ℕ) (old bits new : List ℕ) → IsMore rows j count old bits new → AreFirstRows rows (j + 1) count new
first_rows_more rows j count old bits new M = record { each = M.numbered.each ∙ M.before.each; first_is = first_is }
  where
    head : (p q : ℕ) → take (j + 1) (get_or rows p []) ≡ take (j + 1) (get_or rows q []) → take j (get_or rows p []) ≡ take j (get_or rows q [])
    head p q e =
        sym (take-take j (j + 1) (get_or rows p []) (omega arith)) ∙ ap (take j) e ∙ take-take j (j + 1) (get_or rows q []) (omega arith)

    last : (p q : ℕ) → take (j + 1) (get_or rows p []) ≡ take (j + 1) (get_or rows q []) → get_or (get_or rows p []) j (pos 0) ≡ get_or (get_or rows q []) j (pos 0)
    last p q e =
        sym (get_or-take (j + 1) (get_or rows p []) j (pos 0) (omega arith))
        ∙ ap (λ (l : List ℤ). get_or l j (pos 0)) e
        ∙ get_or-take (j + 1) (get_or rows q []) j (pos 0) (omega arith)

    first_is : (p : ℕ) → p < count → IsFirstRow rows (j + 1) p (get_or new p 0)
    first_is p h =
        let l = M.before.each in
        let I = M.numbered.first_is p (omega arith) in
        let n = I.no_later in
        let v : ℕ = get_or new p 0 in
        let small : v < count = omega arith in
        let P = M.before.first_is p h in
        let V = M.before.first_is v small in
        let heads : take j (get_or rows v []) ≡ take j (get_or rows p []) =
        sym V.same ∙ ap (λ (i : ℕ). take j (get_or rows i [])) I.first ∙ P.same in
        let lasts : get_or (get_or rows v []) j (pos 0) ≡ get_or (get_or rows p []) j (pos 0) =
        sym (M.column.values_are v small) ∙ ap (cast_signed w32) I.second ∙ M.column.values_are p h in
        record {
          no_later = n;
          same = take_more_same (get_or rows v []) (get_or rows p []) j (pos 0) (M.wide v small) (M.wide p h) heads lasts;
          none_before = λ z k e. (
              let early : z < count = omega arith in
              I.none_before z k (one_first_row (M.before.first_is z early) P (head z p e))
              (M.column.bits_are z early ∙ ap (cast_unsigned w32) (last z p e) ∙ sym (M.column.bits_are p h)));
        }

-- rows that are told apart need no integer more
pub apart_first : (rows : List (List ℤ)) (j columns count : ℕ) (numbers : List ℕ) → j ≤ columns → AreFirstRows rows j count numbers → ((p : ℕ) → p < length numbers → get_or numbers p 0 ≡ p) →
    AreFirstRows rows columns count numbers
apart_first rows j columns count numbers m F own = record {
  each = F.each;
  first_is = λ p h. (
      let l = F.each in
      let at : get_or numbers p 0 ≡ p = own p (omega arith) in
      let P : IsFirstRow rows j p p = subst (IsFirstRow rows j p) at (F.first_is p h) in
      subst (IsFirstRow rows columns p) (sym at) (record {
        no_later = omega arith;
        same = refl;
        none_before = λ z k e. P.none_before z k (sym (take-take j columns (get_or rows z []) m) ∙ ap (take j) e ∙ take-take j columns (get_or rows p []) m);
      }));
}

-- the link of a row by its first equal row
first_is_twin : (rows : List (List ℤ)) (width p v : ℕ) → ((q : ℕ) → q ≤ p → take width (get_or rows q []) ≡ get_or rows q []) → IsFirstRow rows width p v → IsTwin rows p (first_link p v)
first_is_twin rows width p v whole I = elim (cases_eq v p) [
  | inl e ↦ subst (IsTwin rows p) (sym (cond-true _ _ _ (eq-eqb v p e))) (record {
    back = omega arith;
    equal = λ some. absurd (omega arith);
    none = λ z q k same. I.none_before q (omega arith) (ap (take width) same);
  })
  | inr n ↦ (let l = I.no_later in subst (IsTwin rows p) (sym (cond-false _ _ _ (ne_eqb v p n))) (record {
    back = omega arith;
    equal = λ some. (
        let at : v + 1 - 1 ≡ v = omega arith in
        ap (λ (i : ℕ). get_or rows i []) at ∙ sym (whole v (omega arith)) ∙ I.same ∙ whole p (omega arith));
    none = λ z q k same. absurd (omega arith);
  }))
]

-- the links of all rows
pub firsts_are_twins : (rows : List (List ℤ)) (width count : ℕ) (numbers links : List ℕ) → ((p : ℕ) → p < count → length (get_or rows p []) ≡ width) → AreFirstRows rows width count numbers →
    ((p : ℕ) → p < count → get_or links p 0 ≡ first_link p (get_or numbers p 0)) → AreTwins rows count links
firsts_are_twins rows width count numbers links wide F h p k =
    let whole : (q : ℕ) → q ≤ p → take width (get_or rows q []) ≡ get_or rows q [] = λ q m. (let w = wide q (omega arith) in take_all width (get_or rows q []) (omega arith)) in
    subst (IsTwin rows p) (sym (h p k)) (first_is_twin rows width p (get_or numbers p 0) whole (F.first_is p k))

-- where each row is the first one that equals it, no two are equal
pub firsts_unlike : (rows : List (List ℤ)) (width count : ℕ) (numbers : List ℕ) → AreFirstRows rows width count numbers → ((p : ℕ) → p < length numbers → get_or numbers p 0 ≡ p) → AreUnlike rows count
firsts_unlike rows width count numbers F own p q h k same =
    let l = F.each in
    let at : get_or numbers p 0 ≡ p = own p (omega arith) in
    (F.first_is p h).none_before q (omega arith) (ap (take width) same)
