-- The way back of rows, as far as they were read.
use Rattle.std.proofs.Common.{◌≡◌, ◌⊎◌, ℕ, ◌-◌, ◌%◌, ◌<◌, ◌≤◌, Bool, true, false, not, eqb, ◌||◌, List, length, get_or, take, Some, None, refl, sym, ap, ◌∙◌, subst, inl, inr, arith}
use Rattle.std.specs.Prelude.{nat_lt, nat_le}
use Rattle.std.specs.List.{list_any, range_with_len, position_or_len}
use Rattle.std.proofs.lemmas.Bool.{eq-eqb, ne_eqb, eqb-true, lt-ltb, le-ltb}
use Rattle.std.proofs.lemmas.List.{get_or-take, length-take-le}
use Rattle.std.proofs.lemmas.List.Elements.{All-from_get_or}
use Rattle.std.proofs.lemmas.List.Folds.{list_any_none, list_any_at}
use Rattle.std.proofs.lemmas.List.FromFn.{fill_by_all, get_or-range_with_len, length-range_with_len}
use Rattle.drc_base.specs.declared.kinds.Kind.TheVariants.{BadMap}
use Rattle.attr_heads.specs.FirstFault.{at_place}
use Rattle.mesh_model.specs.Renumbering.{inverted}
use Rattle.mesh_model.specs.RenumberingLaws.{ApartNamesEachOnce}
use Rattle.mesh_model.specs.Same.{Rows, named, turn, NamesEachOnce}
use Rattle.mesh_model.proofs.Counts.{one_place, first-one_place}
use Rattle.mesh_model.proofs.Places.{position-none, position-at}
use Rattle.drc_recode.specs.Inverse.{is_bad, bad_row}

-- row j with its turn, turned back
abbrev pub back_of : Rows → ℕ → ℕ × ℕ
back_of rows j = (j, (3 - turn rows j) % 3)

-- the first i rows are fine; the numbers that they name are marked, and no others; and what a number's row
-- is stands at that number
pub record IsBack (greatest : ℕ) (rows : Rows) (i : ℕ) (seen : List Bool) (back : Rows) : Type 0 where
  pub seen_long : length seen ≡ length rows
  pub back_long : length back ≡ length rows
  pub within : (j : ℕ) → j < i → named rows j < length rows
  pub turns : (j : ℕ) → j < i → turn rows j ≤ greatest
  pub seen_at : (j : ℕ) → j < i → get_or seen (named rows j) false ≡ true
  pub seen_by : (f : ℕ) → get_or seen f false ≡ true → (j : ℕ) × (j < i) × (named rows j ≡ f)
  pub back_at : (j : ℕ) → j < i → get_or back (named rows j) (0, 0) ≡ back_of rows j

-- no two of the rows so far name one number
apart-back : (greatest : ℕ) (rows : Rows) (i : ℕ) (seen : List Bool) (back : Rows) → IsBack greatest rows i seen back
    → (j k : ℕ) → j < i → k < i → named rows j ≡ named rows k → j ≡ k
apart-back greatest rows i seen back is j k bj bk same =
    let e : back_of rows j ≡ back_of rows k = sym (is.back_at j bj) ∙ ap (λ f. get_or back f (0, 0)) same ∙ is.back_at k bk in
    ap (λ (row : ℕ × ℕ). row.0) e

-- none of the rows so far is bad
pub fine-at : (greatest : ℕ) (rows : Rows) (i : ℕ) (seen : List Bool) (back : Rows) → i ≤ length rows → IsBack greatest rows i seen back
    → (j : ℕ) → j < i → is_bad greatest rows j ≡ false
fine-at greatest rows i seen back few is j below =
    let inside : nat_lt (named rows j) (length rows) ≡ true = lt-ltb _ _ (is.within j below) in
    let alone : list_any (λ row. eqb row.0 (named rows j)) (take j rows) ≡ false =
    list_any_none (λ (row : ℕ × ℕ). eqb row.0 (named rows j)) (take j rows)
    (All-from_get_or (λ (row : ℕ × ℕ). eqb row.0 (named rows j) ≡ false) (take j rows) (0, 0) (λ k before.
    let early : k < j = omega (arith, length-take-le j rows) in
    subst (λ (row : ℕ × ℕ). eqb row.0 (named rows j) ≡ false) (sym (get_or-take j rows k (0, 0) early))
    (ne_eqb (named rows k) (named rows j) (λ (e : named rows k ≡ named rows j).
    let same : k ≡ j = apart-back greatest rows i seen back is k j (omega arith) below e in omega arith)))) in
    let little : nat_le (turn rows j) greatest ≡ true = le-true (turn rows j) greatest (is.turns j below) in
    tests _ _ _ inside alone little
  where
    le-true : (a b : ℕ) → a ≤ b → nat_le a b ≡ true
    le-true a b h = grind arith

    tests : (a b c : Bool) → a ≡ true → b ≡ false → c ≡ true → (not a || (b || not c)) ≡ false
    tests a b c p q r = rw (p, q, r) refl

-- a row that is not fine is bad
pub bad-here : (greatest : ℕ) (rows : Rows) (i : ℕ) (seen : List Bool) (back : Rows) → i < length rows → IsBack greatest rows i seen back
    → (length seen ≤ named rows i) ⊎ ((get_or seen (named rows i) false ≡ true) ⊎ (greatest < turn rows i)) → is_bad greatest rows i ≡ true
bad-here greatest rows i seen back inside is why = elim why [
  | inl past ↦
      let a : nat_lt (named rows i) (length rows) ≡ false = le-ltb (named rows i) (length rows) (omega (arith, is.seen_long)) in
      first _ _ _ a
  | inr more ↦ elim more [
    | inl marked ↦
        let by = is.seen_by (named rows i) marked in
        let j = by.0 in
        let before : j < length (take i rows) = omega (arith, length-take-le i rows, by.1) in
        let b : list_any (λ row. eqb row.0 (named rows i)) (take i rows) ≡ true =
        list_any_at (λ (row : ℕ × ℕ). eqb row.0 (named rows i)) (take i rows) j (0, 0) before
        (subst (λ (row : ℕ × ℕ). eqb row.0 (named rows i) ≡ true) (sym (get_or-take i rows j (0, 0) by.1)) (eq-eqb (named rows j) (named rows i) by.2)) in
        second _ _ _ b
    | inr turned ↦
        let c : nat_le (turn rows i) greatest ≡ false = le-false (turn rows i) greatest turned in
        third _ _ _ c
  ]
]
  where
    le-false : (a b : ℕ) → b < a → nat_le a b ≡ false
    le-false a b h = grind arith

    first : (a b c : Bool) → a ≡ false → (not a || (b || not c)) ≡ true
    first a b c p = rw p refl

    second : (a b c : Bool) → b ≡ true → (not a || (b || not c)) ≡ true
    second true b c p = rw p refl
    second false b c p = refl

    third : (a b c : Bool) → c ≡ false → (not a || (b || not c)) ≡ true
    third true true c p = refl
    third true false c p = rw p refl
    third false b c p = refl

-- the first bad row is this one
pub bad-first : (greatest : ℕ) (rows : Rows) (i : ℕ) (seen : List Bool) (back : Rows) → i < length rows → IsBack greatest rows i seen back
    → (length seen ≤ named rows i) ⊎ ((get_or seen (named rows i) false ≡ true) ⊎ (greatest < turn rows i))
    → bad_row greatest rows ≡ Some (record { kind = BadMap; at = i })
unfolding bad_row
bad-first greatest rows i seen back inside is why =
    ap (at_place BadMap)
    (position-at (is_bad greatest rows) (range_with_len 0 (length rows)) i 0 (omega (arith, length-range_with_len 0 (length rows)))
    (λ k before. ap (is_bad greatest rows) (get_or-range_with_len 0 (length rows) k 0 (omega arith) ∙ omega arith) ∙ fine-at greatest rows i seen back (omega arith) is k before)
    (ap (is_bad greatest rows) (get_or-range_with_len 0 (length rows) i 0 inside ∙ omega arith) ∙ bad-here greatest rows i seen back inside is why))

-- no row is bad
pub none-bad : (greatest : ℕ) (rows : Rows) (seen : List Bool) (back : Rows) → IsBack greatest rows (length rows) seen back → bad_row greatest rows ≡ None
unfolding bad_row
none-bad greatest rows seen back is =
    ap (at_place BadMap)
    (position-none (is_bad greatest rows) (range_with_len 0 (length rows)) 0 (λ k below.
    let inside : k < length rows = omega (arith, length-range_with_len 0 (length rows)) in
    ap (is_bad greatest rows) (get_or-range_with_len 0 (length rows) k 0 inside ∙ omega arith) ∙ fine-at greatest rows (length rows) seen back (omega arith) is k inside))

-- all rows name each number once
pub names-done : ApartNamesEachOnce → (greatest : ℕ) (rows : Rows) (seen : List Bool) (back : Rows) → greatest < 3 → IsBack greatest rows (length rows) seen back
    → NamesEachOnce (length rows) rows
names-done names greatest rows seen back small is = names (length rows) rows (record {
  one_each = refl;
  within = is.within;
  turns = λ i below. omega (arith, is.turns i below);
  apart = apart-back greatest rows (length rows) seen back is;
})

-- what was made is the way back
pub back-done : ApartNamesEachOnce → (greatest : ℕ) (rows : Rows) (seen : List Bool) (back : Rows) → greatest < 3 → IsBack greatest rows (length rows) seen back
    → back ≡ inverted rows
back-done names greatest rows seen back small is =
    fill_by_all row_back back (length rows) (0, 0) is.back_long (λ f below.
    let at = one_place (λ (row : ℕ × ℕ). eqb row.0 f) rows (0, 0) ((names-done names greatest rows seen back small is).once f below) in
    let by : named rows at.0 ≡ f = eqb-true (named rows at.0) f at.1.passes in
    ap (λ g. get_or back g (0, 0)) (sym by) ∙ is.back_at at.0 at.1.inside ∙ ap (back_of rows) (sym (first-one_place (λ (row : ℕ × ℕ). eqb row.0 f) rows (0, 0) at.0 at.1)))
  where
    row_back : ℕ → ℕ × ℕ
    row_back g = let i = position_or_len (λ (row : ℕ × ℕ). eqb row.0 g) rows in (i, (3 - turn rows i) % 3)
