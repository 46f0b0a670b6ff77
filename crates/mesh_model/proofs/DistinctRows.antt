-- The distinct rows of a list, one row after another.
use Rattle.std.proofs.Common.{◌≡◌, Bool, true, false, not, cond, ◌||◌, List, [], ◌∷◌, ◌++◌, ℤ, refl, sym, ap, ◌∙◌, inl, inr}
use Rattle.std.specs.Bool.{Decides}
use Rattle.std.specs.List.{filter, list_any}
use Rattle.std.proofs.lemmas.Bool.{cases_Bool, false≢true, false_from_ne_true}
use Rattle.std.proofs.lemmas.Bool.Decides.{Decides-int_eq}
use Rattle.std.proofs.lemmas.List.{append-nil}
use Rattle.std.proofs.lemmas.Slice.Eq.{slice_eq-Decides}
use Rattle.mesh_model.specs.Assembled.{same_row, distinct}

-- the test of rows is their equality
pub same_row-decides : (a b : List ℤ) → Decides (same_row a b) (a ≡ b)
same_row-decides a b = slice_eq-Decides Decides-int_eq a b (same_row a b) refl

pub same_row-refl : (a b : List ℤ) → a ≡ b → same_row a b ≡ true
same_row-refl a b e = (same_row-decides a b).1 e

pub same_row-apart : (a b : List ℤ) → (a ≡ b → ⊥) → same_row a b ≡ false
same_row-apart a b apart = false_from_ne_true (same_row a b) (λ t. apart ((same_row-decides a b).0 t))

-- rows with one more, where it is new
abbrev pub with_row : List (List ℤ) → List ℤ → List (List ℤ)
with_row rows row = cond (list_any (same_row row) rows) rows (rows ++ row ∷ [])

-- the test that a row is another one
abbrev pub other_than : List ℤ → List ℤ → Bool
other_than row other = not (same_row row other)

filter-append : (p : List ℤ → Bool) (xs ys : List (List ℤ)) → filter p (xs ++ ys) ≡ filter p xs ++ filter p ys
filter-append p [] ys = refl
filter-append p (x ∷ xs) ys = elim (cases_Bool (p x)) [
  | inl passes ↦ ap (λ b. cond b (x ∷ filter p (xs ++ ys)) (filter p (xs ++ ys))) passes ∙ ap (λ zs. x ∷ zs) (filter-append p xs ys)
      ∙ sym (ap (λ b. cond b (x ∷ filter p xs) (filter p xs) ++ filter p ys) passes)
  | inr fails ↦ ap (λ b. cond b (x ∷ filter p (xs ++ ys)) (filter p (xs ++ ys))) fails ∙ filter-append p xs ys
      ∙ sym (ap (λ b. cond b (x ∷ filter p xs) (filter p xs) ++ filter p ys) fails)
]

-- a row other than x is among rows exactly where it is among those other than x
any-filter : (x row : List ℤ) (rows : List (List ℤ)) → (row ≡ x → ⊥) → list_any (same_row row) (filter (other_than x) rows) ≡ list_any (same_row row) rows
any-filter x row [] apart = refl
any-filter x row (y ∷ rows) apart = elim (cases_Bool (same_row x y)) [
  | inl same ↦
      let at : y ≡ x = sym ((same_row-decides x y).0 same) in
      let unlike : same_row row y ≡ false = same_row-apart row y (λ e. apart (e ∙ at)) in
      ap (λ b. list_any (same_row row) (cond (not b) (y ∷ filter (other_than x) rows) (filter (other_than x) rows))) same
      ∙ any-filter x row rows apart ∙ sym (ap (λ b. b || list_any (same_row row) rows) unlike)
  | inr other ↦
      ap (λ b. list_any (same_row row) (cond (not b) (y ∷ filter (other_than x) rows) (filter (other_than x) rows))) other
      ∙ ap (λ b. same_row row y || b) (any-filter x row rows apart)
]

-- the distinct rows of a list with one more row
pub distinct-push : (rows : List (List ℤ)) (row : List ℤ) → distinct (rows ++ row ∷ []) ≡ with_row (distinct rows) row
distinct-push [] row = refl
distinct-push (x ∷ rows) row =
    let kept = filter (other_than x) (distinct rows) in
    ap (λ ds. x ∷ filter (other_than x) ds) (distinct-push rows row)
    ∙ elim (cases_Bool (same_row row x)) [
      | inl same ↦
          let at : row ≡ x = (same_row-decides row x).0 same in
          let dropped : filter (other_than x) (row ∷ []) ≡ [] = ap (λ b. cond (not b) (row ∷ []) []) (same_row-refl x row (sym at)) in
          elim (cases_Bool (list_any (same_row row) (distinct rows))) [
            | inl found ↦ ap (λ b. x ∷ filter (other_than x) (cond b (distinct rows) (distinct rows ++ row ∷ []))) found
            | inr missing ↦ ap (λ b. x ∷ filter (other_than x) (cond b (distinct rows) (distinct rows ++ row ∷ []))) missing
                ∙ ap (λ zs. x ∷ zs) (filter-append (other_than x) (distinct rows) (row ∷ []) ∙ ap (λ zs. kept ++ zs) dropped ∙ append-nil kept)
          ]
          ∙ sym (ap (λ b. cond (b || list_any (same_row row) kept) (x ∷ kept) ((x ∷ kept) ++ row ∷ [])) same)
      | inr other ↦
          let apart : row ≡ x → ⊥ = λ e. false≢true (sym other ∙ same_row-refl row x e) in
          let stays : filter (other_than x) (row ∷ []) ≡ row ∷ [] = ap (λ b. cond (not b) (row ∷ []) []) (same_row-apart x row (λ e. apart (sym e))) in
          elim (cases_Bool (list_any (same_row row) (distinct rows))) [
            | inl found ↦ ap (λ b. x ∷ filter (other_than x) (cond b (distinct rows) (distinct rows ++ row ∷ []))) found
                ∙ sym (ap (λ b. cond b (x ∷ kept) ((x ∷ kept) ++ row ∷ [])) (any-filter x row (distinct rows) apart ∙ found))
            | inr missing ↦ ap (λ b. x ∷ filter (other_than x) (cond b (distinct rows) (distinct rows ++ row ∷ []))) missing
                ∙ ap (λ zs. x ∷ zs) (filter-append (other_than x) (distinct rows) (row ∷ []) ∙ ap (λ zs. kept ++ zs) stays)
                ∙ sym (ap (λ b. cond b (x ∷ kept) ((x ∷ kept) ++ row ∷ [])) (any-filter x row (distinct rows) apart ∙ missing))
          ]
          ∙ sym (ap (λ b. cond (b || list_any (same_row row) kept) (x ∷ kept) ((x ∷ kept) ++ row ∷ [])) other)
    ]

-- a row is among the distinct ones exactly where it is among all
pub any-distinct : (row : List ℤ) (rows : List (List ℤ)) → list_any (same_row row) (distinct rows) ≡ list_any (same_row row) rows
any-distinct row [] = refl
any-distinct row (x ∷ rows) = elim (cases_Bool (same_row row x)) [
  | inl same ↦ ap (λ b. b || list_any (same_row row) (filter (other_than x) (distinct rows))) same ∙ sym (ap (λ b. b || list_any (same_row row) rows) same)
  | inr other ↦
      ap (λ b. same_row row x || b) (any-filter x row (distinct rows) (λ e. false≢true (sym other ∙ same_row-refl row x e)) ∙ any-distinct row rows)
]
