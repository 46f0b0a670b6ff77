-- Names of which no two are the same, and how many they are.
use Rattle.std.proofs.Common.{◌≡◌, ℕ, zero, suc, ◌+◌, ◌-◌, ◌<◌, ◌≤◌, Bool, true, false, cond, eqb, ltb, List, [], ◌∷◌, length, get_or, map, ℤ, refl, sym, ap, ◌∙◌, subst, inl, inr, arith}
use Rattle.std.specs.List.{All, count_by}
use Rattle.std.proofs.lemmas.Bool.{cases_Bool, cases_lt, eqb-true, lt-ltb, le-ltb, false≢true}
use Rattle.std.proofs.lemmas.Bool.Decides.{nat_tests}
use Rattle.std.proofs.lemmas.List.{length-map, get_or-map}
use Rattle.std.proofs.lemmas.List.Elements.{All-from_get_or}
use Rattle.std.proofs.lemmas.List.Sums.{fails_before_first, passes_at_first}
use Rattle.mesh_model.specs.Assembled.{Columns, corner_row, corner_rows, same_row, distinct, row_number}
use Rattle.mesh_model.specs.Renumbering.{NamesApart}
use Rattle.mesh_model.specs.RowIndex.{IsPointOf}
use Rattle.mesh_model.specs.Same.{Rows, named, NamesEachOnce}
use Rattle.mesh_model.proofs.Counts.{one_if, count-cons, count-sum, count-all, count-never}
use Rattle.mesh_model.proofs.AssembledParts.{AreApart, apart-distinct, All-distinct}
use Rattle.mesh_model.proofs.DistinctRows.{same_row-decides, same_row-refl}
use Rattle.std.proofs.lemmas.List.FromFn.{length-map-range_with_len, get_or-map-range_with_len}

-- a test that never passes in a list
count-none : {X : Type 0} (p : X → Bool) (xs : List X) (d : X) → ((i : ℕ) → i < length xs → p (get_or xs i d) ≡ false) → count_by p xs ≡ 0
count-none p [] d fails = refl
count-none p (x ∷ xs) d fails =
    let here : one_if p x ≡ 0 = ap (λ b. cond b 1 0) (fails 0 (omega arith)) in
    omega (arith, count-cons p x xs, here, count-none p xs d (λ i below. fails (suc i) (omega arith)))

-- a test that passes at one place at most
count-few : {X : Type 0} (p : X → Bool) (xs : List X) (d : X) → ((i j : ℕ) → i < length xs → j < length xs → p (get_or xs i d) ≡ true → p (get_or xs j d) ≡ true → i ≡ j) → count_by p xs ≤ 1
count-few p [] d alone = omega arith
count-few p (x ∷ xs) d alone = elim (cases_Bool (p x)) [
  | inl here ↦
      let none : count_by p xs ≡ 0 = count-none p xs d (λ i below. elim (cases_Bool (p (get_or xs i d))) [
        | inl passes ↦ absurd (omega (arith, alone 0 (suc i) (omega arith) (omega arith) here passes))
        | inr fails ↦ fails
      ]) in
      let one : one_if p x ≡ 1 = ap (λ b. cond b 1 0) here in
      omega (arith, count-cons p x xs, one, none)
  | inr not_here ↦
      let no_one : one_if p x ≡ 0 = ap (λ b. cond b 1 0) not_here in
      let others = count-few p xs d (λ i j bi bj pi pj. omega (arith, alone (suc i) (suc j) (omega arith) (omega arith) pi pj)) in
      omega (arith, count-cons p x xs, no_one, others)
]

-- no two rows name the same
pub record AreNamesApart (rows : Rows) : Type 0 where
  pub apart : (i j : ℕ) → i < length rows → j < length rows → named rows i ≡ named rows j → i ≡ j

named-once : (rows : Rows) (f : ℕ) → AreNamesApart rows → count_by (λ row. eqb row.0 f) rows ≤ 1
named-once rows f h = count-few (λ row. eqb row.0 f) rows (0, 0) (λ i j bi bj pi pj. h.apart i j bi bj (eqb-true (named rows i) f pi ∙ sym (eqb-true (named rows j) f pj)))

one_more : (v m : ℕ) → cond (ltb v (suc m)) 1 0 ≡ cond (ltb v m) 1 0 + cond (eqb v m) 1 0
one_more v m = grind (arith, nat_tests)

next-named : (rows : Rows) (m : ℕ) → count_by (λ row. ltb row.0 (suc m)) rows ≡ count_by (λ row. ltb row.0 m) rows + count_by (λ row. eqb row.0 m) rows
next-named rows m = count-sum (λ row. ltb row.0 m) (λ row. eqb row.0 m) (λ row. ltb row.0 (suc m)) rows (λ row. one_more row.0 m)

-- no more than m rows name numbers below m
under : (rows : Rows) (m : ℕ) → AreNamesApart rows → count_by (λ row. ltb row.0 m) rows ≤ m
under rows zero h = omega (arith, count-never (λ row. ltb row.0 0) rows (λ row. le-ltb row.0 0 (omega arith)))
under rows (suc m) h = omega (arith, next-named rows m, under rows m h, named-once rows m h)

all-named : (rows : Rows) (n : ℕ) → ((i : ℕ) → i < length rows → named rows i < n) → count_by (λ row. ltb row.0 n) rows ≡ length rows
all-named rows n within =
    count-all (λ row. ltb row.0 n) rows (All-from_get_or (λ (row : ℕ × ℕ). ltb row.0 n ≡ true) rows (0, 0) (λ i below. lt-ltb _ _ (within i below)))

-- rows that name numbers below n, no two the same, are no more than n
pub few-names : (rows : Rows) (n : ℕ) → AreNamesApart rows → ((i : ℕ) → i < length rows → named rows i < n) → length rows ≤ n
few-names rows n h within = omega (arith, all-named rows n within, under rows n h)

-- where n rows name numbers below n, at least m name numbers below m
over : (rows : Rows) (k m : ℕ) → AreNamesApart rows → count_by (λ row. ltb row.0 (m + k)) rows ≡ m + k → m ≤ count_by (λ row. ltb row.0 m) rows
over rows zero m h whole = let e : m + 0 ≡ m = omega arith in omega (arith, sym (ap (λ n. count_by (λ row. ltb row.0 n) rows) e) ∙ whole)
over rows (suc k) m h whole =
    let e : m + suc k ≡ suc m + k = omega arith in
    let next = over rows k (suc m) h (sym (ap (λ n. count_by (λ row. ltb row.0 n) rows) e) ∙ whole ∙ e) in
    omega (arith, next, next-named rows m, named-once rows m h)

pub names-once : (count : ℕ) (rows : Rows) → NamesApart count rows → NamesEachOnce count rows
names-once count rows is = record {
  within = All-from_get_or (λ (row : ℕ × ℕ). row.0 < count) rows (0, 0) (λ i below. is.within i (omega (arith, is.one_each)));
  once = λ f below.
      let h : AreNamesApart rows = record { apart = λ i j bi bj e. is.apart i j (omega (arith, is.one_each)) (omega (arith, is.one_each)) e } in
      let all : count_by (λ row. ltb row.0 count) rows ≡ count = all-named rows count (λ i inside. is.within i (omega (arith, is.one_each))) ∙ is.one_each in
      let exact : (m k : ℕ) → m + k ≡ count → count_by (λ row. ltb row.0 m) rows ≡ m =
      λ m k e. omega (arith, under rows m h, over rows k m h (ap (λ n. count_by (λ row. ltb row.0 n) rows) e ∙ all ∙ sym e)) in
      let rest = count - suc f in
      omega (arith, next-named rows f, exact f (suc rest) (omega arith), exact (suc f) rest (omega arith));
}

-- ---- distinct rows

-- the number of a row that is a point's
number-inside : (points : List (List ℤ)) (row : List ℤ) (p : ℕ) → IsPointOf points row p → row_number points row < length points
number-inside points row p at = elim (cases_lt (row_number points row) (length points)) [
  | inl inside ↦ inside
  | inr past ↦
      let before : p < row_number points row = omega (arith, at.0) in
      absurd (false≢true (sym (fails_before_first (same_row row) points p [] before) ∙ same_row-refl row (get_or points p []) (sym at.1)))
]

number-at : (points : List (List ℤ)) (row : List ℤ) → row_number points row < length points → row ≡ get_or points (row_number points row) []
number-at points row inside = (same_row-decides row (get_or points (row_number points row) [])).0 (passes_at_first (same_row row) points [] inside)

-- rows that are points' rows, and pairwise different, are no more than points
pub few-rows : (points rows : List (List ℤ)) → AreApart rows → All (λ row. (p : ℕ) × IsPointOf points row p) rows → length rows ≤ length points
few-rows points rows apart each =
    let names = map name rows in
    let many : length names ≡ length rows = length-map rows name in
    let inside : (i : ℕ) → i < length rows → row_number points (get_or rows i []) < length points =
    λ i below. let at = each i [] below in number-inside points (get_or rows i []) at.0 at.1 in
    let is : (i : ℕ) → i < length rows → named names i ≡ row_number points (get_or rows i []) =
    λ i below. ap (λ (row : ℕ × ℕ). row.0) (get_or-map name rows i [] (0, 0) below) in
    let here : (i : ℕ) → i < length rows → get_or rows i [] ≡ get_or points (named names i) [] =
    λ i below. number-at points (get_or rows i []) (inside i below) ∙ ap (λ n. get_or points n []) (sym (is i below)) in
    let alone : AreNamesApart names = record {
      apart = λ i j bi bj e.
          let li : i < length rows = omega (arith, many) in
          let lj : j < length rows = omega (arith, many) in
          let same : get_or rows i [] ≡ get_or rows j [] = here i li ∙ ap (λ n. get_or points n []) e ∙ sym (here j lj) in
          elim (cases_lt i j) [
            | inl lt ↦ absurd (apart i j [] lt lj same)
            | inr le ↦ elim (cases_lt j i) [ inl gt ↦ absurd (apart j i [] gt li (sym same)) | inr ge ↦ omega arith ]
          ];
    } in
    omega (arith, many, few-names names (length points) alone (λ i below. let l : i < length rows = omega (arith, many) in omega (arith, is i l, inside i l)))
  where
    name : List ℤ → ℕ × ℕ
    name row = (row_number points row, 0)

pub few-distinct : (columns : Columns) (count : ℕ) (points : List (List ℤ)) → ((c : ℕ) → c < count → (p : ℕ) × IsPointOf points (corner_row columns c) p) → length (distinct (corner_rows columns count)) ≤ length points
few-distinct columns count points each =
    few-rows points (distinct (corner_rows columns count)) (apart-distinct columns count)
    (All-distinct (λ row. (p : ℕ) × IsPointOf points row p) (corner_rows columns count)
    (All-from_get_or (λ (row : List ℤ). (p : ℕ) × IsPointOf points row p) (corner_rows columns count) [] (λ c below.
    let inside : c < count = omega (arith, length-map-range_with_len (corner_row columns) 0 count) in
    subst (λ (row : List ℤ). (p : ℕ) × IsPointOf points row p) (sym (get_or-map-range_with_len (corner_row columns) 0 count c c [] inside (omega arith))) (each c inside))))
