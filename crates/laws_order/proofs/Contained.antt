-- The test of whether a number stands in a list, and what it says of counts and of classes that have an entry.
use Rattle.std.proofs.Common.{◌≡◌, ◌≢◌, ℕ, zero, suc, ◌+◌, ◌<◌, ◌≤◌, Bool, true, false, ◌||◌, ◌==◌, cond, List, [], ◌∷◌, length, get_or, map, inl, inr, sym, refl, ◌∙◌, subst, arith, eq-eqb, ne_eqb}
use Rattle.std.specs.List.{All, Contains, list_any, count_by}
use Rattle.std.proofs.lemmas.Bool.{cases_Bool, cases_eq, cond-true, cond-false}
use Rattle.std.proofs.lemmas.List.Sums.{sum_by-cons}
use Rattle.std.proofs.lemmas.List.Elements.{All-nil, All-cons, All-contains, All-from_get_or, All-map, Contains-get_or, Contains-append_right}
use Rattle.corner_table.specs.Sides.{Side, side_at}
use Rattle.corner_table.specs.Labels.{label_at}
use Rattle.walk_order.specs.Visits.{lacks}
use Rattle.walk_order.proofs.Tables.{lacks_none, lacks_some}

-- whether k stands in a list
abbrev pub has : ℕ → List ℕ → Bool
has k xs = list_any (λ x. x == k) xs

or_here : (a b : Bool) → a ≡ true → (a || b) ≡ true
or_here true b e = refl
or_here false b e = absurd (cc)

or_there : (a b : Bool) → a ≡ false → (a || b) ≡ b
or_there true b e = absurd (cc)
or_there false b e = refl

pub has_first : (k x : ℕ) (xs : List ℕ) → x ≡ k → has k (x ∷ xs) ≡ true
has_first k x xs e = or_here (x == k) (has k xs) (eq-eqb x k e)

pub has_other : (k x : ℕ) (xs : List ℕ) → x ≢ k → has k (x ∷ xs) ≡ has k xs
has_other k x xs ne = or_there (x == k) (has k xs) (ne_eqb x k ne)

contains_first : {A : Type 0} (x y : A) (xs : List A) → x ≡ y → Contains (x ∷ xs) y
contains_first {A} x y xs e = subst (λ (z : A). Contains (x ∷ xs) z) e (Contains-get_or (x ∷ xs) 0 x (omega arith))

pub has_contains : (k : ℕ) (xs : List ℕ) → has k xs ≡ true → Contains xs k
has_contains k [] e = absurd (let no : false ≡ true = e in cc)
has_contains k (x ∷ xs) e = elim (cases_eq x k) [
  | inl q ↦ contains_first x k xs q
  | inr ne ↦ Contains-append_right (x ∷ []) xs k (has_contains k xs (sym (has_other k x xs ne) ∙ e))
]

others : (k : ℕ) (xs : List ℕ) → has k xs ≡ false → All (λ (x : ℕ). x ≢ k) xs
others k [] e = All-nil (λ (x : ℕ). x ≢ k)
others k (x ∷ xs) e = elim (cases_eq x k) [
  | inl q ↦ absurd (let no : true ≡ false = sym (has_first k x xs q) ∙ e in cc)
  | inr ne ↦ All-cons (λ (x : ℕ). x ≢ k) x xs ne (others k xs (sym (has_other k x xs ne) ∙ e))
]

pub has_not : (k : ℕ) (xs : List ℕ) → has k xs ≡ false → Contains xs k → ⊥
has_not k xs e h = All-contains (λ (x : ℕ). x ≢ k) xs k (others k xs e) h refl

pub contains_has : (k : ℕ) (xs : List ℕ) → Contains xs k → has k xs ≡ true
contains_has k xs h = elim (cases_Bool (has k xs)) [ inl t ↦ t | inr f ↦ absurd (has_not k xs f h) ]

pub not_has : (k : ℕ) (xs : List ℕ) → (Contains xs k → ⊥) → has k xs ≡ false
not_has k xs h = elim (cases_Bool (has k xs)) [ inl t ↦ absurd (h (has_contains k xs t)) | inr f ↦ f ]

-- how often k stands in a list
abbrev pub times : ℕ → List ℕ → ℕ
times k xs = count_by (λ x. x == k) xs

times_first : (k : ℕ) (xs : List ℕ) → times k (k ∷ xs) ≡ times k xs + 1
times_first k xs =
    let s = sum_by-cons (λ (x : ℕ). cond (x == k) 1 0) k xs in
    let one : cond {A = ℕ} (k == k) 1 0 ≡ 1 = cond-true (k == k) 1 0 (eq-eqb k k refl) in
    omega arith

times_other : (k x : ℕ) (xs : List ℕ) → x ≢ k → times k (x ∷ xs) ≡ times k xs
times_other k x xs ne =
    let s = sum_by-cons (λ (y : ℕ). cond (y == k) 1 0) x xs in
    let none : cond {A = ℕ} (x == k) 1 0 ≡ 0 = cond-false (x == k) 1 0 (ne_eqb x k ne) in
    omega arith

never : (k : ℕ) (xs : List ℕ) → has k xs ≡ false → times k xs ≡ 0
never k [] e = refl
never k (x ∷ xs) e = elim (cases_eq x k) [
  | inl q ↦ absurd (let no : true ≡ false = sym (has_first k x xs q) ∙ e in cc)
  | inr ne ↦ times_other k x xs ne ∙ never k xs (sym (has_other k x xs ne) ∙ e)
]

some : (k : ℕ) (xs : List ℕ) → has k xs ≡ true → 0 < times k xs
some k [] e = absurd (let no : false ≡ true = e in cc)
some k (x ∷ xs) e = elim (cases_eq x k) [
  | inl q ↦ subst (λ (y : ℕ). 0 < times k (y ∷ xs)) (sym q) (let t = times_first k xs in omega arith)
  | inr ne ↦ (let t = times_other k x xs ne in let r = some k xs (sym (has_other k x xs ne) ∙ e) in omega arith)
]

-- with one more, the count of k is above 1 exactly where k stood there
pub above_one : (k : ℕ) (xs : List ℕ) → has k xs ≡ true → 1 < times k (k ∷ xs)
above_one k xs e = let t = times_first k xs in let s = some k xs e in omega arith

pub at_most_one : (k : ℕ) (xs : List ℕ) → has k xs ≡ false → times k (k ∷ xs) ≤ 1
at_most_one k xs e = let t = times_first k xs in let s = never k xs e in omega arith

pub from_above_one : (k : ℕ) (xs : List ℕ) → 1 < times k (k ∷ xs) → has k xs ≡ true
from_above_one k xs h = elim (cases_Bool (has k xs)) [ inl t ↦ t | inr f ↦ absurd (let l = at_most_one k xs f in omega arith) ]

pub from_at_most_one : (k : ℕ) (xs : List ℕ) → times k (k ∷ xs) ≤ 1 → has k xs ≡ false
from_at_most_one k xs h = elim (cases_Bool (has k xs)) [ inl t ↦ absurd (let l = above_one k xs t in omega arith) | inr f ↦ f ]

-- the classes of the entries
pub lacks_contains : (labels : List ℕ) (entries : List Side) (k : ℕ) → lacks labels entries k ≡ true → Contains (map (label_at labels) entries) k → ⊥
lacks_contains labels entries k e h =
    All-contains (λ (x : ℕ). x ≢ k) (map (label_at labels) entries) k
    (All-map (λ (x : ℕ). x ≢ k) (label_at labels) entries (All-from_get_or (λ (c : Side). label_at labels c ≢ k) entries (side_at 0) (lacks_none labels entries k e))) h refl

contains_at : (labels : List ℕ) (entries : List Side) (k i : ℕ) → i < length entries → label_at labels (get_or entries i (side_at 0)) ≡ k → Contains (map (label_at labels) entries) k
contains_at labels [] k i h e = absurd (omega arith)
contains_at labels (c ∷ cs) k zero h e = contains_first (label_at labels c) k (map (label_at labels) cs) e
contains_at labels (c ∷ cs) k (suc i) h e = Contains-append_right (label_at labels c ∷ []) (map (label_at labels) cs) k (contains_at labels cs k i (omega arith) e)

pub not_lacks_contains : (labels : List ℕ) (entries : List Side) (k : ℕ) → lacks labels entries k ≡ false → Contains (map (label_at labels) entries) k
not_lacks_contains labels entries k e = let s = lacks_some labels entries k e in contains_at labels entries k s.0 s.1 s.2

pub contains_not_lacks : (labels : List ℕ) (entries : List Side) (k : ℕ) → Contains (map (label_at labels) entries) k → lacks labels entries k ≡ false
contains_not_lacks labels entries k h = elim (cases_Bool (lacks labels entries k)) [ inl t ↦ absurd (lacks_contains labels entries k t h) | inr f ↦ f ]

pub not_contains_lacks : (labels : List ℕ) (entries : List Side) (k : ℕ) → (Contains (map (label_at labels) entries) k → ⊥) → lacks labels entries k ≡ true
not_contains_lacks labels entries k h = elim (cases_Bool (lacks labels entries k)) [ inl t ↦ t | inr f ↦ absurd (h (not_lacks_contains labels entries k f)) ]
