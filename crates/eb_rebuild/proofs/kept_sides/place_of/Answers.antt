-- The numbers before the place are less, and those from it on are greater.
use Rattle.std.proofs.Common.{◌≡◌, ℕ, ◌<◌, ◌≤◌, List, length, get_or, Err, sym, ap, subst, inl, inr, arith}
use Rattle.std.proofs.lemmas.Bool.{cases_eq, cases_lt}
use Rattle.std.proofs.lemmas.List.Sorted.{searched}
use Rattle.std.specs.List.Sorted.{IsStrictlyIncreasing, IsBinarySearchResult}
use Rattle.std.specs.Ordering.{nat_cmp}
use Rattle.eb_rebuild.specs.Kept.{Lacks}
use Rattle.eb_rebuild.proofs.Spread.{rise_of}
use Rattle.eb_rebuild.proofs.kept_sides.place_of.Goals as goal

in_order : (xs : List ℕ) → IsStrictlyIncreasing xs → (i j : ℕ) → i ≤ j → j < length xs → get_or xs i 0 ≤ get_or xs j 0
in_order xs h i j first second = elim (cases_eq i j) [
  | inl e ↦ (let q = ap (λ (k : ℕ). get_or xs k 0) e in omega arith)
  | inr n ↦ (let m = rise_of xs h i j (omega arith) second in omega arith)
]

lacks : (xs : List ℕ) (x place : ℕ) → IsStrictlyIncreasing xs → IsBinarySearchResult (λ y. nat_cmp y x) xs (Err place) → Lacks xs x
lacks xs x place h found i within same =
    let s = searched xs x (Err place) found (in_order xs h) in
    elim (cases_lt i place) [
      | inl l ↦ (let m = s.1 i l in absurd (omega arith))
      | inr g ↦ (let m = s.2 i g within in absurd (omega arith))
    ]

lacks_in : (xs ys : List ℕ) (x place : ℕ) → ys ≡ xs → IsStrictlyIncreasing xs → IsBinarySearchResult (λ y. nat_cmp y x) ys (Err place) → Lacks xs x
lacks_in xs ys x place e h found = subst (λ (l : List ℕ). Lacks l x) e (lacks ys x place (subst IsStrictlyIncreasing (sym e) h) found)

pub returns-in-Err-clause-none : goal.returns-in-Err-clause-none
returns-in-Err-clause-none c = lacks_in c.args.numbers.now.items c.as_slice.result.now c.args.number c.in-Err.field-0 c.as_slice.ensures.value c.requires c.in-Err.ensures.position
