-- The search for a triangle with two equal names, one triangle at a time.
use Rattle.std.proofs.Common.{◌≡◌, ℕ, zero, suc, ◌≤◌, true, false, List, get_or, Some, None, inl, inr, sym, refl, ap, ◌∙◌, arith}
use Rattle.std.proofs.lemmas.Bool.{cases_eq, cond-true, cond-false}
use Rattle.eb_machine.specs.Named.{Triangle, no_triangle, has_equal, first_with_equal}

pub equal_zero : (ts : List Triangle) → first_with_equal ts zero ≡ None
unfolding first_with_equal
equal_zero ts = refl

pub equal_here : (ts : List Triangle) (n : ℕ) → first_with_equal ts n ≡ None → has_equal (get_or ts n no_triangle) ≡ true → first_with_equal ts (suc n) ≡ Some n
unfolding first_with_equal
equal_here ts n h e = rw (h, first_with_equal) (cond-true _ _ _ e)

pub equal_not_here : (ts : List Triangle) (n : ℕ) → first_with_equal ts n ≡ None → has_equal (get_or ts n no_triangle) ≡ false → first_with_equal ts (suc n) ≡ None
unfolding first_with_equal
equal_not_here ts n h e = rw (h, first_with_equal) (cond-false _ _ _ e)

equal_before : (ts : List Triangle) (n f : ℕ) → first_with_equal ts n ≡ Some f → first_with_equal ts (suc n) ≡ Some f
unfolding first_with_equal
equal_before ts n f h = rw (h, first_with_equal) refl

-- once found, it stays the first
pub equal_found : (ts : List Triangle) (n m f : ℕ) → n ≤ m → first_with_equal ts n ≡ Some f → first_with_equal ts m ≡ Some f
equal_found ts n zero f h e = ap (first_with_equal ts) (let q : 0 ≡ n = omega arith in q) ∙ e
equal_found ts n (suc m) f h e = elim (cases_eq n (suc m)) [
  | inl q ↦ ap (first_with_equal ts) (sym q) ∙ e
  | inr q ↦ equal_before ts m f (equal_found ts n m f (omega arith) e)
]
