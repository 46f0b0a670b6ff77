-- Truth values that follow from each other.
use Rattle.std.proofs.Common.{◌≡◌, Bool, true, false, refl, sym}

-- of two tests each passes where the other does
pub one_truth : (t u : Bool) → (t ≡ true → u ≡ true) → (u ≡ true → t ≡ true) → t ≡ u
one_truth true u f g = sym (f refl)
one_truth false true f g = g refl
one_truth false false f g = refl
