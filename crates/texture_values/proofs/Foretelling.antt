-- What one entry's pair is foretold to be.
use Rattle.std.proofs.Common.{◌≡◌, ℕ, ◌+◌, ◌*◌, ◌<◌, nat_lt, ◌&&◌, Bool, true, false, ℤ, List, length, take, Ok, refl, arith}
use Rattle.std.proofs.lemmas.List.{length-take-le}
use Rattle.wrapped_vectors.specs.declared.places.Place.{Place}
use Rattle.texture_prediction.specs.declared.pairs.Pair.{Pair}
use Rattle.corner_table.specs.Sides.{next, prev}
use Rattle.corner_table.specs.Ordered.{Ordered, corner_at, corner_entry}
use Rattle.texture_values.specs.Pairs.{pairs_of}
use Rattle.texture_values.specs.Foretold.{over_entries, without_side, from_entries, texture_step}
use Rattle.texture_values.proofs.Listed.{length-pairs}

pub from-side : (places : List Place) (e n p : ℕ) (before : List Pair) (orientations : List Bool) → (nat_lt n e && nat_lt p e) ≡ true
    → from_entries places e n p before orientations ≡ over_entries places e n p before orientations
unfolding from_entries
from-side places e n p before orientations both = rw both refl

pub from-less : (places : List Place) (e n p : ℕ) (before : List Pair) (orientations : List Bool) → (nat_lt n e && nat_lt p e) ≡ false
    → from_entries places e n p before orientations ≡ Ok (without_side e n before, orientations)
unfolding from_entries
from-less places e n p before orientations less = rw less refl

-- the entries before e have e pairs
pub length-before : (values : List ℤ) (e : ℕ) → 2 * e + 1 < length values → length (take e (pairs_of values)) ≡ e
length-before values e h = length-take-le e (pairs_of values) (omega (arith, length-pairs values))

pub step-is : (w : Ordered) (places : List Place) (before : List Pair) (e n p : ℕ) (orientations : List Bool) → length before ≡ e
    → n ≡ corner_entry w (next (corner_at w e)) → p ≡ corner_entry w (prev (corner_at w e))
    → from_entries places e n p before orientations ≡ texture_step w places before orientations
unfolding texture_step
step-is w places before e n p orientations len en ep = rw (len, en, ep) refl
