-- What is chosen for a pair is what the step foretells with the orientation that the pair takes.
use Rattle.std.proofs.Common.{◌≡◌, ℕ, nat_lt, ◌&&◌, Bool, true, false, List, ◌++◌, length, Option, None, Some, Result, Ok, inl, inr, sym, subst, ◌∙◌, ap, refl}
use Rattle.std.specs.Option.{option_to_list}
use Rattle.std.proofs.lemmas.Bool.{cases_Bool}
use Rattle.drc_base.specs.declared.kinds.Kind.{Kind}
use Rattle.wrapped_vectors.specs.declared.places.Place.{Place}
use Rattle.texture_prediction.specs.declared.pairs.Pair.{Pair}
use Rattle.texture_prediction.specs.declared.projections.Projected.{Projected}
use Rattle.texture_prediction.specs.declared.projections.Projected.TheVariants as projected
use Rattle.texture_prediction.specs.Projection.{projection, picked}
use Rattle.texture_prediction.specs.Texture.{same_pair, over_side, by_projection}
use Rattle.texture_prediction.proofs.Sides.{over-same, over-by}
use Rattle.corner_table.specs.Sides.{next, prev}
use Rattle.corner_table.specs.Ordered.{Ordered, corner_at, corner_entry}
use Rattle.texture_values.specs.Pairs.{pair_of}
use Rattle.texture_values.specs.Foretold.{place_of, or_kind, without_side, from_entries, texture_step}
use Rattle.texture_values.specs.Chosen.{nearer, choice_by, choice_over, choice_from, texture_choice}
use Rattle.texture_values.proofs.Foretelling.{from-side, from-less}

pub choice-same : (tip n p : Place) (a b x : Pair) → same_pair a b ≡ true → choice_over tip n p a b x ≡ Ok (a, None)
unfolding choice_over
choice-same tip n p a b x is = rw is refl

pub choice-by : (tip n p : Place) (a b x : Pair) (q : Projected) → same_pair a b ≡ false → projection tip n p a b ≡ q → choice_over tip n p a b x ≡ choice_by a x q
unfolding choice_over
choice-by tip n p a b x q is eq = rw is (ap (choice_by a x) eq)

pub choice-side : (places : List Place) (e n p : ℕ) (before : List Pair) (x : Pair) → (nat_lt n e && nat_lt p e) ≡ true
    → choice_from places e n p before x ≡ choice_over (place_of places e) (place_of places n) (place_of places p) (pair_of before n) (pair_of before p) x
unfolding choice_from
choice-side places e n p before x both = rw both refl

pub choice-less : (places : List Place) (e n p : ℕ) (before : List Pair) (x : Pair) → (nat_lt n e && nat_lt p e) ≡ false
    → choice_from places e n p before x ≡ Ok (without_side e n before, None)
unfolding choice_from
choice-less places e n p before x less = rw less refl

pub choice-is : (w : Ordered) (places : List Place) (before : List Pair) (e n p : ℕ) (x : Pair) → length before ≡ e
    → n ≡ corner_entry w (next (corner_at w e)) → p ≡ corner_entry w (prev (corner_at w e))
    → choice_from places e n p before x ≡ texture_choice w places before x
unfolding texture_choice
choice-is w places before e n p x len en ep = rw (len, en, ep) refl

-- ---- a step with the orientation that was chosen

-- a prediction and an orientation, and a prediction and those that are left
abbrev with_choice : Pair → Option Bool → Pair × Option Bool
with_choice a o = (a, o)

abbrev with_left : Pair → List Bool → Result (Pair × List Bool) Kind
with_left a left = Ok (a, left)

by-choice : (a x : Pair) (q : Projected) (c : Pair × Option Bool) (rest : List Bool) → choice_by a x q ≡ Ok c
    → or_kind (by_projection a (option_to_list c.1 ++ rest) q) ≡ with_left c.0 rest
by-choice a x projected.Short c rest is =
    let same : with_choice a None ≡ c = cc in
    subst (λ (d : Pair × Option Bool). or_kind (by_projection a (option_to_list d.1 ++ rest) projected.Short) ≡ with_left d.0 rest) same refl
by-choice a x projected.Great c rest is = cc
by-choice a x (projected.At k) c rest is =
    let same : with_choice (picked k (nearer k x)) (Some (nearer k x)) ≡ c = cc in
    subst (λ (d : Pair × Option Bool). or_kind (by_projection a (option_to_list d.1 ++ rest) (projected.At k)) ≡ with_left d.0 rest) same refl

over-choice : (tip n p : Place) (a b x : Pair) (c : Pair × Option Bool) (rest : List Bool) → choice_over tip n p a b x ≡ Ok c
    → or_kind (over_side tip n p a b (option_to_list c.1 ++ rest)) ≡ with_left c.0 rest
over-choice tip n p a b x c rest is = elim (cases_Bool (same_pair a b)) [
  | inl same ↦
      ap (or_kind {A = Pair × List Bool}) (over-same tip n p a b (option_to_list c.1 ++ rest) same)
      ∙ by-choice a x projected.Short c rest (sym (choice-same tip n p a b x same) ∙ is)
  | inr other ↦
      ap (or_kind {A = Pair × List Bool}) (over-by tip n p a b (option_to_list c.1 ++ rest) (projection tip n p a b) other refl)
      ∙ by-choice a x (projection tip n p a b) c rest (sym (choice-by tip n p a b x (projection tip n p a b) other refl) ∙ is)
]

from-choice : (places : List Place) (e n p : ℕ) (before : List Pair) (x : Pair) (c : Pair × Option Bool) (rest : List Bool) → choice_from places e n p before x ≡ Ok c
    → from_entries places e n p before (option_to_list c.1 ++ rest) ≡ with_left c.0 rest
from-choice places e n p before x c rest is = elim (cases_Bool (nat_lt n e && nat_lt p e)) [
  | inl both ↦
      from-side places e n p before (option_to_list c.1 ++ rest) both
      ∙ over-choice (place_of places e) (place_of places n) (place_of places p) (pair_of before n) (pair_of before p) x c rest
      (sym (choice-side places e n p before x both) ∙ is)
  | inr less ↦
      from-less places e n p before (option_to_list c.1 ++ rest) less
      ∙ by-choice (without_side e n before) x projected.Short c rest (sym (choice-less places e n p before x less) ∙ is)
]

pub step-choice : (w : Ordered) (places : List Place) (before : List Pair) (x : Pair) (c : Pair × Option Bool) (rest : List Bool)
    → texture_choice w places before x ≡ Ok c → texture_step w places before (option_to_list c.1 ++ rest) ≡ with_left c.0 rest
unfolding texture_choice texture_step
step-choice w places before x c rest is =
    from-choice places (length before) (corner_entry w (next (corner_at w (length before)))) (corner_entry w (prev (corner_at w (length before)))) before x c rest is
