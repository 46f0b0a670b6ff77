-- A class is a fan of the surface cut at its seams.
use Rattle.std.proofs.Common.{◌≡◌, Bool, true, false, cond, Option, Some, None, option_map, inl, inr, refl, ap, sym, ◌∙◌}
use mathlib.Core.Path.{fun_ext}
use Rattle.std.proofs.lemmas.Bool.{cases_Bool, cond-true, cond-false}
use Rattle.corner_table.specs.Sides.{Side, next, prev, Gluing}
use Rattle.corner_table.specs.Fans.{swing_left, swing_right, InFan, here, leftwards, rightwards, MeetsBoundary}
use Rattle.corner_table.proofs.Places.{option_tells}
use Rattle.seams.specs.Seams.{flag_at, flags_listed, unseamed}
use Rattle.seams.specs.Classes.{InClass, itself, over_next, over_prev, IsEnd, MeetsEnd}
use Rattle.seams.specs.Laws.{ClassIsFan, ClassEnds, ClassInFan, UncutIsFan, CutIsGluing, ListCutsAlike}
use Rattle.seams.proofs.Listing.{flag_at-listed}

-- a side that is no seam is glued as it was
pub uncut : (flags : Side → Bool) (g : Gluing) (x : Side) → flags x ≡ false → unseamed flags g x ≡ g x
uncut flags g x h = cond-false (flags x) None (g x) h

pub cut : (flags : Side → Bool) (g : Gluing) (x : Side) → flags x ≡ true → unseamed flags g x ≡ None
cut flags g x h = cond-true (flags x) None (g x) h

pub cut_tells : (flags : Side → Bool) (g : Gluing) (x y : Side) → unseamed flags g x ≡ Some y → (flags x ≡ false) × (g x ≡ Some y)
cut_tells flags g x y e = elim (cases_Bool (flags x)) [
  | inl t ↦ (let n : None ≡ Some y = sym (cut flags g x t) ∙ e in absurd (cc))
  | inr f ↦ (f, sym (uncut flags g x f) ∙ e)
]

pub cut_is_gluing : CutIsGluing
cut_is_gluing faces g flags G alike = record {
  paired = λ x y e. (let t = cut_tells flags g x y e in uncut flags g y (sym (alike x y t.1) ∙ t.0) ∙ G.paired x y t.1);
  within = λ x y e. G.within x y (cut_tells flags g x y e).1;
  apart = λ x y e. G.apart x y (cut_tells flags g x y e).1;
}

left_uncut : (flags : Side → Bool) (g : Gluing) (c : Side) → flags (next c) ≡ false → swing_left (unseamed flags g) c ≡ swing_left g c
left_uncut flags g c h = ap (option_map next) (uncut flags g (next c) h)

right_uncut : (flags : Side → Bool) (g : Gluing) (c : Side) → flags (prev c) ≡ false → swing_right (unseamed flags g) c ≡ swing_right g c
right_uncut flags g c h = ap (option_map prev) (uncut flags g (prev c) h)

left_tells : (flags : Side → Bool) (g : Gluing) (c d : Side) → swing_left (unseamed flags g) c ≡ Some d → (flags (next c) ≡ false) × (swing_left g c ≡ Some d)
left_tells flags g c d e = elim (cases_Bool (flags (next c))) [
  | inl t ↦ (let n : None ≡ Some d = sym (ap (option_map next) (cut flags g (next c) t)) ∙ e in absurd (cc))
  | inr f ↦ (f, sym (left_uncut flags g c f) ∙ e)
]

right_tells : (flags : Side → Bool) (g : Gluing) (c d : Side) → swing_right (unseamed flags g) c ≡ Some d → (flags (prev c) ≡ false) × (swing_right g c ≡ Some d)
right_tells flags g c d e = elim (cases_Bool (flags (prev c))) [
  | inl t ↦ (let n : None ≡ Some d = sym (ap (option_map prev) (cut flags g (prev c) t)) ∙ e in absurd (cc))
  | inr f ↦ (f, sym (right_uncut flags g c f) ∙ e)
]

to_fan : (flags : Side → Bool) (g : Gluing) (c d : Side) → InClass flags g c d → InFan (unseamed flags g) c d
to_fan flags g c d itself = here
to_fan flags g c e (over_next {d = d} h s p) = leftwards (left_uncut flags g c h ∙ s) (to_fan flags g d e p)
to_fan flags g c e (over_prev {d = d} h s p) = rightwards (right_uncut flags g c h ∙ s) (to_fan flags g d e p)

to_class : (flags : Side → Bool) (g : Gluing) {c d : Side} → InFan (unseamed flags g) c d → InClass flags g c d
to_class flags g here = itself
to_class flags g (leftwards {c = c} {d = d} s p) = (let t = left_tells flags g c d s in over_next t.0 t.1 (to_class flags g p))
to_class flags g (rightwards {c = c} {d = d} s p) = (let t = right_tells flags g c d s in over_prev t.0 t.1 (to_class flags g p))

pub class_is_fan : ClassIsFan
class_is_fan flags g c d = (to_fan flags g c d, to_class flags g)

pub class_in_fan : ClassInFan
class_in_fan flags g c d itself = here
class_in_fan flags g c e (over_next {d = d} h s p) = leftwards s (class_in_fan flags g d e p)
class_in_fan flags g c e (over_prev {d = d} h s p) = rightwards s (class_in_fan flags g d e p)

all_of : (g : Gluing) {c d : Side} → InFan g c d → InClass (λ x. false) g c d
all_of g here = itself
all_of g (leftwards {c = c} {d = d} s p) = over_next refl s (all_of g p)
all_of g (rightwards {c = c} {d = d} s p) = over_prev refl s (all_of g p)

pub uncut_is_fan : UncutIsFan
uncut_is_fan g c d = (class_in_fan (λ x. false) g c d, all_of g)

-- where a class ends the cut surface has a free side
end_free : (flags : Side → Bool) (g : Gluing) (x : Side) → IsEnd flags g x → unseamed flags g x ≡ None
end_free flags g x (inl e) = elim (cases_Bool (flags x)) [ inl t ↦ cut flags g x t | inr f ↦ uncut flags g x f ∙ e ]
end_free flags g x (inr t) = cut flags g x t

free_end : (flags : Side → Bool) (g : Gluing) (x : Side) → unseamed flags g x ≡ None → IsEnd flags g x
free_end flags g x e = elim (cases_Bool (flags x)) [ inl t ↦ inr t | inr f ↦ inl (sym (uncut flags g x f) ∙ e) ]

ends_boundary : (flags : Side → Bool) (g : Gluing) (c : Side) → MeetsEnd flags g c → MeetsBoundary (unseamed flags g) c
ends_boundary flags g c m = record {
  corner = m.corner;
  in_fan = to_fan flags g c m.corner m.in_class;
  free = elim m.end [ inl a ↦ inl (end_free flags g (next m.corner) a) | inr a ↦ inr (end_free flags g (prev m.corner) a) ];
}

boundary_ends : (flags : Side → Bool) (g : Gluing) (c : Side) → MeetsBoundary (unseamed flags g) c → MeetsEnd flags g c
boundary_ends flags g c m = record {
  corner = m.corner;
  in_class = to_class flags g m.in_fan;
  end = elim m.free [ inl a ↦ inl (free_end flags g (next m.corner) a) | inr a ↦ inr (free_end flags g (prev m.corner) a) ];
}

pub class_ends : ClassEnds
class_ends flags g c = (ends_boundary flags g c, boundary_ends flags g c)

-- a list of flags cuts as what it was made of does
pub list_cuts_alike : ListCutsAlike
list_cuts_alike faces g flags G = fun_ext (λ x. elim (option_tells (g x)) [
  | inl e ↦ nothing (flag_at (flags_listed faces flags) x) (flags x) (g x) e
  | inr y ↦ ap (λ b. cond b None (g x)) (flag_at-listed faces flags x (G.within x y.0 y.1))
])
  where
    nothing : (a b : Bool) (o : Option Side) → o ≡ None → cond a None o ≡ cond b None o
    nothing true true o e = refl
    nothing true false o e = sym e
    nothing false true o e = e
    nothing false false o e = refl
