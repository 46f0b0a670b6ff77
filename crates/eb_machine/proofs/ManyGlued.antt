-- A new face, some of whose sides are glued to free sides of the faces before it.
use Rattle.std.proofs.Common.{◌≡◌, ◌≢◌, ℕ, suc, ◌+◌, ◌<◌, [], ◌∷◌, ◌⊎◌, inl, inr, sym, refl, ap, ◌∙◌, subst, arith}
use Rattle.std.proofs.lemmas.Bool.{cases_lt}
use Rattle.corner_table.specs.Sides.{Side, Place, side, next, prev, Gluing, glue, IsGluing, IsFree}
use Rattle.corner_table.specs.Fans.{InFan, here, leftwards, rightwards}
use Rattle.corner_table.specs.Table.{Table, gluing_of}
use Rattle.eb_machine.specs.OneFaceMore.{Pairs, glue_all, IsOther, IsOtherPlace, PairsAreApart, Touches}
use Rattle.corner_table.proofs.Places.{glue_other}
use Rattle.corner_table.proofs.Walks.{left-within, right-within, left_crosses, right_crosses}
use Rattle.corner_table.proofs.Gluings.{more_faces, new_free, glued_is, fan_stays, ends_join, starts_join, alike_after, free_before}

old_other : (f : ℕ) (x : Side) (k : Place) → x.face < f → x ≢ side f k
old_other f x k h e = let q = ap (λ (s : Side). s.face) e in absurd (omega arith)

new_other : (f : ℕ) (k : Place) (x : Side) → x.face < f → side f k ≢ x
new_other f k x h e = let q = ap (λ (s : Side). s.face) e in absurd (omega arith)

place_other : (f : ℕ) (j k : Place) → j ≢ k → side f j ≢ side f k
place_other f j k h e = h (ap (λ (s : Side). s.place) e)

pub old_untouched : (f : ℕ) (ps : Pairs) (g : Gluing) (x : Side) → x.face < f → IsOther x ps → glue_all f ps g x ≡ g x
old_untouched f [] g x h o = refl
old_untouched f (p ∷ ps) g x h o = glue_other (side f p.0) p.1 x (glue_all f ps g) (old_other f x p.0 h) o.0 ∙ old_untouched f ps g x h o.1

new_untouched : (f : ℕ) (ps : Pairs) (g : Gluing) (k : Place) → PairsAreApart f g ps → IsOtherPlace k ps → glue_all f ps g (side f k) ≡ g (side f k)
new_untouched f [] g k A o = refl
new_untouched f (p ∷ ps) g k A o = glue_other (side f p.0) p.1 (side f k) (glue_all f ps g) (place_other f k p.0 o.0) (new_other f k p.1 A.0.within) ∙ new_untouched f ps g k A.3 o.1

-- a place that isn't glued is free
pub new_is_free : {f : ℕ} {g : Gluing} → IsGluing f g → (ps : Pairs) (k : Place) → PairsAreApart f g ps → IsOtherPlace k ps → IsFree (suc f) (glue_all f ps g) (side f k)
new_is_free {f} {g} G ps k A o = record { within = omega arith; free = new_untouched f ps g k A o ∙ new_free G (side f k) (omega arith) }

-- and so is a free side of another
pub old_is_free : (f : ℕ) (g : Gluing) (ps : Pairs) (x : Side) → IsFree f g x → IsOther x ps → IsFree (suc f) (glue_all f ps g) x
old_is_free f g ps x X o = record { within = (let w = X.within in omega arith); free = old_untouched f ps g x X.within o ∙ X.free }

pub all_gluing : {f : ℕ} {g : Gluing} → IsGluing f g → (ps : Pairs) → PairsAreApart f g ps → IsGluing (suc f) (glue_all f ps g)
all_gluing {f} {g} G [] A = more_faces (suc f) (omega arith) G
all_gluing {f} {g} G (p ∷ ps) A =
    glued_is (side f p.0) p.1 (all_gluing G ps A.3) (new_is_free G ps p.0 A.3 A.2) (old_is_free f g ps p.1 A.0 A.1) (let w = A.0.within in (λ e. absurd (let q : f ≡ p.1.face = e in omega arith)))

-- fans only grow
pub all_stay : {f : ℕ} {g : Gluing} → IsGluing f g → (ps : Pairs) → PairsAreApart f g ps → {c d : Side} → InFan g c d → InFan (glue_all f ps g) c d
all_stay {f} {g} G [] A w = w
all_stay {f} {g} G (p ∷ ps) A w = fan_stays {faces = suc f} {g = glue_all f ps g} (side f p.0) p.1 (new_is_free G ps p.0 A.3 A.2) (old_is_free f g ps p.1 A.0 A.1) (all_stay G ps A.3 w)

-- a fan is one corner, or lies in the faces
pub fan_within : {f : ℕ} {g : Gluing} → IsGluing f g → {c d : Side} → InFan g c d → (c ≡ d) ⊎ ((c.face < f) × (d.face < f))
fan_within {f} {g} G here = inl refl
fan_within {f} {g} G (leftwards {c = c} {d = x} {e = d} s w) =
    let from : c.face < f = G.within (next c) (prev x) (left_crosses g c x s) in
    elim (fan_within G w) [
      | inl e ↦ inr (from, subst (λ (y : Side). y.face < f) e (left-within G c x s))
      | inr t ↦ inr (from, t.1)
    ]
fan_within {f} {g} G (rightwards {c = c} {d = x} {e = d} s w) =
    let from : c.face < f = G.within (prev c) (next x) (right_crosses g c x s) in
    elim (fan_within G w) [
      | inl e ↦ inr (from, subst (λ (y : Side). y.face < f) e (right-within G c x s))
      | inr t ↦ inr (from, t.1)
    ]

-- a map of corners has the same value where two of them meet
abbrev pub Meet : ℕ → (Side → ℕ) → Pairs → Type 0
Meet f name [] = Unit {0}
Meet f name (p ∷ ps) = (name (prev (side f p.0)) ≡ name (next p.1)) × (name (next (side f p.0)) ≡ name (prev p.1)) × Meet f name ps

pub all_alike : (f : ℕ) {g : Gluing} (name : Side → ℕ) (ps : Pairs) → ((c d : Side) → InFan g c d → name c ≡ name d) → Meet f name ps → (c d : Side) → InFan (glue_all f ps g) c d → name c ≡ name d
all_alike f {g} name [] same_fan m c d w = same_fan c d w
all_alike f {g} name (p ∷ ps) same_fan m c d w = alike_after name {g = glue_all f ps g} (side f p.0) p.1 (all_alike f name ps same_fan m.2) m.0 m.1 w

-- a corner of the new face that meets an old one is in one fan with it, and has its name
pub record Meeting (f : ℕ) (g : Gluing) (name : Side → ℕ) (c : Side) : Type 0 where
  pub old : Side
  pub within : old.face < f
  pub in_fan : InFan g c old
  pub one_name : name c ≡ name old

pub all_meet : {f : ℕ} {g : Gluing} → IsGluing f g → (name : Side → ℕ) (ps : Pairs) → PairsAreApart f g ps → Meet f name ps → (k : Place) → Touches k ps → Meeting f (glue_all f ps g) name (side f k)
all_meet {f} {g} G name [] A m k h = absurd h
all_meet {f} {g} G name (p ∷ ps) A m k h = elim h [
  | inl e ↦ subst (λ (j : Place). Meeting f (glue_all f (p ∷ ps) g) name (side f j)) e
      (record { old = prev p.1; within = A.0.within; in_fan = starts_join (side f p.0) p.1 (glue_all f ps g); one_name = m.1 })
  | inr r ↦ elim r [
    | inl e ↦ subst (λ (j : Place). Meeting f (glue_all f (p ∷ ps) g) name (side f j)) e
        (record { old = next p.1; within = A.0.within; in_fan = ends_join (side f p.0) p.1 (glue_all f ps g); one_name = m.0 })
    | inr t ↦ (
        let n = all_meet G name ps A.3 m.2 k t in
        record {
          old = n.old;
          within = n.within;
          in_fan = fan_stays {faces = suc f} {g = glue_all f ps g} (side f p.0) p.1 (new_is_free G ps p.0 A.3 A.2) (old_is_free f g ps p.1 A.0 A.1) n.in_fan;
          one_name = n.one_name;
        })
  ]
]

-- a free side afterwards is an old one that isn't glued, or is at a place that isn't
abbrev pub FreeCase : ℕ → Gluing → Pairs → Side → Type 0
FreeCase f g ps x = (IsFree f g x × IsOther x ps) ⊎ ((x.face ≡ f) × IsOtherPlace x.place ps)

face_is : (f : ℕ) (x : Side) → x.face ≡ f → x ≡ side f x.place
face_is f x e = ap (λ (n : ℕ). side n x.place) e

pub free_tells : {f : ℕ} {g : Gluing} → IsGluing f g → (ps : Pairs) (x : Side) → PairsAreApart f g ps → IsFree (suc f) (glue_all f ps g) x → FreeCase f g ps x
free_tells {f} {g} G [] x A X = elim (cases_lt x.face f) [
  | inl l ↦ inl (record { within = l; free = X.free }, tt)
  | inr l ↦ inr (let w = X.within in omega arith, tt)
]
free_tells {f} {g} G (p ∷ ps) x A X =
    let b = free_before {faces = suc f} {g = glue_all f ps g} (side f p.0) p.1 x (new_other f p.0 p.1 A.0.within) X in
    elim (free_tells G ps x A.3 b.2) [
      | inl o ↦ inl (o.0, (b.1, o.1))
      | inr n ↦ inr (n.0, ((λ e. b.0 (face_is f x n.0 ∙ ap (side f) e)), n.1))
    ]

-- a pair more, in other words for its parts
pub glued_by : (g mid new : Gluing) (f n : ℕ) (k : Place) (a s : Side) → new ≡ glue (side n k) s mid → mid ≡ g → n ≡ f → s ≡ a → new ≡ glue (side f k) a g
glued_by g mid new f n k a s e p q r = e ∙ ap (glue (side n k) s) p ∙ ap (λ (m : ℕ). glue (side m k) s g) q ∙ ap (λ (x : Side). glue (side f k) x g) r

-- the free sides of a table while the sides of its new face are glued one by one
free_in : (table : Table) (f : ℕ) (g : Gluing) (x s : Side) → table.faces ≡ f + 1 → gluing_of table ≡ g → s ≡ x → IsFree (suc f) g x → IsFree table.faces (gluing_of table) s
free_in table f g x s e h q X = subst (IsFree table.faces (gluing_of table)) (sym q) (subst (λ (k : Gluing). IsFree table.faces k x) (sym h) (record { within = (let w = X.within in omega arith); free = X.free }))

pub place_free : (old table : Table) → IsGluing old.faces (gluing_of old) → (ps : Pairs) (k : Place) (n : ℕ) → PairsAreApart old.faces (gluing_of old) ps → IsOtherPlace k ps → table.faces ≡ old.faces + 1 → gluing_of table ≡ glue_all old.faces ps (gluing_of old) → n ≡ old.faces →
    IsFree table.faces (gluing_of table) (side n k)
place_free old table G ps k n A o e h q = free_in table old.faces (glue_all old.faces ps (gluing_of old)) (side old.faces k) (side n k) e h (ap (λ (m : ℕ). side m k) q) (new_is_free G ps k A o)

pub old_free : (old table : Table) (ps : Pairs) (x s : Side) → IsFree old.faces (gluing_of old) x → IsOther x ps → table.faces ≡ old.faces + 1 → gluing_of table ≡ glue_all old.faces ps (gluing_of old) → s ≡ x → IsFree table.faces (gluing_of table) s
old_free old table ps x s X o e h q = free_in table old.faces (glue_all old.faces ps (gluing_of old)) x s e h q (old_is_free old.faces (gluing_of old) ps x X o)
