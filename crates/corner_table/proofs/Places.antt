-- Places, sides, tests on them, and what one gluing changes.
use Rattle.std.proofs.Common.{◌≡◌, ◌≢◌, ℕ, true, false, eqb, Option, Some, None, ◌⊎◌, inl, inr, sym, refl, ap, ◌∙◌, eqb-true, eq-eqb}
use Rattle.std.proofs.lemmas.Bool.{and_parts, cases_Bool, cond-true, cond-false, false≢true}
use Rattle.corner_table.specs.Sides.{Side, Place, first, second, third, side, next, prev, place_after, place_before, place_eq, same, Gluing, glue}

pub after-before : (k : Place) → place_after (place_before k) ≡ k
after-before first = refl
after-before second = refl
after-before third = refl

pub before-after : (k : Place) → place_before (place_after k) ≡ k
before-after first = refl
before-after second = refl
before-after third = refl

pub after-after : (k : Place) → place_after (place_after k) ≡ place_before k
after-after first = refl
after-after second = refl
after-after third = refl

pub before-before : (k : Place) → place_before (place_before k) ≡ place_after k
before-before first = refl
before-before second = refl
before-before third = refl

pub next-prev : (c : Side) → next (prev c) ≡ c
next-prev c = ap (side c.face) (after-before c.place)

pub prev-next : (c : Side) → prev (next c) ≡ c
prev-next c = ap (side c.face) (before-after c.place)

pub next-next : (c : Side) → next (next c) ≡ prev c
next-next c = ap (side c.face) (after-after c.place)

pub prev-prev : (c : Side) → prev (prev c) ≡ next c
prev-prev c = ap (side c.face) (before-before c.place)

pub next_injective : (c d : Side) → next c ≡ next d → c ≡ d
next_injective c d e = sym (prev-next c) ∙ ap prev e ∙ prev-next d

pub prev_injective : (c d : Side) → prev c ≡ prev d → c ≡ d
prev_injective c d e = sym (next-prev c) ∙ ap next e ∙ next-prev d

place_same : (j k : Place) → place_eq j k ≡ true → j ≡ k
place_same first first e = refl
place_same second second e = refl
place_same third third e = refl
place_same first second e = cc
place_same first third e = cc
place_same second first e = cc
place_same second third e = cc
place_same third first e = cc
place_same third second e = cc

place_eq_refl : (k : Place) → place_eq k k ≡ true
place_eq_refl first = refl
place_eq_refl second = refl
place_eq_refl third = refl

side_is : (a b : Side) → a.face ≡ b.face → a.place ≡ b.place → a ≡ b
side_is a b e f = ap (λ (x : ℕ). side x a.place) e ∙ ap (side b.face) f

-- what the test of two sides says
pub same-true : (a b : Side) → same a b ≡ true → a ≡ b
same-true a b e =
    let p = and_parts (eqb a.face b.face) (place_eq a.place b.place) e in
    side_is a b (eqb-true a.face b.face p.0) (place_same a.place b.place p.1)

pub same_refl : (a : Side) → same a a ≡ true
same_refl a = rw (eq-eqb a.face a.face refl) (place_eq_refl a.place)

pub same-false : (a b : Side) → same a b ≡ false → a ≢ b
same-false a b e h = false≢true (sym e ∙ ap (same a) (sym h) ∙ same_refl a)

pub not_same : (a b : Side) → a ≢ b → same a b ≡ false
not_same a b h = elim (cases_Bool (same a b)) [ inl t ↦ absurd (h (same-true a b t)) | inr f ↦ f ]

pub same_tells : (a b : Side) → (a ≡ b) ⊎ (a ≢ b)
same_tells a b = elim (cases_Bool (same a b)) [ inl t ↦ inl (same-true a b t) | inr f ↦ inr (same-false a b f) ]

pub option_tells : {A : Type 0} (o : Option A) → (o ≡ None) ⊎ ((x : A) × (o ≡ Some x))
option_tells None = inl refl
option_tells (Some x) = inr (x, refl)

pub Some≢None : {A : Type 0} (x : A) → Some x ≡ None → ⊥
Some≢None x e = cc

pub Some_injective : {A : Type 0} (x y : A) → Some x ≡ Some y → x ≡ y
Some_injective x y e = cc

-- a side of two faces apart
pub face_apart : (a b : Side) → a.face ≢ b.face → a ≢ b
face_apart a b h e = h (ap (λ (x : Side). x.face) e)

-- what a glued pair gives at its own sides, and at the others
pub glue_first : (a b : Side) (g : Gluing) → glue a b g a ≡ Some b
glue_first a b g = cond-true (same a a) _ _ (same_refl a)

pub glue_second : (a b : Side) (g : Gluing) → a ≢ b → glue a b g b ≡ Some a
glue_second a b g h =
    cond-false (same b a) _ _ (not_same b a (λ e. h (sym e))) ∙ cond-true (same b b) _ _ (same_refl b)

pub glue_other : (a b x : Side) (g : Gluing) → x ≢ a → x ≢ b → glue a b g x ≡ g x
glue_other a b x g h k =
    cond-false (same x a) _ _ (not_same x a h) ∙ cond-false (same x b) _ _ (not_same x b k)

-- the three cases of one side and one new pair
pub data GlueCase (a b x : Side) (g : Gluing) : Type 0 where
  at_first : x ≡ a → glue a b g x ≡ Some b → GlueCase a b x g
  at_second : x ≢ a → x ≡ b → glue a b g x ≡ Some a → GlueCase a b x g
  elsewhere : x ≢ a → x ≢ b → glue a b g x ≡ g x → GlueCase a b x g

pub glue_tells : (a b x : Side) (g : Gluing) → GlueCase a b x g
glue_tells a b x g =
    elim (same_tells x a) [
      | inl e ↦ at_first e (cond-true (same x a) _ _ (ap (same x) (sym e) ∙ same_refl x))
      | inr h ↦ elim (same_tells x b) [
        | inl f ↦ at_second h f (cond-false (same x a) _ _ (not_same x a h) ∙ cond-true (same x b) _ _ (ap (same x) (sym f) ∙ same_refl x))
        | inr k ↦ elsewhere h k (glue_other a b x g h k)
      ]
    ]
