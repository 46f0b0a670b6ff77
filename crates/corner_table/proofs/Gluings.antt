-- What one more face and one more pair change: gluings, fans, and the boundary.
use Rattle.std.proofs.Common.{◌≡◌, ◌≢◌, ℕ, ◌<◌, ◌≤◌, Some, None, inl, inr, sym, refl, ap, ◌∙◌, subst, arith}
use Rattle.corner_table.specs.Sides.{Side, next, prev, Gluing, unglued, glue, IsGluing, IsFree}
use Rattle.corner_table.specs.Fans.{InFan, here, leftwards, rightwards, Follows}
use Rattle.corner_table.proofs.Places.{option_tells, Some_injective, next-prev, prev-next, face_apart, glue_first, glue_second, glue_other, glue_tells, at_first, at_second, elsewhere}
use Rattle.corner_table.proofs.Walks.{left_crosses, right_crosses, crosses-left, crosses-right, fan_trans, fan_sym}

pub unglued_is : (faces : ℕ) → IsGluing faces unglued
unglued_is faces = record { paired = λ x y e. (cc); within = λ x y e. absurd (let n : None ≡ Some y = e in cc); apart = λ x y e. absurd (let n : None ≡ Some y = e in cc) }

pub more_faces : {faces : ℕ} {g : Gluing} (more : ℕ) → faces ≤ more → IsGluing faces g → IsGluing more g
more_faces more h G = record { paired = G.paired; within = λ x y e. (let w = G.within x y e in omega arith); apart = G.apart }

-- the faces come after those of any glued side
pub new_free : {faces : ℕ} {g : Gluing} → IsGluing faces g → (x : Side) → faces ≤ x.face → g x ≡ None
new_free {faces} {g} G x h =
    elim (option_tells (g x)) [ inl n ↦ n | inr y ↦ absurd (let w = G.within x y.0 y.1 in omega arith) ]

-- what is glued stays glued
pub glued_stays : {faces : ℕ} {g : Gluing} (a b : Side) → IsFree faces g a → IsFree faces g b → (x y : Side) → g x ≡ Some y → glue a b g x ≡ Some y
glued_stays {faces} {g} a b A B x y e = glue_other a b x g (taken a A.free) (taken b B.free) ∙ e
  where
    taken : (z : Side) → g z ≡ None → x ≡ z → ⊥
    taken z n q = let no : None ≡ Some y = sym n ∙ ap g (sym q) ∙ e in cc

pub glued_is : {faces : ℕ} {g : Gluing} (a b : Side) → IsGluing faces g → IsFree faces g a → IsFree faces g b → a.face ≢ b.face → IsGluing faces (glue a b g)
glued_is {faces} {g} a b G A B h = record { paired = paired; within = within; apart = apart }
  where
    paired : (x y : Side) → glue a b g x ≡ Some y → glue a b g y ≡ Some x
    paired x y e = elim (glue_tells a b x g) [
      | at_first p q ↦ ap (glue a b g) (Some_injective _ _ (sym e ∙ q)) ∙ glue_second a b g (face_apart a b h) ∙ ap {A = Side} Some (sym p)
      | at_second k p q ↦ ap (glue a b g) (Some_injective _ _ (sym e ∙ q)) ∙ glue_first a b g ∙ ap {A = Side} Some (sym p)
      | elsewhere k l q ↦ glued_stays a b A B y x (G.paired x y (sym q ∙ e))
    ]

    within : (x y : Side) → glue a b g x ≡ Some y → x.face < faces
    within x y e = elim (glue_tells a b x g) [
      | at_first p q ↦ subst (λ (z : Side). z.face < faces) (sym p) A.within
      | at_second k p q ↦ subst (λ (z : Side). z.face < faces) (sym p) B.within
      | elsewhere k l q ↦ G.within x y (sym q ∙ e)
    ]

    apart : (x y : Side) → glue a b g x ≡ Some y → x.face ≢ y.face
    apart x y e f = elim (glue_tells a b x g) [
      | at_first p q ↦ h (sym (ap (λ (z : Side). z.face) p) ∙ f ∙ ap (λ (z : Side). z.face) (Some_injective _ _ (sym e ∙ q)))
      | at_second k p q ↦ h (sym (ap (λ (z : Side). z.face) (Some_injective _ _ (sym e ∙ q))) ∙ sym f ∙ ap (λ (z : Side). z.face) p)
      | elsewhere k l q ↦ G.apart x y (sym q ∙ e) f
    ]

-- the free sides after a gluing
pub free_before : {faces : ℕ} {g : Gluing} (a b x : Side) → a ≢ b → IsFree faces (glue a b g) x → (x ≢ a) × (x ≢ b) × IsFree faces g x
free_before {faces} {g} a b x h X =
    let p : x ≢ a = λ e. (let no : Some b ≡ None = sym (glue_first a b g) ∙ ap (glue a b g) (sym e) ∙ X.free in cc) in
    let q : x ≢ b = λ e. (let no : Some a ≡ None = sym (glue_second a b g h) ∙ ap (glue a b g) (sym e) ∙ X.free in cc) in
    (p, q, record { within = X.within; free = sym (glue_other a b x g p q) ∙ X.free })

pub free_after : {faces : ℕ} {g : Gluing} (a b x : Side) → x ≢ a → x ≢ b → IsFree faces g x → IsFree faces (glue a b g) x
free_after {faces} {g} a b x p q X = record { within = X.within; free = glue_other a b x g p q ∙ X.free }

-- fans only grow
pub fan_stays : {faces : ℕ} {g : Gluing} (a b : Side) → IsFree faces g a → IsFree faces g b → {c d : Side} → InFan g c d → InFan (glue a b g) c d
fan_stays a b A B here = here
fan_stays {faces} {g} a b A B (leftwards {c = c} {d = d} s p) = leftwards (crosses-left (glue a b g) c d (glued_stays a b A B (next c) (prev d) (left_crosses g c d s))) (fan_stays a b A B p)
fan_stays {faces} {g} a b A B (rightwards {c = c} {d = d} s p) = rightwards (crosses-right (glue a b g) c d (glued_stays a b A B (prev c) (next d) (right_crosses g c d s))) (fan_stays a b A B p)

-- a pair joins the end of each of its sides with the start of the other
pub ends_join : (a b : Side) (g : Gluing) → InFan (glue a b g) (prev a) (next b)
ends_join a b g = leftwards (crosses-left (glue a b g) (prev a) (next b) (ap (glue a b g) (next-prev a) ∙ glue_first a b g ∙ ap {A = Side} Some (sym (prev-next b)))) here

pub starts_join : (a b : Side) (g : Gluing) → InFan (glue a b g) (next a) (prev b)
starts_join a b g = rightwards (crosses-right (glue a b g) (next a) (prev b) (ap (glue a b g) (prev-next a) ∙ glue_first a b g ∙ ap {A = Side} Some (sym (next-prev b)))) here

-- and nothing else: what is alike along the fans before, and at the two places that meet, is alike along the fans after
pub alike_after : {X : Type 0} (f : Side → X) {g : Gluing} (a b : Side) → ((c d : Side) → InFan g c d → f c ≡ f d) → f (prev a) ≡ f (next b) → f (next a) ≡ f (prev b)
    → {c d : Side} → InFan (glue a b g) c d → f c ≡ f d
alike_after f a b same_fan e h here = refl
alike_after f {g} a b same_fan e h (leftwards {c = c} {d = d} s p) = across ∙ alike_after f a b same_fan e h p
  where
    crossed : glue a b g (next c) ≡ Some (prev d)
    crossed = left_crosses (glue a b g) c d s

    across : f c ≡ f d
    across = elim (glue_tells a b (next c) g) [
      | at_first k q ↦ (
          let x : c ≡ prev a = sym (prev-next c) ∙ ap prev k in
          let y : d ≡ next b = sym (next-prev d) ∙ ap next (Some_injective _ _ (sym crossed ∙ q)) in
          ap f x ∙ e ∙ ap f (sym y))
      | at_second l k q ↦ (
          let x : c ≡ prev b = sym (prev-next c) ∙ ap prev k in
          let y : d ≡ next a = sym (next-prev d) ∙ ap next (Some_injective _ _ (sym crossed ∙ q)) in
          ap f x ∙ sym h ∙ ap f (sym y))
      | elsewhere k l q ↦ same_fan c d (leftwards (crosses-left g c d (sym q ∙ crossed)) here)
    ]
alike_after f {g} a b same_fan e h (rightwards {c = c} {d = d} s p) = across ∙ alike_after f a b same_fan e h p
  where
    crossed : glue a b g (prev c) ≡ Some (next d)
    crossed = right_crosses (glue a b g) c d s

    across : f c ≡ f d
    across = elim (glue_tells a b (prev c) g) [
      | at_first k q ↦ (
          let x : c ≡ next a = sym (next-prev c) ∙ ap next k in
          let y : d ≡ prev b = sym (prev-next d) ∙ ap prev (Some_injective _ _ (sym crossed ∙ q)) in
          ap f x ∙ h ∙ ap f (sym y))
      | at_second l k q ↦ (
          let x : c ≡ next b = sym (next-prev c) ∙ ap next k in
          let y : d ≡ prev a = sym (prev-next d) ∙ ap prev (Some_injective _ _ (sym crossed ∙ q)) in
          ap f x ∙ sym e ∙ ap f (sym y))
      | elsewhere k l q ↦ same_fan c d (rightwards (crosses-right g c d (sym q ∙ crossed)) here)
    ]

-- the boundary after a gluing
pub follows_kept : {faces : ℕ} {g : Gluing} (a b x y : Side) → IsFree faces g a → IsFree faces g b → y ≢ a → y ≢ b → Follows faces g x y → Follows faces (glue a b g) x y
follows_kept a b x y A B p q F = record { free = free_after a b y p q F.free; meets = fan_stays a b A B F.meets }

-- x came before a, and y follows b: y follows x
pub follows_over_first : {faces : ℕ} {g : Gluing} (a b x y : Side) → IsFree faces g a → IsFree faces g b → y ≢ a → y ≢ b → Follows faces g x a → Follows faces g b y → Follows faces (glue a b g) x y
follows_over_first {faces} {g} a b x y A B p q F H =
    record { free = free_after a b y p q H.free; meets = fan_trans (fan_stays a b A B F.meets) (fan_trans (starts_join a b g) (fan_stays a b A B H.meets)) }

pub follows_over_second : {faces : ℕ} {g : Gluing} (a b x y : Side) → IsGluing faces (glue a b g) → IsFree faces g a → IsFree faces g b → y ≢ a → y ≢ b → Follows faces g x b → Follows faces g a y → Follows faces (glue a b g) x y
follows_over_second {faces} {g} a b x y G A B p q F H =
    record { free = free_after a b y p q H.free; meets = fan_trans (fan_stays a b A B F.meets) (fan_trans (fan_sym G (ends_join a b g)) (fan_stays a b A B H.meets)) }

-- b is alone in its loop: what follows a follows what came before a
pub follows_past_second : {faces : ℕ} {g : Gluing} (a b x y : Side) → IsGluing faces (glue a b g) → IsFree faces g a → IsFree faces g b → y ≢ a → y ≢ b → Follows faces g x a → Follows faces g b b → Follows faces g a y → Follows faces (glue a b g) x y
follows_past_second {faces} {g} a b x y G A B p q F K H =
    record {
      free = free_after a b y p q H.free;
      meets = fan_trans (fan_stays a b A B F.meets) (fan_trans (starts_join a b g) (fan_trans (fan_stays a b A B K.meets) (fan_trans (fan_sym G (ends_join a b g)) (fan_stays a b A B H.meets))));
    }

pub follows_past_first : {faces : ℕ} {g : Gluing} (a b x y : Side) → IsGluing faces (glue a b g) → IsFree faces g a → IsFree faces g b → y ≢ a → y ≢ b → Follows faces g x b → Follows faces g a a → Follows faces g b y → Follows faces (glue a b g) x y
follows_past_first {faces} {g} a b x y G A B p q F K H =
    record {
      free = free_after a b y p q H.free;
      meets = fan_trans (fan_stays a b A B F.meets) (fan_trans (fan_sym G (ends_join a b g)) (fan_trans (fan_stays a b A B K.meets) (fan_trans (starts_join a b g) (fan_stays a b A B H.meets))));
    }
