-- The first face with two equal labels is the first with two equal vertices.
use Rattle.std.proofs.Common.{◌≡◌, ℕ, zero, suc, ◌<◌, ◌≤◌, Bool, true, false, ◌||◌, ◌==◌, cond, List, Option, Some, None, inl, inr, sym, refl, ap, ◌∙◌, arith, eqb-true, eq-eqb}
use Rattle.std.proofs.lemmas.Bool.{cases_eq, cond-true, cond-false}
use Rattle.corner_table.specs.Sides.{Side, Place, first, second, third, side, Gluing, IsGluing}
use Rattle.corner_table.specs.Fans.{meets}
use Rattle.corner_table.specs.Labels.{label_at, IsLabelled}
use Rattle.corner_table.proofs.Meeting.{fan_meets, meets-fan}
use Rattle.eb_machine.specs.Machine.{is_degenerate, first_degenerate}
use Rattle.eb_rebuild.specs.Alike.{is_alike, first_alike}

pub alike_zero : (labels : List ℕ) → first_alike labels zero ≡ None
unfolding first_alike
alike_zero labels = refl

pub alike_here : (labels : List ℕ) (n : ℕ) → first_alike labels n ≡ None → is_alike labels n ≡ true → first_alike labels (suc n) ≡ Some n
unfolding first_alike
alike_here labels n h e = rw (h, first_alike) (cond-true _ _ _ e)

pub alike_not_here : (labels : List ℕ) (n : ℕ) → first_alike labels n ≡ None → is_alike labels n ≡ false → first_alike labels (suc n) ≡ None
unfolding first_alike
alike_not_here labels n h e = rw (h, first_alike) (cond-false _ _ _ e)

alike_before : (labels : List ℕ) (n f : ℕ) → first_alike labels n ≡ Some f → first_alike labels (suc n) ≡ Some f
unfolding first_alike
alike_before labels n f h = rw (h, first_alike) refl

-- once found, it stays the first
pub alike_found : (labels : List ℕ) (n m f : ℕ) → n ≤ m → first_alike labels n ≡ Some f → first_alike labels m ≡ Some f
alike_found labels n zero f h e = ap (first_alike labels) (let q : 0 ≡ n = omega arith in q) ∙ e
alike_found labels n (suc m) f h e = elim (cases_eq n (suc m)) [
  | inl q ↦ ap (first_alike labels) (sym q) ∙ e
  | inr q ↦ alike_before labels m f (alike_found labels n m f (omega arith) e)
]

one_truth : (t u : Bool) → (t ≡ true → u ≡ true) → (u ≡ true → t ≡ true) → t ≡ u
one_truth true u f g = sym (f refl)
one_truth false true f g = g refl
one_truth false false f g = refl

-- one fan and one label are one test
one_test : {faces : ℕ} {g : Gluing} → IsGluing faces g → (labels : List ℕ) (count : ℕ) (ends : List Bool) → IsLabelled faces g labels count ends → (c d : Side) → c.face < faces → d.face < faces →
    meets faces g c d ≡ (label_at labels c == label_at labels d)
one_test {faces} {g} G labels count ends L c d h k = one_truth _ _
    (λ t. eq-eqb _ _ (L.one_label c d h k (meets-fan faces g c d t)))
    (λ t. fan_meets G c d h k (L.one_fan c d h k (eqb-true _ _ t)))

degenerate_is : {faces : ℕ} {g : Gluing} → IsGluing faces g → (labels : List ℕ) (count : ℕ) (ends : List Bool) → IsLabelled faces g labels count ends → (f : ℕ) → f < faces → is_degenerate faces g f ≡ is_alike labels f
degenerate_is {faces} {g} G labels count ends L f h =
    let test : (j k : Place) → meets faces g (side f j) (side f k) ≡ (label_at labels (side f j) == label_at labels (side f k)) = λ j k. one_test G labels count ends L (side f j) (side f k) h h in
    ap (λ (t : Bool). t || meets faces g (side f second) (side f third) || meets faces g (side f third) (side f first)) (test first second)
    ∙ ap (λ (t : Bool). (label_at labels (side f first) == label_at labels (side f second)) || t || meets faces g (side f third) (side f first)) (test second third)
    ∙ ap (λ (t : Bool). (label_at labels (side f first) == label_at labels (side f second)) || (label_at labels (side f second) == label_at labels (side f third)) || t) (test third first)

-- the two searches find one face
pub first_degenerate_is : {faces : ℕ} {g : Gluing} → IsGluing faces g → (labels : List ℕ) (count : ℕ) (ends : List Bool) → IsLabelled faces g labels count ends → (n : ℕ) → n ≤ faces → first_degenerate faces g n ≡ first_alike labels n
unfolding first_degenerate first_alike
first_degenerate_is G labels count ends L zero h = refl
first_degenerate_is {faces} {g} G labels count ends L (suc n) h =
    ap (λ (o : Option ℕ). let x : Option ℕ = elim o [ Some f ↦ Some f | None ↦ cond (is_degenerate faces g n) (Some n) None ] in x) (first_degenerate_is G labels count ends L n (omega arith))
    ∙ ap (λ (t : Bool). let x : Option ℕ = elim (first_alike labels n) [ Some f ↦ Some f | None ↦ cond t (Some n) None ] in x) (degenerate_is G labels count ends L n (omega arith))
