-- A surface of which no face is degenerate has three fans to a face.
use Rattle.std.proofs.Common.{◌≡◌, ℕ, zero, suc, ◌<◌, false, ◌||◌, cond, Option, None, Some, inl, inr, sym, ◌∙◌, ap, subst, arith}
use Rattle.std.proofs.lemmas.Bool.{cases_Bool, cases_lt, cond-true, false≢true, or_parts}
use Rattle.corner_table.specs.Sides.{Side, Place, first, second, third, side, place_after, next, Gluing, IsGluing}
use Rattle.corner_table.specs.Fans.{meets, HasThreeFans}
use Rattle.corner_table.proofs.Places.{option_tells}
use Rattle.corner_table.proofs.Meeting.{fan_meets}
use Rattle.eb_machine.specs.Machine.{is_degenerate, first_degenerate}

-- where no face is degenerate, each of them isn't
none-degenerate : (faces : ℕ) (g : Gluing) (n : ℕ) → first_degenerate faces g n ≡ None → (f : ℕ) → f < n → is_degenerate faces g f ≡ false
unfolding first_degenerate
none-degenerate faces g zero none f below = absurd (omega arith)
none-degenerate faces g (suc n) none f below =
    let last : Option ℕ → Option ℕ = λ o. elim o [ Some k ↦ Some k | None ↦ cond (is_degenerate faces g n) (Some n) None ] in
    elim (option_tells (first_degenerate faces g n)) [
      | inl before ↦ (
          let here : cond (is_degenerate faces g n) (Some n) None ≡ None = sym (ap last before) ∙ none in
          elim (cases_Bool (is_degenerate faces g n)) [
            | inl found ↦ (let some : Some n ≡ None = sym (cond-true (is_degenerate faces g n) (Some n) None found) ∙ here in absurd (cc))
            | inr missing ↦ elim (cases_lt f n) [
              | inl less ↦ none-degenerate faces g n before f less
              | inr more ↦ (let same : n ≡ f = omega arith in subst (λ k. is_degenerate faces g k ≡ false) same missing)
            ]
          ])
      | inr found ↦ (let some : Some found.0 ≡ None = sym (ap last found.1) ∙ none in absurd (cc))
    ]

-- a surface of which no face is degenerate has three fans to a face
pub three-fans : (faces : ℕ) (g : Gluing) → IsGluing faces g → first_degenerate faces g faces ≡ None → HasThreeFans faces g
three-fans faces g gluing none = record {
  at_next = λ c within fan.
      let one = meets faces g (side c.face first) (side c.face second) in
      let two = meets faces g (side c.face second) (side c.face third) in
      let three = meets faces g (side c.face third) (side c.face first) in
      let d = or_parts (one || two) three (none-degenerate faces g faces none c.face within) in
      let e = or_parts one two d.0 in
      false≢true (sym (apart (side c.face) e.0 e.1 d.1 c.place) ∙ fan_meets gluing c (next c) within within fan);
}
  where
    apart : (corner : Place → Side) → meets faces g (corner first) (corner second) ≡ false → meets faces g (corner second) (corner third) ≡ false
        → meets faces g (corner third) (corner first) ≡ false → (k : Place) → meets faces g (corner k) (corner (place_after k)) ≡ false
    apart corner a b d first = a
    apart corner a b d second = b
    apart corner a b d third = d
