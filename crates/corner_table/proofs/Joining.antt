-- What one pair more makes of the fans: those that meet at its ends become one, and no others.
use Rattle.std.proofs.Common.{◌≡◌, ℕ, Some, sym, ap, ◌∙◌, subst}
use Rattle.corner_table.specs.Sides.{Side, next, prev, Gluing, glue, IsGluing, IsFree}
use Rattle.corner_table.specs.Fans.{InFan, here, leftwards, rightwards}
use Rattle.corner_table.specs.Laws.{IsJoined, kept, first_end, second_start, second_end, first_start, FansJoin, NoOthersJoin}
use Rattle.corner_table.proofs.Places.{Some_injective, next-prev, prev-next, glue_tells, at_first, at_second, elsewhere}
use Rattle.corner_table.proofs.Walks.{left_crosses, right_crosses, crosses-left, crosses-right, fan_trans, fan_sym}
use Rattle.corner_table.proofs.Gluings.{glued_is, fan_stays, ends_join, starts_join}

joined_more : {g : Gluing} {a b c d e : Side} → InFan g c d → IsJoined g a b d e → IsJoined g a b c e
joined_more p (kept q) = kept (fan_trans p q)
joined_more p (first_end q r) = first_end (fan_trans p q) r
joined_more p (second_start q r) = second_start (fan_trans p q) r
joined_more p (second_end q r) = second_end (fan_trans p q) r
joined_more p (first_start q r) = first_start (fan_trans p q) r

is_fan : {g : Gluing} (c d : Side) → c ≡ d → InFan g c d
is_fan {g} c d e = subst (InFan g c) e here

pub no_others_join : NoOthersJoin
no_others_join g a b c d here = kept here
no_others_join g a b c e (leftwards {d = d} s p) = go (no_others_join g a b d e p)
  where
    crossed : glue a b g (next c) ≡ Some (prev d)
    crossed = left_crosses (glue a b g) c d s

    go : IsJoined g a b d e → IsJoined g a b c e
    go j = elim (glue_tells a b (next c) g) [
      | at_first k q ↦ (
          let x : c ≡ prev a = sym (prev-next c) ∙ ap prev k in
          let y : d ≡ next b = sym (next-prev d) ∙ ap next (Some_injective _ _ (sym crossed ∙ q)) in
          first_end (is_fan c (prev a) x) (subst (λ (z : Side). IsJoined g a b z e) y j))
      | at_second l k q ↦ (
          let x : c ≡ prev b = sym (prev-next c) ∙ ap prev k in
          let y : d ≡ next a = sym (next-prev d) ∙ ap next (Some_injective _ _ (sym crossed ∙ q)) in
          second_end (is_fan c (prev b) x) (subst (λ (z : Side). IsJoined g a b z e) y j))
      | elsewhere k l q ↦ joined_more (leftwards (crosses-left g c d (sym q ∙ crossed)) here) j
    ]
no_others_join g a b c e (rightwards {d = d} s p) = go (no_others_join g a b d e p)
  where
    crossed : glue a b g (prev c) ≡ Some (next d)
    crossed = right_crosses (glue a b g) c d s

    go : IsJoined g a b d e → IsJoined g a b c e
    go j = elim (glue_tells a b (prev c) g) [
      | at_first k q ↦ (
          let x : c ≡ next a = sym (next-prev c) ∙ ap next k in
          let y : d ≡ prev b = sym (prev-next d) ∙ ap prev (Some_injective _ _ (sym crossed ∙ q)) in
          first_start (is_fan c (next a) x) (subst (λ (z : Side). IsJoined g a b z e) y j))
      | at_second l k q ↦ (
          let x : c ≡ next b = sym (next-prev c) ∙ ap next k in
          let y : d ≡ prev a = sym (prev-next d) ∙ ap prev (Some_injective _ _ (sym crossed ∙ q)) in
          second_start (is_fan c (next b) x) (subst (λ (z : Side). IsJoined g a b z e) y j))
      | elsewhere k l q ↦ joined_more (rightwards (crosses-right g c d (sym q ∙ crossed)) here) j
    ]

join : {faces : ℕ} {g : Gluing} (a b : Side) → IsGluing faces (glue a b g) → IsFree faces g a → IsFree faces g b → {c d : Side} → IsJoined g a b c d → InFan (glue a b g) c d
join a b G A B (kept p) = fan_stays a b A B p
join {faces} {g} a b G A B (first_end p q) = fan_trans (fan_stays a b A B p) (fan_trans (ends_join a b g) (join a b G A B q))
join {faces} {g} a b G A B (second_start p q) = fan_trans (fan_stays a b A B p) (fan_trans (fan_sym G (ends_join a b g)) (join a b G A B q))
join {faces} {g} a b G A B (second_end p q) = fan_trans (fan_stays a b A B p) (fan_trans (fan_sym G (starts_join a b g)) (join a b G A B q))
join {faces} {g} a b G A B (first_start p q) = fan_trans (fan_stays a b A B p) (fan_trans (starts_join a b g) (join a b G A B q))

pub fans_join : FansJoin
fans_join faces g a b G A B h c d j = join a b (glued_is a b G A B h) A B j
