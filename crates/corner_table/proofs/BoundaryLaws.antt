-- The boundary is a permutation of the free sides, after a new face and after a gluing too.
use Rattle.std.proofs.Common.{◌≡◌, ◌≢◌, ℕ, cond, sym, ap, ◌∙◌}
use Rattle.std.proofs.lemmas.Bool.{cond-true, cond-false}
use Rattle.corner_table.specs.Sides.{Side, side, place_after, place_before, same, Gluing, glue, IsGluing, IsFree}
use Rattle.corner_table.specs.Fans.{side_before, side_after}
use Rattle.corner_table.specs.Laws.{past, neighbour_past, OneFollows, OneComesBefore, LinksAreInverse, NewFaceIsLoop, OthersStay, GluingTakesOut, NewLoopIsLinked, TakenOutIsLinked}
use Rattle.corner_table.proofs.Places.{same_refl, not_same, face_apart, after-after, before-before}
use Rattle.corner_table.proofs.Boundary.{side_after-follows, side_after_only, side_before-follows, side_before_only}
use Rattle.corner_table.proofs.LinkSteps.{after-before, before-after, NextCase, stays, over_first, over_second, past_second, past_first, after-glue, PrevCase, was_stays, was_over_first, was_over_second, was_past_second, was_past_first, before-glue}
use Rattle.corner_table.proofs.LinkLists.{relinked_linked}
use Rattle.corner_table.proofs.TableSteps.{after_more, before_more, new_after, new_before, new_loop_linked}

pub one_follows : OneFollows
one_follows faces g G a A = (side_after-follows G a A, λ b F. side_after_only G a b A F)

pub one_comes_before : OneComesBefore
one_comes_before faces g G a A = let f = side_before-follows G a A in (f.0, f.1, λ z Z F. side_before_only G z a Z F)

pub links_are_inverse : LinksAreInverse
links_are_inverse faces g G x X = (after-before G x X, before-after G x X)

pub new_face_is_loop : NewFaceIsLoop
new_face_is_loop faces g G k = (new_after G k (place_after k) (ap (side faces) (sym (after-after k))), new_before G (place_before k) k (ap (side faces) (before-before k)))

pub others_stay : OthersStay
others_stay faces g G x X = (after_more G x X, before_more G x X)

-- the neighbour of a side, read case by case
past_lone : (n : Side → Side) (a b : Side) → n b ≡ b → past n a b ≡ n a
past_lone n a b e = cond-true (same (n b) b) (n a) (n b) (ap (λ (z : Side). same z b) e ∙ same_refl b)

past_other : (n : Side → Side) (a b : Side) → n b ≢ b → past n a b ≡ n b
past_other n a b h = cond-false (same (n b) b) (n a) (n b) (not_same (n b) b h)

neighbour_first : (n : Side → Side) (a b x : Side) → n x ≡ a → neighbour_past n a b x ≡ past n a b
neighbour_first n a b x e = cond-true (same (n x) a) _ _ (ap (λ (z : Side). same z a) e ∙ same_refl a)

neighbour_else : (n : Side → Side) (a b x : Side) → n x ≢ a → neighbour_past n a b x ≡ cond (same (n x) b) (past n b a) (n x)
neighbour_else n a b x h = cond-false (same (n x) a) _ _ (not_same (n x) a h)

neighbour_second : (n : Side → Side) (a b x : Side) → a ≢ b → n x ≡ b → neighbour_past n a b x ≡ past n b a
neighbour_second n a b x ne e = neighbour_else n a b x (λ q. ne (sym q ∙ e)) ∙ cond-true (same (n x) b) _ _ (ap (λ (z : Side). same z b) e ∙ same_refl b)

neighbour_stays : (n : Side → Side) (a b x : Side) → n x ≢ a → n x ≢ b → neighbour_past n a b x ≡ n x
neighbour_stays n a b x h k = neighbour_else n a b x h ∙ cond-false (same (n x) b) _ _ (not_same (n x) b k)

-- a side that follows itself comes before itself
lone_before : {faces : ℕ} {g : Gluing} → IsGluing faces g → (z : Side) → IsFree faces g z → side_after faces g z ≡ z → side_before faces g z ≡ z
lone_before {faces} {g} G z Z e = ap (side_before faces g) (sym e) ∙ before-after G z Z

lone_after : {faces : ℕ} {g : Gluing} → IsGluing faces g → (z : Side) → IsFree faces g z → side_before faces g z ≡ z → side_after faces g z ≡ z
lone_after {faces} {g} G z Z e = ap (side_after faces g) (sym e) ∙ after-before G z Z

pub gluing_takes_out : GluingTakesOut
gluing_takes_out faces g a b G A B h x X = (after (after-glue G a b A B h x X), before (before-glue G a b A B h x X))
  where
    ne : a ≢ b
    ne = face_apart a b h

    after : NextCase faces g a b x (side_after faces (glue a b g) x) → side_after faces (glue a b g) x ≡ neighbour_past (side_after faces g) a b x
    after (stays p q e) = e ∙ sym (neighbour_stays (side_after faces g) a b x p q)
    after (over_first p q e) = e ∙ sym (neighbour_first (side_after faces g) a b x p ∙ past_other (side_after faces g) a b q)
    after (over_second p q e) = e ∙ sym (neighbour_second (side_after faces g) a b x ne p ∙ past_other (side_after faces g) b a q)
    after (past_second p q e) = e ∙ sym (neighbour_first (side_after faces g) a b x p ∙ past_lone (side_after faces g) a b q)
    after (past_first p q e) = e ∙ sym (neighbour_second (side_after faces g) a b x ne p ∙ past_lone (side_after faces g) b a q)

    before : PrevCase faces g a b x (side_before faces (glue a b g) x) → side_before faces (glue a b g) x ≡ neighbour_past (side_before faces g) a b x
    before (was_stays p q e) = e ∙ sym (neighbour_stays (side_before faces g) a b x p q)
    before (was_over_first p q e) = e ∙ sym (neighbour_second (side_before faces g) a b x ne p ∙ past_other (side_before faces g) b a (λ r. q (lone_after G a A r)))
    before (was_over_second p q e) = e ∙ sym (neighbour_first (side_before faces g) a b x p ∙ past_other (side_before faces g) a b (λ r. q (lone_after G b B r)))
    before (was_past_second p q e) = e ∙ sym (neighbour_first (side_before faces g) a b x p ∙ past_lone (side_before faces g) a b (lone_before G b B q))
    before (was_past_first p q e) = e ∙ sym (neighbour_second (side_before faces g) a b x ne p ∙ past_lone (side_before faces g) b a (lone_before G a A q))

pub new_loop_is_linked : NewLoopIsLinked
new_loop_is_linked faces g links L = new_loop_linked faces g links.0 links.1 L.gluing L.linked L.after_room L.before_room

pub taken_out_is_linked : TakenOutIsLinked
taken_out_is_linked faces g a b links L A B h =
    relinked_linked faces g a b links.0 links.1 (record { gluing = L.gluing; first_free = A; second_free = B; apart = h; linked = L.linked; room_after = L.after_room; room_before = L.before_room })
