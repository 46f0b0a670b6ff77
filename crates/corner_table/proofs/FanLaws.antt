-- The laws of swings, fans, gluings, prefixes and new numbers, as their contracts state them.
use Rattle.std.proofs.Common.{◌≡◌, ℕ, Some, None, ◌⊎◌, inl, inr, sym, ◌∙◌}
use Rattle.corner_table.specs.Sides.{IsFree}
use Rattle.corner_table.specs.Carried.{carry}
use Rattle.corner_table.proofs.Places.{option_tells}
use Rattle.corner_table.specs.Fans.{left_by, InFan}
use Rattle.corner_table.specs.Laws.{SwingsAreInverse, FansAreClasses, FanIsOneWalk, WalksEnd, GluingStays, FansStay, EndsMeet, PrefixIsGluing, SurroundedFillsGap, GapIsSurrounded, GapIsOneStep, FaceBringsItsPairs, GluingIsCarried, FansAreCarried, FreeIsCarried, BoundaryIsCarried, ThreeFansAreCarried, ProperIsCarried, TestFindsFan, TestFindsNoOther}
use Rattle.corner_table.proofs.Walks.{left_then_right, right_then_left, fan_sym, fan_trans, trail, to_leftmost, to_rightmost, left_by-fan}
use Rattle.corner_table.proofs.Gluings.{glued_is, fan_stays, ends_join, starts_join}
use Rattle.corner_table.proofs.Prefixing.{prefix_within, gap, gap_before, no_gap, prefix_more}
use Rattle.corner_table.proofs.Carrying.{carried_gluing, fans_carried, free_carried, after_carried, before_carried, three_fans_carried, proper_carried}
use Rattle.corner_table.proofs.Meeting.{fan_meets, meets-fan}

pub swings_inverse : SwingsAreInverse
swings_inverse faces g G c d = (left_then_right G c d, right_then_left G d c)

pub fans_are_classes : FansAreClasses
fans_are_classes faces g G = (λ c d p. fan_sym G p, λ c d e p q. fan_trans p q)

pub fan_is_one_walk : FanIsOneWalk
fan_is_one_walk faces g G c d = (λ p. trail G p, back)
  where
    back : (n : ℕ) × ((left_by g n c ≡ Some d) ⊎ (left_by g n d ≡ Some c)) → InFan g c d
    back w = elim w.1 [ inl p ↦ left_by-fan g w.0 c d p | inr p ↦ fan_sym G (left_by-fan g w.0 d c p) ]

pub walks_end : WalksEnd
walks_end faces g G c d p = (λ h. to_leftmost G p h, λ h. to_rightmost G p h)

pub gluing_stays : GluingStays
gluing_stays faces g a b G A B h = glued_is a b G A B h

pub fans_stay : FansStay
fans_stay faces g a b A B c d p = fan_stays a b A B p

pub ends_meet : EndsMeet
ends_meet g a b = (ends_join a b g, starts_join a b g)

pub surrounded_fills_gap : SurroundedFillsGap
surrounded_fills_gap faces g m c G h s = gap m c G h s

pub gap_is_surrounded : GapIsSurrounded
gap_is_surrounded faces g m c right left G h r l k p = no_gap m c right left G h r l k p

pub gap_is_one_step : GapIsOneStep
gap_is_one_step faces g m c right left G I = gap_before G m c right left I

pub prefix_is_gluing : PrefixIsGluing
prefix_is_gluing faces g m G = prefix_within m G

pub one_face_more : FaceBringsItsPairs
one_face_more faces g m G x y = prefix_more m G x y

pub gluing_is_carried : GluingIsCarried
gluing_is_carried faces g h rows G C = carried_gluing G C

pub fans_are_carried : FansAreCarried
fans_are_carried faces g h rows S c d k l = fans_carried S.gluing S.renumbering S.carried c d k l

pub free_is_carried : FreeIsCarried
free_is_carried faces g h rows S x w = (λ X. free_carried S.gluing S.renumbering S.carried x X, back)
  where
    back : IsFree faces g (carry rows x) → IsFree faces h x
    back X = record {
      within = w;
      free = elim (option_tells (h x)) [
        | inl n ↦ n
        | inr y ↦ absurd (
            let v = S.carried.within x y.0 y.1 in
            let no : None ≡ Some (carry rows y.0) = sym X.free ∙ (S.carried.pairs x y.0 v.0 v.1).0 y.1 in cc)
      ];
    }

pub boundary_is_carried : BoundaryIsCarried
boundary_is_carried faces g h rows S x X = (after_carried S.gluing S.renumbering S.carried x X, before_carried S.gluing S.renumbering S.carried x X)

pub three_fans_are_carried : ThreeFansAreCarried
three_fans_are_carried faces g h rows R C T = three_fans_carried R C T

pub proper_is_carried : ProperIsCarried
proper_is_carried faces g h rows R C P = proper_carried R C P

pub test_finds_fan : TestFindsFan
test_finds_fan faces g G c d h k p = fan_meets G c d h k p

pub test_finds_no_other : TestFindsNoOther
test_finds_no_other faces g c d e = meets-fan faces g c d e
