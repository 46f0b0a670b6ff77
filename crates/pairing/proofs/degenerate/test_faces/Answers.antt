-- The first degenerate face, or that there is none.
use Rattle.std.proofs.Common.{ap, sym, ◌∙◌, arith}
use Rattle.drc_base.specs.declared.kinds.Kind.TheVariants.{Degenerate}
use Rattle.attr_heads.specs.FirstFault.{at_place}
use Rattle.pairing.specs.Degenerate.{is_degenerate_face}
use Rattle.pairing.proofs.Least.{least_is, least_is_none}
use Rattle.pairing.proofs.degenerate.test_faces.Goals as goal

pub returns-then-is_degenerate : goal.returns-then-is_degenerate
returns-then-is_degenerate c =
    let n = c.face_count-f-end.ensures.value in
    let t = c.loop-f-test.true in
    rw (c.new.ensures, c.from.ensures) (ap (at_place Degenerate) (least_is (is_degenerate_face c.args.m.now) _ c.loop-f.f (record {
      below = omega arith;
      passes_it = sym c.is_degenerate.ensures ∙ c.if-is_degenerate.true;
      first = c.loop-f.invariant;
    })))

pub returns : goal.returns
returns c =
    let n = c.face_count-f-end.ensures.value in
    let t = c.loop-f-test.false in
    ap (at_place Degenerate) (least_is_none (is_degenerate_face c.args.m.now) _ (λ j l. c.loop-f.invariant j (omega arith)))
