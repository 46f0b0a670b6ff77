use Rattle.std.proofs.Common.{arith}
use Rattle.drc_gen.specs.Draws.{state_after}
use Rattle.drc_gen.proofs.Walks.{state-more, cells-more, cells-all}
use Rattle.drc_gen.proofs.points.make_points.Goals as goal

pub loop-k-init : goal.loop-k-init
unfolding state_after
loop-k-init c = record { made = c.in_ok-cells.ensures.items; drawn = c.new-draws.ensures }

pub loop-k-preserved : goal.loop-k-preserved
loop-k-preserved c =
    let before = c.loop-k.draws.state in
    let after = c.next-drawn.new.self.state in
    let so_far = c.loop-k.invariant in
    let next = c.next-drawn.ensures in
    record {
      made = cells-more c.args.kind c.args.size c.args.seed c.loop-k.k before after c.next-drawn.result c.loop-k.cells.items _ c.in_ok-put_points.ensures so_far.made so_far.drawn next.state next.value;
      drawn = state-more c.args.seed c.loop-k.k before after so_far.drawn next.state;
    }

pub returns : goal.returns
returns c =
    cells-all c.args.kind c.args.size c.args.seed c.loop-k.k c.count_draws-turns.result c.loop-k.cells.items
    c.loop-k.invariant.made (omega arith) c.count_draws-turns.ensures.exact
