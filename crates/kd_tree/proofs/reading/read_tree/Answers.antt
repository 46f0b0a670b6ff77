use Rattle.std.proofs.Common.{ap}
use Rattle.kd_tree.specs.Keys.{KeyRows}
use Rattle.kd_tree.proofs.Turns.{begins-next}
use Rattle.kd_tree.proofs.reading.read_tree.Goals as goal

pub loop-next-init : goal.loop-next-init
loop-next-init c = record {
  due = begins-next c.args.fault c.args.depth c.args.count (record { split = c.args.split.now; rest = c.args.rest.now }) c.new-path.result.items c.new-stack.result.items c.new-out.result
      c.new-path.ensures.items c.new-stack.ensures.items c.new-out.ensures;
  depth = ap (λ (x : KeyRows). x.depth) c.new-out.ensures;
}
