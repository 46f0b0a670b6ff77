use Rattle.std.proofs.Common.{◌+◌, ◌-◌, ◌*◌, ◌/◌, ◌∙◌, length, arith, rules}
use Rattle.symbol_coding.proofs.Widths.{lengths-next}
use Rattle.symbol_coding.proofs.costs.lengths_in.Goals as goal

pub loop-g-preserved : goal.loop-g-preserved
loop-g-preserved c = record {
  groups = lengths-next (length c.args.values.now / c.args.comps) c.loop-g.g c.args.comps (c.loop-g.g * c.args.comps + c.args.comps - c.loop-g.g * c.args.comps) c.length_of_group.result
      c.args.values.now c.loop-g.lengths.items c.push_reserved.new.self.items _ c.loop-g-test.true (omega arith) c.length_of_group.ensures c.push_reserved.ensures.items c.loop-g.invariant.groups;
  len = search rules;
  capacity = c.push_reserved.ensures.capacity ∙ c.loop-g.invariant.capacity;
}
