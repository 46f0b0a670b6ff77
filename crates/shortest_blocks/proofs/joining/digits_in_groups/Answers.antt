use Rattle.std.proofs.Common.{◌+◌, ◌-◌, ◌*◌, ◌/◌, ◌∙◌, ap, length, arith, rules}
use Rattle.drc_bits.specs.Digits.{digits}
use Rattle.shortest_blocks.proofs.Joined.{digits-next}
use Rattle.shortest_blocks.proofs.joining.digits_in_groups.Goals as goal

pub loop-g-preserved : goal.loop-g-preserved
loop-g-preserved c = record {
  groups = digits-next (length c.args.values.now / c.args.comps) c.loop-g.g c.args.comps (c.loop-g.g * c.args.comps + c.args.comps - c.loop-g.g * c.args.comps) c.digits_of.result
      c.args.values.now c.loop-g.lengths.items c.push_reserved.new.self.items _ c.loop-g-test.true (omega arith) (c.digits_of.ensures.digits ∙ ap digits c.greatest_in.ensures)
      c.push_reserved.ensures.items c.loop-g.invariant.groups;
  len = search rules;
  capacity = c.push_reserved.ensures.capacity ∙ c.loop-g.invariant.capacity;
}
