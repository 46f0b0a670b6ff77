use Rattle.kd_points.specs.Extents.{offset_of}
use Rattle.kd_points.proofs.Numbered.{next-fits, number-next}
use Rattle.kd_points.proofs.keys.key_number.Goals as goal

pub with_bit-number-requires : goal.with_bit-number-requires
with_bit-number-requires c = next-fits c.args.axes.now (offset_of c.args.extents.now c.args.row.now) c.loop-axis.axis-index c.loop-axis.number c.loop-axis-test.true c.requires.few c.loop-axis.invariant

pub loop-axis-preserved : goal.loop-axis-preserved
loop-axis-preserved c =
    number-next c.args.axes.now (offset_of c.args.extents.now c.args.row.now) c.loop-axis.axis-index c.loop-axis.number c.with_bit-number.result (record { component = 0; bit = 0 }) c.bit_along.result
    c.loop-axis-test.true c.bit_along.ensures c.loop-axis.invariant c.with_bit-number.ensures
