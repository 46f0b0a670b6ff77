use Rattle.std.proofs.Common.{true, false}
use Rattle.octahedral_values.proofs.Correcting.{corrected_at, kept_is, turned_is}
use Rattle.octahedral_values.proofs.normals.chosen.Goals as goal

pub returns-then-size-clause-flip : goal.returns-then-size-clause-flip
returns-then-size-clause-flip c =
    kept_is c.args.square.centre c.args.sum c.args.value c.correction_of-ahead.result c.correction_of-opposite.result c.size.result c.size-2.result
    (corrected_at c.args.square.centre c.args.sum c.direction_of-v.result false c.directed_value.result c.args.value c.correction_of-ahead.result
    c.direction_of-v.ensures.value c.directed_value.ensures.value c.correction_of-ahead.ensures.correction)
    (corrected_at c.args.square.centre c.args.sum c.direction_of-v.result true c.directed_value-2.result c.args.value c.correction_of-opposite.result
    c.direction_of-v.ensures.value c.directed_value-2.ensures.value c.correction_of-opposite.ensures.correction)
    c.size.ensures.size c.size-2.ensures.size c.if-size.true

pub returns-else-size-clause-flip : goal.returns-else-size-clause-flip
returns-else-size-clause-flip c =
    turned_is c.args.square.centre c.args.sum c.args.value c.correction_of-ahead.result c.correction_of-opposite.result c.size.result c.size-2.result
    (corrected_at c.args.square.centre c.args.sum c.direction_of-v.result false c.directed_value.result c.args.value c.correction_of-ahead.result
    c.direction_of-v.ensures.value c.directed_value.ensures.value c.correction_of-ahead.ensures.correction)
    (corrected_at c.args.square.centre c.args.sum c.direction_of-v.result true c.directed_value-2.result c.args.value c.correction_of-opposite.result
    c.direction_of-v.ensures.value c.directed_value-2.ensures.value c.correction_of-opposite.ensures.correction)
    c.size.ensures.size c.size-2.ensures.size c.if-size.false
