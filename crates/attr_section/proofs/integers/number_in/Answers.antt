use Rattle.attr_section.proofs.PlainValues.{number-there}
use Rattle.attr_section.proofs.integers.number_in.Goals as goal

pub returns : goal.returns
returns c =
    number-there c.args.width c.args.at c.number_of.result c.args.bytes.now c.piece.result.now c.requires.there c.piece.ensures.piece c.number_of.ensures
