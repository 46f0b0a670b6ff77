use Rattle.std.proofs.lemmas.Bool.Decides.{same_from_decides}
use Rattle.attr_section.specs.WrittenSquares.{are_canonical}
use Rattle.attr_section.proofs.SpelledSquares.{canonical-tested}
use Rattle.attr_section.proofs.squared_writing.are_canonical.Goals as goal

pub returns : goal.returns
returns c =
    same_from_decides c.are_canonical.result (are_canonical c.args.square.centre c.args.values.now) c.are_canonical.ensures
    (canonical-tested c.args.square.centre c.args.values.now)
