-- Two writes glue two sides, by their numbers.
use Rattle.std.proofs.Common.{sym, ap, ◌∙◌, arith}
use Rattle.corner_table.specs.Sides.{side_at, number}
use Rattle.corner_table.proofs.Numbers.{number-side_at, face-lt}
use Rattle.corner_table.proofs.TableSteps.{glued_in-set}
use Rattle.pairing.proofs.surfaces.note_pair.Goals as goal

pub returns-clause-glued : goal.returns-clause-glued
returns-clause-glued c =
    let R = c.requires in
    rw (number-side_at c.args.x, number-side_at c.args.y) at
    (glued_in-set c.args.pairs.now.items (side_at c.args.x) (side_at c.args.y) c.args.faces (face-lt c.args.x c.args.faces R.first) (face-lt c.args.y c.args.faces R.second)
    (λ e. R.apart (sym (number-side_at c.args.x) ∙ ap number e ∙ number-side_at c.args.y)) (omega arith) (omega arith))
