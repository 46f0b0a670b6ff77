-- Classes are bounded.
use Rattle.std.proofs.Common.{ℕ, get_or, ap, arith}
use Rattle.corner_table.specs.Sides.{side_at}
use Rattle.corner_table.specs.Table.{free_entry}
use Rattle.corner_table.proofs.Numbers.{number-side_at, face-lt}
use Rattle.walk_order.proofs.surface.Surface.class_of.Goals as goal

pub returns-clause-within : goal.returns-clause-within
returns-clause-within c =
    let b = c.requires.surface.labelled.bounded (side_at c.args.corner) (face-lt c.args.corner c.args.self.now.faces c.requires.corner) in
    let e = ap (λ (k : ℕ). get_or c.args.self.now.labels.now k free_entry) (number-side_at c.args.corner) in
    let r = c.entry_at.ensures in
    omega arith
