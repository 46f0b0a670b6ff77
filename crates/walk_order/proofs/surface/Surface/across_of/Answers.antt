-- What is found is a side of the surface.
use Rattle.std.proofs.Common.{ℕ, get_or, sym, ap, ◌∙◌}
use Rattle.corner_table.specs.Sides.{side_at}
use Rattle.corner_table.specs.Table.{other_at, free_entry}
use Rattle.corner_table.proofs.Numbers.{number-side_at}
use Rattle.walk_order.proofs.Surfaces.{other_some, found_within}
use Rattle.walk_order.proofs.surface.Surface.across_of.Goals as goal

pub returns-else-found-clause-within : goal.returns-else-found-clause-within
returns-else-found-clause-within c =
    found_within c.args.self.now.across.now c.requires.surface.gluing (side_at c.args.side) c.entry_at-found.result
    (ap other_at (ap (λ (k : ℕ). get_or c.args.self.now.across.now k free_entry) (number-side_at c.args.side) ∙ sym c.entry_at-found.ensures) ∙ other_some c.entry_at-found.result c.if-found.false)
