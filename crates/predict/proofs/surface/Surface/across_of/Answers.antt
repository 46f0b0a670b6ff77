-- What is found is a side of the surface.
use Rattle.std.proofs.Common.{ℕ, get_or, sym, ap, ◌∙◌, arith}
use Rattle.corner_table.specs.Sides.{side_at}
use Rattle.corner_table.specs.Table.{free_entry}
use Rattle.corner_table.proofs.Numbers.{number-side_at}
use Rattle.corner_table.proofs.Across.{found_within}
use Rattle.predict.proofs.surface.Surface.across_of.Goals as goal

pub returns-else-found-clause-within : goal.returns-else-found-clause-within
returns-else-found-clause-within c =
    let s = c.args.self.now in
    let is = c.entry_or_free-found.ensures ∙ sym (ap (λ (n : ℕ). get_or s.across.now n free_entry) (number-side_at c.args.side)) in
    let below = found_within s.across.now c.requires.surface.fit.gluing (side_at c.args.side) c.entry_or_free-found.result is c.if-found.false in
    let whole = c.requires.surface.fit.whole in
    omega (arith, below, whole)
