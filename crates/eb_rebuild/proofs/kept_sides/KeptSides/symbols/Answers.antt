-- All symbols have an entry.
use Rattle.std.proofs.Common.{length, sym, ap, ◌∙◌}
use Rattle.eb_rebuild.specs.Kept.{KeptValue}
use Rattle.eb_rebuild.proofs.Spread.{length-spread}
use Rattle.eb_rebuild.proofs.kept_sides.KeptSides.symbols.Goals as goal

pub returns : goal.returns
returns c = sym (length-spread c.self.inside.symbols c.self.inside.numbers.items c.self.inside.sides.items) ∙ ap (λ (v : KeptValue). length v.sides) c.self.view_is
