use Rattle.std.proofs.Common.{◌∙◌, sym, rules}
use Rattle.symbol_tables.specs.Tables.{HasSymbol}
use Rattle.symbol_tables.proofs.Symbols.{symbol_of-is}
use Rattle.symbol_tables.proofs.table.Table.find.Goals as goal

pub returns-clause-only : goal.returns-clause-only
returns-clause-only c =
    let has : HasSymbol c.args.self.now c.args.r c.symbol.result = search rules in
    λ s h. sym (symbol_of-is c.args.self.now c.args.r s h) ∙ symbol_of-is c.args.self.now c.args.r c.symbol.result has
