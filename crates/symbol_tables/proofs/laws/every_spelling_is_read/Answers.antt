use Rattle.symbol_tables.proofs.Entries.{entries-Spells, table-Spells, told}
use Rattle.symbol_tables.proofs.laws.every_spelling_is_read.Goals as goal

pub returns : goal.returns
returns c = record { read = entries-Spells; only = told; tables = table-Spells }
