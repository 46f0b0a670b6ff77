use Rattle.std.proofs.Common.{FitsSigned, w32, ◌-ℤ◌, negsuc}
use Rattle.std.proofs.lemmas.Int.{to_z-of_z}
use Rattle.predict.proofs.Corrections.{symbol_of-negative, symbol_of-other, complement_fits}
use Rattle.predict.proofs.symbols.symbol_of.Goals as goal

pub returns-then-x-lt0 : goal.returns-then-x-lt0
returns-then-x-lt0 c =
    let fits : FitsSigned w32 c.args.x = c.ranges.x in
    let rest_fits : FitsSigned w32 (negsuc 0 -ℤ c.args.x) = complement_fits c.args.x c.ranges.x in
    let test = simp to_z-of_z at c.if-x-lt0.true in
    simp to_z-of_z (symbol_of-negative c.args.x test)

pub returns-else-x-lt0 : goal.returns-else-x-lt0
returns-else-x-lt0 c =
    let fits : FitsSigned w32 c.args.x = c.ranges.x in
    let test = simp to_z-of_z at c.if-x-lt0.false in
    simp to_z-of_z (symbol_of-other c.args.x test)
