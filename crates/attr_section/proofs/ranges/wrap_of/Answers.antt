use Rattle.std.proofs.Common.{FitsSigned, w32}
use Rattle.std.proofs.lemmas.Int.{to_z-of_z}
use Rattle.attr_section.proofs.ranges.wrap_of.Goals as goal

pub unwrap-requires : goal.unwrap-requires
unwrap-requires c =
    let low : FitsSigned w32 c.args.low = c.ranges.low in
    let high : FitsSigned w32 c.args.high = c.ranges.high in
    c.new.ensures.exact.1 (simp to_z-of_z c.requires)

pub returns : goal.returns
returns c =
    let low : FitsSigned w32 c.args.low = c.ranges.low in
    let high : FitsSigned w32 c.args.high = c.ranges.high in
    simp to_z-of_z at (rw c.unwrap.ensures at c.new.ensures.range)
