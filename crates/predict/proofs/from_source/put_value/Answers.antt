use Rattle.std.proofs.Common.{rules, FitsSigned, w32}
use Rattle.std.proofs.lemmas.Int.{to_z-of_z}
use Rattle.predict.proofs.Puts.{behind_more}
use Rattle.predict.proofs.from_source.put_value.Goals as goal

pub returns-clause-values : goal.returns-clause-values
returns-clause-values g c =
    let foretold_fits : FitsSigned w32 c.args.foretold = c.ranges.foretold in
    let next_fits : FitsSigned w32 c.next.result = search rules in
    let value_fits : FitsSigned w32 c.restored-value.result = search rules in
    let is = simp to_z-of_z at c.restored-value.ensures in
    let push = simp to_z-of_z at c.push_reserved.ensures.items in
    λ f told. behind_more f c.args.w.now c.args.values.now.items c.push_reserved.new.self.items (g.C.CorrectionSource.left c.args.source.now) (g.C.CorrectionSource.left c.next.new.self)
    c.args.foretold c.next.result c.restored-value.result told is push c.next.ensures
