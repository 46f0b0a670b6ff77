use Rattle.std.proofs.Common.{rules, FitsSigned, refl}
use Rattle.std.specs.Int.{w32}
use Rattle.std.proofs.lemmas.Int.{to_z-of_z}
use Rattle.texture_values.proofs.Putting.{two-put, small-put}
use Rattle.texture_values.proofs.corrected.put_correction.Goals as goal

pub returns-clause-put : goal.returns-clause-put
returns-clause-put c =
    let pu : FitsSigned w32 c.args.prediction.u = search rules in
    let pv : FitsSigned w32 c.args.prediction.v = search rules in
    let xu : FitsSigned w32 c.args.x.u = search rules in
    let xv : FitsSigned w32 c.args.x.v = search rules in
    let u : FitsSigned w32 c.correction-u.result = search rules in
    let v : FitsSigned w32 c.correction-v.result = search rules in
    two-put c.args.out.now.items c.push_reserved.new.self.items c.push_reserved-2.new.self.items c.correction-u.result c.correction-v.result _ _
    (simp to_z-of_z at c.push_reserved.ensures.items) (simp to_z-of_z at c.push_reserved-2.ensures.items)
    (simp to_z-of_z at c.correction-u.ensures.correction) (simp to_z-of_z at c.correction-v.ensures.correction)

pub returns-clause-small : goal.returns-clause-small
returns-clause-small c all =
    let u : FitsSigned w32 c.correction-u.result = search rules in
    let v : FitsSigned w32 c.correction-v.result = search rules in
    small-put c.args.wrap.now c.args.out.now.items c.push_reserved-2.new.self.items c.correction-u.result c.correction-v.result
    (two-put c.args.out.now.items c.push_reserved.new.self.items c.push_reserved-2.new.self.items c.correction-u.result c.correction-v.result
    c.correction-u.result c.correction-v.result
    (simp to_z-of_z at c.push_reserved.ensures.items) (simp to_z-of_z at c.push_reserved-2.ensures.items) refl refl)
    all (c.correction-u.ensures.least, c.correction-u.ensures.greatest) (c.correction-v.ensures.least, c.correction-v.ensures.greatest)
