use Rattle.std.proofs.Common.{rules, ◌<◌, FitsSigned, w32, ◌∙◌, arith}
use Rattle.std.proofs.lemmas.Int.{to_z-of_z}
use Rattle.predict.proofs.Entries.{before_later}
use Rattle.predict.proofs.parallelograms.from_before.Goals as goal

pub returns-else-e-eq0 : goal.returns-else-e-eq0
returns-else-e-eq0 c =
    let fits : FitsSigned w32 c.value_at.result = search rules in
    let later : 0 < c.args.e = omega arith in
    simp to_z-of_z (c.value_at.ensures ∙ before_later c.args.comps c.args.v.now c.args.e c.args.j c.requires.component later c.requires.within)
