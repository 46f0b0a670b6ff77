-- a profile of the limits of decoding accepts each mesh that is assembled
use Rattle.std.proofs.Common.{◌≡◌, Err, sym, ◌∙◌, ap, subst}
use Rattle.drc_base.specs.Refusals.{Refuses}
use Rattle.mesh_model.specs.Assembled.{assembled}
use Rattle.mesh_model.specs.Groups.{group_tables}
use Rattle.drc_container.specs.reading.OnSurface.{at_end}
use Rattle.drc_container.proofs.lemmas.reading.ProfileCounts.{assembled-all}
use Rattle.drc_container.proofs.reading.edgebreaker.assemble_at.Goals as goal

pub returns-in-Ok : goal.returns-in-Ok
returns-in-Ok c = ap (at_end c.args.end) (assembled-all c.args._profile.number c.args.heads.items (group_tables c.args.groups.now) c.args.faces ∙ c.in-Ok.ensures.answer)

pub returns-in-Err-Fault : goal.returns-in-Err-Fault
returns-in-Err-Fault c =
    let tables = group_tables c.args.groups.now in
    let made = assembled c.args.heads.items tables c.args.faces in
    let fault : made ≡ Err c.in-Err-Fault.fault = subst (Refuses made) c.in-Err-Fault.field-0-is c.in-Err-Fault.ensures.answer in
    ap (at_end c.args.end) (assembled-all c.args._profile.number c.args.heads.items tables c.args.faces ∙ fault) ∙ ap Err (sym c.new.ensures)
