use Rattle.std.proofs.Common.{◌≡◌, Ok, rules}
use Rattle.mesh_model.specs.Assembled.{assembled}
use Rattle.mesh_model.specs.Groups.{group_tables}
use Rattle.mesh_model.proofs.AssembledLaws.{assembled-apart, assembled-corners}
use Rattle.mesh_model.proofs.assembling.assemble.Goals as goal

pub returns-clause-distinct : goal.returns-clause-distinct
returns-clause-distinct c =
    let at : assembled c.args.heads.items (group_tables c.args.groups.now) c.args.faces ≡ Ok c.from_rows.result = search rules in
    assembled-apart c.args.heads.items (group_tables c.args.groups.now) c.args.faces c.from_rows.result at

pub returns-clause-corners : goal.returns-clause-corners
returns-clause-corners c =
    let at : assembled c.args.heads.items (group_tables c.args.groups.now) c.args.faces ≡ Ok c.from_rows.result = search rules in
    assembled-corners c.args.heads.items (group_tables c.args.groups.now) c.args.faces c.from_rows.result at
