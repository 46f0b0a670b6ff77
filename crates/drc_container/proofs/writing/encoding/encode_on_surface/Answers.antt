use Rattle.std.proofs.Common.{rules, ◌≡◌, false, true, sym, ◌∙◌, ap}
use Rattle.mesh_model.specs.Contents.{is_mesh}
use Rattle.drc_container.proofs.lemmas.choice.FirstRefusals.{cloud-sequential}
use Rattle.drc_container.proofs.lemmas.choice.SurfaceDue.{IsForSurface, some-face, is-due-coded}
use Rattle.drc_container.proofs.lemmas.writing.SurfaceMeans.{answer-means, answer-laid_out}
use Rattle.drc_container.proofs.writing.encoding.encode_on_surface.Goals as goal

pub encode_surface-requires : goal.encode_surface-requires
encode_surface-requires c =
    let for : IsForSurface c.args.g.now c.args.choice.now c.in-Mesh.mesh =
    record { mesh = c.in-Mesh.is; early = c.requires.early; off = c.requires.surface } in
    record { some = some-face c.args.g.now c.args.choice.now c.in-Mesh.mesh for }

pub returns-in_err-bytes-in-Mesh-clause-answer : goal.returns-in_err-bytes-in-Mesh-clause-answer
returns-in_err-bytes-in-Mesh-clause-answer c =
    let for : IsForSurface c.args.g.now c.args.choice.now c.in-Mesh.mesh =
    record { mesh = c.in-Mesh.is; early = c.requires.early; off = c.requires.surface } in
    let is = is-due-coded c.args.g.now c.args.choice.now c.in-Mesh.mesh c.coding_of.result for (rw c.view.ensures at c.coding_of.ensures) in
    rw is (search rules)

pub unreachable-requires : goal.unreachable-requires
unreachable-requires c =
    let on = cloud-sequential c.args.g.now c.args.choice.now c.requires.early (ap is_mesh c.in-Cloud.is) in
    let no : true ≡ false = sym on ∙ c.requires.surface in
    cc

pub returns-clause-answer : goal.returns-clause-answer
returns-clause-answer c =
    let for : IsForSurface c.args.g.now c.args.choice.now c.in-Mesh.mesh =
    record { mesh = c.in-Mesh.is; early = c.requires.early; off = c.requires.surface } in
    is-due-coded c.args.g.now c.args.choice.now c.in-Mesh.mesh c.coding_of.result for (rw c.view.ensures at c.coding_of.ensures) ∙ c.in_ok-bytes-in-Mesh.ensures.answer

pub returns-clause-means : goal.returns-clause-means
returns-clause-means c =
    let for : IsForSurface c.args.g.now c.args.choice.now c.in-Mesh.mesh =
    record { mesh = c.in-Mesh.is; early = c.requires.early; off = c.requires.surface } in
    answer-means c.args.g.now c.args.choice.now c.in-Mesh.mesh c.coding_of.result c.in_ok-bytes-in-Mesh.bytes.items c.in_ok-bytes-in-Mesh.rows for
    c.face_count-faces.ensures.sound (rw c.view.ensures at c.coding_of.ensures) c.in_ok-bytes-in-Mesh.ensures.answer c.in_ok-bytes-in-Mesh.ensures.can c.in_ok-bytes-in-Mesh.ensures.spelled

pub returns-clause-layout : goal.returns-clause-layout
returns-clause-layout c =
    let for : IsForSurface c.args.g.now c.args.choice.now c.in-Mesh.mesh =
    record { mesh = c.in-Mesh.is; early = c.requires.early; off = c.requires.surface } in
    answer-laid_out c.args.g.now c.args.choice.now c.in-Mesh.mesh c.coding_of.result c.in_ok-bytes-in-Mesh.bytes.items c.in_ok-bytes-in-Mesh.rows for
    c.face_count-faces.ensures.sound (rw c.view.ensures at c.coding_of.ensures) c.in_ok-bytes-in-Mesh.ensures.answer c.in_ok-bytes-in-Mesh.ensures.can c.in_ok-bytes-in-Mesh.ensures.spelled
