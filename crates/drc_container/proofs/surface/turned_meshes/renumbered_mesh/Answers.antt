-- A mesh under new numbers of its faces is a mesh, and so it is made of its heads, its cells and its faces.
use Rattle.std.proofs.Common.{◌≡◌, Ok, refl, sym, ◌∙◌, ap, subst}
use Rattle.std.specs.Result.{IsOk}
use Rattle.attr_heads.specs.FirstFault.{answer_of}
use Rattle.mesh_model.specs.Parts.{IsMesh}
use Rattle.mesh_model.specs.Renumbering.{renumbered}
use Rattle.mesh_model.proofs.Made.{AreRows-cells_of, range_fault-cells_of, mesh_of-IsMesh}
use Rattle.mesh_model.proofs.RenumberedMeshes.{renumbered-mesh}
use Rattle.drc_container.proofs.lemmas.surface.Decoded.{names-apart}
use Rattle.drc_container.proofs.surface.turned_meshes.renumbered_mesh.Goals.{After-of_typed}
use Rattle.drc_container.proofs.surface.turned_meshes.renumbered_mesh.Goals as goal

pub of_typed-requires-clause-rows : goal.of_typed-requires-clause-rows
of_typed-requires-clause-rows c =
    let m = c.args.mesh.now in
    rw (c.in_ok-cells.ensures, c.in_ok-heads.ensures, c.heads.ensures.value) (AreRows-cells_of m.heads m.points c.heads.ensures.sound.points)

pub of_typed-requires-clause-typed : goal.of_typed-requires-clause-typed
of_typed-requires-clause-typed c =
    let m = c.args.mesh.now in
    let are = c.heads.ensures.sound.points in
    rw (c.in_ok-cells.ensures, c.in_ok-heads.ensures, c.heads.ensures.value) (range_fault-cells_of m.heads m.points are.heads_pass are.rows_fit)

-- what is made
made : (c : After-of_typed) → c.of_typed.result ≡ Ok (renumbered c.args.mesh.now c.args.rows.now)
made c =
    let m = c.args.mesh.now in
    let rows = c.args.rows.now in
    let n = renumbered m rows in
    let is : IsMesh n = renumbered-mesh m rows c.heads.ensures.sound (names-apart _ rows c.requires) in
    c.of_typed.ensures
    ∙ rw (c.in_ok-cells.ensures, c.in_ok-heads.ensures, c.heads.ensures.value, c.in_ok-faces.ensures) (ap answer_of (mesh_of-IsMesh n is))

pub unwrap-requires : goal.unwrap-requires
unwrap-requires c = subst IsOk (sym (made (goal.at.unwrap-requires c).After-of_typed)) refl

pub returns : goal.returns
returns c = let e = c.unwrap.ensures in let f = made (goal.at.returns c).After-of_typed in cc
