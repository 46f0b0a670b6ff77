use Rattle.std.proofs.Common.{List, ℤ, length, ap, subst, arith}
use Rattle.std.specs.Prelude.{IfOk}
use Rattle.mesh_model.specs.CountedRows.{LookedAt}
use Rattle.mesh_model.specs.Parts.{MeshParts, rows_of}
use Rattle.mesh_model.specs.RowNumbers.{AreFirstRows}
use Rattle.mesh_model.proofs.Made.{length-stored}
use Rattle.mesh_model.proofs.meshes.CornerMesh.first_points.Goals as goal

pub first_rows-requires-clause-few : goal.first_rows-requires-clause-few
first_rows-requires-clause-few c =
    let few = c.self.invariant.1.points.few_points in
    omega (arith, few, length-stored _ _ _ _ c.self.invariant.0, ap (λ (r : LookedAt). r.table.count) c.new-rows.ensures)

pub returns : goal.returns
returns c =
    let many = length-stored _ _ _ _ c.self.invariant.0 in
    let width = c.self.inside.width in
    let count = c.self.inside.count in
    let found = subst (λ (r : LookedAt). IfOk c.first_rows.result (λ numbers. AreFirstRows r.table.rows c.args.columns r.table.count numbers.items)) c.new-rows.ensures
    c.first_rows.ensures.numbers in
    subst (λ (m : MeshParts). IfOk c.first_rows.result (λ numbers. AreFirstRows m.points c.args.columns (length m.points) numbers.items)) c.self.view_is
    (rw many (subst (λ (cells : List ℤ). IfOk c.first_rows.result (λ numbers. AreFirstRows (rows_of width cells) c.args.columns count numbers.items)) c.as_slice.ensures.value found))
