use Rattle.std.proofs.Common.{◌≡◌, length, subst, arith}
use Rattle.mesh_model.specs.declared.geometries.Geometry.{Geometry}
use Rattle.mesh_model.specs.Contents.{points_in}
use Rattle.mesh_model.proofs.HeldRows.{length-held}
use Rattle.mesh_model.proofs.geometry_views.GeometryView.point.Goals as goal

pub stored_row-requires-clause-below : goal.stored_row-requires-clause-below
stored_row-requires-clause-below c =
    let many : length (points_in c.args.self.now) ≡ c.self.inside.count =
    subst (λ (g : Geometry). length (points_in g) ≡ c.self.inside.count) c.self.view_is (length-held _ _ _ _ _ c.self.invariant.0) in
    omega (arith, c.requires, many)
