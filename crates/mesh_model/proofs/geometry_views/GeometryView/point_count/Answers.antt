use Rattle.std.proofs.Common.{length, sym, ap, ◌∙◌}
use Rattle.mesh_model.specs.declared.geometries.Geometry.{Geometry}
use Rattle.mesh_model.specs.Contents.{points_in}
use Rattle.mesh_model.proofs.HeldRows.{length-held}
use Rattle.mesh_model.proofs.geometry_views.GeometryView.point_count.Goals as goal

pub returns-clause-count : goal.returns-clause-count
returns-clause-count c =
    sym (length-held _ _ _ _ _ c.self.invariant.0) ∙ ap (λ (g : Geometry). length (points_in g)) c.self.view_is
