-- What is written of a geometry means it by the rows of its cloud, whatever stands behind it.
use Rattle.std.proofs.Common.{◌≡◌, ℕ, ◌++◌, List, None, ap, sym, ◌∙◌, subst}
use Rattle.std.specs.List.{All}
use Rattle.mesh_model.specs.declared.geometries.Geometry.{Geometry}
use Rattle.mesh_model.specs.declared.geometries.Geometry.TheVariants.{Cloud}
use Rattle.mesh_model.specs.Parts.{CloudParts, IsCloud}
use Rattle.mesh_model.specs.Same.{Rows, Same}
use Rattle.kd_points.specs.Laws.{KdHeadFits}
use Rattle.kd_points.specs.Rows.{KdMeans, kd_rows}
use Rattle.kd_points.specs.Written.{KdOrder, cloud_in, kd_fault, kd_written}
use Rattle.kd_points.proofs.OneOrder.{one_order}
use Rattle.kd_points.proofs.ReadAgain.{file_again}

pub written_means : (g : Geometry) (c : CloudParts) (rows : Rows) (more : List ℕ) → g ≡ Cloud c → IsCloud c → kd_fault g ≡ None → All KdHeadFits c.heads
    → KdOrder c rows → KdMeans g (kd_written c ++ more) rows
written_means g c rows more is sound none fit order =
    let file = file_again c rows more sound (subst (λ x. kd_fault x ≡ None) is none) fit order in
    record { geometry = Cloud file.cloud; reads = file.reads; same = subst (λ x. Same x (Cloud file.cloud) rows) (sym is) file.same }

pub written_rows : (g : Geometry) (c : CloudParts) (rows : Rows) → g ≡ Cloud c → KdOrder c rows → rows ≡ kd_rows (cloud_in g)
written_rows g c rows is order = one_order c rows order ∙ ap (λ x. kd_rows (cloud_in x)) (sym is)
