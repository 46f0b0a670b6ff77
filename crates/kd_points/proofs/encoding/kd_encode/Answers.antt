use Rattle.std.proofs.Common.{ℕ, List, map, ap, sym, ◌∙◌, ◌++◌, subst}
use Rattle.mesh_model.specs.Same.{Rows}
use Rattle.kd_tree.specs.Order.{IsKdOrder}
use Rattle.kd_points.specs.Extents.{keys_of}
use Rattle.kd_points.specs.Rows.{KdMeans}
use Rattle.kd_points.specs.Written.{KdOrder}
use Rattle.kd_points.proofs.WrittenMeans.{written_means, written_rows}
use Rattle.kd_points.proofs.encoding.kd_encode.Goals as goal

pub returns-clause-rows : goal.returns-clause-rows
returns-clause-rows c =
    let rows : Rows = c.from_vec.result in
    let cloud = c.in_ok-cloud.cloud.now in
    let are = c.from_vec.ensures ∙ c.in_ok-rows.ensures ∙ ap (map (λ (p : ℕ). (p, 0))) c.as_slice.ensures.items in
    let ordered = subst (IsKdOrder (keys_of cloud)) (sym c.in_ok-file.ensures.order) c.in_ok-tree.ensures.order in
    let order : KdOrder cloud rows = record { order = c.in_ok-file.file.1; rows_are = are; ordered = ordered } in
    written_rows c.args.g.now cloud rows c.in_ok-cloud.ensures.fault.1 order

pub returns-clause-again : goal.returns-clause-again
returns-clause-again c = λ (more : List ℕ).
    let rows : Rows = c.from_vec.result in
    let cloud = c.in_ok-cloud.cloud.now in
    let are = c.from_vec.ensures ∙ c.in_ok-rows.ensures ∙ ap (map (λ (p : ℕ). (p, 0))) c.as_slice.ensures.items in
    let ordered = subst (IsKdOrder (keys_of cloud)) (sym c.in_ok-file.ensures.order) c.in_ok-tree.ensures.order in
    let order : KdOrder cloud rows = record { order = c.in_ok-file.file.1; rows_are = are; ordered = ordered } in
    subst (λ (bytes : List ℕ). KdMeans c.args.g.now (bytes ++ more) rows) (sym c.in_ok-file.ensures.file)
    (written_means c.args.g.now cloud rows more c.in_ok-cloud.ensures.fault.1 c.in_ok-cloud.ensures.sound c.in_ok-cloud.ensures.fault.0 c.in_ok-file.ensures.fields order)
