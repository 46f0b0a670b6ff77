use Rattle.std.proofs.Common.{◌≡◌, ap, ◌∙◌, subst}
use Rattle.mesh_model.specs.IsGeometry.{IsGeometry}
use Rattle.drc_recode.specs.FirstOrder.{first_order}
use Rattle.drc_recode.proofs.Restorings.{restored-order}
use Rattle.drc_recode.proofs.restoring.restore.Goals as goal

pub returns-clause-order : goal.returns-clause-order
returns-clause-order c = λ g n reads same.
    let means = c.in_ok-read.ensures.meaning in
    let is : c.in_ok-read.read ≡ n = cc in
    let first = c.in_ok-first.ensures.first ∙ ap (first_order c.in_ok-read.read) c.as_slice-rows.ensures.items ∙ ap (λ m. first_order m c.args.map.now.rows.rows) is in
    restored-order c.same_is_an_equivalence.ensures.transitive c.the_first_order_comes_back.ensures.same g n c.in_ok-first.first c.args.map.now.rows.rows c.in_ok-bytes.bytes.items
    (subst IsGeometry is c.in_ok-first.ensures.sound) first same c.in_ok-bytes.ensures.order
