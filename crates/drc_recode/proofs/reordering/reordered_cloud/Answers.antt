-- A cloud with its points in another order is a cloud, and so it is made of its heads and its cells.
use Rattle.std.proofs.Common.{◌≡◌, Ok, refl, sym, ◌∙◌, ap, subst}
use Rattle.std.specs.Result.{IsOk}
use Rattle.attr_heads.specs.FirstFault.{answer_of}
use Rattle.mesh_model.specs.Parts.{IsCloud}
use Rattle.mesh_model.proofs.Made.{AreRows-cells_of, range_fault-cells_of, cloud_of-IsCloud}
use Rattle.drc_recode.specs.FirstOrder.{reordered}
use Rattle.drc_recode.proofs.FirstOrders.{reordered-cloud}
use Rattle.drc_recode.proofs.reordering.reordered_cloud.Goals.{After-of_typed}
use Rattle.drc_recode.proofs.reordering.reordered_cloud.Goals as goal

pub of_typed-requires-clause-rows : goal.of_typed-requires-clause-rows
of_typed-requires-clause-rows c =
    let n = reordered c.args.cloud.now c.args.rows.now in
    let is : IsCloud n = reordered-cloud c.args.cloud.now c.args.rows.now c.heads.ensures.sound c.requires in
    rw (c.in_ok-cells.ensures, c.in_ok-heads.ensures, c.heads.ensures.value) (AreRows-cells_of n.heads n.points is)

pub of_typed-requires-clause-typed : goal.of_typed-requires-clause-typed
of_typed-requires-clause-typed c =
    let n = reordered c.args.cloud.now c.args.rows.now in
    let is : IsCloud n = reordered-cloud c.args.cloud.now c.args.rows.now c.heads.ensures.sound c.requires in
    rw (c.in_ok-cells.ensures, c.in_ok-heads.ensures, c.heads.ensures.value) (range_fault-cells_of n.heads n.points is.heads_pass is.rows_fit)

-- what is made
made : (c : After-of_typed) → c.of_typed.result ≡ Ok (reordered c.args.cloud.now c.args.rows.now)
made c =
    let n = reordered c.args.cloud.now c.args.rows.now in
    let is : IsCloud n = reordered-cloud c.args.cloud.now c.args.rows.now c.heads.ensures.sound c.requires in
    c.of_typed.ensures
    ∙ rw (c.in_ok-cells.ensures, c.in_ok-heads.ensures, c.heads.ensures.value) (ap answer_of (cloud_of-IsCloud n is))

pub unwrap-requires : goal.unwrap-requires
unwrap-requires c = subst IsOk (sym (made (goal.at.unwrap-requires c).After-of_typed)) refl

pub returns : goal.returns
returns c = let e = c.unwrap.ensures in let f = made (goal.at.returns c).After-of_typed in cc
