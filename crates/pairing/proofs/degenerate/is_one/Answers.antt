-- Both say whether the rows are equal.
use Rattle.std.proofs.Common.{inl, inr, sym, ◌∙◌}
use Rattle.std.proofs.lemmas.Bool.{cases_Bool}
use Rattle.mesh_model.specs.Assembled.{same_row}
use Rattle.mesh_model.proofs.DistinctRows.{same_row-decides}
use Rattle.pairing.proofs.degenerate.is_one.Goals as goal

pub returns : goal.returns
returns c =
    let told = c.same_row.ensures in
    let is = same_row-decides c.args.p.now c.args.q.now in
    elim (cases_Bool c.same_row.result) [
      | inl y ↦ y ∙ sym (is.1 (told.0 y))
      | inr n ↦ elim (cases_Bool (same_row c.args.p.now c.args.q.now)) [
        | inl s ↦ told.1 (is.0 s) ∙ sym s
        | inr d ↦ n ∙ sym d
      ]
    ]
