use Rattle.std.proofs.Common.{◌≡◌, length, sym, ◌∙◌, ap, subst, map}
use Rattle.attr_heads.specs.Head.{row_bounds}
use Rattle.kd_points.specs.Extents.{row_within}
use Rattle.kd_points.specs.Meaning.{FirstOutside}
use Rattle.kd_points.proofs.Clouded.{length-row_bounds}
use Rattle.kd_points.proofs.points.points_within.Goals as goal

pub append_points-requires-clause-extents : goal.append_points-requires-clause-extents
append_points-requires-clause-extents c =
    let types : c.deref.result.now ≡ row_bounds c.args.heads.now = c.deref.ensures.value ∙ c.in_ok-row.ensures in
    c.requires.len ∙ sym (length-row_bounds c.args.heads.now) ∙ ap length (sym types)

pub append_points-requires-clause-offsets : goal.append_points-requires-clause-offsets
append_points-requires-clause-offsets c =
    let types : c.deref.result.now ≡ row_bounds c.args.heads.now = c.deref.ensures.value ∙ c.in_ok-row.ensures in
    c.deref_mut.ensures.len ∙ c.in_ok-offsets.ensures.len ∙ c.requires.len ∙ sym (length-row_bounds c.args.heads.now) ∙ ap length (sym types)

pub returns-clause-first : goal.returns-clause-first
returns-clause-first c =
    let types : c.deref.result.now ≡ row_bounds c.args.heads.now = c.deref.ensures.value ∙ c.in_ok-row.ensures in
    subst (λ l. FirstOutside l (map (row_within c.args.extents.now) c.args.keys.now.rows) c.in_ok-outside.outside) types c.in_ok-outside.ensures.first

pub returns-clause-cells : goal.returns-clause-cells
returns-clause-cells c = λ all.
    let types : c.deref.result.now ≡ row_bounds c.args.heads.now = c.deref.ensures.value ∙ c.in_ok-row.ensures in
    c.in_ok-outside.ensures.cells (all ∙ sym (length-row_bounds c.args.heads.now) ∙ ap length (sym types))
