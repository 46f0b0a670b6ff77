use Rattle.std.proofs.Common.{◌≡◌, ◌+◌, get_or, pos, sym, ap, ◌∙◌, rules, arith, w32, below_more}
use mir.Val.{SFits}
use Rattle.std.proofs.lemmas.Int.{to_z-of_z}
use Rattle.attr_heads.specs.Bounds.{in_bounds, no_bounds}
use Rattle.mesh_model.proofs.Ranges.{fits_at, fits_at-column, range_fault-none, range_fault-at}
use Rattle.mesh_model.proofs.row_rules.test_values.Goals as goal
use Rattle.mesh_model.proofs.row_rules.test_values.Goals.{then-column-width, else-column-width}

-- what the test of this cell answers is whether it is within its bounds
pub returns-then-not-hold : goal.returns-then-not-hold
returns-then-not-hold c =
    let heads = c.args.heads.now in
    let cells = c.args.cells.now in
    let i = c.loop-i.i in
    let bounds = c.column_bounds-bounds.result in
    let kept : SFits w32 (get_or cells i (pos 0)) = search rules in
    let here : fits_at heads cells i ≡ c.hold.result =
    fits_at-column heads cells bounds i c.loop-i.invariant.2.0 c.loop-i.column c.column_bounds-bounds.ensures (rw (← c.requires.width) c.loop-i.invariant.2.1) (omega arith)
    ∙ ap (in_bounds (get_or bounds c.loop-i.column no_bounds)) (sym (to_z-of_z w32 _ kept)) ∙ sym c.hold.ensures in
    rw c.new.ensures (range_fault-at heads cells i c.loop-i-test.true c.loop-i.invariant.0 (here ∙ c.if-not-hold.true))

pub loop-i-preserved : goal.loop-i-preserved
loop-i-preserved c =
    let heads = c.args.heads.now in
    let cells = c.args.cells.now in
    let i = c.loop-i.i in
    let r = c.loop-i.invariant.2.0 in
    let bounds = c.column_bounds-bounds.result in
    let kept : SFits w32 (get_or cells i (pos 0)) = search rules in
    let here : fits_at heads cells i ≡ c.hold.result =
    fits_at-column heads cells bounds i r c.loop-i.column c.column_bounds-bounds.ensures (rw (← c.requires.width) c.loop-i.invariant.2.1) (omega arith)
    ∙ ap (in_bounds (get_or bounds c.loop-i.column no_bounds)) (sym (to_z-of_z w32 _ kept)) ∙ sym c.hold.ensures in (
      below_more _ _ c.loop-i.invariant.0 (here ∙ c.if-not-hold.false),
      elim c.if-column-width.branch [ then-column-width w ↦ omega arith | else-column-width w ↦ omega arith ],
      elim c.if-column-width.branch [ then-column-width w ↦ (r + 1, omega arith) | else-column-width w ↦ (r, omega arith) ],
    )

pub returns : goal.returns
returns c = range_fault-none c.args.heads.now c.args.cells.now (λ k below. c.loop-i.invariant.0 k (omega arith))
