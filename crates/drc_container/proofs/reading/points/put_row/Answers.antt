use Rattle.std.proofs.Common.{◌≡◌, ◌+◌, ◌*◌, ◌++◌, length, take, drop, sym, ◌∙◌, ap, append_assoc, append-nil}
use Rattle.drc_container.specs.Columns.{column_row}
use Rattle.drc_container.proofs.lemmas.reading.Rows.{columns, ColumnAt, ColumnAt-of, row_at-end, piece_within}
use Rattle.drc_container.proofs.reading.points.put_row.Goals as goal

pub put_piece-requires : goal.put_piece-requires
put_piece-requires c =
    let at : ColumnAt c.args.points c.args.heads.now c.args.values.now c.loop-k.k c.index-heads-k.result c.index-values-k.result c.args.i =
    ColumnAt-of _ _ _ _ _ _ _ c.loop-k.invariant.0 c.loop-k-test.true c.index-heads-k.is c.index-values-k.is in
    let long : length c.as_slice.result.now ≡ c.args.points * c.index-heads-k.result.comps =
    rw (c.as_slice.ensures.items, ← c.index-values-k.is) at.long in
    rw (← c.index-heads-k.is) (piece_within c.args.points c.args.i c.index-heads-k.result.comps (length c.as_slice.result.now) c.requires.point long)

pub loop-k-preserved : goal.loop-k-preserved
loop-k-preserved c =
    let at : ColumnAt c.args.points c.args.heads.now c.args.values.now c.loop-k.k c.index-heads-k.result c.index-values-k.result c.args.i =
    ColumnAt-of _ _ _ _ _ _ _ c.loop-k.invariant.0 c.loop-k-test.true c.index-heads-k.is c.index-values-k.is in (
      at.next,
      rw c.in_ok-put_piece.ensures (rw (← c.index-heads-k.is, c.as_slice.ensures.items, ← c.index-values-k.is)
          (append_assoc c.loop-k.cells.items (take c.index-heads-k.result.comps (drop (c.args.i * c.index-heads-k.result.comps) c.index-values-k.result.values)) (column_row (drop (c.loop-k.k + 1) c.args.heads.now) (columns (drop (c.loop-k.k + 1) c.args.values.now)) c.args.i)
          ∙ ap (λ r. c.loop-k.cells.items ++ r) (sym at.row)
          ∙ c.loop-k.invariant.1)),
    )

pub returns : goal.returns
returns c =
    sym (append-nil c.loop-k.cells.items)
    ∙ ap (λ r. c.loop-k.cells.items ++ r) (sym (row_at-end c.args.points c.args.heads.now c.args.values.now c.loop-k.k c.args.i c.loop-k-test.false))
    ∙ c.loop-k.invariant.1
