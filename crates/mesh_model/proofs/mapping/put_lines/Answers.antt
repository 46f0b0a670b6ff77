use Rattle.std.proofs.Common.{take, rules}
use Rattle.mesh_model.proofs.MapTexts.{lines_more}
use Rattle.mesh_model.proofs.mapping.put_lines.Goals as goal

pub loop-row-preserved : goal.loop-row-preserved
loop-row-preserved c =
    let held = c.loop-row.held in
    let from = c.in_ok-from.from in (
      lines_more c.args.out.now.items c.loop-row.out.items c.with_room.new.out.items (take held c.loop-row.chunk) (take from c.loop-row.chunk) (take c.put_row-held.result c.put_row-held.new.buf)
          c.args.rows.now c.loop-row.row-index c.loop-row-test.true c.loop-row.invariant.0 c.in_ok-from.ensures.text c.put_row-held.ensures.text,
      search rules,
    )
