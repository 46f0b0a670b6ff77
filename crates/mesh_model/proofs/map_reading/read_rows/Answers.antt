use Rattle.std.proofs.Common.{◌+◌, ◌-◌, Err, drop, sym, ap, ◌∙◌, arith}
use Rattle.mesh_model.specs.MapRead.{rows_at}
use Rattle.mesh_model.specs.Same.{Rows}
use Rattle.mesh_model.proofs.MapReads.{with_front, rows-next, rows-fault, rows-end}
use Rattle.mesh_model.proofs.map_reading.read_rows.Goals as goal

pub returns-in-None : goal.returns-in-None
returns-in-None c =
    rows-fault c.args.count c.loop-i.i 2 (drop c.loop-i.at c.args.bytes.now) c.loop-i.rows.items _ c.loop-i.invariant.same c.loop-i-test.true c.in-None.ensures
    ∙ ap Err (sym c.new.ensures)

pub loop-i-preserved : goal.loop-i-preserved
loop-i-preserved c = record {
  inside = c.in-Some.ensures.1;
  same =
      ap (λ (front : Rows). with_front front (rows_at (c.args.count - (c.loop-i.i + 1)) (c.loop-i.i + 1 + 2) (drop c.in-Some.row.1 c.args.bytes.now))) c.in_ok-push-in-Some.ensures.items
      ∙ rows-next c.args.count c.loop-i.i 2 (drop c.loop-i.at c.args.bytes.now) (drop c.in-Some.row.1 c.args.bytes.now) c.loop-i.rows.items c.in-Some.row.0 _
      c.loop-i.invariant.same
      c.loop-i-test.true
      c.in-Some.ensures.0;
}

pub returns : goal.returns
returns c = (
  rows-end c.args.count c.loop-i.i 2 (drop c.loop-i.at c.args.bytes.now) c.loop-i.rows.items _ c.loop-i.invariant.same (omega arith),
  c.loop-i.invariant.inside,
)
