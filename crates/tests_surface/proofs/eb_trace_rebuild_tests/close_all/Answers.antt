-- Fewer sides wait, and the plan and the faces stay.
use Rattle.std.proofs.Common.{ap, arith}
use Rattle.eb_machine.specs.Machine.{Plan}
use Rattle.eb_machine.proofs.Counts.{close_shorter}
use Rattle.tests_surface.proofs.eb_trace_rebuild_tests.close_all.Goals as goal

pub closing-smaller : goal.closing-smaller
closing-smaller g c =
    let some = c.closing-test.true in
    let p = c.pending.ensures in
    let k = close_shorter _ _ (g.R.Rebuild.state c.closing.machine) (g.R.Rebuild.state c.close.new.self) c.in-Ok.ensures.moves.0 (omega arith) in
    k.0

pub closing-preserved : goal.closing-preserved
closing-preserved g c =
    let some = c.closing-test.true in
    let p = c.pending.ensures in
    let k = close_shorter _ _ (g.R.Rebuild.state c.closing.machine) (g.R.Rebuild.state c.close.new.self) c.in-Ok.ensures.moves.0 (omega arith) in
    let n = ap (λ (q : Plan). q.symbols) c.in-Ok.ensures.plan in
    let more = k.1 in
    let i = c.closing.invariant.0 in
    let f = ap (λ (q : Plan). q.faces) c.in-Ok.ensures.plan in
    let r = c.in-Ok.ensures.room in
    let wide = c.closing.invariant.2 in
    (omega arith, c.in-Ok.ensures.moves.1, omega arith)
