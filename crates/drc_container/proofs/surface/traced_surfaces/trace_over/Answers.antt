use Rattle.std.proofs.Common.{ℕ, subst}
use Rattle.std.proofs.lemmas.Result.{err_from_is_err_and}
use Rattle.corner_table.specs.Table.{gluing_of}
use Rattle.eb_trace.specs.Writable.{IsWritable}
use Rattle.drc_container.specs.writing.WrittenOnSurface.{traced}
use Rattle.drc_container.specs.choice.Refused.{vertices_fault}
use Rattle.drc_container.proofs.lemmas.surface.Tracing.{traced-is, vertices-none, vertices-over, value-there, value-refused}
use Rattle.drc_container.proofs.surface.traced_surfaces.trace_over.Goals as goal

pub returns-in_err-unless-clause-trace : goal.returns-in_err-unless-clause-trace
returns-in_err-unless-clause-trace c =
    let m = c.args.mesh.now in
    let p = err_from_is_err_and c.from_residual-in_err-unless.result c.from_residual-in_err-unless.ensures.1 in
    let over = vertices-over m c.args.sides.now.faces c.in_ok-trace.trace.vertices c.from.result (gluing_of c.args.sides.now) c.in_err-unless.field-0.0
    c.requires.faces c.requires.pairs c.in_ok-trace.ensures.vertices c.from.ensures c.in_err-unless.ensures in
    rw (p.1, p.2) (value-refused (vertices_fault m) (traced m) c.in_err-unless.field-0.0 over)

pub returns-clause-trace : goal.returns-clause-trace
returns-clause-trace c =
    let m = c.args.mesh.now in
    let faces = c.args.sides.now.faces in
    let pairs = gluing_of c.args.sides.now in
    let t = c.in_ok-trace.trace in
    let e = c.in_ok-trace.ensures in
    let is = traced-is m faces pairs t c.requires.faces c.requires.pairs
    (record { symbols = e.symbols; events = e.events; starts = e.starts; order = e.order; vertices = e.vertices }) in
    let none = vertices-none m faces t.vertices _ pairs c.requires.faces c.requires.pairs e.vertices c.in_ok-unless.ensures in
    value-there (vertices_fault m) (traced m) t none is

pub returns-clause-writable : goal.returns-clause-writable
returns-clause-writable c =
    let t = c.in_ok-trace.trace in
    subst (λ (n : ℕ). IsWritable n t.vertices t.symbols t.events t.starts) c.requires.faces c.in_ok-trace.ensures.writable
