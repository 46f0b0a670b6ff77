use Rattle.std.proofs.Common.{◌≡◌, ◌+◌, ◌<◌, ◌≤◌, length, arith}
use Rattle.std.proofs.lemmas.Result.{IfOk-weaker}
use Rattle.ply_text.specs.declared.headers.Header.{Header}
use Rattle.ply_text.proofs.header_reader.header_from.Goals as goal

pub returns-then-is_end-clause-body : goal.returns-then-is_end-clause-body
returns-then-is_end-clause-body c =
    IfOk-weaker c.header_at.result (λ (h : Header). h.body_line ≡ c.loop-line.at + 1) (λ (h : Header). (2 < h.body_line) × (h.body_line ≤ length c.args.lines.now + 3)) (λ (h : Header) e. (omega arith, omega arith)) c.header_at.ensures.body
