use Rattle.ply_text.proofs.Cutting.{cuts_line, ends_line}
use Rattle.std.proofs.Common.{arith}
use Rattle.ply_text.proofs.line_reader.line_end.Goals as goal

pub returns-then-text-i-eq10-clause-first : goal.returns-then-text-i-eq10-clause-first
returns-then-text-i-eq10-clause-first c = λ below. cuts_line c.args.text.now c.loop-i.i below c.loop-i.invariant c.if-text-i-eq10.true

pub returns-clause-last : goal.returns-clause-last
returns-clause-last c = λ all long. ends_line c.args.text.now c.loop-i.i (omega arith) c.loop-i.invariant long
