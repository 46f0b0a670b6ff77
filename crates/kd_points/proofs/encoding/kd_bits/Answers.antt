use Rattle.std.proofs.Common.{length, Ok, sym, ◌∙◌, ap}
use Rattle.kd_points.proofs.Counting.{counts_due}
use Rattle.kd_points.proofs.encoding.kd_bits.Goals as goal

pub returns-clause-counts : goal.returns-clause-counts
returns-clause-counts c =
    let split = c.in_ok-bits.bits.split in
    let rest = c.in_ok-bits.bits.rest in
    let due = counts_due c.args.g.now c.in_ok-given.given.now split rest c.in_ok-given.ensures.fault.0 c.in_ok-given.ensures.fault.1 c.in_ok-bits.ensures.split c.in_ok-bits.ensures.rest in
    due ∙ ap (λ n. Ok (n, length rest)) (sym c.len.ensures) ∙ ap (λ n. Ok (c.len.result, n)) (sym c.len-2.ensures)
