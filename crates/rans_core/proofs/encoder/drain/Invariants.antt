use Rattle.std.proofs.Common.{◌≡◌, ◌+◌, ◌-◌, ◌*◌, ◌≤◌, reverse, vec_len, vec_capacity}
use Rattle.rans_core.specs.Coder.{drained}
use Rattle.rans_core.proofs.encoder.drain.Given as goal

abbrev pub invariant-loop : goal.invariant-loop
invariant-loop l = (drained (4 - l.counter) (256 * (4 * l.prob)) l.rest (reverse l.bytes.items) ≡ drained 4 (256 * (4 * l.prob)) l.number (reverse l.fn.bytes.items))
    × (vec_len l.bytes + (4 - l.counter) ≤ vec_capacity l.bytes)
