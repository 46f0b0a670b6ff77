-- By the lower halves alone, or by the upper halves and then by the lower ones.
use Rattle.std.proofs.Common.{arith}
use Rattle.first_items.proofs.PairNumbers.{upper_small, lower_small, halves_first, lower_enough}
use Rattle.first_items.proofs.items.number_items.Goals as goal

pub bound_of-above-requires : goal.bound_of-above-requires
bound_of-above-requires c = rw (c.as_slice.ensures.value, c.in_ok-lower.ensures) (lower_small c.args.seconds.now)

pub bound_of-above_upper-requires : goal.bound_of-above_upper-requires
bound_of-above_upper-requires c = rw (c.as_slice-2.ensures.value, c.in_ok-upper.ensures) (upper_small c.args.seconds.now (λ y k. omega (arith, c.type_inv.seconds y)))

pub bound_of-above_lower-requires : goal.bound_of-above_lower-requires
bound_of-above_lower-requires c = rw (c.as_slice-3.ensures.value, c.in_ok-lower-2.ensures) (lower_small c.args.seconds.now)

pub returns-then-are_alike : goal.returns-then-are_alike
returns-then-are_alike c =
    lower_enough c.requires.same (c.are_alike.ensures.0 c.if-are_alike.true) (rw c.in_ok-lower.ensures at c.in_ok-numbers.ensures)

pub returns : goal.returns
returns c =
    halves_first c.requires.same (rw c.in_ok-upper.ensures at c.in_ok-halfway.ensures)
    (rw (c.as_slice-4.ensures.value, c.in_ok-lower-2.ensures) at c.in_ok-numbers-2.ensures)
