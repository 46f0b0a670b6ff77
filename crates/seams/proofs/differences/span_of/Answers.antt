-- The heads before an attribute, and its own, are no wider than all.
use Rattle.std.proofs.Common.{◌≡◌, ◌+◌, ◌-◌, take, drop, arith}
use Rattle.attr_heads.specs.Head.{width_of}
use Rattle.seams.proofs.Values.{width_part}
use Rattle.seams.proofs.differences.span_of.Goals as goal

pub width_of-requires : goal.width_of-requires
width_of-requires c =
    let e : c.args.attr + 1 - c.args.attr ≡ 1 = omega arith in
    let p = width_part c.args.m.now.heads c.args.attr in
    let v = c.width-width.ensures.value in
    let b = c.width-width.ensures.bounds.1 in
    rw (e, c.heads-heads.ensures.value) (omega arith)

pub overflow_add-result : goal.overflow_add-result
overflow_add-result c =
    let e : c.args.attr + 1 - c.args.attr ≡ 1 = omega arith in
    let p = width_part c.args.m.now.heads c.args.attr in
    let v = c.width-width.ensures.value in
    let b = c.width-width.ensures.bounds.1 in
    let one : c.width_of-start.result ≡ width_of (take c.args.attr c.args.m.now.heads) = rw c.heads-heads.ensures.value at c.width_of-start.ensures in
    let other : c.width_of.result ≡ width_of (take 1 (drop c.args.attr c.args.m.now.heads)) = rw (e, c.heads-heads.ensures.value) at c.width_of.ensures in
    omega arith

pub returns-clause-within : goal.returns-clause-within
returns-clause-within c =
    let e : c.args.attr + 1 - c.args.attr ≡ 1 = omega arith in
    let p = width_part c.args.m.now.heads c.args.attr in
    let one : c.width_of-start.result ≡ width_of (take c.args.attr c.args.m.now.heads) = rw c.heads-heads.ensures.value at c.width_of-start.ensures in
    let other : c.width_of.result ≡ width_of (take 1 (drop c.args.attr c.args.m.now.heads)) = rw (e, c.heads-heads.ensures.value) at c.width_of.ensures in
    omega arith
