use Rattle.std.proofs.Common.{◌≡◌, ℕ, ◌+◌, List, [], ◌++◌, length, reverse, sym, ap, ◌∙◌, arith}
use Rattle.std.proofs.lemmas.List.{append-nil, nil_from_length}
use Rattle.kd_tree.specs.Trees.{rest_bits, split_bits}
use Rattle.kd_tree.specs.Walk.{rests_due, splits_due}
use Rattle.kd_tree.specs.declared.writing.Due.{Due}
use Rattle.kd_tree.proofs.Counts.{long-at, rest-few, split-few}
use Rattle.kd_tree.proofs.writing.write_tree.Goals as goal

pub returns-clause-few : goal.returns-clause-few
returns-clause-few c =
    let depth : ℕ = c.args.keys.now.depth in
    let keys = c.args.keys.now.rows in
    let none : c.loop-due.stack.items ≡ [] = nil_from_length c.loop-due.stack.items (omega (arith, c.in_default.ensures.cases)) in
    let split : c.loop-due.bits.split.items ≡ split_bits depth 0 keys =
    sym (append-nil c.loop-due.bits.split.items) ∙ ap (λ (xs : List Due). c.loop-due.bits.split.items ++ splits_due depth keys c.loop-due.begin (reverse xs)) (sym none) ∙ c.loop-due.invariant.split in
    let rest : c.loop-due.bits.rest.items ≡ rest_bits depth 0 keys =
    sym (append-nil c.loop-due.bits.rest.items) ∙ ap (λ (xs : List Due). c.loop-due.bits.rest.items ++ rests_due depth keys c.loop-due.begin (reverse xs)) (sym none) ∙ c.loop-due.invariant.rest in
    let a = split-few depth 0 keys in
    let b = rest-few depth 0 keys (long-at depth (0 + depth) keys (omega arith) c.len.ensures.each) in
    (omega (arith, a, ap length split), omega (arith, b, ap length rest))
