use Rattle.std.proofs.Common.{◌≡◌, ℕ, ◌+◌, ◌-◌, ◌<◌, [], ◌∷◌, ◌++◌, reverse, sym, ap, ◌∙◌, subst, append_assoc}
use Rattle.drc_bits.specs.Digits.{digits}
use Rattle.kd_tree.specs.Trees.{high_bits}
use Rattle.kd_tree.specs.Walk.{AreDue, nodes_due, rests_due, splits_due}
use Rattle.kd_tree.specs.declared.writing.Due.{Due}
use Rattle.kd_tree.proofs.Walks.{parted, parts-due, parts-less, rests-more, splits-more, two-pushed, with_parts}
use Rattle.kd_tree.proofs.writing.branch.Goals as goal

pub lower_end-middle-requires-clause-parted : goal.lower_end-middle-requires-clause-parted
lower_end-middle-requires-clause-parted c = parted c.args.keys.now.depth c.args.keys.now.rows c.args.begin c.args.due (reverse c.args.stack.now.items) c.requires.deep c.requires.due

-- both parts of the box are on the stack
stacked : (c : goal.In_ok-push-2) → reverse c.push-2.new.self.items ≡ with_parts c.lower_end-middle.result c.args.due.end (c.args.due.depth + 1) (reverse c.args.stack.now.items)
stacked c =
    let low : Due = record { end = c.lower_end-middle.result; depth = c.args.due.depth + 1 } in
    let high : Due = record { end = c.args.due.end; depth = c.args.due.depth + 1 } in
    let both : c.push-2.new.self.items ≡ (c.args.stack.now.items ++ high ∷ []) ++ low ∷ [] = c.in_ok-push-2.ensures.items ∙ ap (λ xs. xs ++ low ∷ []) c.in_ok-push.ensures.items in
    ap reverse both ∙ two-pushed c.args.stack.now.items high low

pub returns-clause-due : goal.returns-clause-due
returns-clause-due c =
    subst (AreDue c.args.keys.now.depth c.args.keys.now.rows c.args.begin) (sym (stacked c))
    (parts-due c.args.keys.now.depth c.args.keys.now.rows c.args.begin c.args.due (reverse c.args.stack.now.items) c.lower_end-middle.result (c.requires.more, c.requires.deep, c.requires.due, c.lower_end-middle.ensures))

pub returns-clause-split : goal.returns-clause-split
returns-clause-split c =
    let middle : ℕ = c.lower_end-middle.result in
    let after = splits_due c.args.keys.now.depth c.args.keys.now.rows c.args.begin (with_parts middle c.args.due.end (c.args.due.depth + 1) (reverse c.args.stack.now.items)) in
    let number = high_bits (digits (c.args.due.end - c.args.begin)) (middle - c.args.begin) in
    let written : c.append_number.new.out.items ≡ c.args.split.now.items ++ number =
    c.in_ok-append_number.ensures ∙ ap (λ n. c.args.split.now.items ++ high_bits n (middle - c.args.begin)) c.digits_of.ensures.digits in
    ap (λ xs. c.append_number.new.out.items ++ splits_due c.args.keys.now.depth c.args.keys.now.rows c.args.begin xs) (stacked c)
    ∙ ap (λ xs. xs ++ after) written ∙ append_assoc c.args.split.now.items number after
    ∙ ap (λ xs. c.args.split.now.items ++ xs) (splits-more c.args.keys.now.depth c.args.keys.now.rows c.args.begin c.args.due (reverse c.args.stack.now.items) middle
    (c.requires.more, c.requires.deep, c.requires.due, c.lower_end-middle.ensures))

pub returns-clause-rest : goal.returns-clause-rest
returns-clause-rest c =
    ap (λ xs. rests_due c.args.keys.now.depth c.args.keys.now.rows c.args.begin xs) (stacked c)
    ∙ rests-more c.args.keys.now.depth c.args.keys.now.rows c.args.begin c.args.due (reverse c.args.stack.now.items) c.lower_end-middle.result
    (c.requires.more, c.requires.deep, c.requires.due, c.lower_end-middle.ensures)

pub returns-clause-fewer : goal.returns-clause-fewer
returns-clause-fewer c =
    subst (λ xs. nodes_due c.args.keys.now.depth xs < nodes_due c.args.keys.now.depth (c.args.due ∷ reverse c.args.stack.now.items)) (sym (stacked c))
    (parts-less c.args.keys.now.depth c.args.due (reverse c.args.stack.now.items) c.lower_end-middle.result c.requires.deep)
