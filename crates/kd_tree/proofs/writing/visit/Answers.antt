use Rattle.std.proofs.Common.{◌++◌, reverse, drop, ap, ◌∙◌, arith, append_assoc}
use Rattle.kd_tree.specs.Keys.{key_at}
use Rattle.kd_tree.specs.Walk.{rests_due}
use Rattle.kd_tree.proofs.Walks.{nodes-end, rests-last, rests-none, rests-one, splits-few, splits-last}
use Rattle.kd_tree.proofs.writing.visit.Goals as goal

pub returns-then-due-begin-clause-split : goal.returns-then-due-begin-clause-split
returns-then-due-begin-clause-split c =
    ap (λ xs. c.args.bits.now.split.items ++ xs) (splits-few c.args.keys.now.depth c.args.keys.now.rows c.args.begin c.args.due (reverse c.args.stack.now.items) c.requires.due.0 c.requires.due.1 (omega (arith, c.if-due-begin.true)))

pub returns-then-due-begin-clause-rest : goal.returns-then-due-begin-clause-rest
returns-then-due-begin-clause-rest c =
    ap (λ xs. c.args.bits.now.rest.items ++ xs) (rests-none c.args.keys.now.depth c.args.keys.now.rows c.args.begin c.args.due (reverse c.args.stack.now.items) c.if-due-begin.true c.requires.due.1)

pub returns-then-due-begin-clause-fewer : goal.returns-then-due-begin-clause-fewer
returns-then-due-begin-clause-fewer c = nodes-end c.args.keys.now.depth c.args.due (reverse c.args.stack.now.items)

pub returns-then-due-depth-clause-split : goal.returns-then-due-depth-clause-split
returns-then-due-depth-clause-split c =
    ap (λ xs. c.args.bits.now.split.items ++ xs) (splits-last c.args.keys.now.depth c.args.keys.now.rows c.args.begin c.args.due (reverse c.args.stack.now.items) (c.if-due-depth.true ∙ c.depth.ensures))

pub returns-then-due-depth-clause-rest : goal.returns-then-due-depth-clause-rest
returns-then-due-depth-clause-rest c =
    ap (λ xs. c.args.bits.now.rest.items ++ xs) (rests-last c.args.keys.now.depth c.args.keys.now.rows c.args.begin c.args.due (reverse c.args.stack.now.items) (c.if-due-depth.true ∙ c.depth.ensures))

pub returns-then-due-depth-clause-fewer : goal.returns-then-due-depth-clause-fewer
returns-then-due-depth-clause-fewer c = nodes-end c.args.keys.now.depth c.args.due (reverse c.args.stack.now.items)

pub returns-then-due-begin-eq1-clause-split : goal.returns-then-due-begin-eq1-clause-split
returns-then-due-begin-eq1-clause-split c =
    ap (λ xs. c.args.bits.now.split.items ++ xs) (splits-few c.args.keys.now.depth c.args.keys.now.rows c.args.begin c.args.due (reverse c.args.stack.now.items) c.requires.due.0 c.requires.due.1 (omega (arith, c.if-due-begin-eq1.true)))

pub returns-then-due-begin-eq1-clause-rest : goal.returns-then-due-begin-eq1-clause-rest
returns-then-due-begin-eq1-clause-rest c =
    let after = rests_due c.args.keys.now.depth c.args.keys.now.rows c.args.due.end (reverse c.args.stack.now.items) in
    let key = drop c.args.due.depth (key_at c.args.keys.now.rows c.args.begin) in
    ap (λ xs. xs ++ after) c.in_ok-append_rest.ensures ∙ append_assoc c.args.bits.now.rest.items key after
    ∙ ap (λ xs. c.args.bits.now.rest.items ++ xs) (rests-one c.args.keys.now.depth c.args.keys.now.rows c.args.begin c.args.due (reverse c.args.stack.now.items)
    (omega (arith, c.if-due-begin-eq1.true, c.requires.due)) c.requires.due.1 (omega (arith, c.requires.due, c.if-due-depth.false, c.depth.ensures)))

pub returns-then-due-begin-eq1-clause-fewer : goal.returns-then-due-begin-eq1-clause-fewer
returns-then-due-begin-eq1-clause-fewer c = nodes-end c.args.keys.now.depth c.args.due (reverse c.args.stack.now.items)
