use Rattle.std.proofs.Common.{◌-◌, length, reverse, sym, subst, ap, arith}
use Rattle.kd_tree.specs.Turns.{IsDueNext}
use Rattle.kd_tree.proofs.Walks.{nodes-some}
use Rattle.kd_tree.proofs.Turns.{taken-fewer, taken-next}
use Rattle.kd_tree.proofs.reading.end_box.Goals as goal

pub returns-clause-next : goal.returns-clause-next
returns-clause-next c = λ fault split.
    subst (λ due. IsDueNext fault c.args.out.now.depth due c.next_box.new.path.items (reverse c.next_box.new.stack.items) c.append_leaf.new.out.rows (record { split = split; rest = c.append_leaf.new.rest }) c.in_ok-next.next)
    (sym (c.in_ok-append_leaf.ensures.keys fault (reverse c.args.stack.now.items) split c.requires.nested))
    (taken-next fault c.args.out.now.depth c.append_leaf.new.path.items (reverse c.args.stack.now.items) c.next_box.new.path.items (reverse c.next_box.new.stack.items) c.in_ok-next.next
    c.append_leaf.new.out.rows (record { split = split; rest = c.append_leaf.new.rest }) (length c.args.path.now.items) (let e = ap length c.in_ok-append_leaf.ensures.path in omega (arith, e)) c.requires.deep c.requires.nested c.in_ok-next.ensures)

pub returns-clause-fewer : goal.returns-clause-fewer
returns-clause-fewer c =
    taken-fewer c.args.out.now.depth _ c.append_leaf.new.path.items (reverse c.args.stack.now.items) c.next_box.new.path.items (reverse c.next_box.new.stack.items) c.in_ok-next.next
    (length c.args.path.now.items) (let e = ap length c.in_ok-append_leaf.ensures.path in omega (arith, e)) c.requires.nested (nodes-some (c.args.out.now.depth - length c.args.path.now.items)) c.in_ok-next.ensures
