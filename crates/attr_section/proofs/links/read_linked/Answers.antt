use Rattle.std.proofs.Common.{◌≡◌, [], refl, arith}
use Rattle.std.proofs.lemmas.Result.{err_from_is_err_and}
use Rattle.attr_section.specs.Heads.{link_at, linked_at}
use Rattle.attr_section.proofs.Each.{turns-next, turns-fault, turns-end}
use Rattle.attr_section.proofs.links.read_linked.Goals as goal

pub loop-number-init : goal.loop-number-init
loop-number-init c = let none : c.new-links.result.items ≡ [] = c.new-links.ensures.items in rw none refl

pub loop-number-preserved : goal.loop-number-preserved
unfolding linked_at
loop-number-preserved c =
    rw c.in_ok-push.ensures.items
    (turns-next (link_at c.args.attr_data) c.args.n c.loop-number._number c.loop-number.links.items c.loop-number.c c.read_link.new.c c.in_ok-link.link (linked_at c.args.attr_data c.args.n c.args.c.now)
    c.loop-number.invariant (omega arith) (rw c.deref.ensures.value at c.in_ok-link.ensures))

pub returns-in_err-link : goal.returns-in_err-link
unfolding linked_at
returns-in_err-link c =
    let p = err_from_is_err_and c.from_residual.result c.from_residual.ensures.1 in
    rw (p.1, p.2) (turns-fault (link_at c.args.attr_data) c.args.n c.loop-number._number c.loop-number.links.items c.loop-number.c c.in_err-link.field-0.0 (linked_at c.args.attr_data c.args.n c.args.c.now)
    c.loop-number.invariant (omega arith) (rw c.deref.ensures.value at c.in_err-link.ensures))

pub returns : goal.returns
unfolding linked_at
returns c = turns-end (link_at c.args.attr_data) c.args.n c.loop-number._number c.loop-number.links.items c.loop-number.c (linked_at c.args.attr_data c.args.n c.args.c.now) c.loop-number.invariant (omega arith)
