use Rattle.std.proofs.Common.{ℕ, subst, arith}
use Rattle.kd_tree.specs.Order.{IsOrderBy}
use Rattle.kd_tree.specs.Packing.{row_cmp}
use Rattle.kd_tree.proofs.Orders.{row-order}
use Rattle.kd_tree.proofs.sorting.order_of.Goals as goal

pub returns : goal.returns
returns c =
    row-order c.args.depth c.args.count c.args.words.now c.in_ok-order.order.items c.requires.length c.requires.clean (λ k. let h = c.type_inv.words k in omega (arith, h))
    (subst (λ (w : ℕ). IsOrderBy (row_cmp w c.args.words.now) c.args.count c.in_ok-order.order.items) c.words_of.ensures.words c.in_ok-order.ensures)
