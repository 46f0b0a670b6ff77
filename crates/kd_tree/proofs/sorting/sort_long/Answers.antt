use Rattle.std.proofs.Common.{◌<◌, length, sym, subst}
use Rattle.std.specs.Prelude.{All}
use Rattle.kd_tree.specs.Order.{IsKdOrder, point_cmp}
use Rattle.kd_tree.proofs.Orders.{order-below}
use Rattle.kd_tree.proofs.Sorted.{order-of-rows}
use Rattle.kd_tree.proofs.sorting.sort_long.Goals as goal

pub gather-requires : goal.gather-requires
gather-requires c =
    let order : IsKdOrder c.args.keys.rows c.in_ok-order.order.items =
    order-of-rows c.args.keys c.depth.result c.len.result c.words.result.now c.in_ok-order.order.items c.depth.ensures c.len.ensures.len c.words.ensures.rows c.in_ok-order.ensures in
    subst (All (λ i. i < length c.args.keys.rows)) (sym c.as_slice.ensures.value) (order-below (point_cmp c.args.keys.rows) (length c.args.keys.rows) c.in_ok-order.order.items order)
