-- The order of the points is one: that of the ranks of their numbers.
use Rattle.std.proofs.Common.{◌≡◌, ℕ, ◌<◌, List, length, map, ap, ◌∙◌}
use Rattle.std.specs.Ordering.{MatchOrdering, nat_cmp, ordering_then}
use Rattle.std.specs.declared.cmp.Ordering.{Ordering}
use Rattle.std.specs.declared.cmp.Ordering.TheVariants.{Less, Equal, Greater}
use Rattle.std.specs.Cmp.{IsTotalOrder, bool_cmp_total, ranks}
use Rattle.std.proofs.lemmas.Cmp.{lists_total, nat_cmp_total, on_total, then_total}
use Rattle.kd_tree.specs.Keys.{Key, key_at}
use Rattle.kd_tree.specs.Order.{key_cmp, point_cmp}
use Rattle.kd_points.specs.Extents.{keys_of}
use Rattle.kd_points.specs.Rows.{OrderIsOne, kd_rows}
use Rattle.kd_points.proofs.Ranks.{ranked}

point_total : (keys : List Key) → IsTotalOrder (point_cmp keys)
point_total keys = then_total (on_total (key_at keys) (lists_total bool_cmp_total)) nat_cmp_total

-- numbers that are tied are one
second-ties : (o p : Ordering) → ordering_then o p ≡ Equal → p ≡ Equal
second-ties Less p e = cc
second-ties Equal p e = e
second-ties Greater p e = cc

numbers-tied : (i j : ℕ) (o : Ordering) → MatchOrdering o (i < j) (i ≡ j) (j < i) → o ≡ Equal → i ≡ j
numbers-tied i j Less is e = cc
numbers-tied i j Equal is e = is
numbers-tied i j Greater is e = cc

tied : (keys : List Key) (i j : ℕ) → point_cmp keys i j ≡ Equal → i ≡ j
tied keys i j e = numbers-tied i j (nat_cmp i j) (ranks i j) (second-ties (key_cmp (key_at keys i) (key_at keys j)) (nat_cmp i j) e)

pub one_order : OrderIsOne
unfolding kd_rows
one_order c rows order =
    let keys = keys_of c in
    order.rows_are
    ∙ ap (map (λ p. (p, 0))) (ranked (point_cmp keys) (point_total keys) (tied keys) (length keys) order.order order.ordered.each order.ordered.ascending)
