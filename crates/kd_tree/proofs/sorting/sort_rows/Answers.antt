use Rattle.std.proofs.Common.{◌≡◌, map, sym, ap, ◌∙◌, subst}
use Rattle.std.specs.Ordering.{nat_cmp, ordering_then}
use Rattle.std.specs.Cmp.Lexicographic.{slice_cmp}
use Rattle.kd_tree.specs.Order.{IsOrderBy}
use Rattle.kd_tree.specs.Packing.{packed_row, row_cmp}
use Rattle.kd_tree.proofs.Orders.{order-by}
use Rattle.kd_tree.proofs.sorting.sort_rows.Goals as goal

pub returns : goal.returns
returns c =
    let words = c.args.words.now in
    let width = c.args.width in
    let order = order-by (λ p. p.1) (λ p. p.0.now ≡ packed_row width words p.1) (λ p q. ordering_then (slice_cmp nat_cmp p.0.now q.0.now) (nat_cmp p.1 q.1)) (row_cmp width words)
    (λ p q e f. ap (λ k. ordering_then (slice_cmp nat_cmp k q.0.now) (nat_cmp p.1 q.1)) e ∙ ap (λ k. ordering_then (slice_cmp nat_cmp (packed_row width words p.1) k) (nat_cmp p.1 q.1)) f)
    c.args.count c.in_ok-pairs.pairs.items c.sort_unstable.new.self.items c.in_ok-pairs.ensures.numbers c.in_ok-pairs.ensures.rows c.sort_unstable.ensures.permutation c.sort_unstable.ensures.sorted in
    subst (IsOrderBy (row_cmp width words) c.args.count) (sym (c.in_ok-order.ensures ∙ ap (map (λ p. p.1)) c.as_slice.ensures.value)) order
