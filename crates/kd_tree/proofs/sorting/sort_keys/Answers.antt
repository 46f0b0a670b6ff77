use Rattle.std.proofs.Common.{map, sym, ap, ◌∙◌, subst}
use Rattle.kd_tree.specs.Keys.{KeyRows, key_at}
use Rattle.kd_tree.specs.Trees.{IsSettled, rest_bits, split_bits}
use Rattle.kd_tree.proofs.Sorted.{sorted-moved, sorted-settled}
use Rattle.kd_tree.proofs.Unordered.{rest-same, same-counts, split-same}
use Rattle.kd_tree.proofs.sorting.sort_keys.Goals as goal

pub returns-clause-settled : goal.returns-clause-settled
returns-clause-settled c =
    let rows = ap (λ (x : KeyRows). x.rows) c.in_ok-sorted.ensures.keys in
    subst (λ ks. IsSettled c.args.keys.depth 0 ks) (sym rows) (sorted-settled c.args.keys.depth c.args.keys.rows c.in_ok-sorted.sorted.order c.len-count.ensures.each c.in_ok-sorted.ensures.order)

pub returns-clause-split : goal.returns-clause-split
returns-clause-split c =
    ap (λ (x : KeyRows). split_bits c.args.keys.depth 0 x.rows) c.in_ok-sorted.ensures.keys
    ∙ sym (split-same c.args.keys.depth 0 c.args.keys.rows (map (key_at c.args.keys.rows) c.in_ok-sorted.sorted.order)
    (same-counts _ _ (sorted-moved c.args.keys.rows c.in_ok-sorted.sorted.order c.in_ok-sorted.ensures.order)))

pub returns-clause-rest : goal.returns-clause-rest
returns-clause-rest c =
    ap (λ (x : KeyRows). rest_bits c.args.keys.depth 0 x.rows) c.in_ok-sorted.ensures.keys
    ∙ sym (rest-same c.args.keys.depth 0 c.args.keys.rows (map (key_at c.args.keys.rows) c.in_ok-sorted.sorted.order)
    (same-counts _ _ (sorted-moved c.args.keys.rows c.in_ok-sorted.sorted.order c.in_ok-sorted.ensures.order)))
