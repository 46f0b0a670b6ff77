use Rattle.std.proofs.Common.{◌≡◌, ◌^◌, ℕ, List, length, get_or, map, sym, ap, ◌∙◌, subst, arith}
use Rattle.std.specs.Prelude.{All, IsPermutation}
use Rattle.std.specs.Ordering.{nat_cmp, ordering_then}
use Rattle.std.proofs.lemmas.List.Sorted.{All-permutation}
use Rattle.kd_tree.specs.Keys.{Key, KeyRows, key_at}
use Rattle.kd_tree.specs.Trees.{high_bits}
use Rattle.kd_tree.specs.Order.{IsKdOrder, point_cmp}
use Rattle.kd_tree.specs.Packing.{IsWordOf}
use Rattle.kd_tree.proofs.Orders.{order-by, word-order, word-rows}
use Rattle.kd_tree.proofs.sorting.sort_words.Goals as goal

-- what holds of the pairs holds of them in order
words : (keys : KeyRows) (pairs sorted : List (ℕ × ℕ)) → IsPermutation pairs sorted → All (λ (p : ℕ × ℕ). IsWordOf keys p.1 p.0) pairs → All (λ (p : ℕ × ℕ). IsWordOf keys p.1 p.0) sorted
words keys pairs sorted moved all = All-permutation (λ (p : ℕ × ℕ). IsWordOf keys p.1 p.0) pairs sorted moved all

pub word_keys-requires-clause-small : goal.word_keys-requires-clause-small
word_keys-requires-clause-small c = λ k d h.
    let same : ◌≡◌ {A = List (ℕ × ℕ)} c.as_slice-2.result.now c.sort_unstable.new.self.items = c.as_slice-2.ensures.value in
    let all = words c.args.keys c.in_ok-pairs.pairs.items c.sort_unstable.new.self.items c.sort_unstable.ensures.permutation c.in_ok-pairs.ensures.words in
    let inside = ap length same in
    let one = (all k d (omega (arith, inside, h))).0 in
    let at : (get_or c.as_slice-2.result.now k d).0 ≡ (get_or c.sort_unstable.new.self.items k d).0 = ap (λ (xs : List (ℕ × ℕ)). (get_or xs k d).0) same in
    let deep : 2 ^ c.cleared.result.depth ≡ 2 ^ c.args.keys.depth = ap (λ n. 2 ^ n) (ap (λ (k : KeyRows). k.depth) c.cleared.ensures) in
    omega (arith, one, at, deep)

pub returns-clause-order : goal.returns-clause-order
returns-clause-order c =
    let keys : KeyRows = c.args.keys in
    let order = order-by (λ (p : ℕ × ℕ). p.1) (λ (p : ℕ × ℕ). IsWordOf keys p.1 p.0) (λ (p q : ℕ × ℕ). ordering_then (nat_cmp p.0 q.0) (nat_cmp p.1 q.1)) (point_cmp keys.rows)
    (λ p q e f. word-order keys p.1 q.1 p.0 q.0 e f)
    (length keys.rows) c.in_ok-pairs.pairs.items c.sort_unstable.new.self.items c.in_ok-pairs.ensures.numbers c.in_ok-pairs.ensures.words c.sort_unstable.ensures.permutation c.sort_unstable.ensures.sorted in
    subst (IsKdOrder keys.rows) (sym (c.from_vec.ensures ∙ c.in_ok-order.ensures ∙ ap (map (λ (p : ℕ × ℕ). p.1)) c.as_slice.ensures.value)) order

pub returns-clause-keys : goal.returns-clause-keys
returns-clause-keys c =
    let keys : KeyRows = c.args.keys in
    let pairs : List (ℕ × ℕ) = c.sort_unstable.new.self.items in
    let all = words keys c.in_ok-pairs.pairs.items pairs c.sort_unstable.ensures.permutation c.in_ok-pairs.ensures.words in
    let order : c.from_vec.result ≡ map (λ (p : ℕ × ℕ). p.1) pairs = c.from_vec.ensures ∙ c.in_ok-order.ensures ∙ ap (map (λ (p : ℕ × ℕ). p.1)) c.as_slice.ensures.value in
    c.in_ok-sorted.ensures
    ∙ ap (λ n. record { depth = n; rows = map (λ (p : ℕ × ℕ). high_bits n p.0) c.as_slice-2.result.now }) (ap (λ (k : KeyRows). k.depth) c.cleared.ensures)
    ∙ ap (λ (xs : List (ℕ × ℕ)). record { depth = keys.depth; rows = map (λ (p : ℕ × ℕ). high_bits keys.depth p.0) xs }) c.as_slice-2.ensures.value
    ∙ ap (λ (rows : List Key). record { depth = keys.depth; rows = rows }) (word-rows keys pairs all ∙ ap (map (key_at keys.rows)) (sym order))
