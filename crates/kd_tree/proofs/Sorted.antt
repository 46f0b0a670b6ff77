-- Sorted keys: they are settled, and they are the given keys in another order.
use Rattle.std.proofs.Common.{◌≡◌, ℕ, ◌+◌, ◌<◌, false, List, [], length, map, get_or, sym, refl, ap, ◌∙◌, subst, arith}
use Rattle.std.specs.Prelude.{IsPermutation}
use Rattle.std.specs.List.{range_with_len}
use Rattle.std.specs.Ordering.{is_lt, nat_cmp, ordering_then}
use Rattle.std.specs.declared.cmp.Ordering.{Ordering}
use Rattle.std.specs.declared.cmp.Ordering.TheVariants.{Less, Equal, Greater}
use Rattle.std.specs.Cmp.{IsTotalOrder, bool_cmp_total}
use Rattle.std.proofs.lemmas.Cmp.{lists_total, nat_cmp_total, on_total, then_total}
use Rattle.std.proofs.lemmas.List.{get_or-map, get_or_default, length-map, same_lists}
use Rattle.std.proofs.lemmas.List.FromFn.{get_or-map-range_with_len, length-map-range_with_len}
use Rattle.std.proofs.lemmas.List.Sorted.{IsPermutation-map, ranks_by, sorted_far}
use Rattle.kd_tree.specs.Keys.{Key, KeyRows, key_at}
use Rattle.kd_tree.specs.Packing.{keys_in}
use Rattle.kd_tree.specs.Order.{IsKdOrder, key_cmp, point_cmp}
use Rattle.kd_tree.specs.Trees.{IsSettled}
use Rattle.kd_tree.proofs.Counts.{AreLong, long-at}
use Rattle.kd_tree.proofs.Orders.{order-below}
use Rattle.kd_tree.proofs.Settling.{Ascends, settle}

-- keys by their numbers are the keys
keys-again : (keys : List Key) → map (key_at keys) (range_with_len 0 (length keys)) ≡ keys
keys-again keys =
    same_lists (map (key_at keys) (range_with_len 0 (length keys))) keys (length-map-range_with_len (key_at keys) 0 (length keys)) (λ k d h.
    let small : k < length keys = (let l = length-map-range_with_len (key_at keys) 0 (length keys) in omega (arith, l, h)) in
    get_or-map-range_with_len (key_at keys) 0 (length keys) k k d small (omega arith) ∙ get_or_default keys k [] d small)

pub sorted-moved : (keys : List Key) (order : List ℕ) → IsKdOrder keys order → IsPermutation keys (map (key_at keys) order)
sorted-moved keys order h =
    subst (λ xs. IsPermutation xs (map (key_at keys) order)) (keys-again keys) (IsPermutation-map (key_at keys) (range_with_len 0 (length keys)) order h.each)

point_total : (keys : List Key) → IsTotalOrder (point_cmp keys)
point_total keys = then_total (on_total (key_at keys) (lists_total bool_cmp_total)) nat_cmp_total

first-decides : (o p : Ordering) → is_lt (ordering_then o p) ≡ false → is_lt o ≡ false
first-decides Less p h = h
first-decides Equal p h = refl
first-decides Greater p h = refl

pub sorted-ascends : (keys : List Key) (order : List ℕ) → IsKdOrder keys order → Ascends 0 (map (key_at keys) order)
sorted-ascends keys order h i j d a b =
    let long : length (map (key_at keys) order) ≡ length order = length-map order (key_at keys) in
    let low : i < length order = omega (arith, a, b, long) in
    let high : j < length order = omega (arith, b, long) in
    let far : is_lt (point_cmp keys (get_or order j 0) (get_or order i 0)) ≡ false =
    sorted_far (λ x y. is_lt (point_cmp keys x y)) (ranks_by (point_total keys) (λ n. n)) order h.ascending i j 0 (omega (arith, a)) high in
    let up : is_lt (key_cmp (key_at keys (get_or order j 0)) (key_at keys (get_or order i 0))) ≡ false = first-decides (key_cmp (key_at keys (get_or order j 0)) (key_at keys (get_or order i 0))) (nat_cmp (get_or order j 0) (get_or order i 0)) far in
    ap (λ x. is_lt (key_cmp x (get_or (map (key_at keys) order) i d))) (get_or-map (key_at keys) order j 0 d high)
    ∙ ap (λ x. is_lt (key_cmp (key_at keys (get_or order j 0)) x)) (get_or-map (key_at keys) order i 0 d low) ∙ up

pub sorted-long : (depth : ℕ) (keys : List Key) (order : List ℕ) → AreLong depth keys → IsKdOrder keys order → AreLong depth (map (key_at keys) order)
sorted-long depth keys order all h k d l =
    let inside : k < length order = (let e = length-map order (key_at keys) in omega (arith, e, l)) in
    let small = order-below (point_cmp keys) (length keys) order h k 0 inside in
    ap length (get_or-map (key_at keys) order k 0 d inside) ∙ all (get_or order k 0) [] small

pub sorted-settled : (depth : ℕ) (keys : List Key) (order : List ℕ) → AreLong depth keys → IsKdOrder keys order → IsSettled depth 0 (map (key_at keys) order)
sorted-settled depth keys order all h =
    settle depth 0 (map (key_at keys) order) (long-at depth (0 + depth) (map (key_at keys) order) (omega arith) (sorted-long depth keys order all h)) (sorted-ascends keys order h)

-- an order of packed keys is one of the rows of their table
pub order-of-rows : (v : KeyRows) (depth n : ℕ) (words order : List ℕ) → depth ≡ v.depth → n ≡ length v.rows → v.rows ≡ keys_in v.depth (length v.rows) words → IsKdOrder (keys_in depth n words) order → IsKdOrder v.rows order
order-of-rows v depth n words order deep count rows h =
    subst (λ ks. IsKdOrder ks order) (ap (λ d. keys_in d n words) deep ∙ ap (λ k. keys_in v.depth k words) count ∙ sym rows) h
