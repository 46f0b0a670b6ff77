use Rattle.std.proofs.Common.{◌≡◌, ◌≤◌, ◌*◌, length, sym, ◌∙◌, ap, subst, arith}
use Rattle.std.proofs.lemmas.List.{length-map}
use Rattle.attr_heads.specs.Head.{width_of}
use Rattle.kd_tree.specs.Keys.{KeyRows}
use Rattle.kd_points.specs.Extents.{depth_of, extents_of, key_within}
use Rattle.kd_points.proofs.Counting.{sorted_length, bits_short}
use Rattle.kd_points.proofs.Lying.{depth-most}
use Rattle.kd_points.proofs.trees.tree_of.Goals as goal

pub write_tree-requires-clause-count : goal.write_tree-requires-clause-count
write_tree-requires-clause-count c =
    let rows = c.in_ok-keys.keys.rows in
    let sorted = ap (λ (k : KeyRows). length k.rows) c.in_ok-sorted.ensures.keys ∙ sorted_length rows c.in_ok-sorted.sorted.order c.in_ok-sorted.ensures.order in
    let many = ap (λ (k : KeyRows). length k.rows) c.in_ok-keys.ensures ∙ length-map c.args.cloud.now.points (key_within (extents_of c.args.cloud.now)) in
    omega (arith, sorted, many, c.requires.few)

pub returns-clause-short : goal.returns-clause-short
returns-clause-short c =
    let rows = c.in_ok-keys.keys.rows in
    let n = length c.args.cloud.now.points in
    let extents = c.in_ok-extents.extents.items in
    let sorted = ap (λ (k : KeyRows). length k.rows) c.in_ok-sorted.ensures.keys ∙ sorted_length rows c.in_ok-sorted.sorted.order c.in_ok-sorted.ensures.order in
    let many = ap (λ (k : KeyRows). length k.rows) c.in_ok-keys.ensures ∙ length-map c.args.cloud.now.points (key_within (extents_of c.args.cloud.now)) in
    let count : length c.in_ok-sorted.sorted.keys.rows ≡ n = omega (arith, sorted, many) in
    let deep : depth_of extents ≤ 32 * width_of c.args.cloud.now.heads = omega (arith, depth-most extents c.in_ok-extents.ensures.bits, c.in_ok-extents.ensures.len) in
    let depth : c.in_ok-sorted.sorted.keys.depth ≡ depth_of extents =
    ap (λ (k : KeyRows). k.depth) c.in_ok-sorted.ensures.keys ∙ ap (λ (k : KeyRows). k.depth) c.in_ok-keys.ensures
    ∙ c.depth_of-depth.ensures.depth ∙ ap depth_of c.deref.ensures.value in
    let few = c.in_ok-bits.ensures.few in
    let total : length c.in_ok-sorted.sorted.keys.rows * c.in_ok-sorted.sorted.keys.depth ≡ n * depth_of extents =
    ap (λ m. m * c.in_ok-sorted.sorted.keys.depth) count ∙ ap (λ d. n * d) depth in
    let split : length c.from_vec-2.result ≤ n * depth_of extents = subst (λ l. length l ≤ n * depth_of extents) (sym c.from_vec-2.ensures) (omega (arith, few.0, total)) in
    let rest : length c.from_vec-3.result ≤ n * depth_of extents = subst (λ l. length l ≤ n * depth_of extents) (sym c.from_vec-3.ensures) (omega (arith, few.1, total)) in (
      bits_short n (depth_of extents) (width_of c.args.cloud.now.heads) (length c.from_vec-2.result) split deep c.requires.values,
      bits_short n (depth_of extents) (width_of c.args.cloud.now.heads) (length c.from_vec-3.result) rest deep c.requires.values,
    )
