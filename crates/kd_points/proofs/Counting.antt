-- How many bits the file of a cloud has.
use Rattle.std.proofs.Common.{◌≡◌, ◌<◌, ◌≤◌, ◌*◌, ◌^◌, ℕ, ℤ, Bool, List, [], length, get_or, map, None, Ok, sym, ◌∙◌, ap, arith}
use Rattle.std.specs.List.{All, range_with_len}
use Rattle.std.proofs.lemmas.List.Sorted.{length_permutation}
use Rattle.std.proofs.lemmas.List.{length-map, get_or-map}
use Rattle.drc_base.specs.declared.limits.TheConstants.{MAX_KD_VALUES}
use Rattle.mesh_model.specs.declared.geometries.Geometry.{Geometry}
use Rattle.mesh_model.specs.declared.geometries.Geometry.TheVariants.{Cloud}
use Rattle.attr_heads.specs.FirstFault.{value_unless}
use Rattle.mesh_model.specs.Parts.{CloudParts}
use Rattle.std.proofs.lemmas.List.FromFn.{length-range_with_len}
use Rattle.std.proofs.Math.Nat.{mul-le-mul_left, mul_assoc, mul_comm}
use Rattle.kd_tree.specs.Keys.{Key, key_at}
use Rattle.kd_tree.specs.Order.{IsKdOrder}
use Rattle.kd_tree.specs.Laws.{BitsAreCounted}
use Rattle.kd_points.specs.declared.extents.Extent.{Extent}
use Rattle.kd_points.specs.Extents.{axes_over, depth_of, extents_of, key_within, keys_of}
use Rattle.kd_points.specs.Laws.{FileBitsAreCounted}
use Rattle.kd_points.specs.Written.{cloud_in, kd_counts, kd_fault, rest_of, kd_split_of}
use Rattle.kd_points.proofs.Lying.{length-axes_over}

-- a key has so many bits
pub length-key_within : (extents : List Extent) (row : List ℤ) → length (key_within extents row) ≡ depth_of extents
unfolding key_within
length-key_within extents row = length-map (axes_over extents) _ ∙ length-axes_over extents

pub keys_long : (c : CloudParts) → All (λ key. length key ≡ depth_of (extents_of c)) (keys_of c)
keys_long c k d inside =
    let f = key_within (extents_of c) in
    let low : k < length c.points = omega (arith, inside, length-map c.points f) in
    ap length (get_or-map f c.points k [] d low) ∙ length-key_within (extents_of c) (get_or c.points k [])

-- the numbers of bits that are due
pub counts_due : (g : Geometry) (c : CloudParts) (split rest : List Bool) → kd_fault g ≡ None → g ≡ Cloud c → split ≡ kd_split_of c → rest ≡ rest_of c
    → kd_counts g ≡ Ok (length split, length rest)
counts_due g c split rest none is split_is rest_is =
    let value : CloudParts → ℕ × ℕ = λ c. (length (kd_split_of c), length (rest_of c)) in
    ap (λ f. value_unless f (value (cloud_in g))) none
    ∙ ap (λ h. Ok (value (cloud_in h))) is
    ∙ ap (λ n. Ok (n, length (rest_of c))) (ap length (sym split_is))
    ∙ ap (λ n. Ok (length split, n)) (ap length (sym rest_is))

-- they are those that the boxes ask for
pub bits_counted : BitsAreCounted → FileBitsAreCounted
bits_counted law c = law (depth_of (extents_of c)) (keys_of c) (keys_long c)

-- keys in another order are as many
pub sorted_length : (keys : List Key) (order : List ℕ) → IsKdOrder keys order → length (map (key_at keys) order) ≡ length keys
sorted_length keys order is =
    length-map order (key_at keys) ∙ length_permutation (range_with_len 0 (length keys)) order is.each ∙ length-range_with_len 0 (length keys)

-- as many bits as keys have together are few
pub bits_short : (n depth width bits : ℕ) → bits ≤ n * depth → depth ≤ 32 * width → n * width ≤ MAX_KD_VALUES → bits < 2 ^ 31
bits_short n depth width bits most deep values =
    let product : n * depth ≤ n * (32 * width) = mul-le-mul_left n deep in
    let same : n * (32 * width) ≡ 32 * (n * width) = sym (mul_assoc n 32 width) ∙ ap (λ m. m * width) (mul_comm n 32) ∙ mul_assoc 32 n width in
    omega (arith, most, product, same, values)
