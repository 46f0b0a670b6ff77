-- The heads of a kd-tree file have no square, so that each profile has them.
use Rattle.std.proofs.Common.{◌≡◌, List, Option, None, Some, Ok, refl, subst}
use Rattle.std.specs.List.{All}
use Rattle.drc_base.specs.declared.faults.Fault.{Fault}
use Rattle.drc_base.proofs.Parted.{given, parts}
use Rattle.drc_bits.specs.Reading.{Reading, many_at}
use Rattle.drc_bits.proofs.Results.{Ok-injective, err≢ok}
use Rattle.drc_bits.proofs.Parted.{many-passed}
use Rattle.attr_heads.specs.declared.heads.Head.{Head}
use Rattle.attr_heads.specs.FirstFault.{value_unless}
use Rattle.attr_heads.specs.Head.{width_of}
use Rattle.attr_heads.specs.HeadItems.{head_at}
use Rattle.attr_heads.specs.ProfileHeads.{IsUnsquared}
use Rattle.mesh_model.specs.Parts.{CloudParts}
use Rattle.kd_tree.specs.Keys.{Key}
use Rattle.kd_points.specs.declared.headers.Header.{Header}
use Rattle.kd_points.specs.Extents.{depth_of}
use Rattle.kd_points.specs.Header.{kd_opening_at, kd_attribute_count_at, kd_quant_of_at, kd_head_at, kd_heads_at, point_count_at, extent_at, kd_header_at}
use Rattle.kd_points.specs.Meaning.{tree_at, cloud_of_keys, file_at}

head-unsquared : (c : Reading) (y : Head × Reading) → kd_head_at c ≡ Ok y → IsUnsquared y.0
unfolding kd_head_at
head-unsquared c y is =
    let p = parts (head_at c) _ y is in
    let q = parts (kd_quant_of_at p.0.0.dtype p.0.0.comps p.0.1) _ y p.2 in
    given (λ (z : Head × Reading). IsUnsquared z.0) (record p.0.0 { quant = q.0.0; octa = None }, q.0.1) y q.2 refl

heads-unsquared : (c : Reading) (y : List Head × Reading) → kd_heads_at c ≡ Ok y → All IsUnsquared y.0
unfolding kd_heads_at
heads-unsquared c y is =
    let n = parts (kd_attribute_count_at c) (λ n. many_at kd_head_at n.0 n.1) y is in
    (many-passed IsUnsquared kd_head_at head-unsquared n.0.0 n.0.1 y n.2).1

header-unsquared : (c : Reading) (y : Header × Reading) → kd_header_at c ≡ Ok y → All IsUnsquared y.0.heads
unfolding kd_header_at
header-unsquared c y is =
    let o = parts (kd_opening_at c) _ y is in
    let h = parts (kd_heads_at o.0.1) _ y o.2 in
    let n = parts (point_count_at (width_of h.0.0) h.0.1) _ y h.2 in
    let e = parts (many_at extent_at (width_of h.0.0) n.0.1) _ y n.2 in
    let header : Header = record { heads = h.0.0; count = n.0.0; extents = e.0.0; at = n.0.1.place } in
    given (λ (z : Header × Reading). All IsUnsquared z.0.heads) (header, e.0.1) y e.2 (heads-unsquared o.0.1 h.0 h.1)

-- what is made where there is no fault
made : {A : Type 0} (P : A → Type 0) (r : Option Fault) (a x : A) → value_unless r a ≡ Ok x → P a → P x
made P None a x is holds = subst P (Ok-injective is) holds
made P (Some f) a x is holds = absurd (err≢ok is)

cloud-unsquared : (h : Header) (keys : List Key) (m : CloudParts) → cloud_of_keys h keys ≡ Ok m → All IsUnsquared h.heads → All IsUnsquared m.heads
unfolding cloud_of_keys
cloud-unsquared h keys m is are = made (λ (m : CloudParts). All IsUnsquared m.heads) _ _ m is are

-- a file of points
pub file-unsquared : (c : Reading) (y : CloudParts × Reading) → file_at c ≡ Ok y → All IsUnsquared y.0.heads
unfolding file_at
file-unsquared c y is =
    let p = parts (kd_header_at c) _ y is in
    let k = parts (tree_at (depth_of p.0.0.extents) p.0.0.count p.0.1) _ y p.2 in
    let m = parts (cloud_of_keys p.0.0 k.0.0) _ y k.2 in
    given (λ (z : CloudParts × Reading). All IsUnsquared z.0.heads) (m.0, k.0.1) y m.2
    (cloud-unsquared p.0.0 k.0.0 m.0 m.1 (header-unsquared c p.0 p.1))
