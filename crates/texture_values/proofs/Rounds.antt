-- Corners of entries in the lists of an ordered surface.
use Rattle.std.proofs.Common.{◌≡◌, ℕ, ◌*◌, ◌/◌, ◌<◌, List, length, get_or, map, ap, arith}
use Rattle.std.proofs.lemmas.List.{length-map, get_or-map}
use Rattle.corner_table.specs.declared.corner_lists.Order.{Order}
use Rattle.corner_table.specs.Sides.{Side, side_at}
use Rattle.corner_table.specs.Table.{Table}
use Rattle.corner_table.specs.Ordered.{IsOrdered}

-- the corner of an entry is one of the table's
pub corner-within : (t : Table) (labels : List ℕ) (o : Order) (e d : ℕ) → IsOrdered t labels o → e < length o.corner_of_entry
    → get_or o.corner_of_entry e d < 3 * t.faces
corner-within t labels o e d O h =
    let far : e < length (map side_at o.corner_of_entry) = omega (arith, length-map o.corner_of_entry side_at) in
    let below : (get_or (map side_at o.corner_of_entry) e (side_at d)).face < t.faces = O.over.corners e (side_at d) far in
    let face : (get_or (map side_at o.corner_of_entry) e (side_at d)).face ≡ get_or o.corner_of_entry e d / 3 =
    ap (λ (x : Side). x.face) (get_or-map side_at o.corner_of_entry e d (side_at d) h) in
    omega arith
