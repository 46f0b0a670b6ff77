-- The columns that are written of a mesh by Edgebreaker: each is within the bounds of its head, and has a value of each component for each entry.
use Rattle.std.proofs.Common.{◌≡◌, ℕ, ◌*◌, ◌<◌, Bool, true, false, List, length, get_or, refl, sym, subst, arith}
use Rattle.std.specs.Prelude.{if◌then◌else◌}
use Rattle.std.specs.List.{list_all}
use Rattle.attr_heads.specs.declared.heads.Head.{Head}
use Rattle.attr_heads.specs.Bounds.{in_bounds, bounds_of}
use Rattle.mesh_model.specs.Parts.{MeshParts, IsMesh}
use Rattle.corner_table.specs.Sides.{Side, Gluing, IsGluing}
use Rattle.seams.specs.Seams.{unseamed}
use Rattle.seams.specs.Values.{is_seam}
use Rattle.seams.proofs.Chains.{cut_is_gluing}
use Rattle.seams.proofs.Values.{seams_are_alike}
use Rattle.walk_order.specs.OfSurface.{entries_of}
use Rattle.drc_container.specs.declared.choice.codings.Coding.{Coding}
use Rattle.drc_container.specs.reading.OnSurface.{order_by, ordered_by}
use Rattle.drc_container.specs.writing.WrittenOnSurface.{GluedMesh, decoded, is_cornered, cut_of, is_by_degree, surface_order, coded_by}
use Rattle.drc_container.specs.writing.Encoded.{CanCodeSurface}
use Rattle.drc_container.proofs.lemmas.surface.Walks.{AreOf, order-on, order-some}
use Rattle.drc_container.proofs.lemmas.surface.Decoded.{decoded-keeps}
use Rattle.drc_container.proofs.lemmas.surface.Pieces.{pieces-typed, pieces-long}

-- the order of the entries of attribute k
abbrev pub order_for : Coding → GluedMesh → ℕ → List Side
order_for coding d k = order_by (is_by_degree coding d k) (length d.mesh.faces) (cut_of d k)

-- the corners of the entries stand in it
pub walk-corners : (coding : Coding) (d : GluedMesh) (k : ℕ) → (surface_order coding d k).corners ≡ order_for coding d k
unfolding surface_order ordered_by
walk-corners coding d k = refl

-- and give the entry of each corner
pub walk-entries : (coding : Coding) (d : GluedMesh) (k : ℕ) → (surface_order coding d k).entries ≡ entries_of (length d.mesh.faces) (cut_of d k) (order_for coding d k)
unfolding surface_order ordered_by
walk-entries coding d k = refl

-- cut at seams or not, it is a surface
pub cut-gluing : (d : GluedMesh) (k : ℕ) → IsGluing (length d.mesh.faces) d.pairs → IsGluing (length d.mesh.faces) (cut_of d k)
cut-gluing d k G =
    let faces = length d.mesh.faces in
    let flags = is_seam d.mesh k d.pairs in
    at (is_cornered d k) faces (unseamed flags d.pairs) d.pairs (cut_is_gluing faces d.pairs flags G (seams_are_alike faces d.pairs d.mesh k G)) G
  where
    at : (b : Bool) (faces : ℕ) (g h : Gluing) → IsGluing faces g → IsGluing faces h → IsGluing faces (if b then g else h)
    at true faces g h G H = G
    at false faces g h G H = H

-- the corners of the entries are corners of the faces
pub walk-on : (coding : Coding) (d : GluedMesh) (k : ℕ) → AreOf (length d.mesh.faces) (surface_order coding d k).corners
walk-on coding d k =
    subst (AreOf (length d.mesh.faces)) (sym (walk-corners coding d k)) (order-on (is_by_degree coding d k) (length d.mesh.faces) (cut_of d k))

-- there is an entry
pub walk-some : (coding : Coding) (m : MeshParts) → IsMesh m → CanCodeSurface coding m → (k : ℕ) → 0 < length (surface_order coding (decoded m) k).corners
walk-some coding m is can k =
    let d = decoded m in
    let D = decoded-keeps m is can.proper in
    subst (λ (order : List Side). 0 < length order) (sym (walk-corners coding d k))
    (order-some (is_by_degree coding d k) (length d.mesh.faces) (cut_of d k) (cut-gluing d k D.gluing) (omega (arith, D.faces, can.some)))

-- the values of attribute k are within the bounds of its head
pub columns-typed : (coding : Coding) (m : MeshParts) → IsMesh m → CanCodeSurface coding m → (k : ℕ) (h : Head) → k < length m.heads
    → list_all (in_bounds (bounds_of (get_or m.heads k h))) (coded_by coding (decoded m) k).values ≡ true
columns-typed coding m is can k h has =
    let d = decoded m in
    let D = decoded-keeps m is can.proper in
    let within : k < length d.mesh.heads = subst (λ (heads : List Head). k < length heads) (sym D.heads) has in
    subst (λ (heads : List Head). list_all (in_bounds (bounds_of (get_or heads k h))) (coded_by coding d k).values ≡ true) D.heads
    (pieces-typed d.mesh D.mesh k h within (surface_order coding d k).corners (walk-on coding d k))

-- and as many as its entries have components
pub columns-long : (coding : Coding) (m : MeshParts) → IsMesh m → CanCodeSurface coding m → (k : ℕ) (h : Head) → k < length m.heads
    → length (coded_by coding (decoded m) k).values ≡ length (surface_order coding (decoded m) k).corners * (get_or m.heads k h).comps
columns-long coding m is can k h has =
    let d = decoded m in
    let D = decoded-keeps m is can.proper in
    let within : k < length d.mesh.heads = subst (λ (heads : List Head). k < length heads) (sym D.heads) has in
    subst (λ (heads : List Head). length (coded_by coding d k).values ≡ length (surface_order coding d k).corners * (get_or heads k h).comps) D.heads
    (pieces-long d.mesh D.mesh k h within (surface_order coding d k).corners (walk-on coding d k))
