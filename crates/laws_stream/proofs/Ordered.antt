-- The surfaces that the values of a mesh's attributes stand on, as they are walked: no list of flags over one has more of them than there
-- are corners.
use Rattle.std.proofs.Common.{ℕ, length, get_or, ◌∙◌, ap}
use Rattle.corner_table.specs.Sides.{side_at, IsGluing}
use Rattle.walk_order.proofs.Labels.{surface_is_labelled}
use Rattle.corner_table.specs.Ordered.{IsOver}
use Rattle.predict.specs.Laws.{AreApart}
use Rattle.predict.proofs.Rounds.{flags_are_few}
use Rattle.attr_section.specs.WrittenParts.{HasFewFlags}
use Rattle.attr_section.proofs.SpelledFlags.{few_in}
use Rattle.drc_container.specs.declared.choice.codings.Coding.{Coding}
use Rattle.drc_container.specs.reading.OnSurface.{ordered_by}
use Rattle.drc_container.specs.writing.WrittenOnSurface.{GluedMesh, cut_of, is_by_degree, surface_order}
use Rattle.drc_container.proofs.lemmas.surface.Walks.{order-on, order-lists, entries-each}
use Rattle.drc_container.proofs.lemmas.writing.SurfaceColumns.{order_for, walk-on, walk-entries, cut-gluing}

-- the walk is one over the faces of the mesh
pub walk-over : (coding : Coding) (d : GluedMesh) (k : ℕ) → IsOver (length d.mesh.faces) (surface_order coding d k)
walk-over coding d k = record {
  each_corner = ap length (walk-entries coding d k) ∙ entries-each (length d.mesh.faces) (cut_of d k) (order_for coding d k);
  corners = walk-on coding d k;
}

-- over a surface
walk-gluing : (coding : Coding) (d : GluedMesh) (k : ℕ) → IsGluing (length d.mesh.faces) (cut_of d k) → IsGluing (length d.mesh.faces) (surface_order coding d k).gluing
unfolding surface_order ordered_by
walk-gluing coding d k G = G

-- no two entries of it stand at one vertex
walk-apart : (coding : Coding) (d : GluedMesh) (k : ℕ) → IsGluing (length d.mesh.faces) (cut_of d k) → AreApart (surface_order coding d k)
unfolding surface_order ordered_by
walk-apart coding d k G i j below_i below_j fan =
    let faces = length d.mesh.faces in
    let g = cut_of d k in
    let degree = is_by_degree coding d k in
    let order = order_for coding d k in
    (order-lists degree faces g G).apart i j below_i below_j
    ((surface_is_labelled faces g G).one_label (get_or order i (side_at 0)) (get_or order j (side_at 0))
    (order-on degree faces g i (side_at 0) below_i) (order-on degree faces g j (side_at 0) below_j) fan)

-- so the flags over it are few
pub walk-few : (coding : Coding) (d : GluedMesh) (k : ℕ) → IsGluing (length d.mesh.faces) d.pairs → HasFewFlags (surface_order coding d k)
walk-few coding d k G =
    let faces = length d.mesh.faces in
    let w = surface_order coding d k in
    let cut = cut-gluing d k G in
    few_in faces w (walk-over coding d k) (λ j. flags_are_few faces w (walk-gluing coding d k cut) (walk-over coding d k) (walk-apart coding d k cut) j)
