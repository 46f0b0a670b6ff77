-- The surfaces that are kept for a mesh's attributes are those on which their values stand.
use Rattle.std.proofs.Common.{◌≡◌, ℕ, ◌<◌, Bool, true, false, ◌&&◌, List, length, get_or, Option, Some, None, refl, sym, ap, ◌∙◌, subst, arith}
use Rattle.std.specs.Prelude.{option_map, unwrap_or, not, if◌then◌else◌}
use Rattle.std.specs.Option.{is_some}
use Rattle.std.proofs.lemmas.List.{length-map, get_or-map}
use Rattle.std.proofs.lemmas.List.FromFn.{length-map-range_with_len, get_or-map-range_with_len}
use Rattle.corner_table.specs.declared.corner_lists.Order.{Order}
use Rattle.corner_table.specs.Sides.{side_at, Gluing, IsGluing}
use Rattle.corner_table.specs.Table.{Table, gluing_of}
use Rattle.seams.specs.Seams.{unseamed}
use Rattle.seams.specs.Values.{is_seam}
use Rattle.walk_order.specs.OfSurface.{fan_labels, fans_of, fan_ends}
use Rattle.walk_order.specs.Laws.{ListsClasses}
use Rattle.walk_order.proofs.Covering.{depth_first_lists_classes}
use Rattle.walk_order.proofs.Rating.{prediction_degree_lists_classes}
use Rattle.walk_order.proofs.Labels.{surface_is_labelled}
use Rattle.corner_table.specs.Ordered.{Ordered, ordered, IsOrdered}
use Rattle.predict.specs.Laws.{AreApart}
use Rattle.predict.proofs.Rounds.{flags_are_few}
use Rattle.attr_section.specs.WrittenParts.{HasFewFlags}
use Rattle.attr_section.proofs.SpelledFlags.{few_in}
use Rattle.drc_container.specs.declared.choice.codings.Coding.{Coding}
use Rattle.drc_container.specs.declared.surface.ordered_surface.OrderedSurface.{OrderedSurface}
use Rattle.drc_container.specs.declared.surface.attribute_surfaces.AttributeSurfaces.{AttributeSurfaces}
use Rattle.drc_container.specs.reading.OnSurface.{order_by, ordered_by}
use Rattle.drc_container.specs.writing.WrittenOnSurface.{GluedMesh, is_cornered, surface_order}
use Rattle.drc_container.specs.surface.AttributeSurfaces.{glued_on, cut_order, order_in, order_at, AreAttributeSurfaces}
use Rattle.drc_container.proofs.lemmas.surface.Walks.{order-on}

-- ---- flags

-- no two entries of an order stand at one vertex
order-apart : (degree : Bool) (faces : ℕ) (g : Gluing) → IsGluing faces g → ListsClasses (fan_labels faces g) (fans_of faces g) (order_by degree faces g)
order-apart false faces g G = depth_first_lists_classes faces g (fan_labels faces g) (fans_of faces g) (fan_ends faces g) G (surface_is_labelled faces g G)
order-apart true faces g G = prediction_degree_lists_classes faces g (fan_labels faces g) (fans_of faces g) (fan_ends faces g) G (surface_is_labelled faces g G)

walk-apart : (degree : Bool) (faces : ℕ) (g : Gluing) → IsGluing faces g → AreApart (ordered_by degree faces g)
unfolding ordered_by
walk-apart degree faces g G i j below_i below_j fan =
    let order = order_by degree faces g in
    let within_i = order-on degree faces g i (side_at 0) below_i in
    let within_j = order-on degree faces g j (side_at 0) below_j in
    (order-apart degree faces g G).apart i j below_i below_j
    ((surface_is_labelled faces g G).one_label (get_or order i (side_at 0)) (get_or order j (side_at 0)) within_i within_j fan)

-- no list of flags over a table and the order of its walk has more of them than there are corners
pub few-flags : (degree : Bool) (t : Table) (labels : List ℕ) (o : Order) → IsGluing t.faces (gluing_of t) → IsOrdered t labels o
    → ordered t labels o ≡ ordered_by degree t.faces (gluing_of t) → HasFewFlags (ordered t labels o)
few-flags degree t labels o G over is =
    let w = ordered t labels o in
    let apart : AreApart w = subst AreApart (sym is) (walk-apart degree t.faces (gluing_of t) G) in
    few_in t.faces w over.over (λ k. flags_are_few t.faces w G over.over apart k)

-- ---- the surface of an attribute

-- the surface of an attribute is its own or that of the mesh
pub walk-of-is : (coding : Coding) (d : GluedMesh) (k : ℕ) → unwrap_or (cut_order d k) (ordered_by coding.degree (length d.mesh.faces) d.pairs) ≡ surface_order coding d k
unfolding surface_order
walk-of-is coding d k = at (is_cornered d k) coding.degree (length d.mesh.faces) (unseamed (is_seam d.mesh k d.pairs) d.pairs) d.pairs
  where
    at : (b degree : Bool) (faces : ℕ) (g h : Gluing)
        → unwrap_or (if b then Some (ordered_by false faces (if b then g else h)) else None) (ordered_by degree faces h)
        ≡ ordered_by (degree && not b) faces (if b then g else h)
    at true true faces g h = refl
    at true false faces g h = refl
    at false true faces g h = refl
    at false false faces g h = refl

-- ---- what is kept

-- there is a place for each attribute
pub cut-each : (degree : Bool) (s : AttributeSurfaces) → AreAttributeSurfaces degree s → length s.cut.items ≡ length s.mesh.heads
cut-each degree s are =
    sym (length-map s.cut.items (option_map order_in)) ∙ ap length are.cut ∙ length-map-range_with_len (cut_order (glued_on s)) 0 (length s.mesh.heads)

-- what is kept for an attribute
pub cut-at : (degree : Bool) (s : AttributeSurfaces) (k : ℕ) → AreAttributeSurfaces degree s → k < length s.mesh.heads → option_map order_in (get_or s.cut.items k None) ≡ cut_order (glued_on s) k
cut-at degree s k are has =
    let below : k < length s.cut.items = omega (arith, has, cut-each degree s are) in
    sym (get_or-map (option_map order_in) s.cut.items k None None below)
    ∙ ap (λ (l : List (Option Ordered)). get_or l k None) are.cut
    ∙ get_or-map-range_with_len (cut_order (glued_on s)) 0 (length s.mesh.heads) k k None has (omega arith)

-- is what its values stand on
pub walk-at : (coding : Coding) (s : AttributeSurfaces) (k : ℕ) → AreAttributeSurfaces coding.degree s → k < length s.mesh.heads → order_at s k ≡ surface_order coding (glued_on s) k
walk-at coding s k are has =
    ap (λ (o : Option Ordered). unwrap_or o (order_in s.whole)) (cut-at coding.degree s k are has)
    ∙ ap (unwrap_or (cut_order (glued_on s) k)) are.whole
    ∙ walk-of-is coding (glued_on s) k

-- it is cut exactly where the values belong to corners
pub is-cut : (degree : Bool) (s : AttributeSurfaces) (k : ℕ) → AreAttributeSurfaces degree s → k < length s.mesh.heads → is_some (get_or s.cut.items k None) ≡ is_cornered (glued_on s) k
is-cut degree s k are has =
    sym (some-mapped (get_or s.cut.items k None)) ∙ ap is_some (cut-at degree s k are has) ∙ at (is_cornered (glued_on s) k) _
  where
    some-mapped : (o : Option OrderedSurface) → is_some (option_map order_in o) ≡ is_some o
    some-mapped None = refl
    some-mapped (Some t) = refl

    at : (b : Bool) (w : Ordered) → is_some (if b then Some w else None) ≡ b
    at true w = refl
    at false w = refl
