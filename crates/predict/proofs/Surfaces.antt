-- The lists of an ordered surface.
use Rattle.std.proofs.Common.{◌≡◌, ℕ, ◌*◌, ◌/◌, ◌<◌, ◌≤◌, List, length, get_or, map, sym, subst, ap, ◌∙◌, arith}
use Rattle.std.specs.List.{All}
use Rattle.std.proofs.lemmas.List.{length-map, get_or-map}
use Rattle.drc_base.specs.declared.limits.TheConstants.{MAX_FACES}
use Rattle.corner_table.specs.declared.corner_lists.Order.{Order}
use Rattle.corner_table.specs.Sides.{Side, side_at, IsGluing}
use Rattle.corner_table.specs.Table.{Table, glued_in, gluing_of, room_of}
use Rattle.corner_table.specs.Ordered.{FitTogether, IsOrdered}
use Rattle.predict.specs.declared.surface.Surface.{Surface}
use Rattle.predict.specs.Stored.{IsOrderedSurface}

-- there are as many classes of corners as corners
corners_whole : (t : Table) (labels : List ℕ) (o : Order) → IsOrdered t labels o → length labels ≡ 3 * t.faces
corners_whole t labels o O = sym (length-map labels (λ (k : ℕ). get_or o.entry_of_class k 0)) ∙ O.over.each_corner

-- the corners of entries are numbers of corners
corners_within : (t : Table) (labels : List ℕ) (o : Order) → IsOrdered t labels o → All (λ (c : ℕ). c < length labels) o.corner_of_entry
corners_within t labels o O k d h =
    let w = corners_whole t labels o O in
    let far : k < length (map side_at o.corner_of_entry) = omega (arith, length-map o.corner_of_entry side_at) in
    let is : get_or (map side_at o.corner_of_entry) k (side_at d) ≡ side_at (get_or o.corner_of_entry k d) = get_or-map side_at o.corner_of_entry k d (side_at d) h in
    let below : (get_or (map side_at o.corner_of_entry) k (side_at d)).face < t.faces = O.over.corners k (side_at d) far in
    let face : (get_or (map side_at o.corner_of_entry) k (side_at d)).face ≡ get_or o.corner_of_entry k d / 3 = ap (λ (x : Side). x.face) is in
    omega arith

-- the lists of a table, of the classes of its corners and of an order over them are a surface
pub surface_is : (s : Surface) (t : Table) (labels : List ℕ) (o : Order) → s.across.now ≡ t.entries → s.labels.now ≡ labels
    → s.entry_of_class.now ≡ o.entry_of_class → s.corners.now ≡ o.corner_of_entry → length t.entries ≡ 3 * room_of t
    → t.faces ≤ room_of t → room_of t ≤ MAX_FACES → IsGluing t.faces (gluing_of t) → IsOrdered t labels o → IsOrderedSurface s
surface_is s t labels o across is entries corners full room limit G O = record {
  fit = subst (λ (n : ℕ). FitTogether n s.across.now s.labels.now s.entry_of_class.now) faces (record {
    limit = omega arith;
    whole = whole;
    long = let l = ap (λ (x : List ℕ). length x) across in omega arith;
    gluing = subst (λ (l : List ℕ). IsGluing t.faces (glued_in l)) (sym across) G;
    classes = subst (λ (l : List ℕ). All (λ (k : ℕ). k < length s.entry_of_class.now) l) (sym is)
        (subst (λ (l : List ℕ). All (λ (k : ℕ). k < length l) labels) (sym entries) O.classes);
  });
  corners = subst (λ (l : List ℕ). All (λ (c : ℕ). c < length l) s.corners.now) (sym is)
      (subst (All (λ (c : ℕ). c < length labels)) (sym corners) (corners_within t labels o O));
}
  where
    whole : length s.labels.now ≡ 3 * t.faces
    whole = ap (λ (l : List ℕ). length l) is ∙ corners_whole t labels o O

    faces : t.faces ≡ length s.labels.now / 3
    faces = let w = whole in omega arith
