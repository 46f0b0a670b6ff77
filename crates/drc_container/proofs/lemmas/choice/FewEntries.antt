-- There are no more vertices, and no more entries of an attribute, than corners of faces.
use Rattle.std.proofs.Common.{◌≡◌, ℕ, zero, suc, ◌+◌, ◌*◌, ◌<◌, ◌≤◌, Bool, false, eqb, List, length, map, take, get_or, inl, inr, sym, ap, ◌∙◌, subst, arith, add-one}
use Rattle.std.specs.Prelude.{not, ◌&&◌, nat_lt}
use Rattle.std.specs.List.{All, range_with_len, list_any}
use Rattle.std.proofs.lemmas.Bool.{cases_lt, ne_eqb, false≢true}
use Rattle.std.proofs.lemmas.Nat.{mul-le}
use Rattle.std.proofs.lemmas.List.{length-map, get_or-map, get_or_default, take_all}
use Rattle.std.proofs.lemmas.List.Elements.{All-map, All-weaker}
use Rattle.std.proofs.lemmas.List.Folds.{list_any_none}
use Rattle.std.proofs.lemmas.List.Sums.{count_by-le-length}
use Rattle.std.proofs.lemmas.Map.Keys.{IsDistinct-from_apart}
use Rattle.std.proofs.lemmas.Map.Steps.{length-le_from_distinct_below}
use Rattle.attr_heads.specs.declared.heads.Head.{Head}
use Rattle.attr_heads.specs.Head.{width_of}
use Rattle.mesh_model.specs.Parts.{IsMesh}
use Rattle.corner_table.specs.Sides.{Side, number, side_at, Gluing, IsGluing}
use Rattle.corner_table.specs.Fans.{meets, corners_of}
use Rattle.corner_table.specs.Labels.{label_at}
use Rattle.corner_table.proofs.PairLaws.{length-corners_of}
use Rattle.walk_order.specs.OfSurface.{fan_labels, fans_of}
use Rattle.walk_order.proofs.Labels.{surface_is_labelled}
use Rattle.walk_order.proofs.Surfaces.{few_labels}
use Rattle.eb_trace.specs.Trace.{fan_count}
use Rattle.attr_section.specs.Attributes.{values_in}
use Rattle.drc_container.specs.declared.choice.codings.Coding.{Coding}
use Rattle.drc_container.specs.reading.OnSurface.{order_by}
use Rattle.drc_container.specs.writing.WrittenOnSurface.{GluedMesh, cut_of, is_by_degree, surface_order, coded_by, coded_values}
use Rattle.drc_container.proofs.lemmas.surface.Walks.{order-on, order-lists}
use Rattle.drc_container.proofs.lemmas.writing.SurfaceColumns.{walk-corners, cut-gluing}
use Rattle.drc_container.proofs.lemmas.writing.SurfaceParts.{values-long, values-more, one-width}
use Rattle.drc_container.proofs.lemmas.surface.Pieces.{width-more}
use Rattle.drc_container.proofs.lemmas.writing.SurfacePut.{no_head}

-- vertices are corners that are the least of their fans
pub fans-few : (faces : ℕ) (g : Gluing) → fan_count faces g ≤ 3 * faces
fans-few faces g =
    let is_least : Side → Bool = λ c. not (list_any (λ (d : Side). nat_lt (number d) (number c) && meets faces g c d) (corners_of faces)) in
    omega (arith, count_by-le-length is_least (corners_of faces), length-corners_of faces)

-- numbers below n, no two the same, are no more than n
few-apart : (xs : List ℕ) (n : ℕ) → All (λ x. x < n) xs → ((i j d : ℕ) → i < j → j < length xs → get_or xs i d ≡ get_or xs j d → ⊥) → length xs ≤ n
few-apart xs n below apart =
    length-le_from_distinct_below xs n
    (IsDistinct-from_apart eqb xs (λ i j d less inside. ne_eqb (get_or xs i d) (get_or xs j d) (apart i j d less inside)))
    (λ q found. elim (cases_lt q n) [
      | inl l ↦ l
      | inr past ↦ absurd (false≢true (sym (list_any_none (eqb q) xs (All-weaker (λ x. x < n) (λ x. eqb q x ≡ false) (λ x less. ne_eqb q x (λ e. omega arith)) xs below)) ∙ found))
    ])

-- the entries of an order are in different fans
pub order-few : (degree : Bool) (faces : ℕ) (g : Gluing) → IsGluing faces g → length (order_by degree faces g) ≤ 3 * faces
order-few degree faces g G =
    let order = order_by degree faces g in
    let L = surface_is_labelled faces g G in
    let name : Side → ℕ = λ c. label_at (fan_labels faces g) c in
    let names = map name order in
    let many : length names ≡ length order = length-map order name in
    let below : All (λ x. x < fans_of faces g) names =
    All-map (λ x. x < fans_of faces g) name order
    (All-weaker (λ (c : Side). c.face < faces) (λ (c : Side). name c < fans_of faces g) (λ c within. L.bounded c within) order (order-on degree faces g)) in
    let few : length names ≤ fans_of faces g = few-apart names (fans_of faces g) below (λ i j d less inside same.
    let hj : j < length order = omega (arith, inside, many) in
    let hi : i < length order = omega (arith, less, hj) in
    let one : i ≡ j = (order-lists degree faces g G).apart i j hi hj
    (sym (get_or-map name order i (side_at 0) d hi) ∙ same ∙ get_or-map name order j (side_at 0) d hj) in
    omega (arith, less, one)) in
    omega (arith, many, few, few_labels L)

-- so are those of the walk of an attribute
pub entries-few : (coding : Coding) (d : GluedMesh) (k : ℕ) → IsGluing (length d.mesh.faces) d.pairs → length (surface_order coding d k).corners ≤ 3 * length d.mesh.faces
entries-few coding d k G =
    subst (λ (order : List Side). length order ≤ 3 * length d.mesh.faces) (sym (walk-corners coding d k))
    (order-few (is_by_degree coding d k) (length d.mesh.faces) (cut_of d k) (cut-gluing d k G))

-- ---- how many values are coded

-- the values of one attribute more
more-few : (t v w n c vm wm : ℕ) → v ≤ t * w → n ≤ t → vm ≡ v + n * c → wm ≡ w + c → vm ≤ t * wm
more-few t v w n c vm wm low few vs ws =
    let product : n * c ≤ t * c = mul-le n c t c few (omega arith) in
    let whole : t * wm ≡ t * w + t * c = ap (λ x. t * x) ws ∙ omega arith in
    omega (arith, product, whole, low, vs)

-- the first attributes have no more values than that many corners
first-few : (coding : Coding) (d : GluedMesh) → IsMesh d.mesh → IsGluing (length d.mesh.faces) d.pairs → (k : ℕ) → k ≤ length d.mesh.heads
    → values_in (map (coded_by coding d) (range_with_len 0 k)) ≤ 3 * length d.mesh.faces * width_of (take k d.mesh.heads)
first-few coding d is G zero within = omega arith
first-few coding d is G (suc k) within =
    let heads = d.mesh.heads in
    let t = 3 * length d.mesh.faces in
    let n = length (surface_order coding d k).corners in
    let h = get_or heads k no_head in
    let has : k < length heads = omega (arith, within) in
    let before = first-few coding d is G k (omega (arith, within)) in
    let values : values_in (map (coded_by coding d) (range_with_len 0 (suc k))) ≡ values_in (map (coded_by coding d) (range_with_len 0 k)) + n * h.comps =
    ap (λ m. values_in (map (coded_by coding d) (range_with_len 0 m))) (sym (add-one k))
    ∙ values-more coding d k
    ∙ ap (λ m. values_in (map (coded_by coding d) (range_with_len 0 k)) + m) (values-long coding d is k no_head has) in
    let wider : width_of (take (suc k) heads) ≡ width_of (take k heads) + h.comps =
    width-more heads k no_head has ∙ ap (λ m. width_of (take k heads) + m) (sym (one-width heads k h has (get_or_default heads k no_head h has))) in
    more-few t _ (width_of (take k heads)) n h.comps _ _ before (entries-few coding d k G) values wider

-- all attributes have no more values than the corners would have
pub coded-few : (coding : Coding) (d : GluedMesh) → IsMesh d.mesh → IsGluing (length d.mesh.faces) d.pairs
    → values_in (coded_values coding d) ≤ 3 * length d.mesh.faces * width_of d.mesh.heads
unfolding coded_values
coded-few coding d is G =
    let heads = d.mesh.heads in
    subst (λ (hs : List Head). values_in (map (coded_by coding d) (range_with_len 0 (length heads))) ≤ 3 * length d.mesh.faces * width_of hs)
    (take_all (length heads) heads (omega arith)) (first-few coding d is G (length heads) (omega arith))
