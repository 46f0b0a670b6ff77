-- The decoders and the values of a mesh's attributes by Edgebreaker are what the calls that write them ask for.
use Rattle.std.proofs.Common.{◌≡◌, ℕ, zero, suc, ◌+◌, ◌-◌, ◌*◌, ◌<◌, ◌≤◌, ◌^◌, Bool, ℤ, pos, List, [], ◌∷◌, ◌++◌, length, map, take, drop, get_or, Some, true, refl, sym, ap, ◌∙◌, subst, arith, drop-cons, append-nil, Vec, Global}
use Rattle.std.specs.Prelude.{not, flat_map}
use Rattle.std.specs.List.{All, range_with_len, enumerate_from, zip}
use Rattle.std.proofs.lemmas.Grind.{flat_map-append}
use Rattle.std.proofs.lemmas.List.{length-map, get_or-map, map-append, take_more}
use Rattle.std.proofs.lemmas.List.Elements.{All-nil, All-cons, All-get_or, All-from_get_or}
use Rattle.std.proofs.lemmas.List.FromFn.{length-map-range_with_len, get_or-map-range_with_len, map-range_with_len_more, sum_by-map-range_with_len_more, length-enumerate_from, get_or-enumerate_from}
use Rattle.std.proofs.lemmas.List.Filters.{length-filter_both}
use Rattle.std.proofs.lemmas.List.Sums.{get_or-le-sum_by, sum_by-cons}
use Rattle.std.proofs.Math.Nat.{mul-mod_left, mul-le-mul_left}
use Rattle.drc_base.specs.declared.limits.TheConstants.{MAX_ATTRIBUTES}
use Rattle.attr_heads.specs.declared.heads.Head.{Head}
use Rattle.attr_heads.specs.declared.octahedra.TheConstants.{OCTAHEDRAL_INTEGERS}
use Rattle.attr_heads.specs.Head.{width_of}
use Rattle.mesh_model.specs.Parts.{MeshParts, corner, IsMesh}
use Rattle.attr_heads.proofs.Passing.{HeadSays, heads_say}
use Rattle.drc_base.specs.declared.sides.Side.{Side as NumberedSide}
use Rattle.corner_table.specs.Sides.{Side, place_of, place_number, side_at, Gluing, IsGluing}
use Rattle.corner_table.specs.Fans.{corners_of}
use Rattle.corner_table.specs.Pairs.{has_bit, bit_sides}
use Rattle.corner_table.specs.Table.{side_of, gluing_of}
use Rattle.corner_table.proofs.Numbers.{number-side_at, face-lt}
use Rattle.corner_table.proofs.PairLaws.{length-corners_of}
use Rattle.walk_order.specs.OfSurface.{entries_of}
use Rattle.seams.specs.Values.{piece, is_seam}
use Rattle.seams.proofs.Values.{width_part}
use Rattle.predict.specs.Wrap.{CanWrap}
use Rattle.corner_table.specs.Ordered.{Ordered}
use Rattle.attr_section.specs.declared.decoder_heads.DecoderHead.{DecoderHead}
use Rattle.attr_section.specs.declared.values.Values.{Values}
use Rattle.attr_heads.specs.HeadItems.{HeadPasses}
use Rattle.attr_section.specs.Heads.{attributes_of, HasSquareType, DecoderPasses, DecodersPass}
use Rattle.attr_section.specs.Attributes.{values_in}
use Rattle.attr_section.specs.WrittenParts.{range_of}
use Rattle.attr_section.specs.Written.{HasEnd, MayHavePoints, CanAsk, ValuesPass, DecoderValuesPass, HaveEntries}
use Rattle.drc_container.specs.declared.choice.codings.Coding.{Coding}
use Rattle.drc_container.specs.declared.surface.ordered_surface.OrderedSurface.{OrderedSurface}
use Rattle.drc_container.specs.declared.surface.attribute_surfaces.AttributeSurfaces.{AttributeSurfaces}
use Rattle.drc_container.specs.choice.CanCode.{wraps, CanCode}
use Rattle.drc_container.specs.choice.Predicts.{asked}
use Rattle.drc_container.specs.reading.OnSurface.{order_by, ordered_by}
use Rattle.drc_container.specs.writing.WrittenOnSurface.{GluedMesh, seam_bits_of, cut_of, is_by_degree, surface_order, asked_at, coded_by, coded_values, decoder_for, decoders_for, seam_lists}
use Rattle.drc_container.specs.surface.AttributeSurfaces.{glued_on, order_in, order_at, AreAttributeSurfaces}
use Rattle.drc_container.proofs.lemmas.writing.Asking.{head_square, head_end, can-ask}
use Rattle.drc_container.proofs.lemmas.writing.Attributed.{head_passes}
use Rattle.drc_container.proofs.lemmas.surface.Pieces.{width-more, pieces-typed, pieces-long}
use Rattle.drc_container.proofs.lemmas.writing.SurfaceColumns.{order_for, walk-on, walk-corners, walk-entries, cut-gluing}
use Rattle.drc_container.proofs.lemmas.surface.Walks.{entries-each, has_entry, order-some}
use Rattle.drc_container.proofs.lemmas.surface.AttributeSurfaces.{walk-at}

-- ---- attribute after attribute

-- one attribute more
pub enumerate-more : {A : Type 0} (n : ℕ) (xs : List A) (i : ℕ) (d : A) → i < length xs
    → enumerate_from n (take (i + 1) xs) ≡ enumerate_from n (take i xs) ++ (n + i, get_or xs i d) ∷ []
enumerate-more {A} n [] i d has = absurd (omega arith)
enumerate-more {A} n (x ∷ xs) zero d has = let e : n ≡ n + 0 = omega arith in ap (λ (m : ℕ). (m, x) ∷ []) e
enumerate-more {A} n (x ∷ xs) (suc i) d has =
    let e : n + 1 + i ≡ n + suc i = omega arith in
    let more : suc i + 1 ≡ suc (i + 1) = omega arith in
    rw more (ap (λ (l : List (ℕ × A)). (n, x) ∷ l) (enumerate-more (n + 1) xs i d (omega arith) ∙ ap (λ (m : ℕ). enumerate_from (n + 1) (take i xs) ++ (m, get_or xs i d) ∷ []) e))

-- ---- values

-- how many values an attribute has
pub values-long : (coding : Coding) (d : GluedMesh) → IsMesh d.mesh → (k : ℕ) (h : Head) → k < length d.mesh.heads
    → length (coded_by coding d k).values ≡ length (surface_order coding d k).corners * (get_or d.mesh.heads k h).comps
values-long coding d is k h has = pieces-long d.mesh is k h has (surface_order coding d k).corners (walk-on coding d k)

-- the values of one attribute more
pub values-more : (coding : Coding) (d : GluedMesh) (k : ℕ)
    → values_in (map (coded_by coding d) (range_with_len 0 (k + 1))) ≡ values_in (map (coded_by coding d) (range_with_len 0 k)) + length (coded_by coding d k).values
values-more coding d k = sum_by-map-range_with_len_more (λ (v : Values). length v.values) (coded_by coding d) 0 k k (omega arith)

pub columns-more : (coding : Coding) (d : GluedMesh) (k : ℕ)
    → map (coded_by coding d) (range_with_len 0 (k + 1)) ≡ map (coded_by coding d) (range_with_len 0 k) ++ coded_by coding d k ∷ []
columns-more coding d k = map-range_with_len_more (coded_by coding d) 0 k k (omega arith)

-- the values of attribute k among those of all
pub values-at : (coding : Coding) (d : GluedMesh) (k : ℕ) (e : Values) → k < length d.mesh.heads → get_or (coded_values coding d) k e ≡ coded_by coding d k
unfolding coded_values
values-at coding d k e has = get_or-map-range_with_len (coded_by coding d) 0 (length d.mesh.heads) k k e has (omega arith)

pub values-each : (coding : Coding) (d : GluedMesh) → length (coded_values coding d) ≡ length d.mesh.heads
unfolding coded_values
values-each coding d = length-map-range_with_len (coded_by coding d) 0 (length d.mesh.heads)

-- whole entries are some
some-values : (n comps : ℕ) → 0 < n → 1 ≤ comps → 0 < n * comps
some-values n comps some one = let more : n * 1 ≤ n * comps = mul-le-mul_left n one in omega (arith, more, some)

-- what is asked of attribute k
pub asked-of : (coding : Coding) (d : GluedMesh) (k : ℕ) (e : Head) → k < length d.mesh.heads → asked_at coding d k ≡ asked coding.predict (get_or d.mesh.heads k e)
asked-of coding d k e has = get_or-map (asked coding.predict) d.mesh.heads k e (pos 0) has

-- each corner has an entry of the walk
entry-near : (coding : Coding) (d : GluedMesh) → IsGluing (length d.mesh.faces) d.pairs → (k : ℕ)
    → All (λ (e : ℕ). e < length (surface_order coding d k).corners) (surface_order coding d k).entries
entry-near coding d G k =
    let faces = length d.mesh.faces in
    let cut = cut_of d k in
    let degree = is_by_degree coding d k in
    let order = order_by degree faces cut in
    rw (walk-corners coding d k, walk-entries coding d k)
    (All-from_get_or (λ (e : ℕ). e < length order) (entries_of faces cut order) 0 (λ i below.
    let small : i < 3 * faces = omega (arith, below, entries-each faces cut order) in
    subst (λ (j : ℕ). get_or (entries_of faces cut order) j 0 < length order) (number-side_at i)
    (has_entry degree faces cut (cut-gluing d k G) (side_at i) (face-lt i faces small)).within))

-- octahedral values stand on it
points-stand : (coding : Coding) (d : GluedMesh) → IsGluing (length d.mesh.faces) d.pairs → (k comps : ℕ)
    → length (coded_by coding d k).values ≡ length (surface_order coding d k).corners * comps → comps ≡ OCTAHEDRAL_INTEGERS
    → MayHavePoints (Some (surface_order coding d k)) (length (coded_by coding d k).values)
points-stand coding d G k comps long two =
    (long ∙ ap (λ (c : ℕ). length (surface_order coding d k).corners * c) two, entry-near coding d G k)

-- heads beside the values of their attributes
zip-at : (heads : List Head) (values : List Values) (k : ℕ) (h : Head) (v : Values) → k < length heads → k < length values
    → get_or (zip heads values) k (h, v) ≡ (get_or heads k h, get_or values k v)
zip-at [] values k h v has within = absurd (omega (arith, has))
zip-at (x ∷ heads) [] k h v has within = absurd (omega (arith, within))
zip-at (x ∷ heads) (y ∷ values) zero h v has within = refl
zip-at (x ∷ heads) (y ∷ values) (suc k) h v has within = zip-at heads values k h v (omega (arith, has)) (omega (arith, within))

zip-long : (heads : List Head) (values : List Values) → length values ≡ length heads → length (zip heads values) ≡ length heads
zip-long [] values same = refl
zip-long (x ∷ heads) [] same = absurd (omega (arith, same))
zip-long (x ∷ heads) (y ∷ values) same = ap (λ (n : ℕ). suc n) (zip-long heads values (omega (arith, same)))

-- the values of attribute k lie near enough, where they wrap
near-at : (coding : Coding) (d : GluedMesh) → CanCode d.mesh.heads (coded_values coding d) → (k : ℕ) (e : Head) → k < length d.mesh.heads
    → wraps (get_or d.mesh.heads k e) (coded_by coding d k) ≡ true → CanWrap (range_of (coded_by coding d k).values)
near-at coding d can k e has =
    let values = coded_values coding d in
    let v = coded_by coding d k in
    let Near : Head × Values → Type 0 = λ (x, y). wraps x y ≡ true → CanWrap (range_of y.values) in
    let within : k < length values = omega (arith, has, values-each coding d) in
    let there : k < length (zip d.mesh.heads values) = omega (arith, has, zip-long d.mesh.heads values (values-each coding d)) in
    subst Near (zip-at d.mesh.heads values k e v has within ∙ ap (λ (y : Values). (get_or d.mesh.heads k e, y)) (values-at coding d k v has))
    (All-get_or Near (zip d.mesh.heads values) k (e, v) there can.near)

-- they may have what is asked of them
pub attribute-asks : (coding : Coding) (d : GluedMesh) → IsMesh d.mesh → IsGluing (length d.mesh.faces) d.pairs → CanCode d.mesh.heads (coded_values coding d)
    → (k : ℕ) (e : Head) → k < length d.mesh.heads
    → CanAsk (Some (surface_order coding d k)) (get_or d.mesh.heads k e).octa (get_or d.mesh.heads k e).comps (coded_by coding d k).predict (coded_by coding d k).values
attribute-asks coding d is G can k e has =
    let h = get_or d.mesh.heads k e in
    let v = coded_by coding d k in
    let says : HeadSays h = All-get_or HeadSays d.mesh.heads k e has (heads_say d.mesh.heads is.points.heads_pass).each in
    let long : length v.values ≡ length (surface_order coding d k).corners * h.comps = values-long coding d is k e has in
    can-ask coding.predict h (Some (surface_order coding d k)) v says (asked-of coding d k e has) (near-at coding d can k e has)
    (record { stand = λ needs. long }) (points-stand coding d G k h.comps long)

-- the values of an attribute pass
values-pass : (coding : Coding) (d : GluedMesh) → IsMesh d.mesh → IsGluing (length d.mesh.faces) d.pairs → 0 < length d.mesh.faces → CanCode d.mesh.heads (coded_values coding d)
    → (k : ℕ) (e : Head) → k < length d.mesh.heads → ValuesPass (Some (surface_order coding d k)) (get_or d.mesh.heads k e) (coded_by coding d k)
values-pass coding d is G faces can k e has =
    let h = get_or d.mesh.heads k e in
    let v = coded_by coding d k in
    let says : HeadSays h = All-get_or HeadSays d.mesh.heads k e has (heads_say d.mesh.heads is.points.heads_pass).each in
    let n = length (surface_order coding d k).corners in
    let long : length v.values ≡ n * h.comps = values-long coding d is k e has in
    let entries : 0 < n = subst (λ (order : List Side). 0 < length order) (sym (walk-corners coding d k))
    (order-some (is_by_degree coding d k) (length d.mesh.faces) _ (cut-gluing d k G) faces) in
    let some : 0 < n * h.comps = some-values n h.comps entries says.some in
    let here : length v.values ≤ values_in (coded_values coding d) =
    subst (λ (x : Values). length x.values ≤ values_in (coded_values coding d)) (values-at coding d k v has)
    (get_or-le-sum_by (λ (x : Values). length x.values) (coded_values coding d) k v (omega (arith, has, values-each coding d))) in
    record {
      comps = says.some;
      some = omega (arith, long, some);
      few = omega (arith, here, can.few);
      whole = rw long (mul-mod_left n h.comps);
      bounded = pieces-typed d.mesh is k e has (surface_order coding d k).corners (walk-on coding d k);
      asked = attribute-asks coding d is G can k e has;
    }

-- and so do those of its decoder
pub decoder-values-pass : (coding : Coding) (d : GluedMesh) → IsMesh d.mesh → IsGluing (length d.mesh.faces) d.pairs → 0 < length d.mesh.faces → CanCode d.mesh.heads (coded_values coding d)
    → (k : ℕ) (e : Head) → k < length d.mesh.heads
    → DecoderValuesPass (Some (surface_order coding d k)) (get_or d.mesh.heads k e ∷ []) (coded_by coding d k ∷ [])
decoder-values-pass coding d is G faces can k e has =
    let h = get_or d.mesh.heads k e in
    let v = coded_by coding d k in
    let w = Some (surface_order coding d k) in
    let says : HeadSays h = All-get_or HeadSays d.mesh.heads k e has (heads_say d.mesh.heads is.points.heads_pass).each in
    record {
      each_head = refl;
      ends = All-cons (λ (x : Head). HasEnd x x.octa) h [] (head_end h says) (All-nil (λ (x : Head). HasEnd x x.octa));
      each = All-cons (λ (x, y). ValuesPass w x y) (h, v) [] (values-pass coding d is G faces can k e has) (All-nil (λ (x, y). ValuesPass w x y));
    }

-- it has values for each entry
pub decoder-entries : (coding : Coding) (d : GluedMesh) → IsMesh d.mesh → (k : ℕ) (e : Head) → k < length d.mesh.heads
    → HaveEntries (length (surface_order coding d k).corners) (get_or d.mesh.heads k e ∷ []) (coded_by coding d k ∷ [])
decoder-entries coding d is k e has =
    let n = length (surface_order coding d k).corners in
    All-cons (λ (h, v). length v.values ≡ n * h.comps) (get_or d.mesh.heads k e, coded_by coding d k) [] (values-long coding d is k e has) (All-nil (λ (h, v). length v.values ≡ n * h.comps))

-- ---- decoders

-- the decoder of attribute k among all
pub decoder-at : (coding : Coding) (d : GluedMesh) (k : ℕ) (x : DecoderHead) (e : Head) → k < length d.mesh.heads
    → get_or (decoders_for coding d) k x ≡ decoder_for coding d k (get_or d.mesh.heads k e)
unfolding decoders_for
decoder-at coding d k x e has =
    let f : ℕ × Head → DecoderHead = λ (j, h). decoder_for coding d j h in
    get_or-map f (enumerate_from 0 d.mesh.heads) k (0, e) x (omega (arith, has, length-enumerate_from 0 d.mesh.heads))
    ∙ ap f (get_or-enumerate_from 0 d.mesh.heads k (0, e) has ∙ ap (λ (j : ℕ). (j, get_or d.mesh.heads k e)) (omega arith))

pub decoders-each : (coding : Coding) (d : GluedMesh) → length (decoders_for coding d) ≡ length d.mesh.heads
unfolding decoders_for
decoders-each coding d =
    length-map (enumerate_from 0 d.mesh.heads) (λ (j, h). decoder_for coding d j h) ∙ length-enumerate_from 0 d.mesh.heads

-- one decoder more
pub decoders-more : (coding : Coding) (d : GluedMesh) (k : ℕ) (h : Head) → k < length d.mesh.heads → h ≡ get_or d.mesh.heads k h
    → map (λ (j, x). decoder_for coding d j x) (enumerate_from 0 (take (k + 1) d.mesh.heads))
    ≡ map (λ (j, x). decoder_for coding d j x) (enumerate_from 0 (take k d.mesh.heads)) ++ decoder_for coding d k h ∷ []
decoders-more coding d k h has is =
    let f : ℕ × Head → DecoderHead = λ (j, x). decoder_for coding d j x in
    let zero_k : 0 + k ≡ k = omega arith in
    ap (map f) (enumerate-more 0 d.mesh.heads k h has)
    ∙ map-append f (enumerate_from 0 (take k d.mesh.heads)) ((0 + k, get_or d.mesh.heads k h) ∷ [])
    ∙ ap (λ (j : ℕ). map f (enumerate_from 0 (take k d.mesh.heads)) ++ decoder_for coding d j (get_or d.mesh.heads k h) ∷ []) zero_k
    ∙ ap (λ (x : Head). map f (enumerate_from 0 (take k d.mesh.heads)) ++ decoder_for coding d k x ∷ []) (sym is)

-- the decoders pass
one-each : (coding : Coding) (d : GluedMesh) (k : ℕ) (heads : List Head) → attributes_of (map (λ (j, h). decoder_for coding d j h) (enumerate_from k heads)) ≡ length heads
one-each coding d k [] = refl
one-each coding d k (h ∷ heads) =
    let f : ℕ × Head → DecoderHead = λ (j, x). decoder_for coding d j x in
    sum_by-cons (λ (x : DecoderHead). length x.heads) (decoder_for coding d k h) (map f (enumerate_from (k + 1) heads)) ∙ omega (arith, one-each coding d (k + 1) heads)

each-passes : (coding : Coding) (d : GluedMesh) (k : ℕ) (heads : List Head) → All HeadSays heads → All DecoderPasses (map (λ (j, h). decoder_for coding d j h) (enumerate_from k heads))
each-passes coding d k [] say = All-nil DecoderPasses
each-passes coding d k (h ∷ heads) say =
    let f : ℕ × Head → DecoderHead = λ (j, x). decoder_for coding d j x in
    All-cons DecoderPasses (decoder_for coding d k h) (map f (enumerate_from (k + 1) heads))
    (record {
      some = omega arith;
      heads = All-cons HeadPasses h [] (head_passes h (say 0 h (omega arith))) (All-nil HeadPasses);
      squares = All-cons (λ (x : Head). HasSquareType x x.octa) h [] (head_square h (say 0 h (omega arith))) (All-nil (λ (x : Head). HasSquareType x x.octa));
    })
    (each-passes coding d (k + 1) heads (λ i e below. say (suc i) e (omega arith)))

pub decoders-pass : (coding : Coding) (d : GluedMesh) → IsMesh d.mesh → DecodersPass (decoders_for coding d)
unfolding decoders_for
decoders-pass coding d is =
    let say = heads_say d.mesh.heads is.points.heads_pass in
    let each = decoders-each coding d in
    record {
      some = omega (arith, say.some, each);
      few = omega (arith, say.few, one-each coding d 0 d.mesh.heads);
      each = each-passes coding d 0 d.mesh.heads say.each;
    }

-- ---- seam bits

-- a surface has no more seam bits than sides
pub bits-few : (d : GluedMesh) (k : ℕ) → length (seam_bits_of d k) ≤ 3 * length d.mesh.faces
bits-few d k =
    let faces = length d.mesh.faces in
    let both = length-filter_both (has_bit d.pairs) (λ (x : Side). not (has_bit d.pairs x)) (λ x. refl) (corners_of faces) in
    let long : length (seam_bits_of d k) ≡ length (bit_sides faces d.pairs) = length-map (bit_sides faces d.pairs) (is_seam d.mesh k d.pairs) in
    omega (arith, both, long, length-corners_of faces)

-- ---- a column, corner after corner

-- the value at one corner more
pub column-more : (m : MeshParts) (k : ℕ) (corners : List ℕ) (i : ℕ) → i < length corners
    → flat_map (piece m k) (map side_at (take (i + 1) corners)) ≡ flat_map (piece m k) (map side_at (take i corners)) ++ piece m k (side_at (get_or corners i 0))
column-more m k corners i has =
    let c = get_or corners i 0 in
    ap (λ (l : List ℕ). flat_map (piece m k) (map side_at l)) (take_more corners i 0 has)
    ∙ ap (flat_map (piece m k)) (map-append side_at (take i corners) (c ∷ []))
    ∙ flat_map-append (piece m k) (map side_at (take i corners)) (side_at c ∷ [])
    ∙ ap (λ (l : List ℤ). flat_map (piece m k) (map side_at (take i corners)) ++ l) (append-nil (piece m k (side_at c)))

-- the number of a place
place-is : (k : ℕ) → k < 3 → place_number (place_of k) ≡ k
place-is zero low = refl
place-is (suc zero) low = refl
place-is (suc (suc zero)) low = refl
place-is (suc (suc (suc k))) low = absurd (omega arith)

-- the value at a corner, as it is read from the row of its point
pub piece-read : (m : MeshParts) (attr start comps : ℕ) (c : NumberedSide) (row : List ℤ) → c.k < 3 → row ≡ corner m c.face c.k
    → start ≡ width_of (take attr m.heads) → comps ≡ width_of (take 1 (drop attr m.heads)) → take (start + comps - start) (drop start row) ≡ piece m attr (side_of c)
piece-read m attr start comps c row low is from many =
    let long : start + comps - start ≡ width_of (take 1 (drop attr m.heads)) = omega (arith, many) in
    let at : row ≡ corner m c.face (place_number (place_of c.k)) = is ∙ ap (corner m c.face) (sym (place-is c.k low)) in
    ap (λ (n : ℕ). take n (drop start row)) long
    ∙ ap (λ (n : ℕ). take (width_of (take 1 (drop attr m.heads))) (drop n row)) from
    ∙ ap (λ (l : List ℤ). take (width_of (take 1 (drop attr m.heads))) (drop (width_of (take attr m.heads)) l)) at

-- ---- over the surface that is kept

-- what is kept for an attribute is what its values stand on
pub kept-walk : (coding : Coding) (s : AttributeSurfaces) (k : ℕ) (t : OrderedSurface) → AreAttributeSurfaces coding.degree s → k < length s.mesh.heads → order_in t ≡ order_at s k
    → order_in t ≡ surface_order coding (glued_on s) k
kept-walk coding s k t are has is = is ∙ walk-at coding s k are has

-- how many values an attribute has there
pub kept-long : (coding : Coding) (s : AttributeSurfaces) (k : ℕ) (t : OrderedSurface) (h : Head) → AreAttributeSurfaces coding.degree s → IsMesh s.mesh → k < length s.mesh.heads
    → order_in t ≡ order_at s k → h ≡ get_or s.mesh.heads k h → length (coded_by coding (glued_on s) k).values ≡ length t.order.corner_of_entry * h.comps
kept-long coding s k t h are mesh has is named =
    let entries : length (surface_order coding (glued_on s) k).corners ≡ length t.order.corner_of_entry =
    ap (λ (w : Ordered). length w.corners) (sym (kept-walk coding s k t are has is)) ∙ length-map t.order.corner_of_entry side_at in
    values-long coding (glued_on s) mesh k h has
    ∙ ap (λ (n : ℕ). n * (get_or s.mesh.heads k h).comps) entries
    ∙ ap (λ (x : Head). length t.order.corner_of_entry * x.comps) (sym named)

-- an attribute has few components
pub comps-few : (m : MeshParts) (k : ℕ) (h : Head) → IsMesh m → k < length m.heads → h ≡ get_or m.heads k h → h.comps ≤ 8
comps-few m k h is has named =
    let says : HeadSays (get_or m.heads k h) = All-get_or HeadSays m.heads k h has (heads_say m.heads is.points.heads_pass).each in
    subst (λ (x : Head). x.comps ≤ 8) (sym named) says.few

-- so an attribute over 2^32 entries has less than 2^40 values
pub product-few : (n comps : ℕ) → n < 2 ^ 32 → comps ≤ 8 → n * comps ≤ 2 ^ 40
product-few n comps few narrow = let most : n * comps ≤ n * 8 = mul-le-mul_left n narrow in omega (arith, most, few)

-- the surface that is kept for an attribute has the faces of the mesh
pub kept-faces : (coding : Coding) (s : AttributeSurfaces) (k : ℕ) (t : OrderedSurface) → AreAttributeSurfaces coding.degree s → k < length s.mesh.heads → order_in t ≡ order_at s k
    → t.sides.faces ≡ length s.mesh.faces
kept-faces coding s k t are has is =
    let d = glued_on s in
    let labels : List ℕ = t.classes.of_corner in
    let entries : length labels ≡ 3 * length s.mesh.faces =
    sym (length-map labels (λ (c : ℕ). get_or t.order.entry_of_class c 0))
    ∙ ap (λ (w : Ordered). length w.entries) (kept-walk coding s k t are has is)
    ∙ ap length (walk-entries coding d k)
    ∙ entries-each (length d.mesh.faces) (cut_of d k) (order_for coding d k) in
    omega (arith, entries, t.over.each_corner)

-- and the corners of its entries are corners of them
pub kept-corners : (coding : Coding) (s : AttributeSurfaces) (k : ℕ) (t : OrderedSurface) (corners : List ℕ) → AreAttributeSurfaces coding.degree s → k < length s.mesh.heads
    → order_in t ≡ order_at s k → corners ≡ t.order.corner_of_entry → All (λ (c : ℕ). c < 3 * length s.mesh.faces) corners
kept-corners coding s k t corners are has is same =
    subst (λ (l : List ℕ). All (λ (c : ℕ). c < 3 * length s.mesh.faces) l) (sym same)
    (subst (λ (n : ℕ). All (λ (c : ℕ). c < 3 * n) t.order.corner_of_entry) (kept-faces coding s k t are has is) t.over.corners)

-- the values at them are those of the attribute
pub kept-values : (coding : Coding) (s : AttributeSurfaces) (k : ℕ) (t : OrderedSurface) (corners : List ℕ) (column : List ℤ) (code : ℤ) → AreAttributeSurfaces coding.degree s → k < length s.mesh.heads
    → order_in t ≡ order_at s k → corners ≡ t.order.corner_of_entry → column ≡ flat_map (piece s.mesh k) (map side_at corners)
    → code ≡ asked_at coding (glued_on s) k → record { values = column; predict = code; at = 0 } ≡ coded_by coding (glued_on s) k
kept-values coding s k t corners column code are has is same at_corners is_code =
    let make : List ℤ → Values = λ (l : List ℤ). record { values = l; predict = asked_at coding (glued_on s) k; at = 0 } in
    let with_code : ℤ → Values = λ (x : ℤ). record { values = column; predict = x; at = 0 } in
    ap with_code is_code
    ∙ ap make (
    at_corners
    ∙ ap (λ (l : List ℕ). flat_map (piece s.mesh k) (map side_at l)) same
    ∙ ap (λ (w : Ordered). flat_map (piece s.mesh k) w.corners) (kept-walk coding s k t are has is))

-- ---- where the integers of an attribute stand in a row

-- how many there are
pub one-width : (heads : List Head) (k : ℕ) (h : Head) → k < length heads → h ≡ get_or heads k h → h.comps ≡ width_of (take 1 (drop k heads))
one-width heads k h has named =
    let one : width_of (h ∷ []) ≡ h.comps = omega (arith, sum_by-cons (λ (x : Head). x.comps) h []) in
    rw (drop-cons heads k h has, ← named) (sym one)

-- and where those of the next attribute begin
pub next-start : (heads : List Head) (k start : ℕ) (h : Head) → k < length heads → h ≡ get_or heads k h → start ≡ width_of (take k heads)
    → start + h.comps ≡ width_of (take (k + 1) heads)
next-start heads k start h has named from =
    let more : k + 1 ≡ suc k = omega arith in
    rw more (omega (arith, from, one-width heads k h has named, width-more heads k h has))

-- they stand within the row
pub part-within : (heads : List Head) (k start : ℕ) (h : Head) → k < length heads → h ≡ get_or heads k h → start ≡ width_of (take k heads) → start + h.comps ≤ width_of heads
part-within heads k start h has named from = omega (arith, from, one-width heads k h has named, width_part heads k)

-- ---- the lists of seam bits that are kept

-- there is one for each attribute but the first
pub lists-few : (d : GluedMesh) (bits : List (Vec Bool Global)) → IsMesh d.mesh → map (λ (v : Vec Bool Global). v.items) bits ≡ seam_lists d → length bits ≤ MAX_ATTRIBUTES
lists-few d bits is told =
    let say = heads_say d.mesh.heads is.points.heads_pass in
    let many : length bits ≡ length d.mesh.heads - 1 =
    sym (length-map bits (λ (v : Vec Bool Global). v.items)) ∙ ap length told ∙ length-map-range_with_len (seam_bits_of d) 1 (length d.mesh.heads - 1) in
    omega (arith, many, say.few)

-- and none has more bits than the surface has sides
pub lists-short : (d : GluedMesh) (bits : List (Vec Bool Global)) → IsMesh d.mesh → map (λ (v : Vec Bool Global). v.items) bits ≡ seam_lists d
    → All (λ (v : Vec Bool Global). length v.items < 2 ^ 31) bits
lists-short d bits is told = λ k v below.
    let items : Vec Bool Global → List Bool = λ (w : Vec Bool Global). w.items in
    let n = length d.mesh.heads - 1 in
    let many : length bits ≡ n = sym (length-map bits items) ∙ ap length told ∙ length-map-range_with_len (seam_bits_of d) 1 n in
    let here : (get_or bits k v).items ≡ seam_bits_of d (1 + k) =
    sym (get_or-map items bits k v [] below) ∙ ap (λ (l : List (List Bool)). get_or l k []) told ∙ get_or-map-range_with_len (seam_bits_of d) 1 n k (1 + k) [] (omega arith) refl in
    omega (arith, ap length here, bits-few d (1 + k), is.few_faces)

-- ---- the surface of the mesh

ordered-entries : (degree : Bool) (faces : ℕ) (g : Gluing) → length (ordered_by degree faces g).entries ≡ 3 * faces
unfolding ordered_by
ordered-entries degree faces g = entries-each faces g (order_by degree faces g)

-- it has the faces of the mesh
pub whole-faces : (degree : Bool) (s : AttributeSurfaces) → AreAttributeSurfaces degree s → s.whole.sides.faces ≡ length s.mesh.faces
whole-faces degree s are =
    let d = glued_on s in
    let labels : List ℕ = s.whole.classes.of_corner in
    let entries : length labels ≡ 3 * length s.mesh.faces =
    sym (length-map labels (λ (c : ℕ). get_or s.whole.order.entry_of_class c 0))
    ∙ ap (λ (w : Ordered). length w.entries) are.whole ∙ ordered-entries degree (length d.mesh.faces) d.pairs in
    omega (arith, entries, s.whole.over.each_corner)

-- and is a surface
pub whole-gluing : (degree : Bool) (s : AttributeSurfaces) → AreAttributeSurfaces degree s → IsGluing s.whole.sides.faces (gluing_of s.whole.sides)
    → IsGluing (length s.mesh.faces) (gluing_of s.whole.sides)
whole-gluing degree s are G = subst (λ (n : ℕ). IsGluing n (gluing_of s.whole.sides)) (whole-faces degree s are) G
