-- What is read as a mesh or a cloud passes each test of one.
use Rattle.drc_base.specs.Profile.{profile_numbered}
use Rattle.std.proofs.Common.{◌≡◌, Option, ℕ, ◌+◌, ◌*◌, ◌-◌, ◌<◌, ◌≤◌, true, ℤ, pos, List, [], ◌∷◌, ◌++◌, length, map, take, drop, get_or, None, Some, is_some, Ok, refl, sym, ◌∙◌, ap, subst, arith, inl, inr, length-append, length-take-le, append-nil, append_assoc, replicate}
use Rattle.std.specs.Prelude.{nat_le}
use Rattle.std.specs.List.{All, list_all, range_with_len}
use Rattle.std.proofs.lemmas.Bool.{leb-true, cases_lt}
use Rattle.std.proofs.lemmas.List.{length-drop, length-replicate, get_or_append_left, get_or-append-add, get_or-replicate, get_or-take, get_or-drop}
use Rattle.std.proofs.lemmas.List.FromFn.{length-map-range_with_len, get_or-map-range_with_len}
use Rattle.std.proofs.lemmas.List.Folds.{flat_map-map}
use Rattle.std.proofs.lemmas.List.Sums.{sum_by-cons, AllPass-from_list_all}
use Rattle.std.proofs.lemmas.List.Elements.{All-nil, All-head, All-tail, All-append, All-weaker, All-from_get_or}
use Rattle.drc_base.specs.declared.kinds.Kind.TheVariants as kind
use Rattle.drc_base.specs.declared.limits.TheConstants.{MAX_POINTS, MAX_VALUES}
use Rattle.drc_bits.specs.Reading.{Reading, Item}
use Rattle.drc_bits.specs.Numbers.{number_at}
use Rattle.drc_bits.proofs.Results.{Ok-injective}
use Rattle.attr_heads.specs.declared.heads.Head.{Head}
use Rattle.attr_heads.specs.Bounds.{in_bounds, no_bounds, bounds_under, bounds_of}
use Rattle.attr_heads.specs.Octahedra.{square_bounds}
use Rattle.attr_heads.specs.HeadItems.{square_bits_at}
use Rattle.attr_heads.specs.Head.{width_of, row_bounds, heads_fault}
use Rattle.mesh_model.specs.Parts.{RowFits, ArePoints, cells_of, range_fault, mesh_fault, cloud_fault}
use Rattle.mesh_model.proofs.Made.{range_fault-cells_of, mesh_of-IsMesh, cloud_of-IsCloud}
use Rattle.corner_table.specs.Ordered.{Ordered}
use Rattle.attr_section.specs.declared.decoder_heads.DecoderHead.{DecoderHead}
use Rattle.attr_section.specs.declared.values.Values.{Values}
use Rattle.attr_section.specs.Each.{each_at}
use Rattle.attr_section.specs.Heads.{attributes_of, heads_at}
use Rattle.attr_section.specs.Orders.{HasCoordinates}
use Rattle.attr_section.specs.Positions.{PositionsRead, with_attributes}
use Rattle.attr_section.specs.Attributes.{values_in, attribute_at, attributes_at as columns_at, quant_of_at, quantised_at, squared_at, completed_at, no_values, next_completed_at, quants_at, decoder_values_at}
use Rattle.drc_container.specs.declared.reading.attributes.Attributes.{Attributes}
use Rattle.drc_container.specs.Columns.{column_row}
use Rattle.drc_container.specs.reading.Stream.{decoders_values_at, sequential_attributes_at, points_of}
use Rattle.drc_container.specs.Laws.{MeshesPass, CloudsPass}
use Rattle.drc_container.proofs.lemmas.reading.Rows.{columns, piece_within}
use Rattle.drc_container.proofs.lemmas.reading.Decoders.{values_in-append}
use Rattle.drc_container.proofs.lemmas.choice.FirstRefusals.{value-given}
use Rattle.drc_container.proofs.lemmas.reading.Parted.{given, parts, passed, either, must-passed}
use Rattle.drc_container.proofs.lemmas.reading.Limited.{indices_alike}
use Rattle.drc_container.proofs.lemmas.reading.Counted.{IsRead, values-column}
use Rattle.drc_container.proofs.lemmas.reading.Faces.{indices-passed}
use Rattle.drc_container.proofs.lemmas.reading.Headed.{IsHead, IsCoded, none-of, each-counted, heads-completed, DecoderRead, heads-passed, heads-none}

-- a column of n entries for a head, each integer within its bounds
pub record IsColumn (n : ℕ) (h : Head) (v : Values) : Type 0 where
  pub long : length v.values ≡ n * h.comps
  pub typed : list_all (in_bounds (bounds_of h)) v.values ≡ true

-- columns of n entries, one for each head
abbrev pub AreTyped : ℕ → List Head → List Values → Type 0
AreTyped n [] [] = Unit {0}
AreTyped n [] (v ∷ values) = ⊥
AreTyped n (h ∷ heads) [] = ⊥
AreTyped n (h ∷ heads) (v ∷ values) = IsColumn n h v × AreTyped n heads values

AreTyped-append : (n : ℕ) (heads others : List Head) (values more : List Values) → AreTyped n heads values → AreTyped n others more
    → AreTyped n (heads ++ others) (values ++ more)
AreTyped-append n [] others [] more are also = also
AreTyped-append n [] others (v ∷ values) more are also = absurd are
AreTyped-append n (h ∷ heads) others [] more are also = absurd are
AreTyped-append n (h ∷ heads) others (v ∷ values) more are also = (are.0, AreTyped-append n heads others values more are.1 also)

-- the same before their squares were read
abbrev pub AreRead : ℕ → List Head → List Values → Type 0
AreRead n [] [] = Unit {0}
AreRead n [] (v ∷ values) = ⊥
AreRead n (h ∷ heads) [] = ⊥
AreRead n (h ∷ heads) (v ∷ values) = IsRead (n * h.comps) h v × AreRead n heads values

AreRead-append : (n : ℕ) (heads others : List Head) (values more : List Values) → AreRead n heads values → AreRead n others more
    → AreRead n (heads ++ others) (values ++ more)
AreRead-append n [] others [] more are also = also
AreRead-append n [] others (v ∷ values) more are also = absurd are
AreRead-append n (h ∷ heads) others [] more are also = absurd are
AreRead-append n (h ∷ heads) others (v ∷ values) more are also = (are.0, AreRead-append n heads others values more are.1 also)

-- columns within the limit
pub record AreColumns (n spent : ℕ) (heads : List Head) (values : List Values) : Type 0 where
  pub read : AreRead n heads values
  pub few : spent + values_in values ≤ MAX_VALUES

columns-from : (k : ℕ) (w : Option Ordered) (found : PositionsRead) (all : List Head) (n spent : ℕ) (heads : List Head) → All HasCoordinates heads → (s : List Head) (front : List Values)
    → AreColumns n spent s front → (c : Reading) (y : List Values × Reading)
    → each_at (attribute_at (profile_numbered k) w found all n spent) front heads c ≡ Ok y → AreColumns n spent (s ++ heads) y.0
unfolding each_at
columns-from k w found all n spent [] two s front are c y is =
    rw (append-nil s) (subst (λ (z : List Values × Reading). AreColumns n spent s z.0) (Ok-injective is) are)
columns-from k w found all n spent (h ∷ heads) two s front are c y is =
    let next : Values × Reading → Item (List Values) = λ x. each_at (attribute_at (profile_numbered k) w found all n spent) (front ++ x.0 ∷ []) heads x.1 in
    let p = parts (attribute_at (profile_numbered k) w found all n spent front h c) next y is in
    let here = values-column k w (with_attributes w found all front) h (All-head HasCoordinates h heads two) n (spent + values_in front) c p.0 p.1 in
    let sum = values_in-append front (p.0.0 ∷ []) in
    let one = sum_by-cons (λ (v : Values). length v.values) p.0.0 [] in
    let more : AreColumns n spent (s ++ h ∷ []) (front ++ p.0.0 ∷ []) = record {
      read = AreRead-append n s (h ∷ []) front (p.0.0 ∷ []) are.read (here.0, tt);
      few = omega (arith, here.1, here.0.long, sum, one);
    } in
    subst (λ l. AreColumns n spent l y.0) (append_assoc s (h ∷ []) heads)
    (columns-from k w found all n spent heads (All-tail HasCoordinates h heads two) (s ++ h ∷ []) (front ++ p.0.0 ∷ []) more p.0.1 y p.2)

-- the values of a decoder's attributes
pub columns-read : (k : ℕ) (w : Option Ordered) (found : PositionsRead) (n spent : ℕ) → spent ≤ MAX_VALUES → (heads : List Head) → All HasCoordinates heads
    → (c : Reading) (y : List Values × Reading) → columns_at (profile_numbered k) w found heads n spent c ≡ Ok y → AreColumns n spent heads y.0
unfolding columns_at
columns-read k w found n spent few heads two c y is =
    columns-from k w found heads n spent heads two [] [] (record { read = tt; few = omega (arith, few) }) c y is

-- a column with what stands for its head at the decoder's end
column-completed : (n : ℕ) (h : Head) (v : Values) → IsRead (n * h.comps) h v → (c : Reading) (y : Head × Reading) → completed_at h v c ≡ Ok y → IsColumn n y.0 v
unfolding completed_at squared_at quantised_at
column-completed n h v read c y is =
    either (IsColumn n y.0 v) (is_some h.octa) (squared_at h v c) (quantised_at h c) y is
    (λ some square.
    let p = parts (square_bits_at c) _ y square in
    let t = passed (list_all (in_bounds (square_bounds p.0.0)) v.values) _ _ y p.2 in
    let o : Head = record h { quant = None; octa = Some p.0.0 } in
    given (λ (z : Head × Reading). IsColumn n z.0 v) (o, p.0.1) y t.1 (record { long = read.long; typed = t.0 }))
    (λ none quant.
    let p = parts (quant_of_at h c) _ y quant in
    let o : Head = record h { quant = p.0.0 } in
    let no_square = none-of h.octa none in
    given (λ (z : Head × Reading). IsColumn n z.0 v) (o, p.0.1) y p.2
    (record { long = read.long; typed = ap (λ octa. list_all (in_bounds (bounds_under h.dtype octa)) v.values) no_square ∙ read.typed no_square }))

-- what stands behind these values
get-next : (done : List Values) (v : Values) (rest : List Values) (n : ℕ) → length done ≡ n → get_or (done ++ v ∷ rest) n no_values ≡ v
get-next done v rest n long =
    let at : n ≡ length done + 0 = omega (arith, long) in
    ap (λ m. get_or (done ++ v ∷ rest) m no_values) at ∙ get_or-append-add done (v ∷ rest) 0 no_values

completed-from : (n : ℕ) (front heads : List Head) (done rest : List Values) → AreRead n heads rest → AreTyped n front done → length done ≡ length front
    → (c : Reading) (y : List Head × Reading) → each_at (next_completed_at (done ++ rest)) front heads c ≡ Ok y → AreTyped n y.0 (done ++ rest)
unfolding each_at
completed-from n front [] done [] read are same c y is =
    rw (append-nil done) (subst (λ (z : List Head × Reading). AreTyped n z.0 done) (Ok-injective is) are)
completed-from n front [] done (v ∷ rest) read are same c y is = absurd read
completed-from n front (h ∷ heads) done [] read are same c y is = absurd read
completed-from n front (h ∷ heads) done (v ∷ rest) read are same c y is =
    let whole : List Values = done ++ v ∷ rest in
    let p = parts (next_completed_at whole front h c) (λ x. each_at (next_completed_at whole) (front ++ x.0 ∷ []) heads x.1) y is in
    let value = get-next done v rest (length front) same in
    let here = column-completed n h v read.0 c p.0 (subst (λ (x : Values). completed_at h x c ≡ Ok p.0) value p.1) in
    let joined : (done ++ v ∷ []) ++ rest ≡ whole = append_assoc done (v ∷ []) rest in
    let longer : length (done ++ v ∷ []) ≡ length (front ++ p.0.0 ∷ []) = omega (arith, same, length-append done (v ∷ []), length-append front (p.0.0 ∷ [])) in
    subst (AreTyped n y.0) joined
    (completed-from n (front ++ p.0.0 ∷ []) heads (done ++ v ∷ []) rest read.1
    (AreTyped-append n front (p.0.0 ∷ []) done (v ∷ []) are (here, tt)) longer p.0.1 y
    (subst (λ (l : List Values). each_at (next_completed_at l) (front ++ p.0.0 ∷ []) heads p.0.1 ≡ Ok y) (sym joined) p.2))

-- the values of a decoder's attributes with what stands for their heads at its end
pub columns-completed : (n : ℕ) (heads : List Head) (values : List Values) → AreRead n heads values → (c : Reading) (y : List Head × Reading)
    → quants_at heads values c ≡ Ok y → (length y.0 ≡ length heads) × AreTyped n y.0 values
unfolding quants_at
columns-completed n heads values read c y is = (
  each-counted (next_completed_at values) [] heads c y is ∙ omega arith,
  completed-from n [] heads [] values read tt refl c y is,
)

-- attributes of n entries whose heads have no fault
record ArePart (n : ℕ) (a : Attributes) : Type 0 where
  heads : All IsHead a.heads
  typed : AreTyped n a.heads a.values
  few : values_in a.values ≤ MAX_VALUES

-- what follows an item gives the same behind an equal item
gives-same : {A B : Type 0} (next : A × Reading → Item B) (x z : A × Reading) (y : B × Reading) → ◌≡◌ {A = Item A} (Ok x) (Ok z) → next z ≡ Ok y → next x ≡ Ok y
gives-same next x z y same is = ap next (Ok-injective same) ∙ is

pub coordinates-of : (heads : List Head) → All IsCoded heads → All HasCoordinates heads
coordinates-of heads are = All-weaker IsCoded HasCoordinates (λ h is. is.coordinates) heads are

decoders-typed : (k : ℕ) (n : ℕ) (ds : List DecoderHead) → All DecoderRead ds → (before : Attributes) → ArePart n before
    → (c : Reading) (y : Attributes × Reading)
    → decoders_values_at (profile_numbered k) n before ds c ≡ Ok y → ArePart n y.0 × (length y.0.heads ≡ length before.heads + attributes_of ds)
unfolding decoders_values_at decoder_values_at
decoders-typed k n [] read before are c y is =
    let same : length before.heads ≡ length before.heads + 0 = omega arith in
    subst (λ (z : Attributes × Reading). ArePart n z.0 × (length z.0.heads ≡ length before.heads + 0)) (Ok-injective is) (are, same)
decoders-typed k n (d ∷ ds) read before are c y is =
    let spent = values_in before.values in
    let found : PositionsRead = PositionsRead.NotYet in
    let next : (List Values × DecoderHead) × Reading → Item Attributes =
    λ x. decoders_values_at (profile_numbered k) n (record { heads = before.heads ++ x.0.1.heads; values = before.values ++ x.0.0 }) ds x.1 in
    let p = parts (decoder_values_at (profile_numbered k) None found d n spent c) next y is in
    let q = parts (columns_at (profile_numbered k) None found d.heads n spent c) _ p.0 p.1 in
    let r = parts (quants_at d.heads q.0.0 q.0.1) _ p.0 q.2 in
    let coded = (All-head DecoderRead d ds read).heads in
    let here = columns-read k None found n spent are.few d.heads (coordinates-of d.heads coded) c q.0 q.1 in
    let heads = heads-completed d.heads q.0.0 coded q.0.1 r.0 r.1 in
    let typed = columns-completed n d.heads q.0.0 here.read q.0.1 r.0 r.1 in
    let all : Attributes = record { heads = before.heads ++ r.0.0; values = before.values ++ q.0.0 } in
    let more : ArePart n all = record {
      heads = All-append IsHead before.heads r.0.0 are.heads heads;
      typed = AreTyped-append n before.heads r.0.0 before.values q.0.0 are.typed typed.1;
      few = omega (arith, here.few, values_in-append before.values q.0.0);
    } in
    let made : (List Values × DecoderHead) × Reading = ((q.0.0, record d { heads = r.0.0 }), r.0.1) in
    let behind : decoders_values_at (profile_numbered k) n all ds r.0.1 ≡ Ok y = gives-same next made p.0 y r.2 p.2 in
    let rest = decoders-typed k n ds (All-tail DecoderRead d ds read) all more r.0.1 y behind in
    let sum = sum_by-cons (λ (x : DecoderHead). length x.heads) d ds in
    (rest.0, rest.1 ∙ omega (arith, length-append before.heads r.0.0, typed.0, sum))

-- all attributes
record AreAttributes (n : ℕ) (a : Attributes) : Type 0 where
  heads : heads_fault a.heads ≡ None
  typed : AreTyped n a.heads a.values
  few : values_in a.values ≤ MAX_VALUES

attributes-passed : (k : ℕ) (n : ℕ) (c : Reading) (y : Attributes × Reading) → sequential_attributes_at (profile_numbered k) n c ≡ Ok y → AreAttributes n y.0
unfolding sequential_attributes_at
attributes-passed k n c y is =
    let none : Attributes = record { heads = []; values = [] } in
    let p = parts (heads_at (profile_numbered k) None c) (λ d. decoders_values_at (profile_numbered k) n none d.0 d.1) y is in
    let read = heads-passed (profile_numbered k) c p.0 p.1 in
    let all = decoders-typed k n p.0.0 read.each none (record { heads = All-nil IsHead; typed = tt; few = omega arith }) p.0.1 y p.2 in
    record {
      heads = heads-none y.0.heads (omega (arith, all.1, read.some)) (omega (arith, all.1, read.few)) all.0.heads;
      typed = all.0.typed;
      few = all.0.few;
    }

-- as many values as entries times components
total : (n : ℕ) (heads : List Head) (values : List Values) → AreTyped n heads values → values_in values ≡ n * width_of heads
total n [] [] are = omega arith
total n [] (v ∷ values) are = absurd are
total n (h ∷ heads) [] are = absurd are
total n (h ∷ heads) (v ∷ values) are =
    let rest = total n heads values are.1 in
    let width = sum_by-cons (λ (x : Head). x.comps) h heads in
    let all : n * width_of (h ∷ heads) ≡ n * h.comps + n * width_of heads = ap (λ w. n * w) width ∙ omega arith in
    sum_by-cons (λ (x : Values). length x.values) v values ∙ omega (arith, are.0.long, rest, all)

-- a piece within the bounds of a head, in front of a row that fits others
row-cons : (h : Head) (heads : List Head) (piece row : List ℤ) → length piece ≡ h.comps
    → ((j : ℕ) → j < h.comps → in_bounds (bounds_of h) (get_or piece j (pos 0)) ≡ true)
    → RowFits heads row → RowFits (h ∷ heads) (piece ++ row)
row-cons h heads piece row long typed fits =
    let whole = sum_by-cons (λ (x : Head). x.comps) h heads in
    let copies = length-replicate h.comps (bounds_of h) in (
      length-append piece row ∙ omega (arith, long, fits.0, whole),
      λ j below. elim (cases_lt j h.comps) [
        | inl first ↦
            let bounds : get_or (row_bounds (h ∷ heads)) j no_bounds ≡ bounds_of h =
            get_or_append_left (replicate h.comps (bounds_of h)) (row_bounds heads) no_bounds j (omega (arith, first, copies)) ∙ get_or-replicate h.comps j (bounds_of h) no_bounds first in
            let value : get_or (piece ++ row) j (pos 0) ≡ get_or piece j (pos 0) = get_or_append_left piece row (pos 0) j (omega (arith, first, long)) in
            ap (λ b. in_bounds b (get_or (piece ++ row) j (pos 0))) bounds ∙ ap (in_bounds (bounds_of h)) value ∙ typed j first
        | inr later ↦
            let k = j - h.comps in
            let at_bounds : j ≡ length (replicate h.comps (bounds_of h)) + k = omega (arith, later, copies) in
            let at_value : j ≡ length piece + k = omega (arith, later, long) in
            let bounds : get_or (row_bounds (h ∷ heads)) j no_bounds ≡ get_or (row_bounds heads) k no_bounds =
            ap (λ n. get_or (row_bounds (h ∷ heads)) n no_bounds) at_bounds ∙ get_or-append-add (replicate h.comps (bounds_of h)) (row_bounds heads) k no_bounds in
            let value : get_or (piece ++ row) j (pos 0) ≡ get_or row k (pos 0) =
            ap (λ n. get_or (piece ++ row) n (pos 0)) at_value ∙ get_or-append-add piece row k (pos 0) in
            ap (λ b. in_bounds b (get_or (piece ++ row) j (pos 0))) bounds ∙ ap (in_bounds (get_or (row_bounds heads) k no_bounds)) value ∙ fits.1 k (omega (arith, below, later, whole))
      ],
    )

-- row i of columns fits the heads
row-fits : (n i : ℕ) → i < n → (heads : List Head) (values : List Values) → AreTyped n heads values
    → RowFits heads (column_row heads (columns values) i)
row-fits n i below [] [] are = (refl, λ j none. absurd (omega (arith, none)))
row-fits n i below [] (v ∷ values) are = absurd are
row-fits n i below (h ∷ heads) [] are = absurd are
row-fits n i below (h ∷ heads) (v ∷ values) are =
    let start = i * h.comps in
    let within : start + h.comps ≤ length v.values = piece_within n i h.comps (length v.values) below are.0.long in
    let piece = take h.comps (drop start v.values) in
    let long : length piece ≡ h.comps = length-take-le h.comps (drop start v.values) (rw (length-drop start v.values) (omega (arith, within))) in
    row-cons h heads piece (column_row heads (columns values) i) long
    (λ j first.
    ap (in_bounds (bounds_of h)) (get_or-take h.comps (drop start v.values) j (pos 0) first ∙ get_or-drop start v.values j (pos 0))
    ∙ AllPass-from_list_all (in_bounds (bounds_of h)) v.values are.0.typed (start + j) (pos 0) (omega (arith, first, within)))
    (row-fits n i below heads values are.1)

-- the points that attributes give
abbrev rows : ℕ → Attributes → List (List ℤ)
rows n a = map (column_row a.heads (columns a.values)) (range_with_len 0 n)

rows-count : (n : ℕ) (a : Attributes) → length (rows n a) ≡ n
rows-count n a = length-map-range_with_len (column_row a.heads (columns a.values)) 0 n

rows-fit : (n : ℕ) (a : Attributes) → AreAttributes n a → All (RowFits a.heads) (rows n a)
rows-fit n a are =
    let count = rows-count n a in
    All-from_get_or (RowFits a.heads) (rows n a) [] (λ i below.
    let within : i < n = omega (arith, below, count) in
    let here : 0 + i ≡ i = omega arith in
    subst (RowFits a.heads) (sym (get_or-map-range_with_len (column_row a.heads (columns a.values)) 0 n i i [] within here))
    (row-fits n i within a.heads a.values are.typed))

rows-points : (n : ℕ) (a : Attributes) → n ≤ MAX_POINTS → AreAttributes n a → ArePoints a.heads (rows n a)
rows-points n a few are =
    let count = rows-count n a in
    let all = total n a.heads a.values are.typed in
    record {
      heads_pass = are.heads;
      few_points = omega (arith, count, few);
      few_values = subst (λ m. m * width_of a.heads ≤ MAX_VALUES) (sym count) (omega (arith, all, are.few));
      rows_fit = rows-fit n a are;
    }

rows-cells : (n : ℕ) (a : Attributes) → points_of n a ≡ cells_of (rows n a)
rows-cells n a = sym (flat_map-map (λ (row : List ℤ). row) (column_row a.heads (columns a.values)) (range_with_len 0 n))

-- no cell is outside its bounds
pub typed_pass : (k : ℕ) (n : ℕ) (c : Reading) (y : Attributes × Reading) → sequential_attributes_at (profile_numbered k) n c ≡ Ok y → range_fault y.0.heads (points_of n y.0) ≡ None
typed_pass k n c y is =
    let a = y.0 in
    let are = attributes-passed k n c y is in
    ap (range_fault a.heads) (rows-cells n a) ∙ range_fault-cells_of a.heads (rows n a) are.heads (rows-fit n a are)

pub clouds_pass : CloudsPass
clouds_pass k c d e n a points attributes =
    let few = leb-true n MAX_POINTS (must-passed kind.PointLimit (λ n. nat_le n MAX_POINTS) (number_at 4) c (n, d) points).0 in
    let are = attributes-passed k n d (a, e) attributes in
    let none : cloud_fault a.heads (cells_of (rows n a)) ≡ None =
    value-given (cloud_fault a.heads (cells_of (rows n a))) _ _ (cloud_of-IsCloud (record { heads = a.heads; points = rows n a }) (rows-points n a few are)) in
    ap (cloud_fault a.heads) (rows-cells n a) ∙ none

pub meshes_pass : MeshesPass
meshes_pass k c d e r a indices attributes =
    let n = r.points in
    let read = indices-passed c (r, d) (sym (indices_alike k c) ∙ indices) in
    let are = attributes-passed k n d (a, e) attributes in
    let count = rows-count n a in
    let none : mesh_fault a.heads (cells_of (rows n a)) r.faces ≡ None =
    value-given (mesh_fault a.heads (cells_of (rows n a)) r.faces) _ _
    (mesh_of-IsMesh (record { heads = a.heads; points = rows n a; faces = r.faces }) (record {
      points = rows-points n a read.few_points are;
      few_faces = read.few_faces;
      faces = rw count read.faces;
    })) in
    ap (λ cells. mesh_fault a.heads cells r.faces) (rows-cells n a) ∙ none
