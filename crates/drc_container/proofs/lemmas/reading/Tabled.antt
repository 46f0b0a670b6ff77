-- The attributes of an Edgebreaker mesh that were read are tables for assembling.
use Rattle.drc_base.specs.Profile.{profile_numbered}
use Rattle.std.proofs.Common.{◌≡◌, ℕ, suc, ◌+◌, ◌*◌, ◌<◌, ◌≤◌, true, List, [], ◌∷◌, ◌++◌, length, get_or, Option, Some, Ok, refl, sym, ◌∙◌, ap, arith, length-append}
use Rattle.std.specs.List.{All, zip, list_all}
use Rattle.std.proofs.Math.Nat.{mul-le-mul_right}
use Rattle.std.proofs.lemmas.List.{length-map}
use Rattle.std.proofs.lemmas.List.Sums.{sum_by-cons, sum_by-append, AllPass-from_list_all}
use Rattle.std.proofs.lemmas.List.Elements.{All-nil, All-cons, All-head, All-tail, All-append, All-map, All-weaker, All-get_or}
use Rattle.drc_base.specs.declared.limits.TheConstants.{MAX_FACES, MAX_VALUES}
use Rattle.drc_bits.specs.Reading.{Reading, Item}
use Rattle.attr_heads.specs.declared.heads.Head.{Head}
use Rattle.mesh_model.specs.Groups.{AttrTable}
use Rattle.attr_heads.specs.Bounds.{in_bounds, bounds_of}
use Rattle.mesh_model.specs.Assembled.{IsAttrTable, AreAttrTables, AreTables}
use Rattle.corner_table.specs.declared.corner_lists.Order.{Order}
use Rattle.corner_table.specs.Ordered.{Ordered, entries_by}
use Rattle.walk_order.specs.Orders.{IsOrderOver}
use Rattle.attr_section.specs.declared.decoder_heads.DecoderHead.{DecoderHead}
use Rattle.attr_section.specs.declared.values.Values.{Values}
use Rattle.attr_section.specs.Orders.{HasCoordinates}
use Rattle.attr_section.specs.Positions.{PositionsRead}
use Rattle.attr_section.specs.Heads.{attributes_of, heads_at}
use Rattle.attr_section.specs.Attributes.{attributes_at as columns_at, next_completed_at, quants_at, decoder_values_at, values_in}
use Rattle.eb_section.specs.Connectivity.{Connectivity}
use Rattle.drc_container.specs.reading.OnSurface.{SurfaceAttributes, ordered_for, tables_of, decoder_attributes, attributes_joined, values_on, positions_among, decoder_on, no_attributes, surface_decoders_at}
use Rattle.drc_container.proofs.lemmas.reading.Parted.{given, parts}
use Rattle.drc_container.proofs.lemmas.reading.Headed.{IsHead, IsCoded, each-counted, heads-completed, DecoderRead, heads-read, heads-none}
use Rattle.drc_container.proofs.lemmas.reading.Whole.{AreTyped, columns-read, columns-completed}

-- the attributes of a decoder that was read are columns of its heads
pub decoder-read : (k : ℕ) (w : Option Ordered) (found : PositionsRead) (d : DecoderHead) (n spent : ℕ) → spent ≤ MAX_VALUES → All HasCoordinates d.heads
    → (c : Reading) (y : (List Values × DecoderHead) × Reading) → decoder_values_at (profile_numbered k) w found d n spent c ≡ Ok y → AreTyped n y.0.1.heads y.0.0
unfolding decoder_values_at
decoder-read k w found d n spent few two c y is =
    let q = parts (columns_at (profile_numbered k) w found d.heads n spent c) _ y is in
    let r = parts (quants_at d.heads q.0.0 q.0.1) _ y q.2 in
    let here = columns-read k w found n spent few d.heads two c q.0 q.1 in
    let typed = columns-completed n d.heads q.0.0 here.read q.0.1 r.0 r.1 in
    let made : List Values × DecoderHead = (q.0.0, record d { heads = r.0.0 }) in
    given (λ (z : (List Values × DecoderHead) × Reading). AreTyped n z.0.1.heads z.0.0) (made, r.0.1) y r.2 typed.1

-- the heads of a decoder alone
decoder-heads : (k : ℕ) (w : Option Ordered) (found : PositionsRead) (d : DecoderHead) (n spent : ℕ) → All IsCoded d.heads
    → (c : Reading) (y : (List Values × DecoderHead) × Reading) → decoder_values_at (profile_numbered k) w found d n spent c ≡ Ok y
    → All IsHead y.0.1.heads × (length y.0.1.heads ≡ length d.heads)
unfolding decoder_values_at quants_at
decoder-heads k w found d n spent are c y is =
    let q = parts (columns_at (profile_numbered k) w found d.heads n spent c) _ y is in
    let r = parts (quants_at d.heads q.0.0 q.0.1) _ y q.2 in
    let heads = heads-completed d.heads q.0.0 are q.0.1 r.0 r.1 in
    let same : length r.0.0 ≡ length d.heads = each-counted (next_completed_at q.0.0) [] d.heads q.0.1 r.0 r.1 ∙ omega arith in
    let made : List Values × DecoderHead = (q.0.0, record d { heads = r.0.0 }) in
    given (λ (z : (List Values × DecoderHead) × Reading). All IsHead z.0.1.heads × (length z.0.1.heads ≡ length d.heads)) (made, r.0.1) y r.2 (heads, same)

-- a column within the bounds of its head, with the entries of so many corners, is one for assembling
column-of : (corners n : ℕ) (entries : List ℕ) → length entries ≡ corners → All (λ (e : ℕ). e < n) entries → (h : Head) (v : Values)
    → length v.values ≡ n * h.comps → list_all (in_bounds (bounds_of h)) v.values ≡ true
    → IsAttrTable corners (h, record { values = v.values; of_corner = entries })
column-of corners n entries each within h v long typed = record {
  each_corner = each;
  entries = λ k d below. let most = mul-le-mul_right h.comps (within k d below) in omega (arith, most, long);
  values = λ k d below. AllPass-from_list_all (in_bounds (bounds_of h)) v.values typed k d below;
}

pub columns-tables : (corners n : ℕ) (entries : List ℕ) → length entries ≡ corners → All (λ (e : ℕ). e < n) entries → (heads : List Head) (values : List Values)
    → AreTyped n heads values → AreAttrTables corners heads (tables_of entries values)
columns-tables corners n entries each within [] [] are = record { each_head = refl; each_column = All-nil (IsAttrTable corners) }
columns-tables corners n entries each within [] (v ∷ values) are = absurd are
columns-tables corners n entries each within (h ∷ heads) [] are = absurd are
columns-tables corners n entries each within (h ∷ heads) (v ∷ values) are =
    let rest = columns-tables corners n entries each within heads values are.1 in
    let table : AttrTable = record { values = v.values; of_corner = entries } in
    record {
      each_head = ap suc rest.each_head;
      each_column = All-cons (IsAttrTable corners) (h, table) (zip heads (tables_of entries values))
          (column-of corners n entries each within h v are.0.long are.0.typed) rest.each_column;
    }

zip-append : (heads others : List Head) (tables more : List AttrTable) → length tables ≡ length heads
    → zip (heads ++ others) (tables ++ more) ≡ zip heads tables ++ zip others more
zip-append [] others [] more same = refl
zip-append [] others (t ∷ tables) more same = absurd (omega (arith, same))
zip-append (h ∷ heads) others [] more same = absurd (omega (arith, same))
zip-append (h ∷ heads) others (t ∷ tables) more same = ap (λ l. (h, t) ∷ l) (zip-append heads others tables more (omega (arith, same)))

-- columns behind others
pub columns-joined : (corners : ℕ) (heads others : List Head) (tables more : List AttrTable) → AreAttrTables corners heads tables → AreAttrTables corners others more
    → AreAttrTables corners (heads ++ others) (tables ++ more)
columns-joined corners heads others tables more are also = record {
  each_head = length-append tables more ∙ omega (arith, are.each_head, also.each_head, length-append heads others);
  each_column = rw (zip-append heads others tables more are.each_head)
      (All-append (IsAttrTable corners) (zip heads tables) (zip others more) are.each_column also.each_column);
}

-- in an order over a table each corner has an entry, and entries are those of the order
pub entries-by : (faces : ℕ) (labels : List ℕ) (o : Order) → IsOrderOver faces labels o
    → (length (entries_by labels o.entry_of_class) ≡ 3 * faces) × All (λ (e : ℕ). e < length o.corner_of_entry) (entries_by labels o.entry_of_class)
entries-by faces labels o is =
    let entry : ℕ → ℕ = λ (k : ℕ). get_or o.entry_of_class k 0 in (
      length-map labels entry ∙ is.each_corner,
      All-map (λ (e : ℕ). e < length o.corner_of_entry) entry labels
          (All-weaker (λ (k : ℕ). k < length o.entry_of_class) (λ (k : ℕ). entry k < length o.corner_of_entry)
          (λ k below. All-get_or (λ (e : ℕ). e < length o.corner_of_entry) o.entry_of_class k 0 below is.entries) labels is.classes),
    )

-- the values of tables, and of tables behind others
pub values_on-tables : (entries : List ℕ) (values : List Values) → values_on (tables_of entries values) ≡ values_in values
values_on-tables entries [] = refl
values_on-tables entries (v ∷ values) =
    let table : AttrTable = record { values = v.values; of_corner = entries } in
    sum_by-cons (λ (t : AttrTable). length t.values) table (tables_of entries values)
    ∙ ap (λ n. length v.values + n) (values_on-tables entries values)
    ∙ sym (sum_by-cons (λ (x : Values). length x.values) v values)

pub values_on-append : (tables more : List AttrTable) → values_on (tables ++ more) ≡ values_on tables + values_on more
values_on-append tables more = sum_by-append (λ (t : AttrTable). length t.values) tables more

-- the heads of decoders that were read have no fault, and none is left out
heads-placed : (k : ℕ) (s : Connectivity) (ds : List DecoderHead) → All DecoderRead ds → (before : SurfaceAttributes) → All IsHead before.heads
    → (c : Reading) (y : SurfaceAttributes × Reading) → surface_decoders_at (profile_numbered k) s before ds c ≡ Ok y
    → All IsHead y.0.heads × (length y.0.heads ≡ length before.heads + attributes_of ds)
unfolding surface_decoders_at decoder_on
heads-placed k s [] read before are c y is =
    let same : length before.heads ≡ length before.heads + 0 = omega arith in
    given (λ (z : SurfaceAttributes × Reading). All IsHead z.0.heads × (length z.0.heads ≡ length before.heads + 0)) (before, c) y is (are, same)
heads-placed k s (d ∷ ds) read before are c y is =
    let w = ordered_for s d in
    let spent = values_on before.tables in
    let found = positions_among before in
    let coded = (All-head DecoderRead d ds read).heads in
    let next : SurfaceAttributes × Reading → Item SurfaceAttributes = λ x. surface_decoders_at (profile_numbered k) s (attributes_joined before x.0) ds x.1 in
    let p = parts (decoder_on (profile_numbered k) w found d spent c) next y is in
    let q = parts (decoder_values_at (profile_numbered k) (Some w) found d (length w.corners) spent c) (λ x. Ok (decoder_attributes w x.0.1 x.0.0, x.1)) p.0 p.1 in
    let here = decoder-heads k (Some w) found d (length w.corners) spent coded c q.0 q.1 in
    let part : (All IsHead p.0.0.heads) × (length p.0.0.heads ≡ length d.heads) =
    given (λ (z : SurfaceAttributes × Reading). All IsHead z.0.heads × (length z.0.heads ≡ length d.heads)) (decoder_attributes w q.0.0.1 q.0.0.0, q.0.1) p.0 q.2 here in
    let all = All-append IsHead before.heads p.0.0.heads are part.0 in
    let rest = heads-placed k s ds (All-tail DecoderRead d ds read) (attributes_joined before p.0.0) all p.0.1 y p.2 in
    let sum = sum_by-cons (λ (x : DecoderHead). length x.heads) d ds in
    (rest.0, rest.1 ∙ omega (arith, length-append before.heads p.0.0.heads, part.1, sum))

-- attributes that were read on a surface are tables for assembling
pub tables-whole : (k : ℕ) (s : Connectivity) (c d e : Reading) (ds : List DecoderHead) (a : SurfaceAttributes) → heads_at (profile_numbered k) (Some s.attr_data) c ≡ Ok (ds, d)
    → surface_decoders_at (profile_numbered k) s no_attributes ds d ≡ Ok (a, e) → s.faces ≤ MAX_FACES → AreAttrTables (3 * s.faces) a.heads a.tables
    → AreTables a.heads a.tables s.faces
tables-whole k s c d e ds a heads placed few columns =
    let read = heads-read (profile_numbered k) (Some s.attr_data) c (ds, d) heads in
    let all = heads-placed k s ds read.each no_attributes (All-nil IsHead) d (a, e) placed in
    record {
      heads_pass = heads-none a.heads (omega (arith, all.1, read.some)) (omega (arith, all.1, read.few)) all.0;
      few_faces = few;
      columns = columns;
    }
