-- The attributes of an Edgebreaker mesh that was read are tables for assembling: each corner has an entry of the order in which the
-- surface is walked, cut at seams or not.
use Rattle.drc_base.specs.Profile.{profile_numbered}
use Rattle.std.proofs.Common.{◌≡◌, ℕ, ◌+◌, ◌*◌, ◌<◌, ◌≤◌, Bool, true, false, List, [], ◌∷◌, length, get_or, Option, Some, Ok, refl, subst, arith}
use Rattle.std.specs.Prelude.{if◌then◌else◌}
use Rattle.std.specs.List.{All}
use Rattle.std.proofs.lemmas.List.Elements.{All-nil, All-head, All-tail, All-from_get_or}
use Rattle.drc_base.specs.declared.limits.TheConstants.{MAX_VALUES}
use Rattle.drc_bits.specs.Reading.{Reading}
use Rattle.attr_heads.specs.declared.heads.Head.{Head}
use Rattle.mesh_model.specs.Groups.{AttrTable}
use Rattle.mesh_model.specs.Assembled.{IsAttrTable, AreAttrTables, AreTables}
use Rattle.corner_table.specs.Sides.{side_at, Gluing, IsGluing}
use Rattle.corner_table.proofs.Numbers.{number-side_at, face-lt}
use Rattle.rans_binary.specs.Blocks.{Block, bit_of}
use Rattle.walk_order.specs.OfSurface.{entries_of}
use Rattle.seams.specs.Seams.{flag_at}
use Rattle.seams.specs.SeamBits.{flags_of_bits}
use Rattle.seams.proofs.Chains.{cut_is_gluing}
use Rattle.seams.proofs.Values.{told_are_flags}
use Rattle.corner_table.specs.Ordered.{Ordered}
use Rattle.attr_section.specs.declared.decoder_heads.DecoderHead.{DecoderHead}
use Rattle.attr_section.specs.declared.values.Values.{Values}
use Rattle.attr_section.specs.Heads.{heads_at}
use Rattle.attr_section.specs.Positions.{PositionsRead}
use Rattle.attr_section.specs.Attributes.{attributes_at as columns_at, quants_at, decoder_values_at, values_in}
use Rattle.eb_section.specs.Connectivity.{Connectivity}
use Rattle.drc_container.specs.reading.OnSurface.{order_by, ordered_by, seams_of, cut_at, cut_for, ordered_for, decoder_attributes, attributes_joined, values_on, positions_among, decoder_on, no_attributes, surface_decoders_at, attributes_on}
use Rattle.drc_container.proofs.lemmas.reading.Parted.{given, parts}
use Rattle.drc_container.proofs.lemmas.reading.Headed.{IsCoded, DecoderRead, heads-read}
use Rattle.drc_container.proofs.lemmas.reading.Whole.{AreTyped, columns-read, columns-completed, coordinates-of}
use Rattle.drc_container.proofs.lemmas.reading.Tabled.{columns-tables, columns-joined, values_on-tables, values_on-append, tables-whole}
use Rattle.drc_container.proofs.lemmas.surface.Walks.{has_entry, entries-each}
use Rattle.laws_stream.proofs.reading.Forms.{given-of}
use Rattle.laws_stream.proofs.reading.Surfaces.{IsSurfaceRead}

-- each corner has an entry of the order
entries-within : (degree : Bool) (faces : ℕ) (g : Gluing) → IsGluing faces g
    → All (λ (e : ℕ). e < length (order_by degree faces g)) (entries_of faces g (order_by degree faces g))
entries-within degree faces g gluing =
    let order = order_by degree faces g in
    let entries = entries_of faces g order in
    let below : ℕ → Type 0 = λ e. e < length order in
    All-from_get_or below entries 0 (λ i inside.
    let few : i < 3 * faces = omega (arith, inside, entries-each faces g order) in
    let has = has_entry degree faces g gluing (side_at i) (face-lt i faces few) in
    subst (λ n. below (get_or entries n 0)) (number-side_at i) has.within)

-- a surface that is walked
record IsOrdered (faces : ℕ) (w : Ordered) : Type 0 where
  each_corner : length w.entries ≡ 3 * faces
  entries : All (λ (e : ℕ). e < length w.corners) w.entries

walk-entries : (degree : Bool) (faces : ℕ) (g : Gluing) → IsGluing faces g → IsOrdered faces (ordered_by degree faces g)
unfolding ordered_by
walk-entries degree faces g gluing = record {
  each_corner = entries-each faces g (order_by degree faces g);
  entries = entries-within degree faces g gluing;
}

-- a surface that is cut where a block's bits say is a surface
cut-gluing : (faces : ℕ) (g : Gluing) (block : Block) → IsGluing faces g → IsGluing faces (cut_at faces g block)
cut-gluing faces g block gluing =
    cut_is_gluing faces g (flag_at (flags_of_bits faces g block)) gluing (told_are_flags faces g (bit_of block) gluing).alike

either-gluing : (faces : ℕ) (cut : Bool) (g h : Gluing) → IsGluing faces g → IsGluing faces h → IsGluing faces (if cut then g else h)
either-gluing faces true g h one other = one
either-gluing faces false g h one other = other

walk-for : (s : Connectivity) (d : DecoderHead) → IsGluing s.faces s.glued → IsOrdered s.faces (ordered_for s d)
walk-for s d gluing =
    let cut = cut_at s.faces s.glued (seams_of s.seams d.data_id) in
    walk-entries d.degree s.faces (cut_for s d)
    (either-gluing s.faces d.corner cut s.glued (cut-gluing s.faces s.glued (seams_of s.seams d.data_id) gluing) gluing)

-- a decoder that was read, behind so many values: each head has a column within its bounds, and values are few
pub record IsDecoderRead (n spent : ℕ) (x : List Values × DecoderHead) : Type 0 where
  pub typed : AreTyped n x.1.heads x.0
  pub few : spent + values_in x.0 ≤ MAX_VALUES

pub decoder-columns : (k : ℕ) (w : Option Ordered) (found : PositionsRead) (d : DecoderHead) (n spent : ℕ) → spent ≤ MAX_VALUES → All IsCoded d.heads
    → (c : Reading) (y : (List Values × DecoderHead) × Reading) → decoder_values_at (profile_numbered k) w found d n spent c ≡ Ok y → IsDecoderRead n spent y.0
unfolding decoder_values_at
decoder-columns k w found d n spent few coded c y is =
    let q = parts (columns_at (profile_numbered k) w found d.heads n spent c) _ y is in
    let r = parts (quants_at d.heads q.0.0 q.0.1) _ y q.2 in
    let here = columns-read k w found n spent few d.heads (coordinates-of d.heads coded) c q.0 q.1 in
    let typed = columns-completed n d.heads q.0.0 here.read q.0.1 r.0 r.1 in
    let made : List Values × DecoderHead = (q.0.0, record d { heads = r.0.0 }) in
    given (λ (z : (List Values × DecoderHead) × Reading). IsDecoderRead n spent z.0) (made, r.0.1) y r.2
    (record { typed = typed.1; few = here.few })

-- heads and tables that have an entry for each corner, and whose values are few
record AreOnSurface (corners : ℕ) (heads : List Head) (tables : List AttrTable) : Type 0 where
  columns : AreAttrTables corners heads tables
  few : values_on tables ≤ MAX_VALUES

decoders-placed : (k : ℕ) (s : Connectivity) → IsGluing s.faces s.glued → (ds : List DecoderHead) → All DecoderRead ds
    → (before : _) (c : Reading) (y : _ × Reading) → surface_decoders_at (profile_numbered k) s before ds c ≡ Ok y
    → AreOnSurface (3 * s.faces) before.heads before.tables → AreOnSurface (3 * s.faces) y.0.heads y.0.tables
unfolding surface_decoders_at decoder_on
decoders-placed k s gluing [] read before c y is are = given-of (before, c) y is (λ z. AreOnSurface (3 * s.faces) z.0.heads z.0.tables) are
decoders-placed k s gluing (d ∷ ds) read before c y is are =
    let w = ordered_for s d in
    let ordered = walk-for s d gluing in
    let corners = 3 * s.faces in
    let spent = values_on before.tables in
    let found = positions_among before in
    let p = parts (decoder_on (profile_numbered k) w found d spent c) _ y is in
    let q = parts (decoder_values_at (profile_numbered k) (Some w) found d (length w.corners) spent c) _ p.0 p.1 in
    let here = decoder-columns k (Some w) found d (length w.corners) spent are.few (All-head DecoderRead d ds read).heads c q.0 q.1 in
    let a = decoder_attributes w q.0.0.1 q.0.0.0 in
    let columns = columns-tables corners (length w.corners) w.entries ordered.each_corner ordered.entries q.0.0.1.heads q.0.0.0 here.typed in
    let joined : AreOnSurface corners (attributes_joined before a).heads (attributes_joined before a).tables = record {
      columns = columns-joined corners before.heads a.heads before.tables a.tables are.columns columns;
      few = omega (arith, here.few, values_on-append before.tables a.tables, values_on-tables w.entries q.0.0.0);
    } in
    let more : AreOnSurface corners (attributes_joined before p.0.0).heads (attributes_joined before p.0.0).tables =
    given-of (a, q.0.1) p.0 q.2 (λ z. AreOnSurface corners (attributes_joined before z.0).heads (attributes_joined before z.0).tables) joined in
    decoders-placed k s gluing ds (All-tail DecoderRead d ds read) (attributes_joined before p.0.0) p.0.1 y p.2 more

-- all attributes
pub attributes-tables : (k : ℕ) (s : Connectivity) → IsSurfaceRead s → (c : Reading) (y : _ × Reading)
    → attributes_on (profile_numbered k) s c ≡ Ok y → AreTables y.0.heads y.0.tables s.faces
unfolding attributes_on
attributes-tables k s read c y is =
    let p = parts (heads_at (profile_numbered k) (Some s.attr_data) c) _ y is in
    let heads = heads-read (profile_numbered k) (Some s.attr_data) c p.0 p.1 in
    let none : AreOnSurface (3 * s.faces) no_attributes.heads no_attributes.tables =
    record { columns = record { each_head = refl; each_column = All-nil (IsAttrTable (3 * s.faces)) }; few = omega arith } in
    let all = decoders-placed k s read.gluing p.0.0 heads.each no_attributes p.0.1 y p.2 none in
    tables-whole k s c p.0.1 y.1 p.0.0 y.0 p.1 p.2 read.few_faces all.columns
