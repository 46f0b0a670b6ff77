-- Attributes as they are kept while they are read.
use Rattle.std.proofs.Common.{◌≡◌, ℕ, ℤ, List, [], ◌∷◌, ◌++◌, map, flat_map, Bool, Option, None, Result, Ok, Err, append-nil, append_assoc, sym, ◌∙◌, ap, subst}
use Rattle.std.specs.Prelude.{unwrap_or, IfOk}
use Rattle.std.specs.List.{All}
use Rattle.std.proofs.lemmas.Grind.{flat_map-append}
use Rattle.std.proofs.lemmas.List.{map-append}
use Rattle.std.proofs.lemmas.List.Elements.{All-nil, All-cons, All-head, All-tail, All-append}
use Rattle.std.proofs.lemmas.Simd.{map-map}
use Rattle.drc_base.specs.declared.faults.Refusal.{Refusal}
use Rattle.drc_bits.specs.Reading.{Reading, Item, Gives}
use Rattle.mesh_model.specs.Groups.{AttrTable, GroupParts, tables_of as group_tables_of, HasVertices}
use Rattle.corner_table.specs.Sides.{IsGluing}
use Rattle.corner_table.specs.Table.{Table, gluing_of}
use Rattle.corner_table.specs.Labels.{IsLabelled}
use Rattle.corner_table.specs.Ordered.{entries_by}
use Rattle.walk_order.specs.OfSurface.{fan_labels}
use Rattle.walk_order.proofs.Labels.{labels_are_one}
use Rattle.attr_section.specs.declared.values.Values.{Values}
use Rattle.drc_container.specs.declared.reading.surface_attributes.DecoderValues.{DecoderValues}
use Rattle.drc_container.specs.declared.reading.surface_attributes.DecoderRead.{DecoderRead}
use Rattle.drc_container.specs.reading.OnSurface.{SurfaceAttributes, tables_of}
use Rattle.drc_container.specs.reading.AsRead.{group_over, attributes_over, group_on, decoder_read_on, tables_on}

-- ---- one decoder

-- the tables of a decoder's attributes, as they are kept, are those of the values that were read
pub tables-kept : (labels entries : List ℕ) (v : DecoderValues) (values : List Values) → v.values.items ≡ map (λ (x : Values). x.values) values
    → entries ≡ entries_by labels v.entry_of_class → group_tables_of (group_over labels v) ≡ tables_of entries values
tables-kept labels entries v values same is =
    let table : List ℤ → AttrTable = λ (l : List ℤ). record { values = l; of_corner = entries_by labels v.entry_of_class } in
    ap (map table) same
    ∙ map-map table (λ (x : Values). x.values) values
    ∙ ap (λ (l : List ℕ). tables_of l values) (sym is)

-- a decoder whose surface isn't cut has the classes of the stream's surface
pub whole-group : (whole labels : List ℕ) (v : DecoderValues) → labels ≡ whole → v.cut ≡ None → group_over labels v ≡ group_on whole v
whole-group whole labels v is none =
    let at : List ℕ → GroupParts = λ (l : List ℕ). group_over l v in
    ap at is ∙ sym (ap (λ (o : Option (List ℕ)). at (unwrap_or o whole)) none)

pub gives-whole : (whole labels : List ℕ) (item : Item SurfaceAttributes) (new : Reading) (r : Result DecoderRead Refusal) → labels ≡ whole
    → IfOk r (λ p. p.values.cut ≡ None) → Gives (attributes_over labels) item new r → Gives (decoder_read_on whole) item new r
gives-whole whole labels item new (Ok p) is none gives =
    gives
    ∙ ap (λ (g : GroupParts). Ok (record { heads = p.heads; tables = group_tables_of g; info = p.info }, new)) (whole-group whole labels p.values is none)
gives-whole whole labels item new (Err e) is none gives = gives

-- what holds of the group over these classes holds of the decoder's own group
pub if-whole : (P : DecoderRead → GroupParts → Type 0) (whole labels : List ℕ) (r : Result DecoderRead Refusal) → labels ≡ whole
    → IfOk r (λ p. p.values.cut ≡ None) → IfOk r (λ p. P p (group_over labels p.values)) → IfOk r (λ p. P p (group_on whole p.values))
if-whole P whole labels (Ok p) is none holds = subst (P p) (whole-group whole labels p.values is none) holds
if-whole P whole labels (Err e) is none holds = tt

-- ---- decoder after decoder

-- the tables of one decoder more
pub tables-more : (whole : List ℕ) (before : List DecoderValues) (v : DecoderValues)
    → tables_on whole (before ++ v ∷ []) ≡ tables_on whole before ++ group_tables_of (group_on whole v)
tables-more whole before v =
    ap (flat_map group_tables_of) (map-append (group_on whole) before (v ∷ []))
    ∙ flat_map-append group_tables_of (map (group_on whole) before) (group_on whole v ∷ [])
    ∙ ap (λ (l : List AttrTable). tables_on whole before ++ l) (append-nil (group_tables_of (group_on whole v)))

-- each group of one decoder more has its vertices
pub vertices-more : (corners : ℕ) (whole : List ℕ) (before : List DecoderValues) (v : DecoderValues) → All (HasVertices corners) (map (group_on whole) before)
    → HasVertices corners (group_on whole v) → All (HasVertices corners) (map (group_on whole) (before ++ v ∷ []))
vertices-more corners whole before v have has =
    subst (All (HasVertices corners)) (sym (map-append (group_on whole) before (v ∷ [])))
    (All-append (HasVertices corners) (map (group_on whole) before) (group_on whole v ∷ []) have
    (All-cons (HasVertices corners) (group_on whole v) [] has (All-nil (HasVertices corners))))

-- the tables of two decoders at the same vertices are those of both, one behind the other
pub tables-together : (whole : List ℕ) (a b both : DecoderValues) → both.cut ≡ a.cut → both.entry_of_class ≡ a.entry_of_class → a.cut ≡ b.cut → a.entry_of_class ≡ b.entry_of_class
    → both.values.items ≡ a.values.items ++ b.values.items
    → group_tables_of (group_on whole both) ≡ group_tables_of (group_on whole a) ++ group_tables_of (group_on whole b)
tables-together whole a b both cut entries cuts same values =
    let at : Option (List ℕ) → List ℕ → List (List ℤ) → List AttrTable = λ o e v. group_tables_of (record { of_corner = unwrap_or o whole; entry_of = e; values = v }) in
    let table : List ℤ → AttrTable = λ (l : List ℤ). record { values = l; of_corner = entries_by (unwrap_or a.cut whole) a.entry_of_class } in
    rw (cut, entries, values, sym cuts, sym same) (map-append table a.values.items b.values.items)

-- a group of two in place of the last one
pub tables-joined : (whole : List ℕ) (before : List DecoderValues) (a b both : DecoderValues)
    → group_tables_of (group_on whole both) ≡ group_tables_of (group_on whole a) ++ group_tables_of (group_on whole b)
    → tables_on whole (before ++ both ∷ []) ≡ tables_on whole (before ++ a ∷ []) ++ group_tables_of (group_on whole b)
tables-joined whole before a b both is =
    let last : List AttrTable = group_tables_of (group_on whole b) in
    tables-more whole before both
    ∙ ap (λ (l : List AttrTable). tables_on whole before ++ l) is
    ∙ sym (append_assoc (tables_on whole before) (group_tables_of (group_on whole a)) last)
    ∙ ap (λ (l : List AttrTable). l ++ last) (sym (tables-more whole before a))

-- it has the vertices of the last one
pub vertices-joined : (corners : ℕ) (whole : List ℕ) (before : List DecoderValues) (a both : DecoderValues) → both.cut ≡ a.cut → both.entry_of_class ≡ a.entry_of_class
    → All (HasVertices corners) (map (group_on whole) (before ++ a ∷ [])) → All (HasVertices corners) (map (group_on whole) (before ++ both ∷ []))
vertices-joined corners whole [] a both cut entries each =
    let has = All-head (HasVertices corners) (group_on whole a) [] each in
    All-cons (HasVertices corners) (group_on whole both) []
    (rw (cut, entries) (record { each_corner = has.each_corner; entries = has.entries })) (All-nil (HasVertices corners))
vertices-joined corners whole (v ∷ before) a both cut entries each =
    All-cons (HasVertices corners) (group_on whole v) (map (group_on whole) (before ++ both ∷ []))
    (All-head (HasVertices corners) (group_on whole v) (map (group_on whole) (before ++ a ∷ [])) each)
    (vertices-joined corners whole before a both cut entries (All-tail (HasVertices corners) (group_on whole v) (map (group_on whole) (before ++ a ∷ [])) each))

-- ---- the classes of a surface

-- the labels of a table that is lent are the classes of its surface
pub classes-lent : (t u : Table) (labels : List ℕ) (count : ℕ) (ends : List Bool) → t ≡ u → IsGluing t.faces (gluing_of t)
    → IsLabelled u.faces (gluing_of u) labels count ends → labels ≡ fan_labels u.faces (gluing_of u)
classes-lent t u labels count ends is G L =
    (labels_are_one u.faces (gluing_of u) labels count ends (subst (λ (v : Table). IsGluing v.faces (gluing_of v)) is G) L).0
