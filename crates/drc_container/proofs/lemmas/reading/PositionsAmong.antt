-- What has been read of the positions on a surface, one attribute and one decoder after another.
use Rattle.std.proofs.Common.{◌≡◌, ℕ, zero, suc, ◌+◌, ◌<◌, ◌≤◌, ℤ, List, [], ◌∷◌, ◌++◌, length, map, take, drop, get_or, Some, refl, sym, ◌∙◌, ap, arith, length-append}
use Rattle.std.proofs.lemmas.Grind.{flat_map-append}
use Rattle.std.proofs.lemmas.List.{length-map, get_or-map, map-append, take_more, take-append-drop}
use Rattle.attr_heads.specs.declared.heads.Head.{Head}
use Rattle.mesh_model.specs.Groups.{AttrTable, GroupParts, corner_entries, tables_of, group_tables}
use Rattle.corner_table.specs.Ordered.{entries_by}
use Rattle.attr_section.specs.Positions.{PositionsRead, with_attribute}
use Rattle.drc_container.specs.declared.reading.surface_attributes.DecoderValues.{DecoderValues}
use Rattle.drc_container.specs.reading.OnSurface.{positions_from}
use Rattle.drc_container.specs.reading.AsRead.{group_on, tables_on}
use Rattle.drc_container.proofs.lemmas.reading.AsRead.{tables-more}

-- with no attribute
pub from-none : (found : PositionsRead) (heads : List Head) → positions_from found heads [] ≡ found
from-none found [] = refl
from-none found (h ∷ heads) = refl

-- with one attribute more
from-next : (found : PositionsRead) (heads : List Head) (tables : List AttrTable) (k : ℕ) (h : Head) (t : AttrTable) → k < length heads → k < length tables
    → positions_from found heads (take (suc k) tables)
    ≡ with_attribute (positions_from found heads (take k tables)) (get_or heads k h) (get_or tables k t).values (Some (get_or tables k t).of_corner)
from-next found [] tables k h t inside within = absurd (omega (arith, inside))
from-next found (g ∷ heads) [] k h t inside within = absurd (omega (arith, within))
from-next found (g ∷ heads) (x ∷ tables) zero h t inside within = from-none (with_attribute found g x.values (Some x.of_corner)) heads
from-next found (g ∷ heads) (x ∷ tables) (suc k) h t inside within =
    from-next (with_attribute found g x.values (Some x.of_corner)) heads tables k h t (omega (arith, inside)) (omega (arith, within))

pub from-more : (found : PositionsRead) (heads : List Head) (group : GroupParts) (k : ℕ) (h : Head) (values : List ℤ) → k < length heads → k < length group.values
    → positions_from found heads (take (k + 1) (tables_of group))
    ≡ with_attribute (positions_from found heads (take k (tables_of group))) (get_or heads k h) (get_or group.values k values) (Some (corner_entries group))
from-more found heads group k h values inside within =
    let table : List ℤ → AttrTable = λ l. record { values = l; of_corner = corner_entries group } in
    let next : k + 1 ≡ suc k = omega arith in
    let long = length-map group.values table in
    let front = positions_from found heads (take k (tables_of group)) in
    ap (λ n. positions_from found heads (take n (tables_of group))) next
    ∙ from-next found heads (tables_of group) k h (table values) inside (omega (arith, within, long))
    ∙ ap (λ (t : AttrTable). with_attribute front (get_or heads k h) t.values (Some t.of_corner)) (get_or-map table group.values k values (table values) within)

pub behind-more : (found at new : PositionsRead) (heads : List Head) (group : GroupParts) (k : ℕ) (h : Head) (values d : List ℤ) (classes entries : List ℕ)
    → k < length heads → k < length group.values → h ≡ get_or heads k h → values ≡ get_or group.values k d → classes ≡ group.of_corner → entries ≡ group.entry_of
    → at ≡ positions_from found heads (take k (tables_of group)) → new ≡ with_attribute at h values (Some (entries_by classes entries))
    → new ≡ positions_from found heads (take (k + 1) (tables_of group))
behind-more found at new heads group k h values d classes entries inside within is_h is_values is_classes is_entries so is =
    let this : Head = get_or heads k h in
    let column : List ℤ = get_or group.values k d in
    is
    ∙ ap (λ (l : List ℕ). with_attribute at h values (Some (entries_by l entries))) is_classes
    ∙ ap (λ (l : List ℕ). with_attribute at h values (Some (entries_by group.of_corner l))) is_entries
    ∙ ap (λ (l : List ℤ). with_attribute at h l (Some (corner_entries group))) is_values
    ∙ ap (λ (x : Head). with_attribute at x column (Some (corner_entries group))) is_h
    ∙ ap (λ (p : PositionsRead). with_attribute p this column (Some (corner_entries group))) so
    ∙ sym (from-more found heads group k h d inside within)

-- with the attributes of two lists, one behind the other
pub from-joined : (found : PositionsRead) (heads : List Head) (tables more : List AttrTable) → length tables ≤ length heads
    → positions_from found heads (tables ++ more) ≡ positions_from (positions_from found heads tables) (drop (length tables) heads) more
from-joined found heads [] more few = ap (λ (p : PositionsRead). positions_from p heads more) (sym (from-none found heads))
from-joined found [] (t ∷ tables) more few = absurd (omega (arith, few))
from-joined found (h ∷ heads) (t ∷ tables) more few = from-joined (with_attribute found h t.values (Some t.of_corner)) heads tables more (omega (arith, few))

-- with one attribute behind others, each with its head
pub from-one : (found : PositionsRead) (heads : List Head) (h : Head) (tables : List AttrTable) (t : AttrTable) → length tables ≡ length heads
    → positions_from found (heads ++ h ∷ []) (tables ++ t ∷ []) ≡ with_attribute (positions_from found heads tables) h t.values (Some t.of_corner)
from-one found [] h [] t same = refl
from-one found [] h (x ∷ tables) t same = absurd (omega (arith, same))
from-one found (g ∷ heads) h [] t same = absurd (omega (arith, same))
from-one found (g ∷ heads) h (x ∷ tables) t same = from-one (with_attribute found g x.values (Some x.of_corner)) heads h tables t (omega (arith, same))

-- the tables of one decoder more
pub tables-taken : (whole : List ℕ) (decoders : List DecoderValues) (i : ℕ) (d : DecoderValues) → i < length decoders → d ≡ get_or decoders i d
    → tables_on whole (take (i + 1) decoders) ≡ tables_on whole (take i decoders) ++ tables_of (group_on whole d)
tables-taken whole decoders i d within is =
    ap (tables_on whole) (take_more decoders i d within ∙ ap (λ (x : DecoderValues). take i decoders ++ x ∷ []) (sym is))
    ∙ tables-more whole (take i decoders) d

-- the first decoders have no more tables than all
pub tables-fewer : (whole : List ℕ) (decoders : List DecoderValues) (i : ℕ) → length (tables_on whole (take i decoders)) ≤ length (tables_on whole decoders)
tables-fewer whole decoders i =
    let front = take i decoders in
    let back = drop i decoders in
    let parts : tables_on whole (front ++ back) ≡ tables_on whole front ++ tables_on whole back =
    ap group_tables (map-append (group_on whole) front back) ∙ flat_map-append tables_of (map (group_on whole) front) (map (group_on whole) back) in
    let all : tables_on whole decoders ≡ tables_on whole front ++ tables_on whole back = ap (tables_on whole) (sym (take-append-drop i decoders)) ∙ parts in
    omega (arith, ap length all, length-append (tables_on whole front) (tables_on whole back))

-- how many attributes a decoder has
pub tables-each : (whole : List ℕ) (d : DecoderValues) → length (tables_of (group_on whole d)) ≡ length d.values.items
tables-each whole d =
    let g = group_on whole d in
    let table : List ℤ → AttrTable = λ l. record { values = l; of_corner = corner_entries g } in
    length-map g.values table

-- heads behind those of the first decoders begin with those of the next one
pub room : (whole : List ℕ) (decoders : List DecoderValues) (i k n : ℕ) (d : DecoderValues) → i < length decoders → d ≡ get_or decoders i d
    → k ≡ length (tables_on whole (take i decoders)) → length (tables_on whole decoders) ≡ n → k + length d.values.items ≤ n
room whole decoders i k n d within is counted all =
    let taken = tables-taken whole decoders i d within is in
    let fewer = tables-fewer whole decoders (i + 1) in
    omega (arith, ap length taken, fewer, counted, all, tables-each whole d, length-append (tables_on whole (take i decoders)) (tables_of (group_on whole d)))

-- one decoder more
pub among-more : (whole : List ℕ) (heads : List Head) (decoders : List DecoderValues) (i k : ℕ) (d : DecoderValues) (at new : PositionsRead) → i < length decoders
    → d ≡ get_or decoders i d → k ≡ length (tables_on whole (take i decoders)) → length (tables_on whole decoders) ≡ length heads
    → at ≡ positions_from PositionsRead.NotYet heads (tables_on whole (take i decoders)) → new ≡ positions_from at (drop k heads) (tables_of (group_on whole d))
    → new ≡ positions_from PositionsRead.NotYet heads (tables_on whole (take (i + 1) decoders))
among-more whole heads decoders i k d at new within is counted all so more =
    let front = tables_on whole (take i decoders) in
    let last = tables_of (group_on whole d) in
    let none : PositionsRead = PositionsRead.NotYet in
    let few : length front ≤ length heads = omega (arith, counted, room whole decoders i k (length heads) d within is counted all) in
    more
    ∙ ap (λ (p : PositionsRead). positions_from p (drop k heads) last) so
    ∙ ap (λ (n : ℕ). positions_from (positions_from none heads front) (drop n heads) last) counted
    ∙ sym (from-joined none heads front last few)
    ∙ ap (positions_from none heads) (sym (tables-taken whole decoders i d within is))

pub counted-more : (whole : List ℕ) (decoders : List DecoderValues) (i k : ℕ) (d : DecoderValues) → i < length decoders → d ≡ get_or decoders i d
    → k ≡ length (tables_on whole (take i decoders)) → k + length d.values.items ≡ length (tables_on whole (take (i + 1) decoders))
counted-more whole decoders i k d within is counted =
    let taken = tables-taken whole decoders i d within is in
    omega (arith, ap length taken, counted, tables-each whole d, length-append (tables_on whole (take i decoders)) (tables_of (group_on whole d)))
