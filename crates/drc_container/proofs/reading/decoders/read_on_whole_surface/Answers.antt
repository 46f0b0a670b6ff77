use Rattle.drc_base.specs.Profile.{profile_numbered}
use Rattle.std.proofs.Common.{◌≡◌, ◌+◌, ◌*◌, ℕ, List, sym, subst}
use Rattle.std.specs.Prelude.{IfOk}
use Rattle.drc_bits.specs.Reading.{Gives}
use Rattle.corner_table.specs.Table.{Table, gluing_of}
use Rattle.mesh_model.specs.Assembled.{AreAttrTables}
use Rattle.mesh_model.specs.Groups.{GroupParts, tables_of, HasVertices}
use Rattle.drc_container.specs.declared.reading.surface_attributes.DecoderRead.{DecoderRead}
use Rattle.attr_section.specs.TablePositions.{read_in}
use Rattle.drc_container.specs.reading.OnSurface.{ordered_by, values_on, decoder_on}
use Rattle.drc_container.specs.reading.AsRead.{built_classes, group_on, decoder_read_on}
use Rattle.drc_container.specs.surface.MadeOrders.{AreOrders}
use Rattle.drc_container.proofs.lemmas.reading.AsRead.{classes-lent, gives-whole, if-whole}
use Rattle.drc_container.proofs.reading.decoders.read_on_whole_surface.Goals.{After-read_on_table}
use Rattle.drc_container.proofs.reading.decoders.read_on_whole_surface.Goals as goal

-- the classes are those of the surface
whole : (c : After-read_on_table) → c.classes-labels.result.now.of_corner ≡ built_classes c.args.sides.now
whole c =
    classes-lent c.table-table.result.now c.args.sides.now.table c.classes-labels.result.now.of_corner c.classes-labels.result.now.count c.classes-labels.result.now.ends
    c.table-table.ensures c.face_count-faces.ensures.gluing c.classes-labels.ensures

pub returns-clause-item : goal.returns-clause-item
returns-clause-item c =
    let is = whole (goal.at.returns-clause-item c).After-read_on_table in
    let classes = built_classes c.args.sides.now in
    let d = c.args.decoder in
    subst (λ (t : Table). Gives (decoder_read_on classes) (decoder_on (profile_numbered c.args.profile.number) (ordered_by d.degree t.faces (gluing_of t)) (read_in c.args.found) d c.args.spent.now c.args.c.now) c.read_on_table.new.c c.read_on_table.result)
    c.table-table.ensures
    (gives-whole classes c.classes-labels.result.now.of_corner _ c.read_on_table.new.c c.read_on_table.result is c.read_on_table.ensures.whole c.read_on_table.ensures.item)

pub returns-clause-spent : goal.returns-clause-spent
returns-clause-spent c =
    if-whole (λ (p : DecoderRead) (g : GroupParts). c.read_on_table.new.spent ≡ c.args.spent.now + values_on (tables_of g)) (built_classes c.args.sides.now) _ c.read_on_table.result
    (whole (goal.at.returns-clause-spent c).After-read_on_table) c.read_on_table.ensures.whole c.read_on_table.ensures.spent

pub returns-clause-columns : goal.returns-clause-columns
returns-clause-columns c =
    let classes = built_classes c.args.sides.now in
    subst (λ (t : Table). IfOk c.read_on_table.result (λ p. AreAttrTables (3 * t.faces) p.heads (tables_of (group_on classes p.values)))) c.table-table.ensures
    (if-whole (λ (p : DecoderRead) (g : GroupParts). AreAttrTables (3 * c.table-table.result.now.faces) p.heads (tables_of g)) classes _ c.read_on_table.result
    (whole (goal.at.returns-clause-columns c).After-read_on_table) c.read_on_table.ensures.whole c.read_on_table.ensures.columns)

pub returns-clause-vertices : goal.returns-clause-vertices
returns-clause-vertices c =
    let classes = built_classes c.args.sides.now in
    subst (λ (t : Table). IfOk c.read_on_table.result (λ p. HasVertices (3 * t.faces) (group_on classes p.values))) c.table-table.ensures
    (if-whole (λ (p : DecoderRead) (g : GroupParts). HasVertices (3 * c.table-table.result.now.faces) g) classes _ c.read_on_table.result
    (whole (goal.at.returns-clause-vertices c).After-read_on_table) c.read_on_table.ensures.whole c.read_on_table.ensures.vertices)

pub read_on_table-requires-clause-orders : goal.read_on_table-requires-clause-orders
read_on_table-requires-clause-orders c =
    let labels = c.classes-labels.result.now in
    let is = classes-lent c.table-table.result.now c.args.sides.now.table labels.of_corner labels.count labels.ends
    c.table-table.ensures c.face_count-faces.ensures.gluing c.classes-labels.ensures in
    subst (λ (t : Table). AreOrders t c.classes-labels.result.now.of_corner c.args.orders.now) (sym c.table-table.ensures)
    (subst (λ (l : List ℕ). AreOrders c.args.sides.now.table l c.args.orders.now) (sym is) c.requires.orders)

pub returns-clause-orders : goal.returns-clause-orders
returns-clause-orders c =
    subst (λ (l : List ℕ). IfOk c.read_on_table.result (λ _. AreOrders c.args.sides.now.table l c.read_on_table.new.orders)) (whole (goal.at.returns-clause-orders c).After-read_on_table)
    (subst (λ (t : Table). IfOk c.read_on_table.result (λ _. AreOrders t c.classes-labels.result.now.of_corner c.read_on_table.new.orders)) c.table-table.ensures c.read_on_table.ensures.orders)
