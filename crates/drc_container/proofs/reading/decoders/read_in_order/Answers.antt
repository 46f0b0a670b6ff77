use Rattle.std.proofs.Common.{◌≡◌, ℕ, List, ◌+◌, ◌*◌, ◌<◌, length, refl, sym, ◌∙◌, ap, subst}
use Rattle.std.specs.List.{All}
use Rattle.corner_table.specs.Ordered.{Ordered, ordered}
use Rattle.mesh_model.specs.Assembled.{AreAttrTables}
use Rattle.drc_container.specs.reading.OnSurface.{SurfaceAttributes, decoder_attributes, values_on}
use Rattle.drc_container.specs.reading.AsRead.{attributes_over}
use Rattle.drc_container.proofs.lemmas.reading.Tabled.{decoder-read, columns-tables, values_on-tables, entries-by}
use Rattle.drc_container.proofs.reading.decoders.read_in_order.Goals.{In_ok-attributes}
use Rattle.drc_container.proofs.reading.decoders.read_in_order.Goals as goal

pub read_decoder-requires-clause-on : goal.read_decoder-requires-clause-on
read_decoder-requires-clause-on c = record { over = c.requires.order.is; each_entry = c.len-entries.ensures }

-- what is kept is what was read
kept : (c : In_ok-attributes)
    → attributes_over c.args.labels.now.of_corner c.in_ok-attributes.attributes
    ≡ decoder_attributes (ordered c.args.t.now c.args.labels.now.of_corner c.args.order.now) c.read_decoder.new.h c.in_ok-values.values.items
kept c =
    let labels = c.args.labels.now.of_corner in
    let w : Ordered = ordered c.args.t.now labels c.args.order.now in
    c.in_ok-attributes.ensures.over labels w refl refl

pub returns-clause-spent : goal.returns-clause-spent
returns-clause-spent c =
    let w : Ordered = ordered c.args.t.now c.args.labels.now.of_corner c.args.order.now in
    let is = kept (goal.at.returns-clause-spent c).In_ok-attributes in
    c.in_ok-values.ensures.spent
    ∙ ap (λ n. c.args.spent.now + n) (sym (ap (λ (p : SurfaceAttributes). values_on p.tables) is ∙ values_on-tables w.entries c.in_ok-values.values.items))

pub returns-clause-columns : goal.returns-clause-columns
returns-clause-columns c =
    let w : Ordered = ordered c.args.t.now c.args.labels.now.of_corner c.args.order.now in
    let is = kept (goal.at.returns-clause-columns c).In_ok-attributes in
    let read = decoder-read c.args.profile.number _ _ c.args.decoder c.len-entries.result c.args.spent.now c.requires.spent c.requires.squares c.args.c.now _ c.in_ok-values.ensures.values in
    let each = entries-by c.args.t.now.faces c.args.labels.now.of_corner c.args.order.now c.requires.order.over in
    let within : All (λ e. e < c.len-entries.result) w.entries =
    subst (λ n. All (λ e. e < n) w.entries) (sym c.len-entries.ensures) each.1 in
    subst (λ (p : SurfaceAttributes). AreAttrTables (3 * c.args.t.now.faces) p.heads p.tables) (sym is)
    (columns-tables (3 * c.args.t.now.faces) c.len-entries.result w.entries each.0 within c.read_decoder.new.h.heads c.in_ok-values.values.items read)

pub returns-clause-vertices : goal.returns-clause-vertices
returns-clause-vertices c =
    let labels = c.args.labels.now.of_corner in
    record {
      each_corner = c.requires.order.over.each_corner;
      entries = subst (λ (entries : List ℕ). All (λ (k : ℕ). k < length entries) labels) (sym c.in_ok-attributes.ensures.entries) c.requires.order.over.classes;
    }
