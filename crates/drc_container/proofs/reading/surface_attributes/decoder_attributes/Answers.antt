use Rattle.std.proofs.Common.{◌≡◌, List, None, length, refl, sym, ◌∙◌, ap}
use Rattle.std.proofs.lemmas.List.{length-map}
use Rattle.corner_table.specs.Ordered.{entries_by}
use Rattle.corner_table.specs.Sides.{side_at}
use Rattle.mesh_model.specs.Groups.{AttrTable}
use Rattle.drc_container.specs.declared.reading.info.AttrInfo.{AttrInfo}
use Rattle.drc_container.specs.declared.reading.surface_attributes.DecoderValues.{DecoderValues}
use Rattle.drc_container.specs.reading.Meaning.{attr_infos}
use Rattle.drc_container.specs.reading.OnSurface.{SurfaceAttributes, tables_of}
use Rattle.drc_container.proofs.lemmas.reading.AsRead.{tables-kept}
use Rattle.drc_container.proofs.reading.surface_attributes.decoder_attributes.Goals as goal

pub returns-clause-over : goal.returns-clause-over
returns-clause-over c = λ labels w corners entries.
    let heads = c.args.decoder.heads in
    let kept : DecoderValues = record { cut = None; entry_of_class = c.from_vec.result; values = c.in_ok-alone.alone } in
    let copied = c.from_vec.ensures ∙ c.in_ok-entry_of_class.ensures.items ∙ c.as_slice-2.ensures.items in
    let tables = tables-kept labels w.entries kept c.args.values.items c.in_ok-alone.ensures (entries ∙ ap (entries_by labels) (sym copied)) in
    let many : c.len-entries.result ≡ length w.corners =
    c.len-entries.ensures ∙ sym (length-map c.args.order.now.corner_of_entry side_at) ∙ sym (ap length corners) in
    let info : c.from_vec-2.result ≡ attr_infos (length w.corners) heads c.args.values.items =
    c.from_vec-2.ensures ∙ c.in_ok-info.ensures ∙ rw (c.as_slice.ensures.items, c.deref.ensures.value, many) refl in
    let with_tables : List AttrTable → SurfaceAttributes = λ (l : List AttrTable). record { heads = heads; tables = l; info = c.from_vec-2.result } in
    let with_info : List AttrInfo → SurfaceAttributes = λ (l : List AttrInfo). record { heads = heads; tables = tables_of w.entries c.args.values.items; info = l } in
    ap with_tables tables ∙ ap with_info info
