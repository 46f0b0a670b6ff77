use Rattle.drc_base.specs.Profile.{profile_numbered}
use Rattle.std.proofs.Common.{◌≡◌, ℕ, suc, ◌+◌, List, [], length, sym, ◌∙◌, ap, subst, arith}
use Rattle.std.proofs.lemmas.Result.{err_from_is_err_and}
use Rattle.std.proofs.lemmas.List.{nil_from_length}
use Rattle.std.specs.Vec.Iter.{into_iter_items}
use Rattle.drc_base.specs.Refusals.{Refuses}
use Rattle.attr_heads.specs.declared.heads.Head.{Head}
use Rattle.mesh_model.specs.Groups.{tables_of}
use Rattle.attr_section.specs.Positions.{PositionsRead}
use Rattle.attr_section.specs.TablePositions.{read_in}
use Rattle.eb_section.specs.Connectivity.{meaning}
use Rattle.drc_container.specs.declared.reading.surface_attributes.DecoderValues.{DecoderValues}
use Rattle.drc_container.specs.reading.OnSurface.{SurfaceAttributes, values_on, positions_from, ordered_for, decoder_on}
use Rattle.drc_container.specs.reading.AsRead.{classes_of, group_on, decoder_read_on, tables_on}
use Rattle.drc_container.proofs.lemmas.reading.DecodersOnSurface.{surface_decoders_at-next, surface_decoders_at-refuses, surface_decoders_at-end}
use Rattle.drc_container.proofs.lemmas.reading.Tabled.{columns-joined, values_on-append}
use Rattle.drc_container.proofs.reading.decoders.read_each.Goals.{After-positions_among}
use Rattle.drc_container.proofs.reading.decoders.read_each.Goals as goal

pub positions_among-requires : goal.positions_among-requires
positions_among-requires c =
    let whole = c.classes_lent-whole.result.now in
    ap (λ (vs : List DecoderValues). length (tables_on whole vs)) c.as_slice-in-loop-decoder.ensures.value
    ∙ ap (λ (l : List ℕ). length (tables_on l c.loop-decoder.values.items)) c.classes_lent-whole.ensures
    ∙ c.loop-decoder.invariant.columns.each_head
    ∙ sym (ap (λ (hs : List Head). length hs) c.as_slice.ensures.value)

-- the positions are those among the attributes before
found : (c : After-positions_among)
    → read_in c.positions_among.result
    ≡ positions_from PositionsRead.NotYet c.loop-decoder.heads.items (tables_on (classes_of (meaning c.args.surface.now)) c.loop-decoder.values.items)
found c =
    let none : PositionsRead = PositionsRead.NotYet in
    let heads = c.loop-decoder.heads.items in
    c.positions_among.ensures
    ∙ ap (λ (hs : List Head). positions_from none hs (tables_on c.classes_lent-whole.result.now c.as_slice-in-loop-decoder.result.now)) c.as_slice.ensures.value
    ∙ ap (λ (vs : List DecoderValues). positions_from none heads (tables_on c.classes_lent-whole.result.now vs)) c.as_slice-in-loop-decoder.ensures.value
    ∙ ap (λ (l : List ℕ). positions_from none heads (tables_on l c.loop-decoder.values.items)) c.classes_lent-whole.ensures

pub returns-in_err-read-clause-item : goal.returns-in_err-read-clause-item
returns-in_err-read-clause-item c =
    let s = meaning c.args.surface.now in
    let p = err_from_is_err_and c.from_residual.result c.from_residual.ensures.1 in
    let before : SurfaceAttributes = record { heads = c.loop-decoder.heads.items; tables = tables_on (classes_of s) c.loop-decoder.values.items; info = c.loop-decoder.info.items } in
    let d = c.in-Some.decoder in
    let item = subst (λ (f : PositionsRead). Refuses (decoder_on (profile_numbered c.args.profile.number) (ordered_for s d) f d c.loop-decoder.spent c.loop-decoder.c) c.in_err-read.field-0.0)
    (found (goal.at.returns-in_err-read-clause-item c).After-positions_among) c.in_err-read.ensures.item in
    rw (p.1, p.2) (surface_decoders_at-refuses (profile_numbered c.args.profile.number) s before d _ _ c.loop-decoder.c _ _
    c.loop-decoder.invariant.rest c.in-Some.ensures.steps.0 (rw c.loop-decoder.invariant.spent at item))

pub loop-decoder-preserved : goal.loop-decoder-preserved
loop-decoder-preserved c =
    let s = meaning c.args.surface.now in
    let whole = classes_of s in
    let read = c.in_ok-read.read in
    let old = c.loop-decoder.values.items in
    let added = c.in_ok-add_read.ensures in
    let before : SurfaceAttributes = record { heads = c.loop-decoder.heads.items; tables = tables_on whole old; info = c.loop-decoder.info.items } in
    let steps = c.in-Some.ensures.steps.0 in
    let more = added.tables whole in
    let sum = values_on-append (tables_on whole old) (tables_of (group_on whole read.values)) in
    let d = c.in-Some.decoder in
    let item = ap (λ (f : PositionsRead). decoder_on (profile_numbered c.args.profile.number) (ordered_for s d) f d c.loop-decoder.spent c.loop-decoder.c)
    (sym (found (goal.at.loop-decoder-preserved c).After-positions_among)) ∙ c.in_ok-read.ensures.item in
    rw (added.heads, added.info) (record {
      rest = rw more (surface_decoders_at-next (profile_numbered c.args.profile.number) s before (decoder_read_on whole read) c.in-Some.decoder _ _ c.loop-decoder.c c.read_on_its_surface.new.c _
          c.loop-decoder.invariant.rest steps (rw c.loop-decoder.invariant.spent at item));
      spent = rw more (c.in_ok-read.ensures.spent ∙ ap (λ n. n + values_on (tables_of (group_on whole read.values))) c.loop-decoder.invariant.spent ∙ sym sum);
      few = c.in_ok-read.ensures.few;
      columns = rw more (columns-joined _ c.loop-decoder.heads.items read.heads (tables_on whole old) (tables_of (group_on whole read.values))
          c.loop-decoder.invariant.columns c.in_ok-read.ensures.columns);
      vertices = added.vertices whole _ c.loop-decoder.invariant.vertices c.in_ok-read.ensures.vertices;
      orders = c.in_ok-read.ensures.orders;
      kept = c.in_ok-read.ensures.kept;
      heads = let all = rw steps at c.loop-decoder.invariant.heads in λ k d h k' d'. all (suc k) d (omega (arith, h)) k' d';
      squares = let all = rw steps at c.loop-decoder.invariant.squares in λ k d h k' d'. all (suc k) d (omega (arith, h)) k' d';
      seams = let all = rw steps at c.loop-decoder.invariant.seams in λ k d h. all (suc k) d (omega (arith, h));
    })

pub returns-clause-item : goal.returns-clause-item
returns-clause-item c =
    let s = meaning c.args.surface.now in
    let none : into_iter_items c.loop-decoder.decoder-iterator ≡ [] =
    nil_from_length (into_iter_items c.loop-decoder.decoder-iterator) (sym c.loop-decoder.decoder-iterator.rest.ok.0 ∙ c.in-None.ensures.steps.0) in
    let before : SurfaceAttributes = record { heads = c.loop-decoder.heads.items; tables = tables_on (classes_of s) c.loop-decoder.values.items; info = c.loop-decoder.info.items } in
    rw (c.from_vec.ensures, c.from_vec-2.ensures, c.from_vec-3.ensures)
    (surface_decoders_at-end (profile_numbered c.args.profile.number) s before _ c.loop-decoder.c _ c.loop-decoder.invariant.rest none)
