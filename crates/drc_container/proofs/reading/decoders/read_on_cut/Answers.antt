use Rattle.drc_base.specs.Profile.{profile_numbered}
use Rattle.std.proofs.Common.{◌≡◌, ◌+◌, ◌*◌, ℕ, Bool, List, Some, Ok, sym, ◌∙◌, ap, subst}
use Rattle.std.proofs.lemmas.Result.{err_from_is_err_and}
use Rattle.drc_base.specs.Refusals.{Refuses}
use Rattle.corner_table.specs.Ordered.{Ordered}
use Rattle.mesh_model.specs.Assembled.{AreAttrTables}
use Rattle.mesh_model.specs.Groups.{tables_of, HasVertices}
use Rattle.drc_container.specs.declared.reading.surface_attributes.DecoderRead.{DecoderRead}
use Rattle.attr_section.specs.TablePositions.{read_in}
use Rattle.drc_container.specs.reading.OnSurface.{cut_at, ordered_by, values_on, decoder_on}
use Rattle.drc_container.specs.reading.AsRead.{group_on, decoder_read_on}
use Rattle.corner_table.specs.Table.{gluing_of}
use Rattle.seams.specs.Seams.{flag_at, unseamed}
use Rattle.drc_container.proofs.lemmas.reading.DecodersOnSurface.{ordered-cut}
use Rattle.drc_container.proofs.reading.decoders.read_on_cut.Goals.{In_ok-cut}
use Rattle.drc_container.proofs.reading.decoders.read_on_cut.Goals as goal

-- the table that was cut is ordered as the cut surface
cut-is : (c : In_ok-cut)
    → ordered_by c.args.decoder.degree c.in_ok-cut.cut.sides.faces (gluing_of c.in_ok-cut.cut.sides)
    ≡ ordered_by c.args.decoder.degree c.args.t.now.faces (cut_at c.args.t.now.faces (gluing_of c.args.t.now) c.args.block)
cut-is c =
    let is = c.in_ok-cut.ensures.cut in
    ordered-cut c.args.decoder.degree c.args.t.now c.in_ok-cut.cut.sides c.args.block is.faces
    (is.pairs ∙ ap (λ (flags : List Bool). unseamed (flag_at flags) (gluing_of c.args.t.now)) c.in_ok-cut.ensures.flags)

pub returns-in_err-alone-clause-item : goal.returns-in_err-alone-clause-item
returns-in_err-alone-clause-item c whole =
    let p = err_from_is_err_and c.from_residual-in_err-alone.result c.from_residual-in_err-alone.ensures.1 in
    let at = cut-is (goal.at.returns-in_err-alone-clause-item c).In_ok-cut in
    rw (p.1, p.2) (subst (λ (w : Ordered). Refuses (decoder_on (profile_numbered c.args.profile.number) w (read_in c.args.found) c.args.decoder c.args.spent.now c.args.c.now) c.in_err-alone.field-0.0) at c.in_err-alone.ensures.item)

pub returns-clause-item : goal.returns-clause-item
returns-clause-item c whole =
    let same = cut-is (goal.at.returns-clause-item c).In_ok-cut in
    ap (λ (w : Ordered). decoder_on (profile_numbered c.args.profile.number) w (read_in c.args.found) c.args.decoder c.args.spent.now c.args.c.now) (sym same)
    ∙ (rw c.as_ref.ensures at c.in_ok-alone.ensures.item)
    ∙ ap (λ (r : DecoderRead). Ok (decoder_read_on whole r, c.read_on_table.new.c)) (sym c.in_ok-read.ensures)

pub returns-clause-spent : goal.returns-clause-spent
returns-clause-spent c whole =
    (rw c.as_ref.ensures at c.in_ok-alone.ensures.spent)
    ∙ ap (λ (r : DecoderRead). c.args.spent.now + values_on (tables_of (group_on whole r.values))) (sym c.in_ok-read.ensures)

pub returns-clause-columns : goal.returns-clause-columns
returns-clause-columns c whole =
    let alone = c.in_ok-alone.alone in
    let cut = c.in_ok-cut.cut in
    subst (λ (r : DecoderRead). AreAttrTables (3 * c.args.t.now.faces) r.heads (tables_of (group_on whole r.values))) (sym c.in_ok-read.ensures)
    (subst (λ (n : ℕ). AreAttrTables (3 * n) alone.heads (tables_of (group_on whole (record alone.values { cut = Some cut.classes.value.of_corner }))))
    c.in_ok-cut.ensures.cut.faces (rw c.as_ref.ensures at c.in_ok-alone.ensures.columns))

pub returns-clause-vertices : goal.returns-clause-vertices
returns-clause-vertices c whole =
    let alone = c.in_ok-alone.alone in
    let cut = c.in_ok-cut.cut in
    subst (λ (r : DecoderRead). HasVertices (3 * c.args.t.now.faces) (group_on whole r.values)) (sym c.in_ok-read.ensures)
    (subst (λ (n : ℕ). HasVertices (3 * n) (group_on whole (record alone.values { cut = Some cut.classes.value.of_corner })))
    c.in_ok-cut.ensures.cut.faces (rw c.as_ref.ensures at c.in_ok-alone.ensures.vertices))

-- what is kept is the same surface, with the orders that were made of it
pub returns-clause-kept : goal.returns-clause-kept
returns-clause-kept c =
    let is = c.in_ok-cut.ensures.cut in
    c.kept_again.ensures c.args.t.now
    (record { faces = is.faces; pairs = is.pairs; classes = is.classes; orders = rw c.as_ref.ensures at c.in_ok-alone.ensures.orders })
