use Rattle.std.proofs.Common.{◌≡◌, ◌<◌, Ok, List, ℕ, map, sym, ap, ◌∙◌, subst}
use Rattle.std.specs.List.{range_with_len}
use Rattle.std.proofs.lemmas.Result.{err_from_is_err_and}
use Rattle.mesh_model.specs.Parts.{MeshParts, IsMesh, rows_of}
use Rattle.mesh_model.specs.Assembled.{triple}
use Rattle.mesh_model.specs.Groups.{group_tables}
use Rattle.attr_heads.proofs.Widths.{width_of-bounds}
use Rattle.mesh_model.proofs.AssembledParts.{stored-numbered, assembled-fault}
use Rattle.mesh_model.proofs.assembling.assemble_stored.Goals as goal

pub row_width-width-requires : goal.row_width-width-requires
row_width-width-requires c = (width_of-bounds c.args.heads.now c.requires.tables.heads_pass).1

pub number_corners-requires-clause-groups : goal.number_corners-requires-clause-groups
number_corners-requires-clause-groups c = record { tables = c.requires.tables; vertices = c.requires.vertices }

pub returns-in_err-test_counts-clause-answer : goal.returns-in_err-test_counts-clause-answer
returns-in_err-test_counts-clause-answer c =
    let numbering = c.in_ok-numbering.numbering in
    let p = err_from_is_err_and c.from_residual-in_err-test_counts.result c.from_residual-in_err-test_counts.ensures.1 in
    let wide = subst (λ w. 0 < w) (sym c.row_width-width.ensures) (width_of-bounds c.args.heads.now c.requires.tables.heads_pass).0 in
    rw (p.1, p.2)
    (assembled-fault c.args.heads.now (group_tables c.args.groups.now) c.args.faces c.in_ok-numbering.ensures.numbering.numbers numbering.cells.items c.row_width-width.result numbering.count c.in_err-test_counts.field-0.0
    c.in_ok-numbering.ensures.numbering.numbering wide c.in_ok-numbering.ensures.stored c.row_width-width.ensures c.in_err-test_counts.ensures)

pub returns-clause-stored : goal.returns-clause-stored
returns-clause-stored c =
    let numbering = c.in_ok-numbering.numbering in
    (stored-numbered c.args.heads.now (group_tables c.args.groups.now) c.args.faces c.in_ok-numbering.ensures.numbering.numbers numbering.cells.items c.row_width-width.result numbering.count c.requires.tables
    c.in_ok-numbering.ensures.numbering.numbering c.in_ok-numbering.ensures.stored c.in_ok-test_counts.ensures c.row_width-width.ensures).0

pub returns-clause-sound : goal.returns-clause-sound
returns-clause-sound c =
    let heads = c.args.heads.now in
    let numbering = c.in_ok-numbering.numbering in
    let numbers = c.in_ok-numbering.ensures.numbering.numbers in
    let width = c.row_width-width.result in
    let stored = stored-numbered heads (group_tables c.args.groups.now) c.args.faces numbers numbering.cells.items width numbering.count c.requires.tables
    c.in_ok-numbering.ensures.numbering.numbering c.in_ok-numbering.ensures.stored c.in_ok-test_counts.ensures c.row_width-width.ensures in
    let made : numbering.faces.items ≡ map (triple numbers) (range_with_len 0 c.args.faces) = c.in_ok-numbering.ensures.numbering.are in
    subst (λ (faces : List (List ℕ)). IsMesh (record { heads = heads; points = rows_of width numbering.cells.items; faces = faces })) (sym made) stored.1

pub returns-clause-answer : goal.returns-clause-answer
returns-clause-answer c =
    let heads = c.args.heads.now in
    let numbering = c.in_ok-numbering.numbering in
    let numbers = c.in_ok-numbering.ensures.numbering.numbers in
    let width = c.row_width-width.result in
    let stored = stored-numbered heads (group_tables c.args.groups.now) c.args.faces numbers numbering.cells.items width numbering.count c.requires.tables
    c.in_ok-numbering.ensures.numbering.numbering c.in_ok-numbering.ensures.stored c.in_ok-test_counts.ensures c.row_width-width.ensures in
    let made : numbering.faces.items ≡ map (triple numbers) (range_with_len 0 c.args.faces) = c.in_ok-numbering.ensures.numbering.are in
    let part : List (List ℕ) → MeshParts = λ faces. record { heads = heads; points = rows_of width numbering.cells.items; faces = faces } in
    stored.2 ∙ ap (λ faces. Ok (part faces)) (sym made)
