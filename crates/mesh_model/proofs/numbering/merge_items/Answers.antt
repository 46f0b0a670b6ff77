use Rattle.std.proofs.Common.{◌≡◌, ◌<◌, ◌++◌, [], List, ℕ, ℤ, drop, get_or, length, map, take, sym, ap, ◌∙◌, subst, arith, rules}
use Rattle.std.proofs.lemmas.List.{take_at}
use Rattle.mesh_model.specs.Parts.{rows_of}
use Rattle.mesh_model.specs.RowIndex.{RowsAreNumbered, AreNumberedFaces}
use Rattle.mesh_model.proofs.NumberedFaces.{faces-merged}
use Rattle.mesh_model.proofs.Rows.{length-rows}
use Rattle.mesh_model.proofs.numbering.merge_items.Goals as goal

pub returns-clause-numbering : goal.returns-clause-numbering
returns-clause-numbering c = λ columns count are.
    let items = c.args.items in
    let w = c.args.width in
    let rows = rows_of w items.cells.items in
    let points = rows_of w c.in_ok-points.points.cells.items in
    let numbers = c.merge.new.twins in
    let faces = items.faces.items in
    let after = c.renumber.new.faces in
    let given : c.as_mut_slice-2.result.now ≡ faces = c.as_mut_slice-2.ensures.value in
    let used : c.as_slice-2.result.now ≡ numbers =
    c.as_slice-2.ensures.value ∙ take_at numbers (drop (length numbers) c.args.twins.items) c.args.twins.len (search rules) in
    let long : length after ≡ length faces = search rules in
    let many : length rows ≡ items.count = length-rows w items.count items.cells.items c.requires.wide c.requires.whole in
    let each : (f : ℕ) → f < length faces → get_or after f [] ≡ map (λ item. get_or numbers item 0) (get_or faces f []) = λ f below.
    c.renumber.ensures f (omega (arith, below, ap length given))
    ∙ ap (λ (ns : List ℕ). map (λ item. get_or ns item 0) (get_or c.as_mut_slice-2.result.now f [])) used
    ∙ ap (λ (fs : List (List ℕ)). map (λ item. get_or numbers item 0) (get_or fs f [])) given in
    let numbered : RowsAreNumbered rows items.count numbers points =
    subst (λ (cells : List ℤ). RowsAreNumbered (rows_of w cells) items.count numbers points) c.as_slice.ensures.value c.in_ok-points.ensures.points in
    let whole : take items.faces.len (after ++ drop (length after) faces) ≡ after = take_at after (drop (length after) faces) items.faces.len (search rules) in
    subst (λ fs. AreNumberedFaces columns count fs points) (sym whole)
    (faces-merged columns count items.count faces after rows points numbers are many numbered long each)
