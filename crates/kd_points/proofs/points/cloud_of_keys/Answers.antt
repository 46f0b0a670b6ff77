use Rattle.std.proofs.Common.{◌≡◌, ◌<◌, ◌≤◌, List, ℤ, map, arith, sym, ◌∙◌, ap, subst, Ok, Err, None, IsTrue}
use Rattle.drc_base.specs.Refusals.{Answers}
use Rattle.attr_heads.specs.FirstFault.{answer_of}
use Rattle.attr_heads.specs.Head.{row_bounds, width_of}
use Rattle.mesh_model.specs.Parts.{AreRows, CloudParts, range_fault, cloud_of}
use Rattle.mesh_model.proofs.Made.{cloud_of-IsCloud, AreRows-cells_of, ArePoints-tests}
use Rattle.kd_points.specs.Extents.{row_within}
use Rattle.kd_points.specs.Meaning.{FirstOutside, cloud_of_keys}
use Rattle.std.specs.List.{All}
use Rattle.attr_heads.specs.declared.heads.Head.{Head}
use Rattle.attr_heads.specs.Octahedra.{has_square_bits}
use Rattle.kd_points.proofs.Headed.{squares_pass}
use Rattle.kd_points.proofs.Clouded.{fit_cells, cloud_inside, cloud_outside}
use Rattle.kd_points.proofs.points.cloud_of_keys.Goals as goal

pub returns-then-outside-width : goal.returns-then-outside-width
returns-then-outside-width c =
    let h = c.args.header in
    let keys = c.args.keys.now.rows in
    let r = c.in_ok-cells.outside in
    let first : FirstOutside (row_bounds h.heads) (map (row_within h.extents) keys) r =
    subst (λ e. FirstOutside (row_bounds h.heads) (map (row_within e) keys) r) c.as_slice-2.ensures.items
    (subst (λ l. FirstOutside (row_bounds l) (map (row_within c.as_slice-2.result.now) keys) r) c.as_slice.ensures.items c.in_ok-cells.ensures.first) in
    let some : r < width_of h.heads = omega (arith, c.requires.len) in
    cloud_outside h keys r first some ∙ ap (λ f. Err f) (sym c.new.ensures)

pub of_typed-requires-clause-rows : goal.of_typed-requires-clause-rows
of_typed-requires-clause-rows c =
    let h = c.args.header in
    let keys = c.args.keys.now.rows in
    let cells = c.in_ok-cells.cells.items in
    let most : width_of h.heads ≤ c.in_ok-cells.outside = omega (arith, c.requires.len) in
    let fit = fit_cells h.heads c.as_slice.result.now h.extents c.as_slice-2.result.now keys cells c.in_ok-cells.outside c.as_slice.ensures.items c.as_slice-2.ensures.items
    c.requires.pass c.requires.len c.requires.few c.requires.values c.in_ok-cells.ensures.first c.in_ok-cells.ensures.cells most in
    subst (λ l. AreRows l cells) (sym c.into_vec.ensures)
    (subst (λ l. AreRows h.heads l) (sym fit.cells_are) (AreRows-cells_of h.heads (map (row_within h.extents) keys) fit.are))

pub of_typed-requires-clause-typed : goal.of_typed-requires-clause-typed
of_typed-requires-clause-typed c =
    let h = c.args.header in
    let keys = c.args.keys.now.rows in
    let cells = c.in_ok-cells.cells.items in
    let most : width_of h.heads ≤ c.in_ok-cells.outside = omega (arith, c.requires.len) in
    let fit = fit_cells h.heads c.as_slice.result.now h.extents c.as_slice-2.result.now keys cells c.in_ok-cells.outside c.as_slice.ensures.items c.as_slice-2.ensures.items
    c.requires.pass c.requires.len c.requires.few c.requires.values c.in_ok-cells.ensures.first c.in_ok-cells.ensures.cells most in
    subst (λ l. range_fault l cells ≡ None) (sym c.into_vec.ensures)
    (subst (λ l. range_fault h.heads l ≡ None) (sym fit.cells_are) (ArePoints-tests h.heads (map (row_within h.extents) keys) fit.are).2)

pub returns : goal.returns
returns c =
    let h = c.args.header in
    let keys = c.args.keys.now.rows in
    let cells = c.in_ok-cells.cells.items in
    let points : List (List ℤ) = map (row_within h.extents) keys in
    let most : width_of h.heads ≤ c.in_ok-cells.outside = omega (arith, c.requires.len) in
    let fit = fit_cells h.heads c.as_slice.result.now h.extents c.as_slice-2.result.now keys cells c.in_ok-cells.outside c.as_slice.ensures.items c.as_slice-2.ensures.items
    c.requires.pass c.requires.len c.requires.few c.requires.values c.in_ok-cells.ensures.first c.in_ok-cells.ensures.cells most in
    let whole : CloudParts = record { heads = h.heads; points = points } in
    let made : cloud_of c.into_vec.result.items cells ≡ Ok whole =
    ap (λ l. cloud_of l cells) c.into_vec.ensures ∙ ap (cloud_of h.heads) fit.cells_are ∙ cloud_of-IsCloud whole fit.are in
    subst (λ r. Answers (λ (x : CloudParts). x) (cloud_of_keys h keys) r) (sym (c.of_typed.ensures ∙ ap answer_of made))
    (cloud_inside h keys c.in_ok-cells.outside fit.first fit.all)

pub points_within-requires-clause-squares : goal.points_within-requires-clause-squares
points_within-requires-clause-squares c =
    subst (λ l. All (λ (h : Head). IsTrue (has_square_bits h.octa)) l) (sym c.as_slice.ensures.items) (squares_pass c.args.header.heads c.requires.pass)
