use Rattle.std.proofs.Common.{◌≡◌, ◌<◌, ℕ, ℤ, List, [], length, get_or, map, arith, sym, ◌∙◌, ap, subst}
use Rattle.std.specs.List.{All, range_with_len}
use Rattle.std.proofs.lemmas.List.{get_or-map, length-map}
use Rattle.kd_tree.specs.Keys.{key_at}
use Rattle.kd_points.specs.Keys.{offset_in}
use Rattle.kd_points.specs.Extents.{axes_over, integer_at, row_within}
use Rattle.kd_points.proofs.Lying.{IsAxis, axes_lie, length-axes_over, offset_fits}
use Rattle.kd_points.proofs.Scanned.{row-is, scanned-next, scanned-all}
use Rattle.kd_points.proofs.points.append_points.Goals as goal

pub fill_offsets-requires-clause-depth : goal.fill_offsets-requires-clause-depth
fill_offsets-requires-clause-depth c = ap length c.requires.axes ∙ length-axes_over c.args.extents.now ∙ sym c.requires.depth

pub fill_offsets-requires-clause-lie : goal.fill_offsets-requires-clause-lie
fill_offsets-requires-clause-lie c =
    let same : length c.loop-point.offsets ≡ length c.args.extents.now = omega (arith, c.loop-point.invariant.1, c.requires.offsets, c.requires.extents) in
    subst (λ n. All (IsAxis n) c.args.axes.now) (sym same)
    (subst (λ axes. All (IsAxis (length c.args.extents.now)) axes) (sym c.requires.axes) (axes_lie c.args.extents.now c.requires.small))

pub fill_offsets-requires-clause-fit : goal.fill_offsets-requires-clause-fit
fill_offsets-requires-clause-fit c = λ j.
    rw c.requires.axes (offset_fits c.args.extents.now c.requires.small (key_at c.args.keys.now.rows c.loop-point.point) j)

pub loop-point-preserved : goal.loop-point-preserved
loop-point-preserved c =
    let extents = c.args.extents.now in
    let rows = c.args.keys.now.rows in
    let k = c.loop-point.point in
    let points : List (List ℤ) = map (row_within extents) rows in
    let offsets = c.fill_offsets.new.offsets in
    let inside : k < length rows = omega arith in
    let same : length offsets ≡ length extents = omega (arith, c.fill_offsets.auto.offsets, c.loop-point.invariant.1, c.requires.offsets, c.requires.extents) in
    let each : (j : ℕ) → j < length offsets → get_or offsets j 0 ≡ offset_in (axes_over extents) (key_at rows k) j =
    λ j low. c.fill_offsets.ensures j low ∙ ap (λ axes. offset_in axes (key_at rows k) j) c.requires.axes in
    let row : get_or points k [] ≡ map (integer_at extents offsets) (range_with_len 0 (length c.args.row.now)) =
    get_or-map (row_within extents) rows k [] [] inside ∙ row-is extents offsets (key_at rows k) same each
    ∙ ap (λ n. map (integer_at extents offsets) (range_with_len 0 n)) c.requires.extents in (
      scanned-next c.args.row.now points k c.loop-point.cells.items c.append_point.new.cells.items c.loop-point.outside c.in_ok-outside.outside (integer_at extents offsets)
          (omega (arith, inside, length-map rows (row_within extents))) row c.loop-point.invariant.0
          c.in_ok-outside.ensures.kept c.in_ok-outside.ensures.typed c.in_ok-outside.ensures.outside c.in_ok-outside.ensures.cells,
      omega (arith, c.fill_offsets.auto.offsets, c.loop-point.invariant.1),
    )

pub returns : goal.returns
returns c =
    let points : List (List ℤ) = map (row_within c.args.extents.now) c.args.keys.now.rows in
    let end : c.loop-point.point ≡ length points = omega (arith, length-map c.args.keys.now.rows (row_within c.args.extents.now)) in
    let all = scanned-all c.args.row.now points c.loop-point.point c.loop-point.cells.items c.loop-point.outside end c.loop-point.invariant.0 in
    record { first = all.0; cells = all.1 }
