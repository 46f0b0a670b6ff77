use Rattle.std.proofs.Common.{◌*◌, ◌≤◌, ◌++◌, ℤ, List, length, get_or, ap, sym, ◌∙◌, arith}
use Rattle.std.proofs.Math.Nat.{mul-le-mul_left}
use Rattle.std.proofs.lemmas.Grind.{common_steps}
use Rattle.seams.specs.Values.{piece}
use Rattle.corner_table.specs.Sides.{side_at}
use Rattle.drc_container.proofs.lemmas.writing.SurfaceParts.{column-more, piece-read}
use Rattle.drc_container.proofs.writing.surface_values.column_at.Goals as goal

pub overflow_mul-corners : goal.overflow_mul-corners
overflow_mul-corners c =
    let n = length c.args.corners.now in
    let narrow : c.args.comps ≤ 128 = omega arith in
    let most : n * c.args.comps ≤ n * 128 = mul-le-mul_left n narrow in
    omega (arith, most, c.requires.few)

pub loop-corner-preserved : goal.loop-corner-preserved
loop-corner-preserved c =
    let m = c.args.mesh.now in
    let k = c.args.attr in
    let at = c.side_with.result in
    let read = piece-read m k c.args.start c.args.comps at c.corner-row.result.now at.in_face c.corner-row.ensures.row c.requires.start c.requires.comps in
    let front = c.loop-corner.column.items in
    record {
      items =
          c.put_piece.ensures.items
          ∙ ap (λ (l : List ℤ). front ++ l) (read ∙ ap (piece m k) c.side_with.ensures.side)
          ∙ ap (λ (l : List ℤ). l ++ piece m k (side_at (get_or c.args.corners.now c.loop-corner.corner-index 0))) c.loop-corner.invariant.items
          ∙ sym (column-more m k c.args.corners.now c.loop-corner.corner-index c.loop-corner-test.true);
      room = grind (arith, common_steps);
    }
