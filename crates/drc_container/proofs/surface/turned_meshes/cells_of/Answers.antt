-- The row of one point more stands behind those before, and fits into the room that is left.
use Rattle.std.proofs.Common.{◌≡◌, ℕ, ◌+◌, ◌-◌, ◌*◌, ◌<◌, ◌≤◌, ◌++◌, ◌∷◌, [], ℤ, List, length, take, get_or, ap, ◌∙◌, sym, append-nil, arith}
use Rattle.std.proofs.Math.Nat.{mul-le-mul_left}
use Rattle.std.proofs.lemmas.Grind.{flat_map-append}
use Rattle.std.proofs.lemmas.List.{take_more}
use Rattle.attr_heads.specs.Head.{width_of}
use Rattle.mesh_model.specs.Parts.{cells_of}
use Rattle.drc_container.proofs.surface.turned_meshes.cells_of.Goals as goal

-- the room for the rows that are left is that for one and for those behind it
next_room : (w n i : ℕ) → i < n → w * (n - i) ≡ w + w * (n - (i + 1))
next_room w n i below =
    let left : n - i ≡ n - (i + 1) + 1 = omega arith in
    ap (λ (k : ℕ). w * k) left ∙ omega arith

-- the integers of one point more
cells-more : (points : List (List ℤ)) (i : ℕ) → i < length points → cells_of (take (i + 1) points) ≡ cells_of (take i points) ++ get_or points i []
cells-more points i below =
    ap cells_of (take_more points i [] below)
    ∙ flat_map-append (λ (row : List ℤ). row) (take i points) (get_or points i [] ∷ [])
    ∙ ap (λ (l : List ℤ). cells_of (take i points) ++ l) (append-nil (get_or points i []))

pub overflow_mul-count : goal.overflow_mul-count
overflow_mul-count c =
    let n = c.point_count-count.result in
    let narrow : c.width.result ≤ 128 = c.width.ensures.bounds.1 in
    let most : n * c.width.result ≤ n * 128 = mul-le-mul_left n narrow in
    omega (arith, most)

pub put_piece-requires : goal.put_piece-requires
put_piece-requires c =
    let room = c.loop-i.invariant.room in
    let next = next_room (width_of c.args.mesh.now.heads) c.point_count-count.result c.loop-i.i c.loop-i-test.true in
    omega (arith, room, next, c.point.ensures.len)

pub loop-i-preserved : goal.loop-i-preserved
loop-i-preserved c =
    let points = c.args.mesh.now.points in
    let i = c.loop-i.i in
    let below : i < length points = omega (arith, c.loop-i-test.true, c.point_count-count.ensures.value) in
    let next = next_room (width_of c.args.mesh.now.heads) c.point_count-count.result i c.loop-i-test.true in
    record {
      items =
          c.put_piece.ensures.items
          ∙ ap (λ (l : List ℤ). l ++ c.point.result.now) c.loop-i.invariant.items
          ∙ ap (λ (l : List ℤ). cells_of (take i points) ++ l) c.point.ensures.row
          ∙ sym (cells-more points i below);
      room = omega (arith, c.loop-i.invariant.room, next, c.put_piece.ensures.len, c.put_piece.ensures.capacity, c.point.ensures.len);
    }
