-- The corners of one face more.
use Rattle.std.proofs.Common.{[], length, get_or, arith}
use Rattle.mesh_model.specs.Parts.{IsFaceOf}
use Rattle.pairing.proofs.PositionLists.{face_more, point_number, number_read}
use Rattle.pairing.proofs.positions.corner_numbers.Goals as goal

pub loop-f-preserved : goal.loop-f-preserved
loop-f-preserved c =
    let t = c.loop-f-test.true in
    let n = c.face_count-f-end.ensures.value in
    let l = c.loop-f.invariant.long in
    let F : IsFaceOf (length c.args.m.now.points) (get_or c.args.m.now.faces c.loop-f.f []) = c.face_count-f-end.ensures.sound.faces c.loop-f.f [] (omega arith) in
    let P = c.in_ok-of_point.ensures.each in
    record {
      long = (let a = c.push_reserved.ensures.len in let b = c.push_reserved-in-loop-f.ensures.len in let d = c.push_reserved-in-loop-f-2.ensures.len in omega arith);
      room = (let e = c.loop-f.invariant.room in let a = c.push_reserved.ensures.capacity in let b = c.push_reserved-in-loop-f.ensures.capacity in let d = c.push_reserved-in-loop-f-2.ensures.capacity in omega arith);
      was = rw (c.push_reserved-in-loop-f-2.ensures.items, c.push_reserved-in-loop-f.ensures.items, c.push_reserved.ensures.items) (face_more (point_number c.args.m.now.faces c.in_ok-of_point.of_point.items) _ _ _ _ _ (record {
        long = l;
        was = c.loop-f.invariant.was;
        first_is = number_read _ _ _ _ F P 0 (omega arith) c.face-face.ensures.face c.index.ensures;
        second_is = number_read _ _ _ _ F P 1 (omega arith) c.face-face.ensures.face c.index-in-loop-f.ensures;
        third_is = number_read _ _ _ _ F P 2 (omega arith) c.face-face.ensures.face c.index-in-loop-f-2.ensures;
      }));
    }
