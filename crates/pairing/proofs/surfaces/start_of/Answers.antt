-- The lists are those of the mesh's sides.
use Rattle.std.proofs.Common.{ℕ, List, length, ap, ◌≡◌, arith}
use Rattle.pairing.proofs.Starts.{triangles_are, numbers_below, sides_are, up_to_begins}
use Rattle.pairing.proofs.surfaces.start_of.Goals as goal

pub classes_of-requires-clause-triangles : goal.classes_of-requires-clause-triangles
classes_of-requires-clause-triangles c = rw (c.face_count.ensures.value, c.as_slice.ensures.value) (triangles_are _ _ c.requires c.in_ok-thirds.ensures)

pub classes_of-requires-clause-below : goal.classes_of-requires-clause-below
classes_of-requires-clause-below c =
    let n = c.point_count-bound.ensures.value in
    rw c.as_slice.ensures.value (λ x h. (let b = numbers_below _ _ c.in_ok-thirds.ensures x h in omega arith))

pub returns-clause-sides : goal.returns-clause-sides
returns-clause-sides c =
    let n = c.face_count.ensures.value in
    let k = c.in_ok-classes.ensures.count in
    sides_are _ _ _ _ _ c.face_count.ensures.sound c.requires c.in_ok-thirds.ensures (rw c.as_slice.ensures.value at c.in_ok-classes.ensures.classes) (omega arith) (rw c.as_slice-2.ensures.value at c.in_ok-chains.ensures.linked)

pub returns-clause-up_to : goal.returns-clause-up_to
returns-clause-up_to c =
    let e = c.in_ok-classes.ensures.classes.each in
    let v = ap (λ (l : List ℕ). length l) c.as_slice.ensures.value in
    let n = c.len.ensures in
    let long : c.len.result ≡ length c.in_ok-classes.classes.of.items = omega arith in
    rw (c.in_ok-others.ensures.items, c.as_slice-3.ensures.value, c.in_ok-taken.ensures)
    (up_to_begins _ _ _ _ c.len.result long (rw c.as_slice-2.ensures.value at c.in_ok-chains.ensures.firsts))
