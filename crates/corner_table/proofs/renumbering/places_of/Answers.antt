-- One row more gives three places more.
use Rattle.std.proofs.Common.{ℕ, ◌*◌, ◌<◌, ap, ◌∙◌, arith}
use Rattle.corner_table.proofs.CarriedLists.{face_placed}
use Rattle.corner_table.proofs.renumbering.places_of.Goals as goal

pub loop-face-preserved : goal.loop-face-preserved
loop-face-preserved c =
    let R = c.requires.rows in
    let e = R.one_each in
    let inside : c.loop-face.face-index < c.args.faces = omega arith in
    record {
      start = (let s = c.loop-face.invariant.start in omega arith);
      long = (let a = c.place_face.ensures.len in let b = c.loop-face.invariant.long in omega arith);
      becomes = rw (c.place_face.ensures.items, c.loop-face.invariant.start) (face_placed _ _ R (c.loop-face.invariant.long ∙ ap (λ (n : ℕ). 3 * n) e) inside c.loop-face.invariant.becomes);
    }
