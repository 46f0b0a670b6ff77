-- One row more gives three entries more.
use Rattle.std.proofs.Common.{arith}
use Rattle.corner_table.specs.Sides.{Side}
use Rattle.corner_table.specs.Carried.{carry}
use Rattle.corner_table.specs.Renumbering.{becomes}
use Rattle.corner_table.proofs.CarriedLists.{face_more}
use Rattle.corner_table.proofs.renumbering.carried.Goals as goal

pub loop-face-preserved : goal.loop-face-preserved
loop-face-preserved c = record {
  looks = (let i = c.loop-face.invariant.looks in let a = c.entry_of.ensures.look in let b = c.entry_of-in-loop-face.ensures.look in let d = c.entry_of-in-loop-face-2.ensures.look in omega arith);
  long = (let l = c.loop-face.invariant.long in let a = c.in_ok-push.ensures.len in let b = c.in_ok-push-2.ensures.len in let d = c.in_ok-push-3.ensures.len in omega arith);
  entry = rw (c.in_ok-push-3.ensures.items, c.in_ok-push-2.ensures.items, c.in_ok-push.ensures.items) (face_more (λ (x : Side). becomes c.args.places.now.items c.args.entries.now.items (carry c.args.rows.now x)) _ _ _ _ _ (record {
    long = c.loop-face.invariant.long;
    was = c.loop-face.invariant.entry;
    first_is = c.entry_of.ensures.becomes;
    second_is = c.entry_of-in-loop-face.ensures.becomes;
    third_is = c.entry_of-in-loop-face-2.ensures.becomes;
  }));
}
