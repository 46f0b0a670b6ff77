use Rattle.std.proofs.Common.{◌*◌, ◌+◌, ◌<◌, length, arith}
use Rattle.corner_table.specs.Ordered.{entries_by}
use Rattle.normal_prediction.proofs.FaceSums.{face-more, face-normal, entry-below}
use Rattle.normal_prediction.proofs.Gathering.{none-summed}
use Rattle.normal_prediction.proofs.normal_sums.add_normals.Goals as goal

pub loop-f-init : goal.loop-f-init
loop-f-init c = none-summed (entries_by c.args.classes.now c.args.entry_of_class.now) c.args.places.now c.args.sums.now c.requires.none

pub loop-f-preserved : goal.loop-f-preserved
loop-f-preserved c =
    let classes = c.args.classes.now in
    let entry_of_class = c.args.entry_of_class.now in
    let n = length c.args.places.now in
    let a = c.entry_of-a.result in
    let b = c.entry_of-b.result in
    let d = c.entry_of-c.result in
    let ha : a < n = entry-below n classes entry_of_class (3 * c.loop-f.f) a c.requires.entries (omega arith) c.entry_of-a.ensures in
    let hb : b < n = entry-below n classes entry_of_class (3 * c.loop-f.f + 1) b c.requires.entries (omega arith) c.entry_of-b.ensures in
    let hd : d < n = entry-below n classes entry_of_class (3 * c.loop-f.f + 2) d c.requires.entries (omega arith) c.entry_of-c.ensures in
    face-more (entries_by classes entry_of_class) c.args.places.now c.loop-f.sums c.loop-f.f a b d
    c.normal_of-normal.result c.vector_sum.result c.vector_sum-in-loop-f.result c.vector_sum-in-loop-f-2.result c.loop-f.invariant
    c.entry_of-a.ensures c.entry_of-b.ensures c.entry_of-c.ensures
    (omega (arith, ha, c.requires.places)) (omega (arith, hb, c.requires.places)) (omega (arith, hd, c.requires.places))
    (face-normal (entries_by classes entry_of_class) c.args.places.now c.loop-f.f a b d c.normal_of-normal.result
    c.entry_of-a.ensures c.entry_of-b.ensures c.entry_of-c.ensures c.normal_of-normal.ensures)
    c.vector_sum.ensures c.vector_sum-in-loop-f.ensures c.vector_sum-in-loop-f-2.ensures
