-- The flags of each pair are set by its side that has the bit.
use Rattle.std.proofs.Common.{◌≡◌, ◌*◌, true, replicate, sym, ◌∙◌, length, arith}
use Rattle.corner_table.specs.Sides.{side_at, IsGluing}
use Rattle.corner_table.specs.Table.{glued_in}
use Rattle.seams.specs.SeamBits.{of_pairs}
use Rattle.seams.specs.Values.{is_seam}
use Rattle.seams.specs.Pairs.{AreToldTo}
use Rattle.seams.proofs.Listing.{listed_alike}
use Rattle.seams.proofs.Telling.{told_start, told_over, told_more, told_end}
use Rattle.seams.proofs.Values.{seam_glued, seams_of_pairs}
use Rattle.seams.proofs.differences.mark_seams.Goals.{in-Some, in-None}
use Rattle.seams.proofs.differences.mark_seams.Goals as goal

pub loop-side-init : goal.loop-side-init
loop-side-init c =
    let f = c.face_count-faces.ensures.value in
    let set : c.args.flags.now ≡ replicate (3 * c.face_count-faces.result) true = rw f c.requires.set in
    told_start c.face_count-faces.result (glued_in c.args.across.now) _ c.args.flags.now set

pub loop-side-preserved : goal.loop-side-preserved
loop-side-preserved c =
    let g = glued_in c.args.across.now in
    let f = c.face_count-faces.ensures.value in
    let G : IsGluing c.face_count-faces.result g = rw f c.requires.gluing in
    let A = c.loop-side.invariant in
    let small = c.loop-side-test.true in
    elim c.match-later_side.branch [
      | in-Some w ↦ (
          let T = w.in-Some.ensures in
          rw w.flags-is (told_more c.face_count-faces.result g (is_seam c.args.m.now c.args.attr g) c.loop-side.side w.in-Some.other w.pair_differs-flag.result c.loop-side.flags G small A T
          (w.pair_differs-flag.ensures c.args.attr c.span_of-span.ensures.start c.span_of-span.ensures.end ∙ sym (seam_glued c.args.m.now c.args.attr g (side_at c.loop-side.side) (side_at w.in-Some.other) T.1))))
      | in-None w ↦ rw w.flags-is (told_over c.face_count-faces.result g (is_seam c.args.m.now c.args.attr g) c.loop-side.side c.loop-side.flags A w.in-None.ensures)
    ]

pub returns : goal.returns
returns c =
    let g = glued_in c.args.across.now in
    let f = c.face_count-faces.ensures.value in
    let n = c.loop-side-test.false in
    let e = c.loop-side.auto.side-end in
    let A : AreToldTo (length c.args.m.now.faces) g (is_seam c.args.m.now c.args.attr g) c.loop-side.side c.loop-side.flags = rw f at c.loop-side.invariant in
    told_end (length c.args.m.now.faces) c.loop-side.side g (is_seam c.args.m.now c.args.attr g) c.loop-side.flags c.requires.gluing (omega arith) A
    ∙ listed_alike (length c.args.m.now.faces) (of_pairs (is_seam c.args.m.now c.args.attr g) g) (is_seam c.args.m.now c.args.attr g) (λ x h. seams_of_pairs (length c.args.m.now.faces) g c.args.m.now c.args.attr c.requires.gluing x)
