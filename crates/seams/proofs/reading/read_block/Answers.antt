-- Each side takes its bit, for both sides of its pair.
use Rattle.std.proofs.Common.{ap, ◌∙◌, length, List, refl, arith}
use Rattle.corner_table.specs.Sides.{Side}
use Rattle.corner_table.specs.Table.{glued_in}
use Rattle.rans_binary.specs.Blocks.{behind}
use Rattle.seams.proofs.Telling.{told_start, told_over, told_more, told_end}
use Rattle.seams.proofs.Blocks.{flag_next, block_more, block_over, bits_end}
use Rattle.seams.proofs.reading.read_block.Goals.{in-Some, in-None}
use Rattle.seams.proofs.reading.read_block.Goals as goal

pub loop-side-init : goal.loop-side-init
loop-side-init c = record {
  told = told_start c.args.faces (glued_in c.args.across.now) _ _ c.requires.set;
  block = refl;
}

pub loop-side-preserved : goal.loop-side-preserved
loop-side-preserved c =
    let g = glued_in c.args.across.now in
    let A = c.loop-side.invariant in
    let small = c.loop-side-test.true in
    elim c.match-later_side.branch [
      | in-Some w ↦ (let T = w.in-Some.ensures in record {
        told = rw w.flags-is (told_more c.args.faces g _ c.loop-side.side w.in-Some.other w.next-flag.result c.loop-side.flags c.requires.gluing small A.told T
            (flag_next c.args.faces g c.loop-side.side w.next-flag.result c.loop-side.ahead _ small T.0 A.block w.next-flag.ensures.bit));
        block = rw w.ahead-is (block_more g c.loop-side.side _ c.loop-side.ahead _ T.0 A.block w.next-flag.ensures.after);
      })
      | in-None w ↦ record {
        told = rw w.flags-is (told_over c.args.faces g _ c.loop-side.side c.loop-side.flags A.told w.in-None.ensures);
        block = rw w.ahead-is (block_over g c.loop-side.side c.loop-side.ahead _ w.in-None.ensures A.block);
      }
    ]

pub returns-clause-flags : goal.returns-clause-flags
returns-clause-flags c =
    let n = c.loop-side-test.false in
    let e = c.loop-side.auto.side-end in
    told_end c.args.faces c.loop-side.side (glued_in c.args.across.now) _ c.loop-side.flags c.requires.gluing (omega arith) c.loop-side.invariant.told

pub returns-clause-after : goal.returns-clause-after
returns-clause-after c =
    let n = c.loop-side-test.false in
    let e = c.loop-side.auto.side-end in
    c.loop-side.invariant.block ∙ ap (λ (xs : List Side). behind (length xs) c.args.block) (bits_end c.args.faces c.loop-side.side (glued_in c.args.across.now) (omega arith))
