-- At first no side is glued.
use Rattle.std.proofs.Common.{sym, ◌∙◌}
use Rattle.pairing.proofs.Turns.{paired-zero}
use Rattle.pairing.proofs.surfaces.paired_list.Goals as goal

pub loop-y-init : goal.loop-y-init
loop-y-init c = record {
  each = c.in_ok-pairs.ensures.each;
  pairs = c.in_ok-pairs.ensures.unglued ∙ sym (paired-zero _);
  up_to = rw c.in_ok-pairs.ensures.unglued c.requires.up_to;
}
