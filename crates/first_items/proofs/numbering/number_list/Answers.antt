-- From one item of the list to the next, and the whole list.
use Rattle.std.proofs.Common.{◌∙◌, arith, length-set}
use Rattle.first_items.proofs.PairNumbers.{IsPassing, next_here, next_kept, next_earlier, next_so_far, next_rest, list_ends}
use Rattle.first_items.proofs.numbering.number_list.Goals as goal

pub loop-at-preserved : goal.loop-at-preserved
loop-at-preserved g c =
    let inside = c.loop-at-test.true in
    let P : IsPassing c.args.firsts.now g.seconds c.args.nexts.now c.first_like.new.kept c.loop-at.numbers c.args.list c.loop-at.at c.first_like.result = record {
      here = c.loop-at.invariant.here inside;
      inside = inside;
      each = c.loop-at.invariant.each;
      linked = c.loop-at.invariant.linked;
      kept_to = c.first_like.ensures.kept;
      number_is = c.first_like.ensures.first;
      earlier = c.loop-at.invariant.earlier;
      so_far = c.loop-at.invariant.so_far;
    } in
    record {
      each = length-set _ _ _ ∙ c.loop-at.invariant.each;
      linked = c.loop-at.invariant.linked;
      here = next_here P;
      kept_to = next_kept P;
      earlier = next_earlier P;
      so_far = next_so_far P;
      rest = next_rest P c.loop-at.invariant.rest;
    }

pub returns-clause-numbered : goal.returns-clause-numbered
returns-clause-numbered g c =
    let past = c.loop-at-test.false in
    list_ends _ _ _ _ c.loop-at.invariant.earlier (λ x h e. c.loop-at.invariant.so_far x h e (omega arith))
