-- What is found so far, with what is ahead on the way round, are the faces that are gathered.
use Rattle.std.proofs.Common.{◌≡◌, ◌≤◌, ◌-◌, ◌+◌, ℕ, suc, List, length, get_or, option_map, refl, ap, arith}
use Rattle.std.proofs.lemmas.List.{length-map}
use Rattle.corner_table.specs.Sides.{side_at}
use Rattle.corner_table.specs.declared.corner_lists.FaceAcross.{FaceAcross}
use Rattle.corner_table.specs.Ordered.{at_corner}
use Rattle.predict.specs.Gathered.{turn_on, gathered}
use Rattle.predict.specs.Stored.{ordered_in, stored_turn}
use Rattle.predict.proofs.Around.{gathered_start, gathered_step, gathered_full, gathered_end, gathered_stop, all_gathered, found_more}
use Rattle.predict.proofs.surface.Surface.gather.Goals as goal

pub loop-step-init : goal.loop-step-init
loop-step-init c = record {
  good = record {
    at = c.corner_of-start.ensures.within;
    across = (let f = c.next_number.ensures.face in let w = c.requires.surface.fit.whole in let l = c.corner_of-start.ensures.within in omega arith);
    goes = c.next_number.ensures.corner;
  };
  few = omega (arith, ap (λ (l : List FaceAcross). length l) c.new-found.ensures);
  rest = gathered_start (ordered_in c.args.self.now) c.args.e (side_at c.corner_of-start.result) (length c.args.self.now.labels.now - 0) c.new-found.result.items
      c.new-found.ensures c.corner_of-start.ensures.corner
      (omega (arith, length-map c.args.self.now.labels.now (λ (k : ℕ). get_or c.args.self.now.entry_of_class.now k 0)));
}

pub returns-in-None-clause-faces : goal.returns-in-None-clause-faces
returns-in-None-clause-faces c =
    let few : length c.loop-step.found.items ≤ 4 = omega (arith, c.loop-step.invariant.few) in
    gathered_end (at_corner (ordered_in c.args.self.now) c.args.e) (ordered_in c.args.self.now).gluing (side_at c.corner_of-start.result) (length c.args.self.now.labels.now - c.loop-step.step)
    (option_map stored_turn c.loop-step.turn) c.loop-step.found.items _ few (ap (option_map stored_turn) c.in-None.is) c.loop-step.invariant.rest

pub returns-in-None-clause-below : goal.returns-in-None-clause-below
returns-in-None-clause-below c = all_gathered (ordered_in c.args.self.now) c.args.e c.loop-step.found.items (returns-in-None-clause-faces c)

pub loop-step-preserved : goal.loop-step-preserved
loop-step-preserved c =
    let fuel : length c.args.self.now.labels.now - c.loop-step.step ≡ suc (length c.args.self.now.labels.now - (c.loop-step.step + 1)) = omega (arith, c.loop-step-test.true) in
    let more = found_more (at_corner (ordered_in c.args.self.now) c.args.e (side_at c.in-Some.now.at)) c.loop-step.found.items c.gather_corner.new.found.items c.gather_corner.ensures in
    record {
      good = c.turn_on-turn.ensures.good;
      few = omega (arith, more, c.loop-step.invariant.few, c.if-len-eq4.false, c.len.ensures.value);
      rest = gathered_step (at_corner (ordered_in c.args.self.now) c.args.e) (ordered_in c.args.self.now).gluing (side_at c.corner_of-start.result)
          (length c.args.self.now.labels.now - c.loop-step.step) (length c.args.self.now.labels.now - (c.loop-step.step + 1))
          (option_map stored_turn c.loop-step.turn) (option_map stored_turn c.turn_on-turn.result) (stored_turn c.in-Some.now) c.loop-step.found.items c.gather_corner.new.found.items _
          fuel (ap (option_map stored_turn) c.in-Some.is) c.turn_on-turn.ensures.turn c.gather_corner.ensures c.loop-step.invariant.rest;
    }

pub returns-then-len-eq4-clause-faces : goal.returns-then-len-eq4-clause-faces
returns-then-len-eq4-clause-faces c =
    let fuel : length c.args.self.now.labels.now - c.loop-step.step ≡ suc (length c.args.self.now.labels.now - (c.loop-step.step + 1)) = omega (arith, c.loop-step-test.true) in
    let four : length c.gather_corner.new.found.items ≡ 4 = omega (arith, c.len.ensures.value, c.if-len-eq4.true) in
    gathered_full c.gather_corner.new.found.items _ _ four
    (gathered_step (at_corner (ordered_in c.args.self.now) c.args.e) (ordered_in c.args.self.now).gluing (side_at c.corner_of-start.result)
    (length c.args.self.now.labels.now - c.loop-step.step) (length c.args.self.now.labels.now - (c.loop-step.step + 1))
    (option_map stored_turn c.loop-step.turn) (turn_on (ordered_in c.args.self.now).gluing (side_at c.corner_of-start.result) (stored_turn c.in-Some.now)) (stored_turn c.in-Some.now)
    c.loop-step.found.items c.gather_corner.new.found.items (gathered (ordered_in c.args.self.now) c.args.e)
    fuel (ap (option_map stored_turn) c.in-Some.is) refl c.gather_corner.ensures c.loop-step.invariant.rest)

pub returns-then-len-eq4-clause-below : goal.returns-then-len-eq4-clause-below
returns-then-len-eq4-clause-below c = all_gathered (ordered_in c.args.self.now) c.args.e c.gather_corner.new.found.items (returns-then-len-eq4-clause-faces c)

pub returns-clause-faces : goal.returns-clause-faces
returns-clause-faces c =
    let few : length c.loop-step.found.items ≤ 4 = omega (arith, c.loop-step.invariant.few) in
    gathered_stop (at_corner (ordered_in c.args.self.now) c.args.e) (ordered_in c.args.self.now).gluing (side_at c.corner_of-start.result) (length c.args.self.now.labels.now - c.loop-step.step)
    (option_map stored_turn c.loop-step.turn) c.loop-step.found.items _ few (omega (arith, c.loop-step-test.false)) c.loop-step.invariant.rest

pub returns-clause-below : goal.returns-clause-below
returns-clause-below c = all_gathered (ordered_in c.args.self.now) c.args.e c.loop-step.found.items (returns-clause-faces c)
