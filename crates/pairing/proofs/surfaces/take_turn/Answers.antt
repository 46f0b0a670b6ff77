-- The side that is chosen is the definition's choice.
use Rattle.std.proofs.Common.{◌≡◌, suc, ◌+◌, ◌<◌, length, Some, None, ap, sym, ◌∙◌, arith}
use Rattle.std.proofs.lemmas.List.{get_or_read}
use Rattle.pairing.specs.Pairing.{turn_of, paired}
use Rattle.pairing.specs.Positions.{same_in}
use Rattle.pairing.proofs.Turns.{paired-suc}
use Rattle.pairing.proofs.Sides.{chosen_here, no_turn, the_turn, up_to_now}
use Rattle.pairing.proofs.surfaces.take_turn.Goals as goal

pub reversed-class-requires : goal.reversed-class-requires
reversed-class-requires c =
    let S = c.requires.sides in
    let t = c.requires.turn in
    let l = S.triangles.each in
    let k = S.classes_are.each in
    let inside : c.args.y < length c.args.sides.now.classes.items = omega arith in
    let read = get_or_read c.args.sides.now.classes.items c.args.y c.index.result.now inside c.index.ensures 0 in
    let b = S.classes_are.below c.args.y (omega arith) in
    let n = S.narrow in
    omega arith

pub returns-in-Some-clause-pairs : goal.returns-in-Some-clause-pairs
returns-in-Some-clause-pairs c =
    let S = c.requires.sides in
    let t = c.requires.turn in
    let l = S.triangles.each in
    let k = S.classes_are.each in
    let C = chosen_here _ _ _ c.args.y _ _ _ (Some c.in-Some.x) (omega arith) (omega arith) c.index.ensures c.reversed-class.ensures c.index-third.ensures c.in-Some.ensures.chosen in
    let more : suc c.args.y ≡ c.args.y + 1 = omega arith in
    c.note_pair.ensures.glued
    ∙ sym (the_turn (record { sides = S; within = t; up_to = c.requires.up_to }) c.in-Some.x C)
    ∙ ap (turn_of (same_in c.args.sides.now.thirds.items) c.args.y) c.requires.pairs
    ∙ sym (paired-suc (same_in c.args.sides.now.thirds.items) c.args.y)
    ∙ ap (paired (same_in c.args.sides.now.thirds.items)) more

pub returns-in-Some-clause-up_to : goal.returns-in-Some-clause-up_to
returns-in-Some-clause-up_to c =
    let S = c.requires.sides in
    let t = c.requires.turn in
    let l = S.triangles.each in
    let k = S.classes_are.each in
    let C = chosen_here _ _ _ c.args.y _ _ _ (Some c.in-Some.x) (omega arith) (omega arith) c.index.ensures c.reversed-class.ensures c.index-third.ensures c.in-Some.ensures.chosen in
    rw (c.note_pair.ensures.glued, c.in-Some.ensures.taken)
    (up_to_now (record { sides = S; within = t; up_to = c.requires.up_to }) c.in-Some.x C.0 (rw c.in-Some.ensures.taken at c.in-Some.ensures.placed))

pub returns-in-None-clause-pairs : goal.returns-in-None-clause-pairs
returns-in-None-clause-pairs c =
    let S = c.requires.sides in
    let t = c.requires.turn in
    let l = S.triangles.each in
    let k = S.classes_are.each in
    let C = chosen_here _ _ _ c.args.y _ _ _ None (omega arith) (omega arith) c.index.ensures c.reversed-class.ensures c.index-third.ensures c.in-None.ensures.chosen in
    let more : suc c.args.y ≡ c.args.y + 1 = omega arith in
    sym (no_turn (record { sides = S; within = t; up_to = c.requires.up_to }) C)
    ∙ ap (turn_of (same_in c.args.sides.now.thirds.items) c.args.y) c.requires.pairs
    ∙ sym (paired-suc (same_in c.args.sides.now.thirds.items) c.args.y)
    ∙ ap (paired (same_in c.args.sides.now.thirds.items)) more
