-- What lies across the side on the way is the next turn, and the way is that of the turn.
use Rattle.std.proofs.Common.{◌∙◌, ap, sym, option_map}
use Rattle.corner_table.specs.Sides.{next, side_at}
use Rattle.predict.specs.Gathered.{leftwards_from}
use Rattle.predict.specs.Stored.{ordered_in, stored_turn}
use Rattle.predict.proofs.Around.{turn_right, turn_left}
use Rattle.predict.proofs.surface.Surface.turn_on.Goals as goal

pub returns-else-turn-clause-turn : goal.returns-else-turn-clause-turn
returns-else-turn-clause-turn c =
    turn_right (ordered_in c.args.self.now).gluing (side_at c.args.start) c.args.turn (option_map stored_turn c.right_across-else-turn.result)
    c.if-turn.false c.requires.good.goes c.right_across-else-turn.ensures.turn

pub returns-in-None-clause-turn : goal.returns-in-None-clause-turn
returns-in-None-clause-turn c =
    turn_left (ordered_in c.args.self.now).gluing (side_at c.args.start) c.args.turn (option_map side_at c.across_of.result) (option_map stored_turn c.right_across.result)
    c.if-turn.true c.requires.good.goes c.across_of.ensures.other
    (c.right_across.ensures.turn (side_at c.args.start) c.previous_number.ensures.corner
    ∙ ap (λ o. leftwards_from (ordered_in c.args.self.now).gluing (side_at c.args.start) (option_map next (option_map side_at o))) (sym c.in-None.is))

pub returns-in-Some-clause-turn : goal.returns-in-Some-clause-turn
returns-in-Some-clause-turn c =
    turn_left (ordered_in c.args.self.now).gluing (side_at c.args.start) c.args.turn (option_map side_at c.across_of.result) (option_map stored_turn c.left_behind.result)
    c.if-turn.true c.requires.good.goes c.across_of.ensures.other
    (c.left_behind.ensures.turn (ordered_in c.args.self.now).gluing
    ∙ ap (λ o. leftwards_from (ordered_in c.args.self.now).gluing (side_at c.args.start) (option_map next (option_map side_at o))) (sym c.in-Some.is))
