use Rattle.std.proofs.Common.{◌≡◌, ◌<◌, ◌-◌, ◌++◌, IfSome, length, take, option_map}
use Rattle.std.specs.List.{filter_map}
use Rattle.corner_table.specs.Sides.{side_at}
use Rattle.corner_table.specs.Ordered.{at_corner}
use Rattle.predict.specs.Gathered.{round_from, gathered}
use Rattle.predict.specs.Stored.{IsTurn, ordered_in, stored_turn}
use Rattle.predict.proofs.surface.Surface.gather.Given as goal

abbrev pub invariant-loop-step : goal.invariant-loop-step
invariant-loop-step l = record {
  good : IfSome l.turn (IsTurn (length l.self.labels.now));
  few : length l.found.items < 4;
  rest : take 4 (l.found.items ++ filter_map (at_corner (ordered_in l.self) l.e) (round_from (ordered_in l.self).gluing (side_at l.start) (length l.self.labels.now - l.step) (option_map stored_turn l.turn)))
      ≡ gathered (ordered_in l.self) l.e;
}
