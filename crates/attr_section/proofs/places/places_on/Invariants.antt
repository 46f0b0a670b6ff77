use Rattle.std.proofs.Common.{◌≡◌, take, map, length, vec_len, vec_capacity}
use Rattle.corner_table.specs.Sides.{side_at}
use Rattle.attr_section.specs.Positions.{place_at}
use Rattle.attr_section.specs.TablePositions.{positions_in}
use Rattle.attr_section.proofs.places.places_on.Given as goal

abbrev pub invariant-loop-corner : goal.invariant-loop-corner
invariant-loop-corner l = record {
  places : l.places.items ≡ map (λ x. place_at (positions_in l.positions) (side_at x)) (take l.corner-index l.corners);
  len : vec_len l.places ≡ l.corner-index;
  capacity : vec_capacity l.places ≡ length l.corners;
}
