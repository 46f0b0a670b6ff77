-- The points by the first ones like them.
use Rattle.pairing.specs.Pairing.{first_width}
use Rattle.pairing.proofs.PositionLists.{points_numbered}
use Rattle.pairing.proofs.positions.point_numbers.Goals as goal

pub first_points-requires : goal.first_points-requires
first_points-requires c = rw c.heads.ensures.value at c.first_width.ensures.narrow

pub returns : goal.returns
returns c =
    let width = rw c.heads.ensures.value at c.first_width.ensures.width in
    points_numbered c.args.m.now.points (first_width c.args.m.now.heads) c.in_ok-numbers.numbers.items (rw width at c.in_ok-numbers.ensures)
