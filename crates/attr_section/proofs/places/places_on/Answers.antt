use Rattle.std.proofs.Common.{◌≤◌, length, sym, ◌∙◌}
use Rattle.std.proofs.lemmas.List.{take_all}
use Rattle.std.proofs.lemmas.Simd.{map-map}
use Rattle.corner_table.specs.Sides.{side_at}
use Rattle.attr_section.specs.Positions.{place_at, places_on}
use Rattle.attr_section.specs.TablePositions.{positions_in}
use Rattle.attr_section.proofs.places.places_on.Goals as goal

pub returns-clause-places : goal.returns-clause-places
unfolding places_on
returns-clause-places c =
    let done : length c.as_slice-corners.result.now ≤ c.loop-corner.corner-index = c.loop-corner-test.false in
    rw (take_all c.loop-corner.corner-index c.as_slice-corners.result.now done, c.as_slice-corners.ensures.items) at c.loop-corner.invariant.places
    ∙ sym (map-map (place_at (positions_in c.args.positions.now)) side_at c.args.on.now.order.now.corner_of_entry)
