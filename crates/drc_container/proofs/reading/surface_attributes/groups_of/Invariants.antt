use Rattle.std.proofs.Common.{◌≡◌, map, take}
use Rattle.drc_container.specs.reading.AsRead.{group_on}
use Rattle.drc_container.proofs.reading.surface_attributes.groups_of.Given as goal

abbrev pub invariant-loop-decoder : goal.invariant-loop-decoder
invariant-loop-decoder l = l.groups.items ≡ map (group_on l.whole) (take l.decoder-index l.decoders)
