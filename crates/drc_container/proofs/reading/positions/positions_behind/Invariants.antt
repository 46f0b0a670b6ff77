use Rattle.std.proofs.Common.{◌≡◌, take}
use Rattle.mesh_model.specs.Groups.{tables_of}
use Rattle.attr_section.specs.TablePositions.{read_in}
use Rattle.drc_container.specs.reading.OnSurface.{positions_from}
use Rattle.drc_container.specs.reading.AsRead.{group_on}
use Rattle.drc_container.proofs.reading.positions.positions_behind.Given as goal

abbrev pub invariant-loop-k : goal.invariant-loop-k
invariant-loop-k l = read_in l.positions ≡ positions_from (read_in l.found) l.heads (take l.k (tables_of (group_on l.whole l.decoder)))
