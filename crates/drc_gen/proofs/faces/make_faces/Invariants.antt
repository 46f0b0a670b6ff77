use Rattle.std.proofs.Common.{◌≡◌}
use Rattle.std.specs.List.{flat_map, range_with_len}
use Rattle.drc_gen.specs.Turns.{lattice_faces}
use Rattle.drc_gen.proofs.faces.make_faces.Given as goal

-- the faces of the cells so far
abbrev pub invariant-loop-k : goal.invariant-loop-k
invariant-loop-k l = l.faces.items ≡ flat_map (lattice_faces l.kind l.size) (range_with_len 0 l.k)
