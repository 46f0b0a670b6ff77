use Rattle.std.proofs.Common.{◌≡◌, take}
use Rattle.std.specs.Option.{option_map}
use Rattle.predict.specs.Surfaces.{surface_of}
use Rattle.attr_section.specs.Positions.{with_attributes}
use Rattle.attr_section.specs.TablePositions.{read_in}
use Rattle.attr_section.proofs.positions.with_attributes.Given as goal

abbrev pub invariant-loop-k : goal.invariant-loop-k
invariant-loop-k l = read_in l.positions ≡ with_attributes (surface_of (option_map (λ t. t.now) l.on)) (read_in l.found) l.heads (take l.k l.read)
