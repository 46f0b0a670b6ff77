use Rattle.std.proofs.Common.{◌≡◌, ◌++◌, map}
use Rattle.std.specs.Vec.Iter.{into_iter_items}
use Rattle.drc_container.proofs.reading.surface_attributes.values_alone.Given as goal

abbrev pub invariant-loop-of_one : goal.invariant-loop-of_one
invariant-loop-of_one l = l.alone.items ++ map (λ x. x.values) (into_iter_items l.of_one-iterator) ≡ map (λ x. x.values) l.fn.values.items
