-- The surfaces so far are cut at the flags that were taken.
use Rattle.std.proofs.Common.{◌≡◌, map}
use Rattle.std.specs.Prelude.{option_map}
use Rattle.drc_container.specs.surface.AttributeSurfaces.{order_in, order_cut}
use Rattle.drc_container.proofs.surface.attribute_surfaces.cuts_of.Given as goal

abbrev pub invariant-loop-flags : goal.invariant-loop-flags
invariant-loop-flags l = map (option_map order_in) l.cuts.items ≡ map (option_map (order_cut l.sides)) (map (option_map (λ v. v.items)) l.yielded)
