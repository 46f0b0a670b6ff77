use Rattle.std.proofs.Common.{◌≡◌, map, take}
use Rattle.std.specs.List.{range_with_len}
use Rattle.attr_heads.specs.Head.{width_of}
use Rattle.drc_container.specs.writing.WrittenOnSurface.{coded_by}
use Rattle.drc_container.specs.surface.AttributeSurfaces.{glued_on}
use Rattle.drc_container.proofs.writing.surface_values.columns_on.Given as goal

abbrev pub invariant-loop-attr : goal.invariant-loop-attr
invariant-loop-attr l = record {
  values : l.values.items ≡ map (coded_by l.coding (glued_on l.s)) (range_with_len 0 l.attr);
  start : l.start ≡ width_of (take l.attr l.s.mesh.heads);
}
