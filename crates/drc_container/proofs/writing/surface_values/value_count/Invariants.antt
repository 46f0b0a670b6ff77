use Rattle.std.proofs.Common.{◌≡◌, ◌*◌, ◌^◌, ◌≤◌, map}
use Rattle.std.specs.List.{range_with_len}
use Rattle.attr_section.specs.Attributes.{values_in}
use Rattle.drc_container.specs.writing.WrittenOnSurface.{coded_by}
use Rattle.drc_container.specs.surface.AttributeSurfaces.{glued_on}
use Rattle.drc_container.proofs.writing.surface_values.value_count.Given as goal

abbrev pub invariant-loop-attr : goal.invariant-loop-attr
invariant-loop-attr l = record {
  count : l.count ≡ values_in (map (coded_by l.coding (glued_on l.s)) (range_with_len 0 l.attr));
  small : l.count ≤ l.attr * 2 ^ 40;
}
