use Rattle.std.proofs.Common.{◌≡◌, take}
use Rattle.attr_section.specs.Attributes.{values_in}
use Rattle.attr_section.proofs.value_reading.values_in.Given as goal

abbrev pub invariant-loop-values : goal.invariant-loop-values
invariant-loop-values l = l.total ≡ values_in (take l.values-index l.attributes)
