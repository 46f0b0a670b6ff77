use Rattle.std.proofs.Common.{◌≡◌, take}
use Rattle.std.specs.Prelude.{◌&&◌, int_le}
use Rattle.std.specs.List.{list_all}
use Rattle.attr_section.proofs.bounded.are_between.Given as goal

abbrev pub invariant-loop-i : goal.invariant-loop-i
invariant-loop-i l = record {
  within : l.within ≡ list_all (λ x. int_le l.least x && int_le x l.greatest) (take l.i l.values);
}
