use Rattle.std.proofs.Common.{◌≡◌, ◌++◌, take, flat_map}
use Rattle.std.specs.List.{All}
use Rattle.attr_section.specs.WrittenParts.{flags_bytes, FlagsSpelled}
use Rattle.attr_section.proofs.flag_writing.put_flag_lists.Given as goal

abbrev pub invariant-loop-flags : goal.invariant-loop-flags
invariant-loop-flags l =
    (l.out.items ≡ l.fn.out.items ++ flat_map flags_bytes (take l.flags-index l.lists))
    × All FlagsSpelled (take l.flags-index l.lists)
