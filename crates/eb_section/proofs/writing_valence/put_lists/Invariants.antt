use Rattle.std.proofs.Common.{◌≡◌, ◌++◌, All, flat_map, take}
use Rattle.eb_section.specs.Written.{list_bytes}
use Rattle.eb_section.specs.CodedBlocks.{IsSymbolBlock}
use Rattle.eb_section.proofs.writing_valence.put_lists.Given as goal

abbrev pub invariant-loop-context : goal.invariant-loop-context
invariant-loop-context l = record {
  bytes : l.out.items ≡ l.fn.out.items ++ flat_map list_bytes (take l.context l.lists);
  coded : All IsSymbolBlock (take l.context l.lists);
}
