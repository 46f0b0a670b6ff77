use Rattle.std.proofs.Common.{◌≡◌, ◌++◌, map, take}
use Rattle.eb_section.specs.Written.{blocks_bytes}
use Rattle.eb_section.specs.CodedBlocks.{AreBlocks}
use Rattle.eb_section.proofs.writing_blocks.put_blocks.Given as goal

abbrev pub invariant-loop-i : goal.invariant-loop-i
invariant-loop-i l = record {
  bytes : l.out.items ≡ l.fn.out.items ++ blocks_bytes (take l.i (map (λ s. s.items) l.lists));
  coded : AreBlocks (take l.i (map (λ s. s.items) l.lists));
}
