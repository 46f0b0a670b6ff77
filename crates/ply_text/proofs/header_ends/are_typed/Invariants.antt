use Rattle.std.proofs.Common.{◌≡◌, drop}
use Rattle.std.specs.List.{list_all}
use Rattle.ply_text.specs.Header.{is_head_typed}
use Rattle.ply_text.proofs.header_ends.are_typed.Given as goal

-- it depends on the heads that are left
abbrev pub invariant-loop-i : goal.invariant-loop-i
invariant-loop-i l = list_all is_head_typed (drop l.i l.heads) ≡ list_all is_head_typed l.heads
