use Rattle.std.proofs.Common.{◌≤◌, length, All}
use Rattle.ply_text.specs.IsHeader.{HeadFits}
use Rattle.ply_text.proofs.Names.{IsNamedSoFar}
use Rattle.ply_text.proofs.named_heads.named_heads.Given as goal

abbrev pub invariant-loop-i : goal.invariant-loop-i
invariant-loop-i l = IsNamedSoFar l.properties l.heads.items l.skip l.i × (length l.heads.items ≤ 16) × All HeadFits l.heads.items
