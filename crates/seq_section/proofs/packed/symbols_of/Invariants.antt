use Rattle.std.proofs.Common.{◌≡◌, ℕ, ◌≤◌, ◌++◌, List, drop, pos}
use Rattle.seq_section.specs.Packed.{symbols_after, symbols_of}
use Rattle.seq_section.proofs.Symbols.{corners_of}
use Rattle.seq_section.proofs.packed.symbols_of.Given as goal

-- what was written so far stands in front of the symbols of the other faces after the last point
pub record Written (points last k : ℕ) (faces : List (List ℕ)) (symbols : List ℕ) : Type 0 where
  pub told : symbols ++ symbols_after (pos last) (corners_of (drop k faces)) ≡ symbols_of faces
  pub bound : last ≤ points

abbrev pub invariant-loop-face : goal.invariant-loop-face
invariant-loop-face l = Written l.points l.last l.face-index l.faces l.symbols.items
