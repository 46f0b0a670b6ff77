use Rattle.std.proofs.Common.{◌≡◌, ℕ, ◌*◌, ◌≤◌, List, drop, pos}
use Rattle.drc_base.specs.declared.faults.Fault.{Fault}
use Rattle.drc_base.specs.declared.limits.TheConstants.{MAX_POINTS}
use Rattle.seq_section.specs.Packed.{points_after, faces_meant}
use Rattle.seq_section.proofs.Symbols.{with_faces}
use Rattle.seq_section.proofs.packed.faces_of.Given as goal

-- what was read so far stands in front of what the other symbols mean after the last point
pub record Read (outside : Fault) (points last k : ℕ) (symbols : List ℕ) (faces : List (List ℕ)) : Type 0 where
  pub told : with_faces faces (points_after outside points (pos last) (drop (3 * k) symbols)) ≡ faces_meant outside points symbols
  pub bound : last ≤ MAX_POINTS

abbrev pub invariant-loop-k : goal.invariant-loop-k
invariant-loop-k l = Read l.outside l.points l.last l.k l.symbols l.faces.items
