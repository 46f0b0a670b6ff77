use Rattle.std.proofs.Common.{◌≡◌, ◌<◌, ◌≤◌, ℕ, [], get_or, map}
use Rattle.mesh_model.proofs.numbering.renumber.Given as goal

-- the faces so far are renumbered, and the others are as they were
abbrev pub invariant-loop-f : goal.invariant-loop-f
invariant-loop-f l = record {
  done : (k : ℕ) → k < l.f → get_or l.faces k [] ≡ map (λ item. get_or l.numbers item 0) (get_or l.fn.faces k []);
  left : (k : ℕ) → l.f ≤ k → get_or l.faces k [] ≡ get_or l.fn.faces k [];
}
