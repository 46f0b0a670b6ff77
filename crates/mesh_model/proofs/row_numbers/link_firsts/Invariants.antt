-- The rows so far have their links, and the others their first rows.
use Rattle.std.proofs.Common.{◌≡◌, ℕ, ◌<◌, ◌≤◌, get_or}
use Rattle.mesh_model.specs.RowNumbers.{first_link}
use Rattle.mesh_model.proofs.row_numbers.link_firsts.Given as goal

abbrev pub invariant-loop-i : goal.invariant-loop-i
invariant-loop-i l = record {
  linked : (p : ℕ) → p < l.i → get_or l.firsts p 0 ≡ first_link p (get_or l.initial.firsts p 0);
  rest : (p : ℕ) → l.i ≤ p → get_or l.firsts p 0 ≡ get_or l.initial.firsts p 0;
}
