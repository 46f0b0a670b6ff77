-- The symbols from this number on are noted; the machine takes the others without a fault.
use Rattle.std.proofs.Common.{◌≡◌, ◌+◌, ◌≤◌, ℕ, length, reverse, sum_by, take, IsTrue}
use Rattle.eb_machine.specs.Machine.{State}
use Rattle.eb_rebuild.specs.Calls.{symbol_calls}
use Rattle.eb_valence.specs.Contexts.{coded}
use Rattle.eb_valence.specs.Noting.{noted, TakesWord}
use Rattle.eb_valence.proofs.noting.note_all.Given as goal

abbrev pub invariant-loop-number : goal.invariant-loop-number
invariant-loop-number g l =
    let now : State = g.R.Rebuild.state l.machine in
    let n : ℕ = length l.symbols in
    record {
      live : IsTrue (g.R.Rebuild.live l.machine);
      linked : IsTrue (g.R.Rebuild.linked l.machine);
      unclosed : now.closes ≡ 0;
      degrees : IsTrue (g.R.Rebuild.has_degrees l.machine);
      all : (g.R.Rebuild.plan l.machine).symbols ≡ n;
      room : g.R.Rebuild.room l.machine ≡ n;
      within : l.number ≤ n;
      built : now.built + l.number ≡ n;
      takes : TakesWord n (reverse (take l.number l.symbols)) now;
      told : noted l.lists (coded n (reverse (take l.number l.symbols)) now) ≡ noted l.fn.lists (coded n (reverse l.symbols) (g.R.Rebuild.state l.fn.machine));
      cost : l.steps + sum_by symbol_calls (take l.number l.symbols) ≤ l.fn.steps + sum_by symbol_calls l.symbols;
    }
