-- The symbols that are left, drawn from what is left of the source, lead from the machine's state to where all lead.
use Rattle.std.proofs.Common.{◌≡◌, suc, ◌-◌, ◌+◌, ◌*◌, ◌≤◌, IsTrue}
use Rattle.eb_machine.specs.Machine.{State}
use Rattle.eb_section.specs.Feeding.{fed}
use Rattle.eb_section.proofs.rebuilding.take_symbols.Given as goal

abbrev pub invariant-loop-number : goal.invariant-loop-number
invariant-loop-number g l =
    let now : State = g.R.Rebuild.state l.machine in
    record {
      told : fed g.F.SymbolSource.gives l.count (l.count - l.number) l.source now ≡ fed g.F.SymbolSource.gives l.count l.count l.fn.source (g.R.Rebuild.state l.fn.machine);
      live : IsTrue (g.R.Rebuild.live l.machine);
      plan : g.R.Rebuild.plan l.machine ≡ g.R.Rebuild.plan l.fn.machine;
      linked : g.R.Rebuild.linked l.machine ≡ g.R.Rebuild.linked l.fn.machine;
      built : now.built ≡ l.number;
      unclosed : now.closes ≡ 0;
      degrees : IsTrue g.F.SymbolSource.asks → IsTrue (g.R.Rebuild.has_degrees l.machine);
      room : g.R.Rebuild.room l.machine ≡ g.R.Rebuild.room l.fn.machine;
      came : l.number + g.F.SymbolSource.left l.source ≤ suc (g.F.SymbolSource.left l.fn.source);
      first : l.number ≡ 0 → g.F.SymbolSource.left l.source ≤ g.F.SymbolSource.left l.fn.source;
      cost : IsTrue (g.R.Rebuild.linked l.fn.machine) → l.steps ≤ l.fn.steps + 8 * l.number;
    }
