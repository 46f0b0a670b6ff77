-- The sides that are left, closed by the bits that are left, lead from the machine's state to where all lead.
use Rattle.std.proofs.Common.{◌≡◌, ◌-◌, ◌+◌, ◌*◌, ◌≤◌, IsTrue, length}
use Rattle.rans_binary.specs.Blocks.{behind, bit_of}
use Rattle.eb_machine.specs.Machine.{State, close_all}
use Rattle.eb_section.proofs.rebuilding.close_sides.Given as goal

abbrev pub invariant-loop-number : goal.invariant-loop-number
invariant-loop-number g l =
    let now : State = g.R.Rebuild.state l.machine in
    let first : State = g.R.Rebuild.state l.fn.machine in
    record {
      told : close_all (g.R.Rebuild.plan l.fn.machine) (bit_of l.fn.starts) (l.waiting - l.number) now ≡ close_all (g.R.Rebuild.plan l.fn.machine) (bit_of l.fn.starts) (length first.stack) first;
      live : IsTrue (g.R.Rebuild.live l.machine);
      plan : g.R.Rebuild.plan l.machine ≡ g.R.Rebuild.plan l.fn.machine;
      linked : g.R.Rebuild.linked l.machine ≡ g.R.Rebuild.linked l.fn.machine;
      bits : l.starts ≡ behind l.number l.fn.starts;
      closes : now.closes ≡ l.number;
      waiting : length now.stack + l.number ≡ l.waiting;
      grown : first.built ≤ now.built;
      slow : now.built ≤ first.built + l.number;
      few : l.waiting ≤ first.built;
      room : g.R.Rebuild.room l.machine ≡ g.R.Rebuild.room l.fn.machine;
      within : now.built ≤ (g.R.Rebuild.plan l.fn.machine).faces;
      cost : IsTrue (g.R.Rebuild.linked l.fn.machine) → l.steps + 8 * first.built ≤ l.fn.steps + 8 * now.built;
      same : l.waiting ≡ 0 → l.steps ≡ l.fn.steps;
    }
