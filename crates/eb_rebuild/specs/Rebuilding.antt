-- What the calls of a rebuilding answer, against the machine. The form of the answers is this project's own; the machine has its sources.
use Rattle.std.specs.Prelude.{◌≡◌, Bool, IsTrue, Result, Ok, Err}
use Rattle.drc_base.specs.declared.faults.Fault.{Fault}
use Rattle.drc_base.specs.declared.faults.Refusal.{Refusal}
use Rattle.drc_base.specs.declared.faults.Refusal.TheVariants as refusal
use Rattle.corner_table.specs.Table.{Table, gluing_of}
use Rattle.eb_machine.specs.Machine.{State, Plan, finish}

-- a call that steps the machine answers the next state, or the fault of its rule; running out of memory is free
abbrev pub Moves : Result State Fault → State → Bool → Result (Unit {0}) Refusal → Type 0
Moves next new live (Ok done) = (next ≡ Ok new) × IsTrue live
Moves next new live (Err (refusal.Fault f)) = next ≡ Err f
Moves next new live (Err refusal.Memory) = Unit {0}

-- a finished rebuilding: its table, and whether it was kept by links
pub record BuiltValue : Type 0 where
  pub table : Table
  pub linked : Bool

-- a finished table is that of the last state
pub record Holds (state : State) (table : Table) : Type 0 where
  pub faces : table.faces ≡ state.built
  pub glued : gluing_of table ≡ state.glued

-- the end answers the table of the last state, or the first fault of the tests; running out of memory is free
abbrev pub Ends : Plan → State → Result BuiltValue Refusal → Type 0
Ends plan state (Ok built) = (finish plan state ≡ Ok state) × Holds state built.table
Ends plan state (Err (refusal.Fault f)) = finish plan state ≡ Err f
Ends plan state (Err refusal.Memory) = Unit {0}
