-- What a rebuilding that keeps its rows in a list holds, and the machine's state that it stands for: the code's own, from no source.
use Rattle.std.specs.Prelude.{◌≡◌, ◌≢◌, ℕ, true, List, map, Some, Result, Ok, Err}
use Rattle.drc_base.specs.declared.faults.Fault.{Fault}
use Rattle.drc_base.specs.declared.faults.Refusal.{Refusal}
use Rattle.drc_base.specs.declared.faults.Refusal.TheVariants as refusal
use Rattle.corner_table.specs.Sides.{Side, side_at}
use Rattle.corner_table.specs.Fans.{side_before}
use Rattle.corner_table.specs.Table.{Table, gluing_of, IsFreeIn}
use Rattle.eb_machine.specs.Machine.{State, Plan}
use Rattle.eb_machine.specs.Named.{Row}
use Rattle.eb_machine.specs.Shown.{row_named}
use Rattle.eb_rows.specs.declared.active_rows.Row.{Row as NumberedRow}
use Rattle.eb_rebuild.specs.Kept.{StackValue, SplitsValue}
use Rattle.eb_rebuild.specs.Linked.{LinkValue}
use Rattle.eb_rebuild.specs.NamedTables.{NamedTable}

-- a row by the number of its side
abbrev pub row_listed : NumberedRow → Row
row_listed r = record { side = side_at r.side; from = r.from; to = r.to }

abbrev pub all_listed : List NumberedRow → List Row
all_listed rows = map row_listed rows

-- a row of a table: a free side with the names of its ends
pub record IsRowIn (v : NamedTable) (r : NumberedRow) : Type 0 where
  pub free : IsFreeIn v.table (side_at r.side)
  pub is : row_listed r ≡ row_named v.triangles (side_at r.side)

-- the rows of a loop of three: b ends where a starts, c ends where b starts, and a ends where c starts
pub record IsThree (v : NamedTable) (a b c : NumberedRow) : Type 0 where
  pub one : IsRowIn v a
  pub two : IsRowIn v b
  pub three : IsRowIn v c
  pub apart : side_at b.side ≢ side_at a.side
  pub apart_again : side_at c.side ≢ side_at a.side
  pub joined : side_at b.side ≡ side_before v.table.faces (gluing_of v.table) (side_at a.side)
  pub joined_again : side_at c.side ≡ side_before v.table.faces (gluing_of v.table) (side_at b.side)
  pub joined_round : side_before v.table.faces (gluing_of v.table) (side_at c.side) ≡ side_at a.side

-- a side that is in a pair
abbrev pub IsGluedIn : Table → Side → Type 0
IsGluedIn t a = (b : Side) × (gluing_of t a ≡ Some b)

pub record RowValue : Type 0 where
  pub plan : Plan
  pub named : NamedTable
  pub stack : StackValue
  pub splits : SplitsValue
  pub closes : ℕ

-- the value without names
abbrev pub plain_of : RowValue → LinkValue
plain_of v = record {
  plan = v.plan;
  table = v.named.table;
  stack = v.stack;
  splits = v.splits;
  made = v.named.made;
  closes = v.closes;
  has_degrees = true;
}

-- a step of the machine that is a fault, succeeds or runs out of memory
abbrev pub Tries : Result State Fault → State → Result (Unit {0}) Refusal → Type 0
Tries next new (Ok done) = next ≡ Ok new
Tries next new (Err (refusal.Fault f)) = next ≡ Err f
Tries next new (Err refusal.Memory) = Unit {0}
