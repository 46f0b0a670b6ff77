-- What a rebuilding that keeps the boundary by links holds, and the machine's state that it stands for: the code's own, from no source.
use Rattle.std.specs.Prelude.{◌≡◌, ◌≢◌, ℕ, ◌+◌, ◌*◌, ◌≤◌, min, Bool, true, ◌==◌, cond, is_none, List, [], ◌∷◌, length, map, Result, Ok, Err}
use Rattle.drc_base.specs.declared.faults.Fault.{Fault}
use Rattle.drc_base.specs.declared.faults.Refusal.{Refusal}
use Rattle.drc_base.specs.declared.faults.Refusal.TheVariants as refusal
use Rattle.drc_base.specs.declared.limits.TheConstants.{MAX_FACES}
use Rattle.corner_table.specs.Sides.{Side, side_at, Gluing}
use Rattle.corner_table.specs.Fans.{side_before, Follows}
use Rattle.corner_table.specs.Table.{Table, gluing_of, room_of, IsFreeIn}
use Rattle.eb_machine.specs.Machine.{State, Plan}
use Rattle.eb_rebuild.specs.Kept.{StackValue, SplitsValue, kept_in, AreSidesBelow, AreKeptBelow}

pub record LinkValue : Type 0 where
  pub plan : Plan
  pub table : Table
  pub stack : StackValue
  pub splits : SplitsValue
  pub made : ℕ
  pub closes : ℕ
  pub has_degrees : Bool

-- the machine's state
abbrev pub state_of : LinkValue → State
state_of v = record {
  built = v.table.faces;
  glued = gluing_of v.table;
  stack = map side_at v.stack.sides;
  reserved = kept_in v.splits.kept;
  events = v.splits.events;
  made = v.made;
  closes = v.closes;
}

-- there is room for no more than is declared, and the sides that wait and that are kept are those of built faces
pub record IsLinkState (v : LinkValue) : Type 0 where
  pub limit : v.plan.faces ≤ MAX_FACES
  pub room : room_of v.table ≤ v.plan.faces
  pub fewer : v.plan.symbols ≤ v.plan.faces
  pub slots : length v.splits.kept ≡ v.plan.symbols
  pub stack_room : v.stack.room ≡ min v.plan.symbols (room_of v.table)
  pub low : length v.stack.sides + v.closes ≤ v.table.faces
  pub few : length v.stack.sides + v.closes ≤ v.plan.symbols
  pub sides : AreSidesBelow v.table.faces v.stack.sides
  pub kept : AreKeptBelow v.table.faces v.splits.kept
  pub made : v.made ≤ 3 * v.table.faces

-- free sides of a loop of three: b comes before a round the boundary, c before b, and a before c
pub record IsLoopOf (t : Table) (a b c : Side) : Type 0 where
  pub one : IsFreeIn t a
  pub two : IsFreeIn t b
  pub three : IsFreeIn t c
  pub apart : b ≢ a
  pub apart_again : c ≢ a
  pub joined : b ≡ side_before t.faces (gluing_of t) a
  pub joined_again : c ≡ side_before t.faces (gluing_of t) b
  pub joined_round : side_before t.faces (gluing_of t) c ≡ a
  pub follows : Follows t.faces (gluing_of t) b a
  pub follows_again : Follows t.faces (gluing_of t) c b
  pub follows_round : Follows t.faces (gluing_of t) a c

-- a step of the machine that is a fault or succeeds
abbrev pub Does : Result State Fault → State → Result (Unit {0}) Fault → Type 0
Does next new (Ok done) = next ≡ Ok new
Does next new (Err f) = next ≡ Err f

-- a fault is a refusal
abbrev pub refused_by : Result (Unit {0}) Fault → Result (Unit {0}) Refusal
refused_by (Ok done) = Ok done
refused_by (Err f) = Err (refusal.Fault f)

-- the top side is free, if one waits
abbrev pub is_top_free : Gluing → List ℕ → Bool
is_top_free g [] = true
is_top_free g (a ∷ sides) = is_none (g (side_at a))

-- until a close the top side is free: it is so after each symbol that is no refusal
abbrev pub is_live : LinkValue → Bool
is_live v = cond (v.closes == 0) (is_top_free (gluing_of v.table) v.stack.sides) true
