-- The state of reverse decoding after the first m symbols, read from the table that it is to rebuild: what lies among the faces below m
-- (reverse decoding: Isenburg and Snoeyink 2001; that its state is read from the table: this project's choice).
use Rattle.std.specs.Prelude.{ℕ, zero, suc, ◌+◌, ◌-◌, Bool, true, false, ◌&&◌, nat_lt, nat_le, cond, is_none, is_some, List, [], ◌∷◌}
use Rattle.std.specs.Prelude.{◌++◌, map, Option, Some, None}
use Rattle.corner_table.specs.declared.symbols.Symbol.{Symbol}
use Rattle.corner_table.specs.declared.symbols.Symbol.TheVariants.{C, S, L, R, E}
use Rattle.corner_table.specs.declared.symbols.Event.{Event}
use Rattle.corner_table.specs.Sides.{Side, Place, first, second, third, side, Gluing}
use Rattle.corner_table.specs.Prefixes.{prefix}
use Rattle.eb_machine.specs.Machine.{State, event_place}
use Rattle.eb_machine.specs.Shown.{is_split}

-- the sides 0 of faces below a number that are free, the last first
unfoldable pub free_firsts : Gluing → ℕ → List Side
free_firsts h zero = []
free_firsts h (suc j) = cond (is_none (h (side j first))) (side j first ∷ free_firsts h j) (free_firsts h j)

-- side 0 of a face is the one by which it was entered
abbrev pub is_entry : Place → Bool
is_entry first = true
is_entry second = false
is_entry third = false

-- a side, if it is of a face below m that wasn't entered by it
abbrev pub waiting_side : ℕ → Option Side → Option Side
waiting_side m None = None
waiting_side m (Some x) = cond (nat_lt x.face m) (cond (is_entry x.place) None (Some x)) None

-- the side that an event reserves for the S of number k, if that is still to come: what lies across its side 2, met from another branch
abbrev pub reserved_for : ℕ → Gluing → (ℕ → Symbol) → ℕ → ℕ → Option Side
reserved_for n g word m k = cond (nat_le m k && nat_lt k n && is_split (word k)) (waiting_side m (g (side k third))) None

-- the number of the S, later than face i, whose face lies across a side
abbrev pub split_met : ℕ → (ℕ → Symbol) → ℕ → Option Side → Option ℕ
split_met n word i None = None
split_met n word i (Some y) = cond (nat_lt i y.face && nat_lt y.face n && is_split (word y.face)) (Some y.face) None

-- the event by face i of the S that it met; events count in the order of the walk
abbrev pub event_told : ℕ → ℕ → Bool → Option ℕ → List Event
event_told n i right None = []
event_told n i right (Some j) = record { source = n - suc i; split = n - suc j; right = right } ∷ []

-- the events of face i on one side
abbrev pub events_of_face : ℕ → Gluing → (ℕ → Symbol) → ℕ → Bool → List Event
events_of_face n g word i right = event_told n i right (split_met n word i (g (side i (event_place right))))

-- the events of the last d symbols to be decoded, the last of the walk first; right was noted before left
unfoldable pub events_left : ℕ → Gluing → (ℕ → Symbol) → ℕ → List Event
events_left n g word zero = []
events_left n g word (suc d) =
    events_of_face n g word (n - suc d) false ++ (events_of_face n g word (n - suc d) true ++ events_left n g word d)

-- the vertices that a symbol makes
abbrev pub vertices_made : Symbol → ℕ
vertices_made C = 0
vertices_made S = 0
vertices_made L = 1
vertices_made R = 1
vertices_made E = 3

-- the vertices that the first m symbols make
unfoldable pub made_by : (ℕ → Symbol) → ℕ → ℕ
made_by word zero = 0
made_by word (suc m) = made_by word m + vertices_made (word m)

-- the state after m of n symbols
abbrev pub front : ℕ → Gluing → (ℕ → Symbol) → ℕ → State
front n g word m = record {
  built = m;
  glued = prefix m g;
  stack = free_firsts (prefix m g) m;
  reserved = reserved_for n g word m;
  events = events_left n g word (n - m);
  made = made_by word m;
  closes = 0;
}

-- the start bits: for each side that waits after the symbols, whether an interior start face lies across it
abbrev pub start_bits : ℕ → Gluing → List Bool
start_bits n g = map (λ (a : Side). is_some (g a)) (free_firsts (prefix n g) n)
