-- Names are fans: what a state with named vertices shows when the names are left out, and that both machines give the same answers. That
-- the named vertices of a stream (Draco Bitstream Specification 2.2, Edgebreaker) are the fans of a gluing is this project's statement.
use Rattle.std.specs.Prelude.{◌≡◌, ℕ, ◌+◌, ◌<◌, ◌⊎◌, Bool, true, false, nat_eq, List, [], ◌∷◌, length, get_or, Option, Some, None, Result}
use Rattle.std.specs.Prelude.{Ok, Err, count_by}
use Rattle.std.specs.Set.{distinct_count}
use Rattle.drc_base.specs.declared.faults.Fault.{Fault}
use Rattle.drc_base.specs.Steps.{◌>>=◌}
use Rattle.corner_table.specs.declared.symbols.Symbol.{Symbol}
use Rattle.corner_table.specs.declared.symbols.Symbol.TheVariants.{C, S, L, R, E}
use Rattle.corner_table.specs.declared.symbols.Event.{Event}
use Rattle.corner_table.specs.Sides.{Side, first, side, next, prev, Gluing, IsGluing, IsFree}
use Rattle.corner_table.specs.Fans.{InFan}
use Rattle.eb_machine.specs.Machine.{State, Plan, start, step, close, finish, take_symbols, close_all, rebuild}
use Rattle.eb_machine.specs.Named.{Triangle, corner, no_triangle, Row, NamedState, named_start, named_step, named_close, named_finish}
use Rattle.eb_machine.specs.Named.{named_symbols, named_closes, named_rebuild}

-- the name of a corner's vertex
abbrev pub name_of : List Triangle → Side → ℕ
name_of triangles c = corner (get_or triangles c.face no_triangle) c.place

-- a side with the names of its two ends
abbrev pub row_named : List Triangle → Side → Row
row_named triangles a = record { side = a; from = name_of triangles (next a); to = name_of triangles (prev a) }

-- r is one of the rows
abbrev pub Among : Row → List Row → Type 0
Among r [] = ⊥
Among r (x ∷ rows) = (x ≡ r) ⊎ Among r rows

-- the rows are exactly the free sides, with the names of their ends, and two corners have one name exactly where they are in one fan
pub record AreNames (triangles : List Triangle) (rows : List Row) (g : Gluing) (made : ℕ) : Type 0 where
  pub gluing : IsGluing (length triangles) g
  pub rows_are : (r : Row) → Among r rows → IsFree (length triangles) g r.side × (r ≡ row_named triangles r.side)
  pub sides_are : (a : Side) → IsFree (length triangles) g a → Among (row_named triangles a) rows
  pub one_name : (c d : Side) → InFan g c d → name_of triangles c ≡ name_of triangles d
  pub one_fan : (c d : Side) → c.face < length triangles → d.face < length triangles → name_of triangles c ≡ name_of triangles d →
      InFan g c d
  pub below : (c : Side) → c.face < length triangles → name_of triangles c < made

-- a state without its names
abbrev pub without_names : NamedState → State
without_names x = record {
  built = length x.triangles;
  glued = x.glued;
  stack = x.stack;
  reserved = x.reserved;
  events = x.events;
  made = x.made;
  closes = x.closes;
}

-- each side is one of the faces below a number
abbrev pub AreBelow : ℕ → List Side → Type 0
AreBelow faces [] = Unit {0}
AreBelow faces (a ∷ rest) = (a.face < faces) × AreBelow faces rest

abbrev pub KeptBelow : ℕ → (ℕ → Option Side) → Type 0
KeptBelow faces kept = (k : ℕ) (a : Side) → kept k ≡ Some a → a.face < faces

-- a named state shows a state: it is that state with names for the fans, and the sides that wait and that are kept are of built faces
pub record Shows (x : NamedState) (s : State) : Type 0 where
  pub names : AreNames x.triangles x.rows x.glued x.made
  pub waiting : AreBelow (length x.triangles) x.stack
  pub kept : KeptBelow (length x.triangles) x.reserved
  pub state : without_names x ≡ s

-- the same fault, or two values that are related
abbrev pub Agree : {A B : Type 0} → (A → B → Type 0) → Result A Fault → Result B Fault → Type 0
Agree Related (Ok a) (Ok b) = Related a b
Agree Related (Err e) (Err f) = e ≡ f
Agree Related (Ok a) (Err f) = ⊥
Agree Related (Err e) (Ok b) = ⊥

-- each call has the same answer with names and without
abbrev pub SymbolsAgree : Type 0
SymbolsAgree = (n : ℕ) (symbol : Symbol) (x : NamedState) (s : State) → Shows x s → Agree Shows (named_step n symbol x) (step n symbol s)

abbrev pub ClosesAgree : Type 0
ClosesAgree = (p : Plan) (interior : Bool) (x : NamedState) (s : State) → Shows x s →
    Agree Shows (named_close p interior x) (close p interior s)

abbrev pub EndsAgree : Type 0
EndsAgree = (p : Plan) (x : NamedState) (s : State) → Shows x s → Agree Shows (named_finish p x) (finish p s)

-- and so has each whole run
abbrev pub RunsAgree : Type 0
RunsAgree = (p : Plan) (symbols : List Symbol) (events : List Event) (bits : ℕ → Bool) →
    Agree Shows (named_rebuild p symbols events bits) (rebuild p symbols events bits)

-- and so has each run that stops after any number of closes: each state that is reached is named as its fans are
abbrev pub StopsAgree : Type 0
StopsAgree = (p : Plan) (symbols : List Symbol) (events : List Event) (bits : ℕ → Bool) (closed : ℕ) →
    Agree Shows
    (named_symbols p.symbols symbols (named_start events) >>= named_closes p bits closed)
    (take_symbols p.symbols symbols (start events) >>= close_all p bits closed)

-- each vertex starts at most one row, and ends at most one
abbrev pub OneRowEach : Type 0
OneRowEach = (x : NamedState) (s : State) → Shows x s → (r q : Row) → Among r x.rows → Among q x.rows →
    (r.from ≡ q.from → r ≡ q) × (r.to ≡ q.to → r ≡ q)

-- after each symbol the top side is side 0 of its face, and is free
abbrev pub TopIsFree : Type 0
TopIsFree = (n : ℕ) (symbol : Symbol) (x : NamedState) (s t : State) → Shows x s → step n symbol s ≡ Ok t →
    (rest : List Side) × (t.stack ≡ side s.built first ∷ rest) × (t.glued (side s.built first) ≡ None)

-- the names that stand in triangles
abbrev pub names_in : List Triangle → List ℕ
names_in [] = []
names_in (t ∷ triangles) = t.0 ∷ t.1 ∷ t.2 ∷ names_in triangles

-- a symbol that takes a name away
abbrev pub is_split : Symbol → Bool
is_split S = true
is_split C = false
is_split L = false
is_split R = false
is_split E = false

-- however far a run has come, the vertices made are as many as the distinct names in its triangles, and one more for each S taken
abbrev pub MadeAreNamesAndSplits : Type 0
MadeAreNamesAndSplits = (p : Plan) (symbols : List Symbol) (events : List Event) (bits : ℕ → Bool) (closed : ℕ) (x : NamedState) →
    named_symbols p.symbols symbols (named_start events) >>= named_closes p bits closed ≡ Ok x →
    x.made ≡ distinct_count nat_eq (names_in x.triangles) + count_by is_split symbols
