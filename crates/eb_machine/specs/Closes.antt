-- How many faces symbols build, and how many sides closes take (the machine of reverse decoding: Isenburg and Snoeyink 2001; these laws
-- of it: this project's own).
use Rattle.std.specs.Prelude.{◌≡◌, ℕ, suc, ◌+◌, Bool, List, [], ◌∷◌, length, Ok}
use Rattle.corner_table.specs.declared.symbols.Symbol.{Symbol}
use Rattle.corner_table.specs.declared.symbols.Event.{Event}
use Rattle.corner_table.specs.Sides.{Side}
use Rattle.eb_machine.specs.Machine.{State, Plan, start, close, finish, take_symbols, close_all, rebuild}

-- symbols build a face each, and close no side
abbrev pub SymbolsCloseNone : Type 0
SymbolsCloseNone = (n : ℕ) (symbols : List Symbol) (s t : State) → take_symbols n symbols s ≡ Ok t →
    (t.built ≡ s.built + length symbols) × (t.closes ≡ s.closes)

-- a close takes only the top side off, and counts it
abbrev pub CloseTakesOne : Type 0
CloseTakesOne = (p : Plan) (interior : Bool) (s t : State) (top : Side) (rest : List Side) → s.stack ≡ top ∷ rest →
    close p interior s ≡ Ok t →
    (t.stack ≡ rest) × (t.closes ≡ suc s.closes)

-- where as many sides are closed as wait, none waits after that, and each is counted
abbrev pub AllAreClosed : Type 0
AllAreClosed = (p : Plan) (bits : ℕ → Bool) (s t : State) → close_all p bits (length s.stack) s ≡ Ok t →
    (t.stack ≡ []) × (t.closes ≡ s.closes + length s.stack)

-- the tests at the end change nothing
abbrev pub FinishKeepsState : Type 0
FinishKeepsState = (p : Plan) (s t : State) → finish p s ≡ Ok t → t ≡ s

-- the state between the symbols and the closes of a run, in which as many sides wait as the run closes
pub record WaitsBetween (symbols : List Symbol) (n : ℕ) (events : List Event) (last : State) : Type 0 where
  pub between : State
  pub symbols_taken : take_symbols n symbols (start events) ≡ Ok between
  pub waiting : length between.stack ≡ last.closes

-- so a whole run closes exactly the sides that wait after its symbols
abbrev pub RunClosesAll : Type 0
RunClosesAll = (p : Plan) (symbols : List Symbol) (events : List Event) (bits : ℕ → Bool) (t : State) →
    rebuild p symbols events bits ≡ Ok t →
    WaitsBetween symbols p.symbols events t
