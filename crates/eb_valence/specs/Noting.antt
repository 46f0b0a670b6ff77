-- How the lists of the contexts are noted, symbol after symbol in the order of decoding. These are the code's own words; what is answered
-- is defined in `Contexts`.
use Rattle.std.specs.Prelude.{◌≡◌, ℕ, List, [], ◌∷◌, ◌++◌, get_or, set, Ok}
use Rattle.corner_table.specs.declared.symbols.Symbol.{Symbol}
use Rattle.eb_machine.specs.Machine.{State, take_symbols}
use Rattle.eb_valence.specs.Contexts.{CodedSymbol}

-- a code is put behind the list of its context
abbrev pub context_put : List (List ℕ) → CodedSymbol → List (List ℕ)
context_put lists c = set lists c.context (get_or lists c.context [] ++ c.number ∷ [])

-- codes are put there in turn
unfoldable pub noted : List (List ℕ) → List CodedSymbol → List (List ℕ)
noted lists [] = lists
noted lists (c ∷ codes) = noted (context_put lists c) codes

-- the machine takes a word without a fault, of n symbols in all
abbrev pub TakesWord : ℕ → List Symbol → State → Type 0
TakesWord n word s = (t : State) × (take_symbols n word s ≡ Ok t)
