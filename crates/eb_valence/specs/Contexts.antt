-- The lists of valence contexts (Draco Bitstream Specification 2.2, Edgebreaker valence traversal): a symbol is coded among those that
-- come at vertices of one degree.
use Rattle.std.specs.Prelude.{◌≡◌, ℕ, zero, suc, cond, ◌==◌, List, [], ◌∷◌, ◌++◌, length, map, reverse, Option, Some, None, Result, Ok, Err}
use Rattle.std.specs.List.{filter, range_with_len}
use Rattle.drc_base.specs.declared.faults.Fault.{Fault}
use Rattle.drc_base.specs.Steps.{◌>>=◌}
use Rattle.corner_table.specs.declared.symbols.Symbol.{Symbol}
use Rattle.corner_table.specs.declared.symbols.Event.{Event}
use Rattle.eb_machine.specs.Machine.{State, start, step, take_symbols}
use Rattle.eb_machine.specs.Degree.{top_degree}
use Rattle.eb_valence.specs.declared.context_lists.TheConstants.{CONTEXTS}
use Rattle.eb_valence.specs.Numbers.{symbol_number, context_of}
use Rattle.eb_valence.specs.Reading.{taken_at}

-- the context of the next symbol: that of the degree of the vertex at which the top side starts
abbrev pub context : State → ℕ
context s = context_of (top_degree s)

-- a symbol's number, and the context in which it is coded
pub record CodedSymbol : Type 0 where
  pub context : ℕ
  pub number : ℕ

-- what is coded of a symbol that the machine takes in this state; the first of all is E, and isn't coded
abbrev pub context_coded_at : State → Symbol → List CodedSymbol
context_coded_at s x = cond (s.built == 0) [] (record { context = context s; number = symbol_number x } ∷ [])

-- what is coded of the symbols that the machine takes from this state on, of n in all, in the order of decoding
unfoldable pub coded : ℕ → List Symbol → State → List CodedSymbol
coded n [] s = []
coded n (x ∷ word) s = elim (step n x s) [ Err f ↦ [] | Ok t ↦ context_coded_at s x ++ coded n word t ]

-- of what is coded, the numbers in one context, the last decoded first: the order of the encoder
unfoldable pub context_list : List CodedSymbol → ℕ → List ℕ
context_list codes k = reverse (map (λ c. c.number) (filter (λ c. c.context == k) codes))

-- the lists of all contexts
abbrev pub lists_of : List CodedSymbol → List (List ℕ)
lists_of codes = map (context_list codes) (range_with_len 0 CONTEXTS)

-- the lists of symbols and events in the order of the encoder
abbrev pub context_lists : List Symbol → List Event → List (List ℕ)
context_lists symbols events = lists_of (coded (length symbols) (reverse symbols) (start (reverse events)))

-- the degree by which the machine's next symbol is read; the first symbol has none
abbrev pub degree_before : State → Option ℕ
degree_before s = cond (s.built == 0) None (Some (top_degree s))

-- the next symbol of the machine, or the fault at its number
abbrev pub symbol_at : List (List ℕ) → State → Result (Symbol × List (List ℕ)) Fault
symbol_at lists s = elim (taken_at (degree_before s) lists) [ Ok x ↦ Ok x | Err k ↦ Err (record { kind = k; at = s.built }) ]

-- the machine takes so many symbols, of n in all, each read by the degree that it has then
unfoldable pub fed_by_context : ℕ → ℕ → List (List ℕ) → State → Result State Fault
fed_by_context n zero lists s = Ok s
fed_by_context n (suc left) lists s = symbol_at lists s >>= λ x. step n x.0 s >>= fed_by_context n left x.1

-- one symbol: where the machine takes it, it is what the lists of it and of those behind it give, and theirs are left. The first of all
-- is the one that comes where no side waits
abbrev pub EachReadsBack : Type 0
EachReadsBack = (n : ℕ) (x : Symbol) (word : List Symbol) (s t : State) → (s.built ≡ 0 → s.stack ≡ []) → step n x s ≡ Ok t →
    symbol_at (lists_of (coded n (x ∷ word) s)) s ≡ Ok (x, lists_of (coded n word t))

-- a word: where the machine takes it without a fault, reading from its lists gives exactly its symbols to the machine
abbrev pub WordsReadBack : Type 0
WordsReadBack = (n : ℕ) (word : List Symbol) (s t : State) → (s.built ≡ 0 → s.stack ≡ []) → take_symbols n word s ≡ Ok t →
    fed_by_context n (length word) (lists_of (coded n word s)) s ≡ Ok t
