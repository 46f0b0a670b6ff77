-- Reading symbols from the lists of their contexts, each of which is used from its back (Draco Bitstream Specification 2.2, Edgebreaker
-- valence traversal).
use Rattle.std.specs.Prelude.{◌≡◌, ℕ, ◌-◌, List, [], length, map, take, get_or, set, slice_get, Option, Some, None, Result, Ok, Err}
use Rattle.drc_base.specs.declared.kinds.Kind.{Kind}
use Rattle.drc_base.specs.declared.kinds.Kind.TheVariants as kind
use Rattle.corner_table.specs.declared.symbols.Symbol.{Symbol}
use Rattle.corner_table.specs.declared.symbols.Symbol.TheVariants.{E}
use Rattle.eb_valence.specs.Numbers.{symbol_numbered, kept_number, context_of}

-- the last item of a list
abbrev pub last_of : List ℕ → Option ℕ
last_of xs = slice_get xs (length xs - 1)

-- a list without its last item
abbrev pub all_but_last : List ℕ → List ℕ
all_but_last xs = take (length xs - 1) xs

-- the symbol of the last item of list k, and the lists without it
abbrev pub symbol_taken : ℕ → List (List ℕ) → Result (Symbol × List (List ℕ)) Kind
symbol_taken k lists =
    let items = get_or lists k [] in
    elim (last_of items) [
      | None ↦ Err kind.ContextEmpty
      | Some n ↦ elim (symbol_numbered n) [ None ↦ Err kind.BadSymbol | Some x ↦ Ok (x, set lists k (all_but_last items)) ]
    ]

-- the next symbol at a vertex of this degree; without a degree it is E, and nothing is taken
abbrev pub taken_at : Option ℕ → List (List ℕ) → Result (Symbol × List (List ℕ)) Kind
taken_at None lists = Ok (E, lists)
taken_at (Some degree) lists = symbol_taken (context_of degree) lists

-- a reader answers the next symbol, or why there is none; then it stays as it was
abbrev pub DrawsSymbol : Result (Symbol × List (List ℕ)) Kind → List (List ℕ) → List (List ℕ) → Result Symbol Kind → Type 0
DrawsSymbol due old new (Ok x) = due ≡ Ok (x, new)
DrawsSymbol due old new (Err k) = (due ≡ Err k) × (new ≡ old)

-- lists as a reader keeps them, each number of each by itself
abbrev pub kept_list : List ℕ → List ℕ
kept_list numbers = map kept_number numbers

abbrev pub kept_lists : List (List ℕ) → List (List ℕ)
kept_lists lists = map kept_list lists
