-- How the machine of reverse decoding is fed: each symbol is drawn from what is left of a source when the machine is to take it, so that a
-- fault of the source comes behind those of the symbols before (Draco Bitstream Specification 2.2, section "Edgebreaker Connectivity").
use Rattle.std.specs.Prelude.{◌≡◌, ℕ, zero, suc, length, Some, None, Result, Ok, Err}
use Rattle.drc_base.specs.declared.faults.Fault.{Fault}
use Rattle.drc_base.specs.declared.faults.Refusal.{Refusal}
use Rattle.drc_base.specs.Refusals.{Refuses}
use Rattle.drc_base.specs.Steps.{◌>>=◌}
use Rattle.corner_table.specs.declared.symbols.Symbol.{Symbol}
use Rattle.rans_binary.specs.Blocks.{Block, bit_of}
use Rattle.eb_machine.specs.Machine.{Plan, State, step, close_all, finish}
use Rattle.eb_rebuild.specs.Rebuilding.{BuiltValue, Holds}
use Rattle.eb_standard.specs.SymbolBits.{SymbolPlace, next_symbol, place_behind_symbol}

-- a source gives the next symbol, and what is left of it, to a machine in this state; or a fault
abbrev pub Source : Type 0 → Type 0
Source S = S → State → Result (Symbol × S) Fault

-- a source answers the next symbol and is then what is left of it, or answers the fault
abbrev pub Draws : {S : Type 0} → Result (Symbol × S) Fault → S → Result Symbol Fault → Type 0
Draws due new (Ok x) = due ≡ Ok (x, new)
Draws due new (Err f) = due ≡ Err f

-- the machine takes so many symbols, of n in all
unfoldable pub fed : {S : Type 0} → Source S → ℕ → ℕ → S → State → Result State Fault
fed next n zero source s = Ok s
fed next n (suc left) source s = next source s >>= λ x. step n x.0 s >>= fed next n left x.1

-- a whole rebuilding: the symbols of a source, the closes by start bits, the tests at the end
unfoldable pub rebuilt : {S : Type 0} → Source S → Plan → S → Block → State → Result State Fault
rebuilt next p source starts s =
    fed next p.symbols p.symbols source s >>= λ t.
    close_all p (bit_of starts) (length t.stack) t >>=
    finish p

-- a rebuilding answers the table of the state in which it ends, or its first fault; running out of memory is free
abbrev pub EndsAs : Result State Fault → Result BuiltValue Refusal → Type 0
EndsAs run (Ok built) = (s : State) × (run ≡ Ok s) × Holds s built.table
EndsAs run (Err e) = Refuses run e

-- the source of the standard traversal: symbols in bits, and the fault that comes where the bits of a symbol aren't there
pub record Standard : Type 0 where
  pub short : Fault
  pub place : SymbolPlace

-- the next symbol of the bits
abbrev pub standard : Source Standard
standard source s = elim (next_symbol source.place) [
  | None ↦ Err source.short
  | Some x ↦ Ok (x, record { short = source.short; place = place_behind_symbol source.place })
]
