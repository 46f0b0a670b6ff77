-- What a writer of the connectivity needs to know of a trace: how many symbols, events and start bits there are, that events come by rising
-- sources, and that reverse decoding reads them (Isenburg and Snoeyink 2001; this record of facts: this project's choice).
use Rattle.std.specs.Prelude.{◌≡◌, ℕ, ◌+◌, ◌≤◌, Bool, false, List, [], ◌∷◌, length, reverse, get_or, count_by, All, Ok}
use Rattle.corner_table.specs.declared.symbols.Symbol.{Symbol}
use Rattle.corner_table.specs.declared.symbols.Event.{Event}
use Rattle.eb_machine.specs.Machine.{Plan, State, start, take_symbols, rebuild}
use Rattle.eb_machine.specs.Events.{IsEventOf}
use Rattle.eb_machine.specs.Shown.{is_split}
use Rattle.eb_trace.specs.Events.{AreInOrder}

-- sources of events don't fall, from a number on
abbrev pub RiseFrom : ℕ → List Event → Type 0
RiseFrom least [] = Unit {0}
RiseFrom least (e ∷ events) = (least ≤ e.source) × RiseFrom e.source events

-- after the symbols as many sides wait as there are start bits
abbrev pub AsManyWait : List Symbol → List Event → List Bool → Type 0
AsManyWait symbols events starts =
    (s : State) → take_symbols (length symbols) (reverse symbols) (start (reverse events)) ≡ Ok s → length s.stack ≡ length starts

-- the machine that is made by a plan and fed symbols, events and start bits meets no fault, and closes a side for each bit
pub record IsReadBack (plan : Plan) (symbols : List Symbol) (events : List Event) (starts : List Bool) : Type 0 where
  pub last : State
  pub no_fault : rebuild plan (reverse symbols) (reverse events) (λ k. get_or starts k false) ≡ Ok last
  pub closes : last.closes ≡ length starts

-- a trace of a surface with so many faces and vertices, as a writer needs it
pub record IsWritable (faces vertices : ℕ) (symbols : List Symbol) (events : List Event) (starts : List Bool) : Type 0 where
  pub few_symbols : length symbols ≤ faces
  pub few_events : length events ≤ length symbols
  pub few_starts : length starts ≤ length symbols
  pub events_fit : All (IsEventOf (length symbols)) events
  pub events_in_order : AreInOrder events
  pub sources_rise : RiseFrom 0 events
  pub waiting : AsManyWait symbols events starts
  pub read_back : (created : ℕ) → vertices + count_by is_split (reverse symbols) ≤ created →
      IsReadBack (record { faces = faces; created = created; symbols = length symbols }) symbols events starts
