-- The split events of a walk (Isenburg and Snoeyink 2001; which are noted, and in what order: this project's choice). Words and events
-- stand in the order of the walk, and numbers count symbols in it, from 0.
use Rattle.std.specs.Prelude.{◌≡◌, ◌≢◌, ℕ, ◌<◌, ◌⊎◌, Bool, true, false, not, List, length, reverse, All, AllPairs}
use Rattle.corner_table.specs.declared.symbols.Symbol.{Symbol}
use Rattle.corner_table.specs.declared.symbols.Symbol.TheVariants.{C, S, L, R, E}
use Rattle.corner_table.specs.declared.symbols.Event.{Event}
use Rattle.corner_table.specs.Sides.{Gluing, IsGluing}
use Rattle.corner_table.specs.Fans.{HasThreeFans}
use Rattle.eb_trace.specs.Rebuilt.{word_symbol}
use Rattle.eb_trace.specs.Trace.{trace, word_of}

-- on which sides of its face a symbol may meet an S, since that side's face was visited before: on the right (true) an R, on the left an L,
-- on both an E
abbrev pub may_meet : Symbol → Bool → Bool
may_meet C right = false
may_meet S right = false
may_meet L right = not right
may_meet R right = right
may_meet E right = true

-- an event of a word: a symbol met an S that came before it
pub record IsSplitEvent (word : List Symbol) (e : Event) : Type 0 where
  pub within : e.source < length word
  pub earlier : e.split < e.source
  pub splits : word_symbol word e.split ≡ S
  pub meets : may_meet (word_symbol word e.source) e.right ≡ true

-- sources rise, and of one source the right event comes first
abbrev pub ComesBefore : Event → Event → Type 0
ComesBefore d e = (d.source < e.source) ⊎ ((d.source ≡ e.source) × (d.right ≡ true) × (e.right ≡ false))

abbrev pub AreInOrder : List Event → Type 0
AreInOrder events = AllPairs ComesBefore events

-- no two events are of one S
abbrev pub SplitOnce : List Event → Type 0
SplitOnce events = AllPairs (λ (d e : Event). d.split ≢ e.split) events

-- the events of a word: each is one of it, they are in order, and no S has two
pub record AreSplitEvents (word : List Symbol) (events : List Event) : Type 0 where
  pub fit : All (IsSplitEvent word) events
  pub in_order : AreInOrder events
  pub once : SplitOnce events

-- what the walk notes are such events
abbrev pub WalkNotesSplits : Type 0
WalkNotesSplits = (faces : ℕ) (g : Gluing) → IsGluing faces g → HasThreeFans faces g →
    AreSplitEvents (reverse (word_of (trace faces g))) (reverse (trace faces g).events)
