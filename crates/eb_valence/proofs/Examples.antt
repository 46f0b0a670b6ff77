-- The lists of worked surfaces, computed, and that the machine takes their symbols.
use Rattle.std.specs.Prelude.{◌≡◌, ℕ, Bool, true, false, [], ◌∷◌, refl}
use Rattle.corner_table.specs.declared.symbols.Symbol.TheVariants.{C, S, L, R, E}
use Rattle.corner_table.specs.declared.symbols.Event.{Event}
use Rattle.corner_table.specs.Fans.{corners_of, leftmost, walks_left, walks_right}
use Rattle.eb_machine.specs.Machine.{step, take_symbols, note_events, start}
use Rattle.eb_valence.specs.Contexts.{coded, context_list, context_lists}
use Rattle.eb_valence.specs.Noting.{TakesWord}

event : ℕ → ℕ → Bool → Event
event source split right = record { source = source; split = split; right = right }

-- a tetrahedron
tetrahedron_lists : context_lists (C ∷ R ∷ E ∷ []) [] ≡ (3 ∷ []) ∷ (0 ∷ []) ∷ [] ∷ [] ∷ [] ∷ [] ∷ []
unfolding coded context_list step take_symbols note_events corners_of leftmost walks_left walks_right
tetrahedron_lists = refl

-- a ring of six faces
ring_lists : context_lists (S ∷ L ∷ R ∷ L ∷ R ∷ E ∷ []) (event 5 0 true ∷ []) ≡ (1 ∷ 3 ∷ 3 ∷ []) ∷ (2 ∷ 2 ∷ []) ∷ [] ∷ [] ∷ [] ∷ [] ∷ []
unfolding event coded context_list step take_symbols note_events corners_of leftmost walks_left walks_right
ring_lists = refl

-- a torus of seven vertices
torus_lists : context_lists (C ∷ C ∷ C ∷ C ∷ R ∷ S ∷ S ∷ L ∷ R ∷ S ∷ L ∷ E ∷ E ∷ []) (event 11 6 false ∷ event 12 5 true ∷ [])
    ≡ (1 ∷ 1 ∷ 2 ∷ 4 ∷ []) ∷ (1 ∷ 3 ∷ []) ∷ (2 ∷ []) ∷ (3 ∷ []) ∷ (0 ∷ 0 ∷ 0 ∷ 0 ∷ []) ∷ [] ∷ []
unfolding event coded context_list step take_symbols note_events corners_of leftmost walks_left walks_right
torus_lists = refl

pub takes_tetrahedron : TakesWord 3 (E ∷ R ∷ C ∷ []) (start [])
unfolding step take_symbols note_events corners_of leftmost walks_left walks_right
takes_tetrahedron = (_, refl)

pub takes_torus : TakesWord 13 (E ∷ E ∷ L ∷ S ∷ R ∷ L ∷ S ∷ S ∷ R ∷ C ∷ C ∷ C ∷ C ∷ [])
    (start (record { source = 12; split = 5; right = true } ∷ record { source = 11; split = 6; right = false } ∷ []))
unfolding step take_symbols note_events corners_of leftmost walks_left walks_right
takes_torus = (_, refl)
