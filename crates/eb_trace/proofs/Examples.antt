-- Worked surfaces, computed: their walks, and reverse decoding of what the walks note.
use Rattle.std.proofs.Common.{◌≡◌, ℕ, true, false, List, [], ◌∷◌, get_or, map, Option, Result, Ok, Err, refl}
use Rattle.drc_base.specs.declared.faults.Fault.{Fault}
use Rattle.corner_table.specs.declared.symbols.Symbol.TheVariants.{C, S, L, R, E}
use Rattle.corner_table.specs.Sides.{Side, Gluing}
use Rattle.corner_table.specs.Fans.{corners_of, leftmost, rightmost, walks_left, walks_right}
use Rattle.corner_table.specs.Table.{glued_in, free_entry}
use Rattle.eb_machine.specs.Machine.{State, rebuild, take_symbols, step, note_events, close_all, close, finish, first_degenerate}
use Rattle.eb_trace.specs.Front.{events_left, start_bits, free_firsts}
use Rattle.eb_trace.specs.Rebuilt.{word_symbol}
use Rattle.eb_trace.specs.Trace.{trace, traced_runs, run, split_of_face, take_kept, word_of, order_of, fan_count}

-- what a run of the machine has glued, side by side
abbrev pairs_of : ℕ → Result State Fault → List (Option Side)
pairs_of faces (Ok s) = map s.glued (corners_of faces)
pairs_of faces (Err e) = []

-- a tetrahedron: faces 0 2 1, 0 1 3, 1 2 3, 0 3 2
tetrahedron : Gluing
tetrahedron = glued_in (8 ∷ 5 ∷ 10 ∷ 7 ∷ 11 ∷ 1 ∷ 9 ∷ 3 ∷ 0 ∷ 6 ∷ 2 ∷ 4 ∷ [])

tetrahedron_word : word_of (trace 4 tetrahedron) ≡ E ∷ R ∷ C ∷ []
unfolding tetrahedron traced_runs run rightmost corners_of walks_left walks_right split_of_face take_kept
tetrahedron_word = refl

tetrahedron_order : order_of (trace 4 tetrahedron) ≡ (3, 0) ∷ (2, 1) ∷ (1, 2) ∷ (0, 1) ∷ []
unfolding tetrahedron traced_runs run rightmost corners_of walks_left walks_right split_of_face take_kept
tetrahedron_order = refl

tetrahedron_events : (trace 4 tetrahedron).events ≡ []
unfolding tetrahedron traced_runs run rightmost corners_of walks_left walks_right split_of_face take_kept
tetrahedron_events = refl

tetrahedron_bits : (trace 4 tetrahedron).bits ≡ true ∷ []
unfolding tetrahedron traced_runs run rightmost corners_of walks_left walks_right split_of_face take_kept
tetrahedron_bits = refl

tetrahedron_fans : fan_count 4 tetrahedron ≡ 4
unfolding tetrahedron corners_of walks_left walks_right
tetrahedron_fans = refl

-- the same with its faces in the order of decoding
tetrahedron_decoded : Gluing
tetrahedron_decoded = glued_in (5 ∷ 10 ∷ 8 ∷ 7 ∷ 11 ∷ 0 ∷ 9 ∷ 3 ∷ 2 ∷ 6 ∷ 1 ∷ 4 ∷ [])

tetrahedron_told : events_left 3 tetrahedron_decoded (word_symbol (E ∷ R ∷ C ∷ [])) 3 ≡ []
unfolding tetrahedron_decoded events_left
tetrahedron_told = refl

tetrahedron_starts : start_bits 3 tetrahedron_decoded ≡ true ∷ []
unfolding tetrahedron_decoded free_firsts
tetrahedron_starts = refl

tetrahedron_rebuilt : pairs_of 4 (rebuild (record { faces = 4; created = 4; symbols = 3 }) (E ∷ R ∷ C ∷ []) ([]) (λ k. get_or (true ∷ []) k false)) ≡ map tetrahedron_decoded (corners_of 4)
unfolding tetrahedron_decoded corners_of rebuild take_symbols step note_events leftmost close_all close finish first_degenerate walks_left walks_right
tetrahedron_rebuilt = refl

-- two mirrored faces 0 1 2 and 0 2 1, which aren't joined
mirrored : Gluing
mirrored = glued_in (free_entry ∷ free_entry ∷ free_entry ∷ free_entry ∷ free_entry ∷ free_entry ∷ [])

mirrored_word : word_of (trace 2 mirrored) ≡ E ∷ E ∷ []
unfolding mirrored traced_runs run rightmost corners_of walks_left walks_right split_of_face take_kept
mirrored_word = refl

mirrored_order : order_of (trace 2 mirrored) ≡ (1, 0) ∷ (0, 0) ∷ []
unfolding mirrored traced_runs run rightmost corners_of walks_left walks_right split_of_face take_kept
mirrored_order = refl

mirrored_events : (trace 2 mirrored).events ≡ []
unfolding mirrored traced_runs run rightmost corners_of walks_left walks_right split_of_face take_kept
mirrored_events = refl

mirrored_bits : (trace 2 mirrored).bits ≡ false ∷ false ∷ []
unfolding mirrored traced_runs run rightmost corners_of walks_left walks_right split_of_face take_kept
mirrored_bits = refl

mirrored_fans : fan_count 2 mirrored ≡ 6
unfolding mirrored corners_of walks_left walks_right
mirrored_fans = refl

-- the same with its faces in the order of decoding
mirrored_decoded : Gluing
mirrored_decoded = glued_in (free_entry ∷ free_entry ∷ free_entry ∷ free_entry ∷ free_entry ∷ free_entry ∷ [])

mirrored_told : events_left 2 mirrored_decoded (word_symbol (E ∷ E ∷ [])) 2 ≡ []
unfolding mirrored_decoded events_left
mirrored_told = refl

mirrored_starts : start_bits 2 mirrored_decoded ≡ false ∷ false ∷ []
unfolding mirrored_decoded free_firsts
mirrored_starts = refl

mirrored_rebuilt : pairs_of 2 (rebuild (record { faces = 2; created = 6; symbols = 2 }) (E ∷ E ∷ []) ([]) (λ k. get_or (false ∷ false ∷ []) k false)) ≡ map mirrored_decoded (corners_of 2)
unfolding mirrored_decoded corners_of rebuild take_symbols step note_events leftmost close_all close finish first_degenerate walks_left walks_right
mirrored_rebuilt = refl

-- six faces round a hole: 0 1 3, 1 4 3, 1 2 4, 2 5 4, 2 0 5, 0 3 5
ring : Gluing
ring = glued_in (4 ∷ 17 ∷ free_entry ∷ free_entry ∷ 0 ∷ 7 ∷ 10 ∷ 5 ∷ free_entry ∷ free_entry ∷ 6 ∷ 13 ∷ 16 ∷ 11 ∷ free_entry ∷ free_entry ∷ 12 ∷ 1 ∷ [])

ring_word : word_of (trace 6 ring) ≡ E ∷ R ∷ L ∷ R ∷ L ∷ S ∷ []
unfolding ring traced_runs run rightmost corners_of walks_left walks_right split_of_face take_kept
ring_word = refl

ring_order : order_of (trace 6 ring) ≡ (5, 1) ∷ (4, 1) ∷ (3, 1) ∷ (2, 1) ∷ (1, 1) ∷ (0, 2) ∷ []
unfolding ring traced_runs run rightmost corners_of walks_left walks_right split_of_face take_kept
ring_order = refl

ring_events : (trace 6 ring).events ≡ record { source = 5; split = 0; right = true } ∷ []
unfolding ring traced_runs run rightmost corners_of walks_left walks_right split_of_face take_kept
ring_events = refl

ring_bits : (trace 6 ring).bits ≡ false ∷ []
unfolding ring traced_runs run rightmost corners_of walks_left walks_right split_of_face take_kept
ring_bits = refl

ring_fans : fan_count 6 ring ≡ 6
unfolding ring corners_of walks_left walks_right
ring_fans = refl

-- the same with its faces in the order of decoding
ring_decoded : Gluing
ring_decoded = glued_in (5 ∷ 17 ∷ free_entry ∷ 7 ∷ free_entry ∷ 0 ∷ 11 ∷ 3 ∷ free_entry ∷ 13 ∷ free_entry ∷ 6 ∷ 16 ∷ 9 ∷ free_entry ∷ free_entry ∷ 12 ∷ 1 ∷ [])

ring_told : events_left 6 ring_decoded (word_symbol (E ∷ R ∷ L ∷ R ∷ L ∷ S ∷ [])) 6 ≡ record { source = 5; split = 0; right = true } ∷ []
unfolding ring_decoded events_left
ring_told = refl

ring_starts : start_bits 6 ring_decoded ≡ false ∷ []
unfolding ring_decoded free_firsts
ring_starts = refl

ring_rebuilt : pairs_of 6 (rebuild (record { faces = 6; created = 7; symbols = 6 }) (E ∷ R ∷ L ∷ R ∷ L ∷ S ∷ []) (record { source = 5; split = 0; right = true } ∷ []) (λ k. get_or (false ∷ []) k false)) ≡ map ring_decoded (corners_of 6)
unfolding ring_decoded corners_of rebuild take_symbols step note_events leftmost close_all close finish first_degenerate walks_left walks_right
ring_rebuilt = refl

-- a torus of seven points: faces i, i + 1, i + 3 and i, i + 3, i + 2 modulo 7
torus : Gluing
torus = glued_in (25 ∷ 23 ∷ 36 ∷ 28 ∷ 26 ∷ 39 ∷ 31 ∷ 29 ∷ 21 ∷ 34 ∷ 32 ∷ 24 ∷ 37 ∷ 35 ∷ 27 ∷ 40 ∷ 38 ∷ 30 ∷ 22 ∷ 41 ∷ 33 ∷ 8 ∷ 18 ∷ 1 ∷ 11 ∷ 0 ∷ 4 ∷ 14 ∷ 3 ∷ 7 ∷ 17 ∷ 6 ∷ 10 ∷ 20 ∷ 9 ∷ 13 ∷ 2 ∷ 12 ∷ 16 ∷ 5 ∷ 15 ∷ 19 ∷ [])

torus_word : word_of (trace 14 torus) ≡ E ∷ E ∷ L ∷ S ∷ R ∷ L ∷ S ∷ S ∷ R ∷ C ∷ C ∷ C ∷ C ∷ []
unfolding torus traced_runs run rightmost corners_of walks_left walks_right split_of_face take_kept
torus_word = refl

torus_order : order_of (trace 14 torus) ≡ (9, 0) ∷ (6, 2) ∷ (11, 2) ∷ (4, 0) ∷ (12, 2) ∷ (5, 0) ∷ (13, 0) ∷ (1, 1) ∷ (8, 0) ∷ (3, 1) ∷ (10, 1) ∷ (2, 2) ∷ (7, 2) ∷ (0, 1) ∷ []
unfolding torus traced_runs run rightmost corners_of walks_left walks_right split_of_face take_kept
torus_order = refl

torus_events : (trace 14 torus).events ≡ record { source = 12; split = 5; right = true } ∷ record { source = 11; split = 6; right = false } ∷ []
unfolding torus traced_runs run rightmost corners_of walks_left walks_right split_of_face take_kept
torus_events = refl

torus_bits : (trace 14 torus).bits ≡ true ∷ []
unfolding torus traced_runs run rightmost corners_of walks_left walks_right split_of_face take_kept
torus_bits = refl

torus_fans : fan_count 14 torus ≡ 7
unfolding torus corners_of walks_left walks_right
torus_fans = refl

-- the same with its faces in the order of decoding
torus_decoded : Gluing
torus_decoded = glued_in (11 ∷ 23 ∷ 35 ∷ 7 ∷ 38 ∷ 20 ∷ 10 ∷ 3 ∷ 29 ∷ 14 ∷ 6 ∷ 0 ∷ 16 ∷ 40 ∷ 9 ∷ 19 ∷ 12 ∷ 32 ∷ 22 ∷ 15 ∷ 5 ∷ 26 ∷ 18 ∷ 1 ∷ 28 ∷ 41 ∷ 21 ∷ 31 ∷ 24 ∷ 8 ∷ 34 ∷ 27 ∷ 17 ∷ 37 ∷ 30 ∷ 2 ∷ 39 ∷ 33 ∷ 4 ∷ 36 ∷ 13 ∷ 25 ∷ [])

torus_told : events_left 13 torus_decoded (word_symbol (E ∷ E ∷ L ∷ S ∷ R ∷ L ∷ S ∷ S ∷ R ∷ C ∷ C ∷ C ∷ C ∷ [])) 13 ≡ record { source = 12; split = 5; right = true } ∷ record { source = 11; split = 6; right = false } ∷ []
unfolding torus_decoded events_left
torus_told = refl

torus_starts : start_bits 13 torus_decoded ≡ true ∷ []
unfolding torus_decoded free_firsts
torus_starts = refl

torus_rebuilt : pairs_of 14 (rebuild (record { faces = 14; created = 10; symbols = 13 }) (E ∷ E ∷ L ∷ S ∷ R ∷ L ∷ S ∷ S ∷ R ∷ C ∷ C ∷ C ∷ C ∷ []) (record { source = 12; split = 5; right = true } ∷ record { source = 11; split = 6; right = false } ∷ []) (λ k. get_or (true ∷ []) k false)) ≡ map torus_decoded (corners_of 14)
unfolding torus_decoded corners_of rebuild take_symbols step note_events leftmost close_all close finish first_degenerate walks_left walks_right
torus_rebuilt = refl
