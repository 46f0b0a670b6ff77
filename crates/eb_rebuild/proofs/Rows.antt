-- Worked surfaces and faulty streams, computed: what the machine glues and how many vertices it makes, or its first fault.
use Rattle.std.specs.Prelude.{◌≡◌, ℕ, suc, Bool, true, false, List, [], ◌∷◌, map, Option, Some, None, Result, Ok, Err, get_or, refl}
use Rattle.drc_base.specs.declared.kinds.Kind.{Kind}
use Rattle.drc_base.specs.declared.kinds.Kind.TheVariants as kind
use Rattle.drc_base.specs.declared.faults.Fault.{Fault}
use Rattle.corner_table.specs.declared.symbols.Symbol.{Symbol}
use Rattle.corner_table.specs.declared.symbols.Symbol.TheVariants.{C, S, L, R, E}
use Rattle.corner_table.specs.declared.symbols.Event.{Event}
use Rattle.corner_table.specs.Sides.{Side, number}
use Rattle.corner_table.specs.Fans.{corners_of, leftmost, walks_left, walks_right}
use Rattle.eb_machine.specs.Machine.{State, rebuild, take_symbols, step, close, close_all, finish, note_events, first_degenerate, fault}

-- one more than the number of the other side, and 0 for a free one
entry : Option Side → ℕ
entry None = 0
entry (Some x) = suc (number x)

entries : State → List ℕ
entries s = map (λ x. entry (s.glued x)) (corners_of s.built)

-- the vertices made, and the gluing as a list
told : Result State Fault → Result (ℕ × List ℕ) Fault
told (Ok s) = Ok (s.made, entries s)
told (Err e) = Err e

event : ℕ → ℕ → Bool → Event
event source split right = record { source = source; split = split; right = right }

bits : List Bool → ℕ → Bool
bits list k = get_or list k false

run : ℕ → ℕ → ℕ → List Symbol → List Event → List Bool → Result (ℕ × List ℕ) Fault
run faces created symbols word events starts = told (rebuild (record { faces = faces; created = created; symbols = symbols }) word events (bits starts))

gives : ℕ → List ℕ → Result (ℕ × List ℕ) Fault
gives n xs = Ok (n, xs)

refuses : Kind → ℕ → Result (ℕ × List ℕ) Fault
refuses k n = Err (fault k n)

tetrahedron_row : run 4 4 3 (E ∷ R ∷ C ∷ []) ([]) (true ∷ []) ≡ gives 4 (6 ∷ 11 ∷ 9 ∷ 8 ∷ 12 ∷ 1 ∷ 10 ∷ 4 ∷ 3 ∷ 7 ∷ 2 ∷ 5 ∷ [])
unfolding gives refuses run bits event told entries entry corners_of rebuild take_symbols step close close_all finish note_events first_degenerate leftmost walks_left walks_right
tetrahedron_row = refl

torus_row : run 14 10 13 (E ∷ E ∷ L ∷ S ∷ R ∷ L ∷ S ∷ S ∷ R ∷ C ∷ C ∷ C ∷ C ∷ []) (event 12 5 true ∷ event 11 6 false ∷ []) (true ∷ []) ≡ gives 10 (12 ∷ 24 ∷ 36 ∷ 8 ∷ 39 ∷ 21 ∷ 11 ∷ 4 ∷ 30 ∷ 15 ∷ 7 ∷ 1 ∷ 17 ∷ 41 ∷ 10 ∷ 20 ∷ 13 ∷ 33 ∷ 23 ∷ 16 ∷ 6 ∷ 27 ∷ 19 ∷ 2 ∷ 29 ∷ 42 ∷ 22 ∷ 32 ∷ 25 ∷ 9 ∷ 35 ∷ 28 ∷ 18 ∷ 38 ∷ 31 ∷ 3 ∷ 40 ∷ 34 ∷ 5 ∷ 37 ∷ 14 ∷ 26 ∷ [])
unfolding gives refuses run bits event told entries entry corners_of rebuild take_symbols step close close_all finish note_events first_degenerate leftmost walks_left walks_right
torus_row = refl

ring_row : run 6 7 6 (E ∷ R ∷ L ∷ R ∷ L ∷ S ∷ []) (event 5 0 true ∷ []) (false ∷ []) ≡ gives 7 (6 ∷ 18 ∷ 0 ∷ 8 ∷ 0 ∷ 1 ∷ 12 ∷ 4 ∷ 0 ∷ 14 ∷ 0 ∷ 7 ∷ 17 ∷ 10 ∷ 0 ∷ 0 ∷ 13 ∷ 2 ∷ [])
unfolding gives refuses run bits event told entries entry corners_of rebuild take_symbols step close close_all finish note_events first_degenerate leftmost walks_left walks_right
ring_row = refl

mirrored_row : run 2 6 2 (E ∷ E ∷ []) ([]) (false ∷ false ∷ []) ≡ gives 6 (0 ∷ 0 ∷ 0 ∷ 0 ∷ 0 ∷ 0 ∷ [])
unfolding gives refuses run bits event told entries entry corners_of rebuild take_symbols step close close_all finish note_events first_degenerate leftmost walks_left walks_right
mirrored_row = refl

three_on_one_edge_row : run 3 7 3 (E ∷ E ∷ R ∷ []) ([]) (false ∷ false ∷ []) ≡ gives 7 (0 ∷ 0 ∷ 0 ∷ 9 ∷ 0 ∷ 0 ∷ 0 ∷ 0 ∷ 4 ∷ [])
unfolding gives refuses run bits event told entries entry corners_of rebuild take_symbols step close close_all finish note_events first_degenerate leftmost walks_left walks_right
three_on_one_edge_row = refl

two_sides_wanted : run 2 5 2 (E ∷ S ∷ []) ([]) (false ∷ []) ≡ refuses kind.NoActive 1
unfolding gives refuses run bits event told entries entry corners_of rebuild take_symbols step close close_all finish note_events first_degenerate leftmost walks_left walks_right
two_sides_wanted = refl

no_loop_of_three : run 3 4 2 (E ∷ R ∷ []) ([]) (true ∷ []) ≡ refuses kind.Loop 2
unfolding gives refuses run bits event told entries entry corners_of rebuild take_symbols step close close_all finish note_events first_degenerate leftmost walks_left walks_right
no_loop_of_three = refl

event_too_early : run 3 5 3 (E ∷ C ∷ R ∷ []) (event 1 0 false ∷ []) (false ∷ []) ≡ refuses kind.EventOrder 2
unfolding gives refuses run bits event told entries entry corners_of rebuild take_symbols step close close_all finish note_events first_degenerate leftmost walks_left walks_right
event_too_early = refl

one_point : run 2 4 2 (E ∷ S ∷ []) (event 1 0 false ∷ []) (false ∷ []) ≡ refuses kind.SamePoint 1
unfolding gives refuses run bits event told entries entry corners_of rebuild take_symbols step close close_all finish note_events first_degenerate leftmost walks_left walks_right
one_point = refl

reserved_side_gone : run 3 4 3 (E ∷ C ∷ S ∷ []) (event 2 0 false ∷ []) (false ∷ []) ≡ refuses kind.Gone 2
unfolding gives refuses run bits event told entries entry corners_of rebuild take_symbols step close close_all finish note_events first_degenerate leftmost walks_left walks_right
reserved_side_gone = refl

two_events_for_one : run 6 7 6 (E ∷ R ∷ L ∷ R ∷ L ∷ S ∷ []) (event 5 0 true ∷ event 5 0 true ∷ []) (false ∷ []) ≡ refuses kind.Taken 0
unfolding gives refuses run bits event told entries entry corners_of rebuild take_symbols step close close_all finish note_events first_degenerate leftmost walks_left walks_right
two_events_for_one = refl

alone : run 4 3 4 (E ∷ C ∷ C ∷ C ∷ []) ([]) (false ∷ []) ≡ refuses kind.Alone 3
unfolding gives refuses run bits event told entries entry corners_of rebuild take_symbols step close close_all finish note_events first_degenerate leftmost walks_left walks_right
alone = refl

degenerate : run 3 3 3 (E ∷ C ∷ C ∷ []) ([]) (false ∷ []) ≡ refuses kind.Degenerate 2
unfolding gives refuses run bits event told entries entry corners_of rebuild take_symbols step close close_all finish note_events first_degenerate leftmost walks_left walks_right
degenerate = refl

too_few_faces : run 2 3 1 (E ∷ []) ([]) (false ∷ []) ≡ refuses kind.FaceCount 1
unfolding gives refuses run bits event told entries entry corners_of rebuild take_symbols step close close_all finish note_events first_degenerate leftmost walks_left walks_right
too_few_faces = refl

too_many_vertices : run 1 2 1 (E ∷ []) ([]) (false ∷ []) ≡ refuses kind.VertexCount 3
unfolding gives refuses run bits event told entries entry corners_of rebuild take_symbols step close close_all finish note_events first_degenerate leftmost walks_left walks_right
too_many_vertices = refl

lone_side_glued : run 5 9 5 (E ∷ C ∷ C ∷ R ∷ C ∷ []) ([]) (false ∷ []) ≡ refuses kind.Degenerate 2
unfolding gives refuses run bits event told entries entry corners_of rebuild take_symbols step close close_all finish note_events first_degenerate leftmost walks_left walks_right
lone_side_glued = refl

lone_side_no_loop : run 4 9 4 (E ∷ C ∷ C ∷ R ∷ []) ([]) (true ∷ []) ≡ refuses kind.Loop 4
unfolding gives refuses run bits event told entries entry corners_of rebuild take_symbols step close close_all finish note_events first_degenerate leftmost walks_left walks_right
lone_side_no_loop = refl
