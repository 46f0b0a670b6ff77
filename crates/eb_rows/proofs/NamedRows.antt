-- Worked surfaces and faulty streams, computed by the machine with names: the names of each triangle's corners and how many vertices were made,
-- or the first fault.
use Rattle.std.specs.Prelude.{◌≡◌, ℕ, Bool, true, false, List, [], ◌∷◌, Result, Ok, Err, get_or, refl}
use Rattle.drc_base.specs.declared.kinds.Kind.{Kind}
use Rattle.drc_base.specs.declared.kinds.Kind.TheVariants as kind
use Rattle.drc_base.specs.declared.faults.Fault.{Fault}
use Rattle.corner_table.specs.declared.symbols.Symbol.{Symbol}
use Rattle.corner_table.specs.declared.symbols.Symbol.TheVariants.{C, S, L, R, E}
use Rattle.corner_table.specs.declared.symbols.Event.{Event}
use Rattle.eb_machine.specs.Machine.{fault, note_events}
use Rattle.eb_machine.specs.Named.{Triangle, NamedState, named_rebuild, named_symbols, named_rule, named_close, named_closes, named_finish, first_with_equal}

told : Result NamedState Fault → Result (ℕ × List Triangle) Fault
told (Ok x) = Ok (x.made, x.triangles)
told (Err e) = Err e

event : ℕ → ℕ → Bool → Event
event source split right = record { source = source; split = split; right = right }

bits : List Bool → ℕ → Bool
bits list k = get_or list k false

run : ℕ → ℕ → ℕ → List Symbol → List Event → List Bool → Result (ℕ × List Triangle) Fault
run faces created symbols word events starts = told (named_rebuild (record { faces = faces; created = created; symbols = symbols }) word events (bits starts))

gives : ℕ → List Triangle → Result (ℕ × List Triangle) Fault
gives n ts = Ok (n, ts)

refuses : Kind → ℕ → Result (ℕ × List Triangle) Fault
refuses k n = Err (fault k n)

tetrahedron_row : run 4 4 3 (E ∷ R ∷ C ∷ []) ([]) (true ∷ []) ≡ gives 4 ((0, 1, 2) ∷ (2, 1, 3) ∷ (1, 0, 3) ∷ (2, 3, 0) ∷ [])
unfolding gives refuses run bits event told named_rebuild named_symbols named_rule named_close named_closes named_finish first_with_equal note_events
tetrahedron_row = refl

ring_row : run 6 7 6 (E ∷ R ∷ L ∷ R ∷ L ∷ S ∷ []) (event 5 0 true ∷ []) (false ∷ []) ≡ gives 7 ((0, 1, 2) ∷ (2, 1, 3) ∷ (1, 4, 3) ∷ (3, 4, 5) ∷ (4, 0, 5) ∷ (0, 2, 5) ∷ [])
unfolding gives refuses run bits event told named_rebuild named_symbols named_rule named_close named_closes named_finish first_with_equal note_events
ring_row = refl

mirrored_row : run 2 6 2 (E ∷ E ∷ []) ([]) (false ∷ false ∷ []) ≡ gives 6 ((0, 1, 2) ∷ (3, 4, 5) ∷ [])
unfolding gives refuses run bits event told named_rebuild named_symbols named_rule named_close named_closes named_finish first_with_equal note_events
mirrored_row = refl

three_on_one_edge_row : run 3 7 3 (E ∷ E ∷ R ∷ []) ([]) (false ∷ false ∷ []) ≡ gives 7 ((0, 1, 2) ∷ (3, 4, 5) ∷ (5, 4, 6) ∷ [])
unfolding gives refuses run bits event told named_rebuild named_symbols named_rule named_close named_closes named_finish first_with_equal note_events
three_on_one_edge_row = refl

two_sides_wanted : run 2 5 2 (E ∷ S ∷ []) ([]) (false ∷ []) ≡ refuses kind.NoActive 1
unfolding gives refuses run bits event told named_rebuild named_symbols named_rule named_close named_closes named_finish first_with_equal note_events
two_sides_wanted = refl

no_loop_of_three : run 3 4 2 (E ∷ R ∷ []) ([]) (true ∷ []) ≡ refuses kind.Loop 2
unfolding gives refuses run bits event told named_rebuild named_symbols named_rule named_close named_closes named_finish first_with_equal note_events
no_loop_of_three = refl

event_too_early : run 3 5 3 (E ∷ C ∷ R ∷ []) (event 1 0 false ∷ []) (false ∷ []) ≡ refuses kind.EventOrder 2
unfolding gives refuses run bits event told named_rebuild named_symbols named_rule named_close named_closes named_finish first_with_equal note_events
event_too_early = refl

one_point : run 2 4 2 (E ∷ S ∷ []) (event 1 0 false ∷ []) (false ∷ []) ≡ refuses kind.SamePoint 1
unfolding gives refuses run bits event told named_rebuild named_symbols named_rule named_close named_closes named_finish first_with_equal note_events
one_point = refl

reserved_side_gone : run 3 4 3 (E ∷ C ∷ S ∷ []) (event 2 0 false ∷ []) (false ∷ []) ≡ refuses kind.Gone 2
unfolding gives refuses run bits event told named_rebuild named_symbols named_rule named_close named_closes named_finish first_with_equal note_events
reserved_side_gone = refl

two_events_for_one : run 6 7 6 (E ∷ R ∷ L ∷ R ∷ L ∷ S ∷ []) (event 5 0 true ∷ event 5 0 true ∷ []) (false ∷ []) ≡ refuses kind.Taken 0
unfolding gives refuses run bits event told named_rebuild named_symbols named_rule named_close named_closes named_finish first_with_equal note_events
two_events_for_one = refl

alone : run 4 3 4 (E ∷ C ∷ C ∷ C ∷ []) ([]) (false ∷ []) ≡ refuses kind.Alone 3
unfolding gives refuses run bits event told named_rebuild named_symbols named_rule named_close named_closes named_finish first_with_equal note_events
alone = refl

degenerate : run 3 3 3 (E ∷ C ∷ C ∷ []) ([]) (false ∷ []) ≡ refuses kind.Degenerate 2
unfolding gives refuses run bits event told named_rebuild named_symbols named_rule named_close named_closes named_finish first_with_equal note_events
degenerate = refl

too_few_faces : run 2 3 1 (E ∷ []) ([]) (false ∷ []) ≡ refuses kind.FaceCount 1
unfolding gives refuses run bits event told named_rebuild named_symbols named_rule named_close named_closes named_finish first_with_equal note_events
too_few_faces = refl

too_many_vertices : run 1 2 1 (E ∷ []) ([]) (false ∷ []) ≡ refuses kind.VertexCount 3
unfolding gives refuses run bits event told named_rebuild named_symbols named_rule named_close named_closes named_finish first_with_equal note_events
too_many_vertices = refl

lone_side_glued : run 5 9 5 (E ∷ C ∷ C ∷ R ∷ C ∷ []) ([]) (false ∷ []) ≡ refuses kind.Degenerate 2
unfolding gives refuses run bits event told named_rebuild named_symbols named_rule named_close named_closes named_finish first_with_equal note_events
lone_side_glued = refl

lone_side_no_loop : run 4 9 4 (E ∷ C ∷ C ∷ R ∷ []) ([]) (true ∷ []) ≡ refuses kind.Loop 4
unfolding gives refuses run bits event told named_rebuild named_symbols named_rule named_close named_closes named_finish first_with_equal note_events
lone_side_no_loop = refl

torus_row : run 14 10 13 (E ∷ E ∷ L ∷ S ∷ R ∷ L ∷ S ∷ S ∷ R ∷ C ∷ C ∷ C ∷ C ∷ []) (event 12 5 true ∷ event 11 6 false ∷ []) (true ∷ []) ≡ gives 10 ((0, 1, 2) ∷ (0, 4, 5) ∷ (4, 2, 5) ∷ (2, 1, 5) ∷ (5, 1, 7) ∷ (1, 4, 7) ∷ (4, 0, 7) ∷ (0, 2, 7) ∷ (7, 2, 9) ∷ (2, 4, 9) ∷ (4, 1, 9) ∷ (1, 0, 9) ∷ (0, 5, 9) ∷ (7, 9, 5) ∷ [])
unfolding gives refuses run bits event told named_rebuild named_symbols named_rule named_close named_closes named_finish first_with_equal note_events
torus_row = refl
