-- The encoder's walk over a surface (Edgebreaker: Rossignac 1999; split events: Isenburg and Snoeyink 2001; where a run starts and what is
-- kept: this project's choice).
use Rattle.std.specs.Prelude.{ℕ, zero, suc, Bool, true, false, not, ◌||◌, ◌&&◌, ◌==◌, cond, is_none, List, [], ◌∷◌, ◌++◌, length, map}
use Rattle.std.specs.Prelude.{reverse, Option, Some, None, nat_lt, count_by, ◌*◌}
use Rattle.std.specs.List.{list_any}
use Rattle.corner_table.specs.declared.symbols.Symbol.{Symbol}
use Rattle.corner_table.specs.declared.symbols.Symbol.TheVariants.{C, S, L, R, E}
use Rattle.corner_table.specs.declared.symbols.Event.{Event}
use Rattle.corner_table.specs.Sides.{Side, first, second, third, side, next, prev, number, place_number, Gluing}
use Rattle.corner_table.specs.Fans.{rightmost, meets, corners_of}
use Rattle.eb_machine.specs.Machine.{pushed}
use Rattle.eb_machine.specs.Shown.{is_split}

-- one symbol: the corner at which its face was entered
pub record TracedEntry : Type 0 where
  pub corner : Side
  pub symbol : Symbol

-- what has been walked and noted, all with the last first
pub record TraceWalk : Type 0 where
  pub entries : List TracedEntry
  -- interior start faces
  pub interior : List ℕ
  -- corners kept at an S
  pub kept : List Side
  pub events : List Event
  -- start bits
  pub bits : List Bool

-- before the first run
abbrev pub nothing_walked : TraceWalk
nothing_walked = record { entries = []; interior = []; kept = []; events = []; bits = [] }

-- a face is visited: it has a symbol, or is an interior start face
abbrev pub is_face_visited : TraceWalk → ℕ → Bool
is_face_visited w f = list_any (λ (e : TracedEntry). e.corner.face == f) w.entries || list_any (λ (k : ℕ). k == f) w.interior

-- the face across a side is visited; a missing one counts as visited
abbrev pub is_visited_across : TraceWalk → Option Side → Bool
is_visited_across w None = true
is_visited_across w (Some y) = is_face_visited w y.face

-- the vertex of a corner is new: no side at it is free, and no visited face has a corner of it
abbrev pub is_new_vertex : ℕ → Gluing → TraceWalk → Side → Bool
is_new_vertex faces g w c =
    not (list_any (λ (d : Side). meets faces g c d && (is_none (g (next d)) || is_none (g (prev d)) || is_face_visited w d.face))
    (corners_of faces))

-- the symbol at a corner of an unvisited face. The face across the side after the corner lies to the right, the one across the side before
-- it to the left
abbrev pub symbol_for : Bool → Bool → Bool → Symbol
symbol_for true right left = C
symbol_for false false false = S
symbol_for false false true = L
symbol_for false true false = R
symbol_for false true true = E

-- the symbol at a corner, after what has been walked
abbrev pub symbol_at_corner : ℕ → Gluing → TraceWalk → Side → Symbol
symbol_at_corner faces g w c = symbol_for (is_new_vertex faces g w c) (is_visited_across w (g (next c))) (is_visited_across w (g (prev c)))

-- the number of the S of a face, if its symbol is one; symbols count from 0 in the order of the walk
unfoldable pub split_of_face : List TracedEntry → ℕ → Option ℕ
split_of_face [] f = None
split_of_face (e ∷ entries) f = cond (e.corner.face == f) (cond (is_split e.symbol) (Some (length entries)) None) (split_of_face entries f)

-- the event by symbol number k of an S whose face it meets
abbrev pub event_noted : ℕ → Bool → Option ℕ → List Event
event_noted k right None = []
event_noted k right (Some j) = record { source = k; split = j; right = right } ∷ []

-- the number of the S of the face across a side, if it has one
abbrev pub split_across : List TracedEntry → Option Side → Option ℕ
split_across entries None = None
split_across entries (Some y) = split_of_face entries y.face

-- the events of a symbol at a corner, left before right, since the last is first
abbrev pub events_noted : Gluing → List TracedEntry → Side → List Event
events_noted g entries c =
    event_noted (length entries) false (split_across entries (g (prev c)))
    ++ event_noted (length entries) true (split_across entries (g (next c)))

-- kept corners are taken off up to and with the first of an unvisited face
unfoldable pub take_kept : TraceWalk → List Side → Option (Side × List Side)
take_kept w [] = None
take_kept w (c ∷ kept) = cond (is_face_visited w c.face) (take_kept w kept) (Some (c, kept))

-- the walk with one symbol more
abbrev pub entered_by : TraceWalk → Side → Symbol → TraceWalk
entered_by w c s = record w { entries = record { corner = c; symbol = s } ∷ w.entries }

-- the end of a branch: on at a kept corner
abbrev pub go_back : TraceWalk → Option (Side × List Side) → TraceWalk × Option Side
go_back w None = (record w { kept = [] }, None)
go_back w (Some c) = (record w { kept = c.1 }, Some c.0)

-- what a symbol does at a corner, and where the run goes on
abbrev pub after_symbol : Gluing → TraceWalk → Side → Symbol → TraceWalk × Option Side
after_symbol g w c C = (entered_by w c C, g (next c))
after_symbol g w c S = (record (entered_by w c S) { kept = pushed (g (prev c)) w.kept }, g (next c))
after_symbol g w c L = (record (entered_by w c L) { events = events_noted g w.entries c ++ w.events }, g (next c))
after_symbol g w c R = (record (entered_by w c R) { events = events_noted g w.entries c ++ w.events }, g (prev c))
after_symbol g w c E =
    go_back (record (entered_by w c E) { events = events_noted g w.entries c ++ w.events }) (take_kept (entered_by w c E) w.kept)

-- the face of a corner is visited: the walk after it, and where the run goes on
abbrev pub trace_visit : ℕ → Gluing → TraceWalk → Side → TraceWalk × Option Side
trace_visit faces g w c = after_symbol g w c (symbol_at_corner faces g w c)

-- a run from a corner; each turn visits a face, so as many turns as there are faces are enough
unfoldable pub run : ℕ → Gluing → ℕ → TraceWalk → Side → TraceWalk
run faces g zero w c = w
run faces g (suc turns) w c = let t = trace_visit faces g w c in elim t.1 [ None ↦ t.0 | Some d ↦ run faces g turns t.0 d ]

-- the first of two corners that is there
abbrev pub or_else : Option Side → Option Side → Option Side
or_else None o = o
or_else (Some c) o = Some c

-- the start corner that one corner of a face gives: itself where its side is free; else the one whose side is free at the right end of its
-- vertex
abbrev pub start_by : ℕ → Gluing → Side → Option Side
start_by faces g c =
    let last = prev (rightmost g (3 * faces) c) in
    cond (is_none (g c)) (Some c) (cond (is_none (g last)) (Some last) None)

-- the start corner of the first of a face's corners that gives one
abbrev pub start_corner : ℕ → Gluing → ℕ → Option Side
start_corner faces g f =
    or_else (start_by faces g (side f first)) (or_else (start_by faces g (side f second)) (start_by faces g (side f third)))

-- the run round an interior start face, from the corner across its side 1
abbrev pub begun_inside : ℕ → Gluing → ℕ → TraceWalk → Option Side → TraceWalk
begun_inside faces g f w None = w
begun_inside faces g f w (Some c) = run faces g faces (record w { interior = f ∷ w.interior; bits = true ∷ w.bits }) c

-- the run of an unvisited face: from its start corner, or round it where it has none
abbrev pub begun : ℕ → Gluing → ℕ → TraceWalk → Option Side → TraceWalk
begun faces g f w (Some c) = run faces g faces (record w { bits = false ∷ w.bits }) c
begun faces g f w None = begun_inside faces g f w (g (side f second))

-- the run of a face, unless it is visited
abbrev pub face_run : ℕ → Gluing → ℕ → TraceWalk → TraceWalk
face_run faces g f w = cond (is_face_visited w f) w (begun faces g f w (start_corner faces g f))

-- runs from the first faces in turn
unfoldable pub traced_runs : ℕ → Gluing → ℕ → TraceWalk
traced_runs faces g zero = nothing_walked
traced_runs faces g (suc f) = face_run faces g f (traced_runs faces g f)

-- the whole walk
abbrev pub trace : ℕ → Gluing → TraceWalk
trace faces g = traced_runs faces g faces

-- the word in the order of decoding
abbrev pub word_of : TraceWalk → List Symbol
word_of w = map (λ (e : TracedEntry). e.symbol) w.entries

-- the order of decoding: the faces of the symbols, each turned so that its entry is corner 0; then interior start faces, turned by 1
abbrev pub order_of : TraceWalk → List (ℕ × ℕ)
order_of w =
    map (λ (e : TracedEntry). (e.corner.face, place_number e.corner.place)) w.entries ++ map (λ (f : ℕ). (f, 1)) (reverse w.interior)

-- how many fans there are: corners with no lesser corner in their fan
abbrev pub fan_count : ℕ → Gluing → ℕ
fan_count faces g =
    count_by (λ (c : Side). not (list_any (λ (d : Side). nat_lt (number d) (number c) && meets faces g c d) (corners_of faces)))
    (corners_of faces)
