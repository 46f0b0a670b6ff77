-- The machine with named vertices: a triangle has the names of its three corners, a row is an active side with the names of its two
-- ends, and S makes one name of two (reverse decoding: Isenburg and Snoeyink 2001; Draco Bitstream Specification 2.2, Edgebreaker).
-- The names of the vertices made are 0, 1, 2 and so on.
use Rattle.std.specs.Prelude.{ℕ, zero, suc, ◌+◌, Bool, true, false, not, ◌&&◌, ◌||◌, nat_le, ◌==◌, cond, List, [], ◌∷◌, ◌++◌, length}
use Rattle.std.specs.Prelude.{get_or, map, filter, find, Option, Some, None, Result, Ok, Err}
use Rattle.drc_base.specs.declared.kinds.Kind.TheVariants as kind
use Rattle.drc_base.specs.declared.faults.Fault.{Fault}
use Rattle.drc_base.specs.Steps.{◌>>=◌}
use Rattle.corner_table.specs.declared.symbols.Symbol.{Symbol}
use Rattle.corner_table.specs.declared.symbols.Symbol.TheVariants.{C, S, L, R, E}
use Rattle.corner_table.specs.declared.symbols.Event.{Event}
use Rattle.corner_table.specs.Sides.{Side, Place, first, second, third, side, same, place_after, place_before, Gluing, unglued, glue}
use Rattle.eb_machine.specs.Machine.{Plan, fault, must_be, pushed, release, note_events}

-- the names of corners 0, 1 and 2 of a face
abbrev pub Triangle : Type 0
Triangle = ℕ × ℕ × ℕ

abbrev pub corner : Triangle → Place → ℕ
corner t first = t.0
corner t second = t.1
corner t third = t.2

-- a triangle that stands for none
abbrev pub no_triangle : Triangle
no_triangle = (0, 0, 0)

-- an active side, which runs from a vertex to a vertex
pub record Row : Type 0 where
  pub side : Side
  pub from : ℕ
  pub to : ℕ

-- side k of a new face
abbrev pub new_row : ℕ → Triangle → Place → Row
new_row f t k = record { side = side f k; from = corner t (place_after k); to = corner t (place_before k) }

-- the row of a side, if it is a row
abbrev pub row_at_side : Side → List Row → Option Row
row_at_side a rows = find (λ r. same r.side a) rows

-- the row that ends at a vertex
abbrev pub row_to : ℕ → List Row → Option Row
row_to v rows = find (λ r. r.to == v) rows

-- the row that ends where row r starts
abbrev pub row_before : Row → List Row → Row
row_before r rows = elim (row_to r.from rows) [ None ↦ r | Some t ↦ t ]

-- all rows but the one of a side
abbrev pub without : Side → List Row → List Row
without a rows = filter (λ r. not (same r.side a)) rows

-- name n becomes p
abbrev pub renamed : ℕ → ℕ → ℕ → ℕ
renamed n p v = cond (v == n) p v

-- new names throughout a triangle, and at the ends of a row
abbrev pub renamed_triangle : (ℕ → ℕ) → Triangle → Triangle
renamed_triangle rename t = (rename t.0, rename t.1, rename t.2)

abbrev pub renamed_row : (ℕ → ℕ) → Row → Row
renamed_row rename r = record { side = r.side; from = rename r.from; to = rename r.to }

-- what has been rebuilt, and what is kept for the symbols to come
pub record NamedState : Type 0 where
  -- the names of each face's corners, by its number
  pub triangles : List Triangle
  -- the active sides
  pub rows : List Row
  -- the pairs
  pub glued : Gluing
  -- the active sides that wait, the top first
  pub stack : List Side
  -- the side that an event keeps for the symbol of a number
  pub reserved : ℕ → Option Side
  -- the events left, the last first
  pub events : List Event
  -- vertices made by E, L and R, and sides closed
  pub made : ℕ
  pub closes : ℕ

abbrev pub named_start : List Event → NamedState
named_start events =
    record { triangles = []; rows = []; glued = unglued; stack = []; reserved = λ k. None; events = events; made = 0; closes = 0 }

-- a row, or Gone
abbrev pub row_or_gone : ℕ → Option Row → Result Row Fault
row_or_gone i None = Err (fault kind.Gone i)
row_or_gone i (Some r) = Ok r

-- the row at the top of a stack, and what lies below it
abbrev pub top_row : ℕ → List Row → List Side → Result (Row × List Side) Fault
top_row i rows [] = Err (fault kind.NoActive i)
top_row i rows (a ∷ rest) = row_or_gone i (row_at_side a rows) >>= λ r. Ok (r, rest)

-- a state once the events of symbol i of n are noted
abbrev pub named_events : ℕ → ℕ → NamedState → Result NamedState Fault
named_events n i x = note_events n i x.events x.reserved >>= λ noted. Ok (record x { events = noted.0; reserved = noted.1 })

-- what symbol number i of n does, where i faces are built
unfoldable pub named_rule : ℕ → ℕ → Symbol → NamedState → Result NamedState Fault
-- three new vertices
named_rule n i E x =
    let t : Triangle = (x.made, x.made + 1, x.made + 2) in
    named_events n i (record x {
      triangles = x.triangles ++ (t ∷ []);
      rows = x.rows ++ (new_row i t first ∷ new_row i t second ∷ new_row i t third ∷ []);
      stack = side i first ∷ x.stack;
      made = x.made + 3;
    })
-- a new vertex beyond the top row
named_rule n i R x =
    top_row i x.rows x.stack >>= λ (a, rest).
    let t : Triangle = (a.to, a.from, x.made) in
    named_events n i (record x {
      triangles = x.triangles ++ (t ∷ []);
      rows = without a.side x.rows ++ (new_row i t first ∷ new_row i t second ∷ []);
      glued = glue (side i third) a.side x.glued;
      stack = side i first ∷ rest;
      made = x.made + 1;
    })
named_rule n i L x =
    top_row i x.rows x.stack >>= λ (a, rest).
    let t : Triangle = (a.from, x.made, a.to) in
    named_events n i (record x {
      triangles = x.triangles ++ (t ∷ []);
      rows = without a.side x.rows ++ (new_row i t first ∷ new_row i t third ∷ []);
      glued = glue (side i second) a.side x.glued;
      stack = side i first ∷ rest;
      made = x.made + 1;
    })
-- the vertex at which the top row starts is closed
named_rule n i C x =
    top_row i x.rows x.stack >>= λ (a, rest).
    let b = row_before a x.rows in
    must_be (not (same b.side a.side)) kind.Alone i >>= λ _.
    let t : Triangle = (a.from, b.from, a.to) in
    Ok (record x {
      triangles = x.triangles ++ (t ∷ []);
      rows = without b.side (without a.side x.rows) ++ (new_row i t first ∷ []);
      glued = glue (side i third) b.side (glue (side i second) a.side x.glued);
      stack = side i first ∷ rest;
    })
-- the vertex at which the top row starts becomes the one at which the second row ends, in all triangles and rows
named_rule n i S x =
    top_row i x.rows x.stack >>= λ (b, below).
    top_row i x.rows (pushed (x.reserved i) below) >>= λ (a, rest).
    must_be (not (same a.side b.side)) kind.Gone i >>= λ _.
    must_be (not (b.from == a.to)) kind.SamePoint i >>= λ _.
    let rename = renamed b.from a.to in
    let t : Triangle = (rename a.to, rename a.from, rename b.to) in
    Ok (record x {
      triangles = map (renamed_triangle rename) x.triangles ++ (t ∷ []);
      rows = map (renamed_row rename) (without b.side (without a.side x.rows)) ++ (new_row i t first ∷ []);
      glued = glue (side i second) b.side (glue (side i third) a.side x.glued);
      stack = side i first ∷ rest;
      reserved = release i x.reserved;
    })

-- symbol number i is the one of face i
abbrev pub named_step : ℕ → Symbol → NamedState → Result NamedState Fault
named_step n symbol x = named_rule n (length x.triangles) symbol x

-- a face fills the loop of row a, if it is of exactly three rows: a, b and c, where b ends at the start of a, c ends at the start of b,
-- and c starts at the end of a
abbrev pub named_fill : ℕ → Plan → Row → List Side → NamedState → Result NamedState Fault
named_fill n p a rest x =
    let i = length x.triangles in
    let b = row_before a x.rows in
    let c = row_before b x.rows in
    must_be (not (same b.side a.side) && not (same c.side a.side) && (c.from == a.to)) kind.Loop n >>= λ _.
    must_be (not (i == p.faces)) kind.FaceCount i >>= λ _.
    let t : Triangle = (b.from, a.to, a.from) in
    Ok (record x {
      triangles = x.triangles ++ (t ∷ []);
      rows = without c.side (without b.side (without a.side x.rows));
      glued = glue (side i third) c.side (glue (side i second) b.side (glue (side i first) a.side x.glued));
      stack = rest;
      closes = suc x.closes;
    })

-- what closing the top of a stack does
abbrev pub named_close_top : ℕ → Plan → Bool → List Side → NamedState → Result NamedState Fault
named_close_top n p interior [] x = Ok x
named_close_top n p true (a ∷ rest) x = row_or_gone n (row_at_side a x.rows) >>= λ r. named_fill n p r rest x
named_close_top n p false (a ∷ rest) x = Ok (record x { stack = rest; closes = suc x.closes })

unfoldable pub named_close : Plan → Bool → NamedState → Result NamedState Fault
named_close p interior x = named_close_top (p.symbols + x.closes) p interior x.stack x

-- whether two corners of a triangle have one name
abbrev pub has_equal : Triangle → Bool
has_equal t = (t.0 == t.1) || (t.1 == t.2) || (t.2 == t.0)

-- the least of the first n triangles with two equal names
unfoldable pub first_with_equal : List Triangle → ℕ → Option ℕ
first_with_equal triangles zero = None
first_with_equal triangles (suc n) =
    elim (first_with_equal triangles n) [ Some f ↦ Some f | None ↦ cond (has_equal (get_or triangles n no_triangle)) (Some n) None ]

-- the tests at the end
unfoldable pub named_finish : Plan → NamedState → Result NamedState Fault
named_finish p x =
    let faces = length x.triangles in
    must_be (faces == p.faces) kind.FaceCount faces >>= λ _.
    must_be (nat_le x.made p.created) kind.VertexCount x.made >>= λ _.
    elim (first_with_equal x.triangles faces) [ None ↦ Ok x | Some f ↦ Err (fault kind.Degenerate f) ]

-- all symbols in turn
unfoldable pub named_symbols : ℕ → List Symbol → NamedState → Result NamedState Fault
named_symbols n [] x = Ok x
named_symbols n (symbol ∷ symbols) x = named_step n symbol x >>= named_symbols n symbols

-- as many sides as wait are closed, each by its own bit
unfoldable pub named_closes : Plan → (ℕ → Bool) → ℕ → NamedState → Result NamedState Fault
named_closes p bits zero x = Ok x
named_closes p bits (suc left) x = named_close p (bits x.closes) x >>= named_closes p bits left

-- the whole: symbols in the order of decoding, events with the last first, and the start bits
unfoldable pub named_rebuild : Plan → List Symbol → List Event → (ℕ → Bool) → Result NamedState Fault
named_rebuild p symbols events bits =
    named_symbols p.symbols symbols (named_start events) >>= λ x.
    named_closes p bits (length x.stack) x >>=
    named_finish p
