-- The machine that rebuilds a surface from its symbols, the last first (reverse decoding: Isenburg and Snoeyink 2001; Draco Bitstream
-- Specification 2.2, Edgebreaker). A vertex is a fan of what is glued so far; an active side is a free side of a built face.
use Rattle.std.specs.Prelude.{ℕ, zero, suc, ◌+◌, ◌-◌, Bool, true, false, not, ◌&&◌, ◌||◌, nat_lt, nat_le, ◌==◌, cond, is_none, List, []}
use Rattle.std.specs.Prelude.{◌∷◌, length, Option, Some, None, Result, Ok, Err}
use Rattle.drc_base.specs.declared.kinds.Kind.{Kind}
use Rattle.drc_base.specs.declared.kinds.Kind.TheVariants as kind
use Rattle.drc_base.specs.declared.faults.Fault.{Fault}
use Rattle.drc_base.specs.Steps.{◌>>=◌}
use Rattle.corner_table.specs.declared.symbols.Symbol.{Symbol}
use Rattle.corner_table.specs.declared.symbols.Symbol.TheVariants.{C, S, L, R, E}
use Rattle.corner_table.specs.declared.symbols.Event.{Event}
use Rattle.corner_table.specs.Sides.{Side, Place, first, second, third, side, same, Gluing, unglued, glue}
use Rattle.corner_table.specs.Fans.{side_before, meets}

abbrev pub fault : Kind → ℕ → Fault
fault k n = record { kind = k; at = n }

-- the fault, unless the test holds
abbrev pub must_be : Bool → Kind → ℕ → Result (Unit {0}) Fault
must_be true k n = Ok tt
must_be false k n = Err (fault k n)

-- what is declared: faces, a bound on the vertices made, and symbols
pub record Plan : Type 0 where
  pub faces : ℕ
  pub created : ℕ
  pub symbols : ℕ

-- what has been rebuilt, and what is kept for the symbols to come. Each symbol builds one face: face i is that of symbol i
pub record State : Type 0 where
  -- faces so far, and how their sides are glued
  pub built : ℕ
  pub glued : Gluing
  -- the active sides that wait, the top first
  pub stack : List Side
  -- the side that an event keeps for the symbol of a number
  pub reserved : ℕ → Option Side
  -- the events left, the last first
  pub events : List Event
  -- vertices made by E, L and R, and sides closed
  pub made : ℕ
  pub closes : ℕ

-- nothing is built, and nothing reserved
abbrev pub start : List Event → State
start events = record { built = 0; glued = unglued; stack = []; reserved = λ k. None; events = events; made = 0; closes = 0 }

-- the top of a stack, which has to be a side that isn't glued, and what lies below it
abbrev pub top : ℕ → Gluing → List Side → Result (Side × List Side) Fault
top i g [] = Err (fault kind.NoActive i)
top i g (a ∷ rest) = must_be (is_none (g a)) kind.Gone i >>= λ _. Ok (a, rest)

-- a side, if there is one, on a stack
abbrev pub pushed : Option Side → List Side → List Side
pushed None stack = stack
pushed (Some a) stack = a ∷ stack

abbrev pub reserve : ℕ → Side → (ℕ → Option Side) → ℕ → Option Side
reserve j a kept k = cond (k == j) (Some a) (kept k)

abbrev pub release : ℕ → (ℕ → Option Side) → ℕ → Option Side
release j kept k = cond (k == j) None (kept k)

-- the side of a new face that an event keeps: the one of the corner after the active corner, or of the corner before it
abbrev pub event_place : Bool → Place
event_place true = second
event_place false = third

-- the events of symbol i of n are the last ones of those left: each keeps a side of the new face for the S that it names. Taken is this
-- project's choice; so is it that an event keeps its side whatever symbol its split turns out to be
unfoldable pub note_events : ℕ → ℕ → List Event → (ℕ → Option Side) → Result (List Event × (ℕ → Option Side)) Fault
note_events n i [] kept = Ok ([], kept)
note_events n i (e ∷ events) kept =
    cond (nat_lt e.source (n - suc i)) (Ok (e ∷ events, kept))
    (must_be (not (nat_lt (n - suc i) e.source)) kind.EventOrder i >>= λ _.
    must_be (is_none (kept (n - suc e.split))) kind.Taken i >>= λ _.
    note_events n i events (reserve (n - suc e.split) (side i (event_place e.right)) kept))

-- the state after an E, L or R, once its events are noted
abbrev pub with_events : ℕ → State → State → Result State Fault
with_events n before after =
    note_events n before.built after.events after.reserved >>= λ noted.
    Ok (record after { events = noted.0; reserved = noted.1 })

-- a new face with the sides glued that are named; side 0 goes on top
abbrev pub grown : State → Gluing → List Side → ℕ → State
grown s glued rest more = record s { built = suc s.built; glued = glued; stack = side s.built first ∷ rest; made = s.made + more }

-- what symbol number s.built of n does
unfoldable pub step : ℕ → Symbol → State → Result State Fault
step n E s = with_events n s (grown s s.glued s.stack 3)
step n R s =
    top s.built s.glued s.stack >>= λ a.
    with_events n s (grown s (glue (side s.built third) a.0 s.glued) a.1 1)
step n L s =
    top s.built s.glued s.stack >>= λ a.
    with_events n s (grown s (glue (side s.built second) a.0 s.glued) a.1 1)
step n C s =
    top s.built s.glued s.stack >>= λ a.
    let t = side_before s.built s.glued a.0 in
    must_be (not (same t a.0)) kind.Alone s.built >>= λ _.
    Ok (grown s (glue (side s.built third) t (glue (side s.built second) a.0 s.glued)) a.1 0)
step n S s =
    top s.built s.glued s.stack >>= λ b.
    top s.built s.glued (pushed (s.reserved s.built) b.1) >>= λ a.
    must_be (not (same a.0 b.0)) kind.Gone s.built >>= λ _.
    must_be (not (same (side_before s.built s.glued b.0) a.0)) kind.SamePoint s.built >>= λ _.
    Ok (record (grown s (glue (side s.built second) b.0 (glue (side s.built third) a.0 s.glued)) a.1 0)
    { reserved = release s.built s.reserved })

-- a face fills the loop of side a, which has to be of exactly three active sides; that it has to is this project's choice
abbrev pub fill : ℕ → Plan → Side → List Side → State → Result State Fault
fill n p a rest s =
    let b = side_before s.built s.glued a in
    let c = side_before s.built s.glued b in
    must_be (is_none (s.glued a)) kind.Gone n >>= λ _.
    must_be (not (same b a) && not (same c a) && same (side_before s.built s.glued c) a) kind.Loop n >>= λ _.
    must_be (not (s.built == p.faces)) kind.FaceCount s.built >>= λ _.
    Ok (record s {
      built = suc s.built;
      stack = rest;
      closes = suc s.closes;
      glued = glue (side s.built third) c (glue (side s.built second) b (glue (side s.built first) a s.glued));
    })

-- what closing the top of a stack does: nothing more where it is a boundary, else a face fills its loop
abbrev pub close_top : ℕ → Plan → Bool → List Side → State → Result State Fault
close_top n p interior [] s = Ok s
close_top n p true (a ∷ rest) s = fill n p a rest s
close_top n p false (a ∷ rest) s = Ok (record s { stack = rest; closes = suc s.closes })

-- the top side is closed by a bit; sides that are closed count on from the symbols
unfoldable pub close : Plan → Bool → State → Result State Fault
close p interior s = close_top (p.symbols + s.closes) p interior s.stack s

-- whether two corners of a face are one vertex
abbrev pub is_degenerate : ℕ → Gluing → ℕ → Bool
is_degenerate faces g f = meets faces g (side f first) (side f second) || meets faces g (side f second) (side f third)
    || meets faces g (side f third) (side f first)

-- the least of the first n faces with two equal vertices
unfoldable pub first_degenerate : ℕ → Gluing → ℕ → Option ℕ
first_degenerate faces g zero = None
first_degenerate faces g (suc n) =
    elim (first_degenerate faces g n) [ Some f ↦ Some f | None ↦ cond (is_degenerate faces g n) (Some n) None ]

-- the tests at the end; the last one is this project's choice
unfoldable pub finish : Plan → State → Result State Fault
finish p s =
    must_be (s.built == p.faces) kind.FaceCount s.built >>= λ _.
    must_be (nat_le s.made p.created) kind.VertexCount s.made >>= λ _.
    elim (first_degenerate s.built s.glued s.built) [ None ↦ Ok s | Some f ↦ Err (fault kind.Degenerate f) ]

-- all symbols in turn
unfoldable pub take_symbols : ℕ → List Symbol → State → Result State Fault
take_symbols n [] s = Ok s
take_symbols n (x ∷ xs) s = step n x s >>= take_symbols n xs

-- as many sides as wait are closed, each by its own bit
unfoldable pub close_all : Plan → (ℕ → Bool) → ℕ → State → Result State Fault
close_all p bits zero s = Ok s
close_all p bits (suc left) s = close p (bits s.closes) s >>= close_all p bits left

-- the whole: symbols in the order of decoding, events with the last first, and the start bits
unfoldable pub rebuild : Plan → List Symbol → List Event → (ℕ → Bool) → Result State Fault
rebuild p symbols events bits =
    take_symbols p.symbols symbols (start events) >>= λ s.
    close_all p bits (length s.stack) s >>=
    finish p
