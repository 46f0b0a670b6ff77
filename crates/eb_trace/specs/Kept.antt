-- The walk keeps the surface: reverse decoding of what it notes rebuilds the surface, with its faces in the order of decoding (Rossignac
-- 1999; Isenburg and Snoeyink 2001; the order: this project's choice).
use Rattle.std.specs.Prelude.{◌≡◌, ℕ, ◌+◌, ◌<◌, ◌≤◌, false, reverse, length, take, get_or, Ok, Err, count_by}
use Rattle.drc_base.specs.declared.kinds.Kind.TheVariants as kind
use Rattle.corner_table.specs.Sides.{Gluing, IsGluing}
use Rattle.corner_table.specs.Fans.{HasThreeFans}
use Rattle.corner_table.specs.Carried.{IsRenumbering, IsCarried}
use Rattle.eb_machine.specs.Machine.{Plan, start, take_symbols, rebuild, fault}
use Rattle.eb_trace.specs.Readable.{IsReadable}
use Rattle.eb_machine.specs.Shown.{is_split}
use Rattle.eb_trace.specs.Front.{front, events_left, start_bits, made_by}
use Rattle.eb_trace.specs.Rebuilt.{word_symbol}
use Rattle.eb_trace.specs.Trace.{trace, word_of, order_of, fan_count}
use Rattle.eb_trace.specs.FromTrace.{CarriesOne, CarriesFans, IsRebuiltFrom}

-- the order of decoding lists each face once
abbrev pub WalkOrders : Type 0
WalkOrders = (faces : ℕ) (g : Gluing) → IsGluing faces g → HasThreeFans faces g → IsRenumbering faces (order_of (trace faces g))

-- the surface in that order: there is one, with as many fans
abbrev pub WalkCarries : Type 0
WalkCarries = (faces : ℕ) (g : Gluing) → IsGluing faces g → HasThreeFans faces g →
    CarriesOne faces g (order_of (trace faces g)) × CarriesFans faces g (order_of (trace faces g)) (fan_count faces g)

-- what a walk noted, against the surface h in the order of decoding
pub record IsToldBy (faces : ℕ) (g h : Gluing) : Type 0 where
  pub readable : IsReadable faces h (length (word_of (trace faces g))) (word_symbol (word_of (trace faces g)))
  pub events : (trace faces g).events ≡
      events_left (length (word_of (trace faces g))) h (word_symbol (word_of (trace faces g))) (length (word_of (trace faces g)))
  pub bits : reverse (trace faces g).bits ≡ start_bits (length (word_of (trace faces g))) h

-- the surface in the order of decoding is readable, and determines what the walk noted
abbrev pub WalkIsReadable : Type 0
WalkIsReadable = (faces : ℕ) (g h : Gluing) → IsGluing faces g → HasThreeFans faces g → IsCarried faces g (order_of (trace faces g)) h →
    IsToldBy faces g h

-- fed the symbols, the last first, with the walk's events, the machine is after each of them in the state that the surface determines
abbrev pub WalkPassesFronts : Type 0
WalkPassesFronts = (faces : ℕ) (g h : Gluing) → IsGluing faces g → HasThreeFans faces g → IsCarried faces g (order_of (trace faces g)) h →
    (m : ℕ) → m ≤ length (word_of (trace faces g)) →
    take_symbols (length (word_of (trace faces g))) (take m (word_of (trace faces g))) (start (trace faces g).events)
    ≡ Ok (front (length (word_of (trace faces g))) h (word_symbol (word_of (trace faces g))) m)

-- the vertices that reverse decoding makes are the fans of the surface and, once more, each vertex that an S takes away
abbrev pub WalkIsCounted : Type 0
WalkIsCounted = (faces : ℕ) (g : Gluing) → IsGluing faces g → HasThreeFans faces g →
    made_by (word_symbol (word_of (trace faces g))) (length (word_of (trace faces g)))
    ≡ fan_count faces g + count_by is_split (word_of (trace faces g))

-- for any number of components, holes, handles and cut vertices: the machine that is made for all faces and for no fewer vertices than the
-- fans and the S, and is fed the word, the events and the start bits of the walk, meets no fault, and its pairs are those of the surface in
-- the order of decoding
abbrev pub WalkIsKept : Type 0
WalkIsKept = (faces : ℕ) (g : Gluing) → IsGluing faces g → HasThreeFans faces g →
    IsRebuiltFrom faces g (reverse (word_of (trace faces g))) (reverse (trace faces g).events) (reverse (trace faces g).bits)
    (order_of (trace faces g)) (fan_count faces g)

-- no fewer vertices will do: they are refused, and the fault says how many it takes
abbrev pub WalkNeedsAll : Type 0
WalkNeedsAll = (p : Plan) (g h : Gluing) → IsGluing p.faces g → HasThreeFans p.faces g →
    IsCarried p.faces g (order_of (trace p.faces g)) h → p.symbols ≡ length (word_of (trace p.faces g)) →
    p.created < fan_count p.faces g + count_by is_split (word_of (trace p.faces g)) →
    rebuild p (word_of (trace p.faces g)) (trace p.faces g).events (λ k. get_or (reverse (trace p.faces g).bits) k false)
    ≡ Err (fault kind.VertexCount (fan_count p.faces g + count_by is_split (word_of (trace p.faces g))))
