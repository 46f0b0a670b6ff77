-- Sections that the laws are about: of one face, whose bytes are written out.
use Rattle.std.proofs.Common.{◌≡◌, ℕ, ◌<◌, ◌≤◌, ◌^◌, true, false, List, [], ◌∷◌, length, get_or, None, Result, Ok, Err, refl, sym, ap, subst, arith, le-leb}
use Rattle.std.specs.List.{All}
use Rattle.std.proofs.lemmas.List.Elements.{All-nil, All-cons}
use Rattle.drc_base.specs.declared.faults.Fault.{Fault}
use Rattle.drc_base.specs.Profile.{profile}
use Rattle.drc_bits.specs.Bits.{packed, low_bits}
use Rattle.drc_bits.specs.Spells.{Spells}
use Rattle.drc_bits.specs.Varint.{spelling}
use Rattle.rans_core.specs.Coder.{drained, end_bytes, state_pushed}
use Rattle.rans_binary.specs.Blocks.{block}
use Rattle.symbol_coding.specs.Block.{block_bytes}
use Rattle.corner_table.specs.Sides.{unglued}
use Rattle.corner_table.specs.Fans.{corners_of, leftmost, walks_left, walks_right}
use Rattle.corner_table.specs.declared.symbols.Symbol.TheVariants.{E}
use Rattle.eb_machine.specs.Machine.{State, step, note_events, take_symbols, close, close_all, finish, first_degenerate, rebuild}
use Rattle.eb_machine.specs.Events.{IsEventOf}
use Rattle.eb_trace.specs.declared.tracing.Traced.{Traced}
use Rattle.eb_valence.specs.Contexts.{coded, context_list}
use Rattle.eb_trace.specs.Writable.{AsManyWait, IsWritable}
use Rattle.eb_section.specs.Written.{opening_bytes, numbers_bytes, events_bytes, standard_bytes, standard_behind_bytes, valence_behind_bytes, connectivity_bytes}
use Rattle.eb_section.specs.ReadAgain.{IsReadAgain}
use Rattle.seq_section.specs.Indices.{indices_at, indices_bytes, IsFaceBelow}
use Rattle.laws_connectivity.proofs.Again.{indices-again, connectivity-again}

-- ---- indices

abbrev triangle : List (List ℕ)
triangle = (0 ∷ 1 ∷ 2 ∷ []) ∷ []

triangle-below : All (IsFaceBelow 3) triangle
triangle-below =
    let second : All (λ i. i < 3) (1 ∷ 2 ∷ []) = All-cons (λ i. i < 3) 1 (2 ∷ []) (omega arith) (All-cons (λ i. i < 3) 2 [] (omega arith) (All-nil (λ i. i < 3))) in
    All-cons (IsFaceBelow 3) (0 ∷ 1 ∷ 2 ∷ []) [] (refl, All-cons (λ i. i < 3) 0 (1 ∷ 2 ∷ []) (omega arith) second) (All-nil (IsFaceBelow 3))

plain_bytes : indices_bytes false triangle 3 ≡ 1 ∷ 3 ∷ 1 ∷ 0 ∷ 1 ∷ 2 ∷ []
unfolding indices_bytes spelling
plain_bytes = refl

-- each index by itself: one face, three points, the method, and the indices
plain_face : Spells (indices_at profile) (1 ∷ 3 ∷ 1 ∷ 0 ∷ 1 ∷ 2 ∷ []) (record { faces = triangle; points = 3 })
plain_face =
    subst (λ bytes. Spells (indices_at profile) bytes (record { faces = triangle; points = 3 })) plain_bytes (indices-again false triangle 3 (omega arith) (omega arith) triangle-below)

-- ---- a trace

-- the machine's state behind one E whose side 0 stays free
abbrev one_face : State
one_face = record { built = 1; glued = unglued; stack = []; reserved = λ k. None; events = []; made = 3; closes = 1 }

face-rebuilt : (created : ℕ) → 3 ≤ created
    → rebuild (record { faces = 1; created = created; symbols = 1 }) (E ∷ []) [] (λ k. get_or (false ∷ []) k false) ≡ Ok one_face
unfolding rebuild take_symbols step note_events close_all close finish first_degenerate corners_of leftmost walks_left walks_right
face-rebuilt created enough = rw (le-leb 3 created enough) refl

-- as many sides wait as there are start bits
waiting_sides : Result State Fault → ℕ
waiting_sides (Ok s) = length s.stack
waiting_sides (Err f) = 0

one_waits : AsManyWait (E ∷ []) [] (false ∷ [])
unfolding waiting_sides take_symbols step note_events
one_waits s is = sym (ap waiting_sides is)

face-writable : IsWritable 1 3 (E ∷ []) [] (false ∷ [])
face-writable = record {
  few_symbols = omega arith;
  few_events = omega arith;
  few_starts = omega arith;
  events_fit = All-nil (IsEventOf 1);
  events_in_order = λ i j d before below. absurd (omega (arith, before, below));
  sources_rise = tt;
  waiting = one_waits;
  read_back = λ created enough. record { last = one_face; no_fault = face-rebuilt created enough; closes = refl };
}

-- what the walk over one face notes
abbrev face_trace : Traced
face_trace = record { symbols = E ∷ []; events = []; starts = false ∷ []; order = (0, 0) ∷ []; vertices = 3 }

face_bytes : connectivity_bytes false 1 face_trace [] ≡ 0 ∷ 3 ∷ 1 ∷ 0 ∷ 1 ∷ 0 ∷ 0 ∷ 1 ∷ 7 ∷ 255 ∷ 1 ∷ 17 ∷ []
unfolding connectivity_bytes opening_bytes events_bytes numbers_bytes standard_behind_bytes standard_bytes spelling packed low_bits block drained end_bytes state_pushed
face_bytes = refl

-- the section of one face, standard
face_section : IsReadAgain false 1 face_trace [] (0 ∷ 3 ∷ 1 ∷ 0 ∷ 1 ∷ 0 ∷ 0 ∷ 1 ∷ 7 ∷ 255 ∷ 1 ∷ 17 ∷ [])
face_section =
    subst (λ bytes. IsReadAgain false 1 face_trace [] bytes) face_bytes
    (connectivity-again false 1 face_trace [] face-writable (omega arith) (omega arith) (omega arith) (All-nil (λ bits. length bits < 2 ^ 31)))

by_valence_bytes : connectivity_bytes true 1 face_trace [] ≡ 2 ∷ 3 ∷ 1 ∷ 0 ∷ 1 ∷ 0 ∷ 0 ∷ 255 ∷ 1 ∷ 17 ∷ 0 ∷ 0 ∷ 0 ∷ 0 ∷ 0 ∷ 0 ∷ []
unfolding connectivity_bytes opening_bytes events_bytes numbers_bytes valence_behind_bytes spelling packed block drained end_bytes state_pushed coded context_list step note_events block_bytes
by_valence_bytes = refl

-- and by valence, where no symbol stands in a list: the first one isn't coded
by_valence_section : IsReadAgain true 1 face_trace [] (2 ∷ 3 ∷ 1 ∷ 0 ∷ 1 ∷ 0 ∷ 0 ∷ 255 ∷ 1 ∷ 17 ∷ 0 ∷ 0 ∷ 0 ∷ 0 ∷ 0 ∷ 0 ∷ [])
by_valence_section =
    subst (λ bytes. IsReadAgain true 1 face_trace [] bytes) by_valence_bytes
    (connectivity-again true 1 face_trace [] face-writable (omega arith) (omega arith) (omega arith) (All-nil (λ bits. length bits < 2 ^ 31)))
