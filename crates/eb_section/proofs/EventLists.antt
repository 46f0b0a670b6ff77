-- Events from their numbers and the bits of their sides.
use Rattle.std.proofs.Common.{◌≡◌, ℕ, suc, ◌+◌, ◌<◌, ◌≤◌, Bool, ◌==◌, List, [], ◌∷◌, ◌++◌, length, take, drop, get_or, All, sym, refl, ap, ◌∙◌, arith, append_assoc, append-nil, add-one, drop-cons}
use Rattle.std.proofs.Math.ListN.{drop_of_length-le}
use Rattle.std.proofs.lemmas.List.Elements.{All-nil, All-cons}
use Rattle.drc_bits.specs.Bits.{BitPlace, bits_left, number_of}
use Rattle.symbol_coding.proofs.Values.{IsTaken, left-taken}
use Rattle.corner_table.specs.declared.symbols.Event.{Event}
use Rattle.eb_machine.specs.Events.{IsEventOf}
use Rattle.eb_section.specs.Events.{EventNumbers, events_of, IsSideBefore, AreNumbersOf}

-- ---- the bit of a side

first_bit : (bits rest : List ℕ) (v : ℕ) (right : Bool) → 1 ≤ length bits → v ≡ number_of (take 1 bits) → rest ≡ drop 1 bits → right ≡ (v == 1) → IsSideBefore right rest bits
first_bit [] rest v right some is after side = absurd (omega arith)
first_bit (b ∷ bits) rest v right some is after side =
    let e : v ≡ b = is ∙ omega arith in
    (side ∙ ap (λ (n : ℕ). n == 1) e, after)

pub side_taken : (v : ℕ) (r t : BitPlace) (right : Bool) → IsTaken 1 v r t → right ≡ (v == 1) → IsSideBefore right (bits_left t) (bits_left r)
side_taken v r t right taken side = first_bit (bits_left r) (bits_left t) v right taken.fits taken.value (left-taken 1 v r t taken) side

-- ---- events, one after another

event_from : EventNumbers → Bool → Event
event_from x right = record { source = x.source; split = x.split; right = right }

next_from : (x : EventNumbers) (numbers : List EventNumbers) (bits rest : List ℕ) (right : Bool) → IsSideBefore right rest bits →
    events_of (x ∷ numbers) bits ≡ event_from x right ∷ events_of numbers rest
unfolding event_from
next_from x numbers [] rest right h = absurd h
next_from x numbers (b ∷ bits) rest right h =
    ap (λ (r : Bool). record { source = x.source; split = x.split; right = r } ∷ events_of numbers bits) (sym h.0)
    ∙ ap (λ (l : List ℕ). record { source = x.source; split = x.split; right = right } ∷ events_of numbers l) (sym h.1)

pub event_next : (numbers : List EventNumbers) (k : ℕ) (d : EventNumbers) (events whole : List Event) (bits rest : List ℕ) (right : Bool) → k < length numbers →
    IsSideBefore right rest bits → events ++ events_of (drop k numbers) bits ≡ whole →
    (events ++ record { source = (get_or numbers k d).source; split = (get_or numbers k d).split; right = right } ∷ []) ++ events_of (drop (k + 1) numbers) rest ≡ whole
unfolding event_from
event_next numbers k d events whole bits rest right fits side so =
    let x : EventNumbers = get_or numbers k d in
    let first : drop k numbers ≡ x ∷ drop (k + 1) numbers = rw add-one (drop-cons numbers k d fits) in
    append_assoc events (record { source = x.source; split = x.split; right = right } ∷ []) (events_of (drop (k + 1) numbers) rest)
    ∙ ap (λ (l : List Event). events ++ l) (sym (next_from x (drop (k + 1) numbers) bits rest right side))
    ∙ ap (λ (l : List EventNumbers). events ++ events_of l bits) (sym first)
    ∙ so

pub events_end : (numbers : List EventNumbers) (k : ℕ) (events whole : List Event) (bits : List ℕ) → length numbers ≤ k →
    events ++ events_of (drop k numbers) bits ≡ whole → events ≡ whole
events_end numbers k events whole bits done so =
    let none : [] ≡ drop k numbers = sym (drop_of_length-le numbers done) in
    sym (append-nil events) ∙ ap (λ (l : List EventNumbers). events ++ events_of l bits) none ∙ so

-- only as many bits are used as there are numbers
pub events_within : (numbers : List EventNumbers) (bits : List ℕ) → events_of numbers (take (length numbers) bits) ≡ events_of numbers bits
events_within [] bits = refl
events_within (x ∷ numbers) [] = refl
events_within (x ∷ numbers) (b ∷ bits) = ap (λ (l : List Event). record { source = x.source; split = x.split; right = (b == 1) } ∷ l) (events_within numbers bits)

-- events of such numbers are events of so many symbols
pub each_event : (symbols : ℕ) (numbers : List EventNumbers) (bits : List ℕ) → All (AreNumbersOf symbols) numbers → All (IsEventOf symbols) (events_of numbers bits)
each_event symbols [] bits h = All-nil (IsEventOf symbols)
each_event symbols (x ∷ numbers) [] h = All-nil (IsEventOf symbols)
each_event symbols (x ∷ numbers) (b ∷ bits) h =
    let first : AreNumbersOf symbols x = h 0 x (omega arith) in
    All-cons (IsEventOf symbols) (record { source = x.source; split = x.split; right = (b == 1) }) (events_of numbers bits) first
    (each_event symbols numbers bits (λ k d fits. h (suc k) d (omega arith)))

-- one bit fewer is left
pub side_behind : (right : Bool) (rest bits : List ℕ) → IsSideBefore right rest bits → length bits ≡ length rest + 1
side_behind right rest [] h = absurd h
side_behind right rest (b ∷ bits) h = let e = ap {A = List ℕ} length h.1 in omega arith
