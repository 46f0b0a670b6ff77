-- Range asymmetric numeral systems on one number and one list of bytes (Draco Bitstream Specification 2.2,
-- section Rans Decoding). A coder has `total` slots. Its number, where refilled, is at least
-- `scale * total` and below 256 times that. The pushing half is this project's choice of an encoder.
use Rattle.std.specs.Prelude.{ℕ, zero, suc, ◌+◌, ◌-◌, ◌*◌, ◌/◌, ◌%◌, ◌^◌, ◌<◌, ◌≤◌, ◌≡◌, nat_lt, List, [], ◌∷◌, ◌++◌, reverse, take, Option}
use Rattle.std.specs.Prelude.{Some, None, option_and_then, if◌then◌else◌}

-- the slots of a symbol: how many slots lie below them, and how many they are
pub record Interval : Type 0 where
  pub cum : ℕ
  pub prob : ℕ

-- the number, and the bytes that were emitted and aren't read back yet, the last one emitted first
pub record CoderState : Type 0 where
  pub number : ℕ
  pub bytes : List ℕ

-- a coder for symbols: its precision in bits and its state
pub record Coder : Type 0 where
  pub bits : ℕ
  pub state : CoderState

-- a slot lies in an interval
abbrev pub HasSlot : Interval → ℕ → Type 0
HasSlot i slot = (i.cum ≤ slot) × (slot < i.cum + i.prob)

-- an interval isn't empty and ends at or below the total
abbrev pub Fits : ℕ → Interval → Type 0
Fits total i = (0 < i.prob) × (i.cum + i.prob ≤ total)

-- ---- pulling

-- while the number is below the base and bytes are left, the next byte is its new low byte
abbrev pub refilled : ℕ → ℕ → List ℕ → CoderState
refilled base number [] = record { number = number; bytes = [] }
refilled base number (b ∷ bytes) = if nat_lt number base then refilled base (256 * number + b) bytes
    else record { number = number; bytes = b ∷ bytes }

-- the state after the pull of a symbol with this interval, from a refilled state
abbrev pub pulled : ℕ → Interval → CoderState → CoderState
pulled total i s = record { number = s.number / total * i.prob + s.number % total - i.cum; bytes = s.bytes }

-- the intervals are pulled one after another: each has the slot that the refilled state shows
abbrev pub Pulled : ℕ → ℕ → CoderState → List Interval → Type 0
Pulled scale total s [] = Unit {0}
Pulled scale total s (i ∷ is) = let t = refilled (scale * total) s.number s.bytes in
    HasSlot i (t.number % total) × Pulled scale total (pulled total i t) is

-- ---- pushing

-- while the number is at least the limit, its low byte is emitted; at most so many times
unfoldable pub drained : ℕ → ℕ → ℕ → List ℕ → CoderState
drained zero limit number bytes = record { number = number; bytes = bytes }
drained (suc times) limit number bytes = if nat_lt number limit then record { number = number; bytes = bytes }
    else drained times limit (number / 256) (number % 256 ∷ bytes)

-- the state after the push of a symbol with this interval; four bytes are enough for a number below 2 ^ 32
unfoldable pub state_pushed : ℕ → ℕ → Interval → CoderState → CoderState
state_pushed scale total i s = let t = drained 4 (256 * (scale * i.prob)) s.number s.bytes in
    record { number = t.number / i.prob * total + t.number % i.prob + i.cum; bytes = t.bytes }

-- the state after all pushes, the last interval pushed first
abbrev pub all_pushed : ℕ → ℕ → List Interval → CoderState
all_pushed scale total [] = record { number = scale * total; bytes = [] }
all_pushed scale total (i ∷ is) = state_pushed scale total i (all_pushed scale total is)

-- ---- the ends

-- a number of so many bytes, the low byte first
abbrev pub low_bytes : ℕ → ℕ → List ℕ
low_bytes zero number = []
low_bytes (suc n) number = number % 256 ∷ low_bytes n (number / 256)

-- the last bytes of a coder: one to four of them with the number above its base, and a tag of how many in the top two bits
unfoldable pub end_bytes : ℕ → List ℕ
end_bytes n = if nat_lt n (2 ^ 6) then low_bytes 1 n
    else (if nat_lt n (2 ^ 14) then low_bytes 2 (n + 1 * 2 ^ 14)
    else (if nat_lt n (2 ^ 22) then low_bytes 3 (n + 2 * 2 ^ 22)
    else low_bytes 4 (n + 3 * 2 ^ 30)))

-- all bytes of a coder in their order: the first emitted first, then the end
abbrev pub spelled : ℕ → CoderState → List ℕ
spelled base s = reverse s.bytes ++ end_bytes (s.number - base)

-- the bytes that the push rule gives for the intervals, the last one pushed first
abbrev pub all_spelled : ℕ → ℕ → List Interval → List ℕ
all_spelled scale total is = spelled (scale * total) (all_pushed scale total is)

-- a number whose further bytes stand behind it, the next lower first
abbrev pub joined_number : ℕ → ℕ → List ℕ → Option CoderState
joined_number zero number bytes = Some (record { number = number; bytes = bytes })
joined_number (suc n) number [] = None
joined_number (suc n) number (b ∷ bytes) = joined_number n (256 * number + b) bytes

-- the first state, where it is below 256 bases
abbrev pub state_raised : ℕ → CoderState → Option CoderState
state_raised base s = if nat_lt (base + s.number) (256 * base) then Some (record { number = base + s.number; bytes = s.bytes }) else None

-- the first state from the bytes, the last one first; None where it is bad or the tag isn't below `tags`
abbrev pub started_back : ℕ → ℕ → List ℕ → Option CoderState
started_back tags base [] = None
started_back tags base (last ∷ before) =
    if nat_lt (last / 64) tags then option_and_then (state_raised base) (joined_number (last / 64) (last % 64) before) else None

-- the first state of a coder's bytes in their order
abbrev pub started : ℕ → ℕ → List ℕ → Option CoderState
started tags base bytes = started_back tags base (reverse bytes)

-- the bytes below a place, the last one first
abbrev pub unread : List ℕ → ℕ → List ℕ
unread bytes left = reverse (take left bytes)

-- a coder for symbols after its refill
abbrev pub refilled_coder : Coder → Coder
refilled_coder c = record { bits = c.bits; state = refilled (4 * 2 ^ c.bits) c.state.number c.state.bytes }

-- the bytes start without a fault, and the intervals are pulled from there in this order
abbrev pub Unpacks : ℕ → ℕ → List ℕ → List Interval → Type 0
Unpacks scale total bytes is = (s : CoderState) × (started 4 (scale * total) bytes ≡ Some s) × Pulled scale total s is
