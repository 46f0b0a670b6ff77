-- Sequences of bits in bytes (Draco Bitstream Specification 2.2, section "Core types"): each bit is 0 or 1, and
-- bit i of a list of bytes is bit i mod 8 of byte i div 8, counted from the lowest.
use Rattle.std.specs.Prelude.{◌≡◌, ◌<◌, ◌≤◌, ◌^◌, ℕ, zero, suc, ◌+◌, ◌-◌, ◌*◌, ◌/◌, ◌%◌, List, [], ◌∷◌, ◌++◌, length, take, drop, Option}
use Rattle.std.specs.Prelude.{Some, None, Ok, nat_le, nat_lt, if◌then◌else◌}
use Rattle.drc_bits.specs.Reading.{Reading, Item, advanced, fault_at}
use Rattle.drc_base.specs.declared.kinds.Kind.TheVariants as kind

-- the low n bits of a number, the lowest first
unfoldable pub low_bits : ℕ → ℕ → List ℕ
low_bits zero v = []
low_bits (suc n) v = v % 2 ∷ low_bits n (v / 2)

-- each of these is a bit
abbrev pub AreBits : List ℕ → Type 0
AreBits [] = Unit {0}
AreBits (b ∷ bs) = (b < 2) × AreBits bs

-- the number whose bits these are, the lowest first
abbrev pub number_of : List ℕ → ℕ
number_of [] = 0
number_of (b ∷ bs) = b + 2 * number_of bs

-- the bits of bytes: eight of each, the lowest first
unfoldable pub bits_of : List ℕ → List ℕ
bits_of [] = []
bits_of (b ∷ bytes) = low_bits 8 b ++ bits_of bytes

-- how many bytes so many bits begin
abbrev pub bytes_for : ℕ → ℕ
bytes_for n = (n + 7) / 8

-- a reader of bits: its bytes, and how many bits were taken
pub record BitPlace : Type 0 where
  pub bytes : List ℕ
  pub taken : ℕ

-- the bits that are left
abbrev pub bits_left : BitPlace → List ℕ
bits_left r = drop r.taken (bits_of r.bytes)

-- the next n bits as a number, where so many are left
abbrev pub next_bits : ℕ → BitPlace → Option ℕ
next_bits n r = if nat_le n (length (bits_left r)) then Some (number_of (take n (bits_left r))) else None

-- the reader behind n bits, where so many are left; else as it was
abbrev pub after_bits : ℕ → BitPlace → BitPlace
after_bits n r = if nat_le n (length (bits_left r)) then record { bytes = r.bytes; taken = r.taken + n } else r

-- so many bytes whose bits these are, the last one filled with bits 0
abbrev pub packed_in : ℕ → List ℕ → List ℕ
packed_in zero bits = []
packed_in (suc n) bits = number_of (take 8 bits) ∷ packed_in n (drop 8 bits)

-- the bytes of a written sequence: as few as hold its bits
unfoldable pub packed : List ℕ → List ℕ
packed bits = packed_in (bytes_for (length bits)) bits

-- a sequence of n bits as an item: it ends at a byte boundary, and is Short at its first byte where its bits run out
abbrev pub bits_at : ℕ → Reading → Item (List ℕ)
bits_at n c = if nat_lt (8 * length c.rest) n then fault_at kind.Short c else Ok (take n (bits_of c.rest), advanced (bytes_for n) c)

-- the buffer has the bits between those taken and the next byte
pub record HasBuffer (bytes : List ℕ) (next buffer count : ℕ) : Type 0 where
  pub within : next ≤ length bytes
  pub begun : count ≤ 8 * next
  pub small : count < 64
  pub fits : buffer < 2 ^ count
  pub holds : drop (8 * next - count) (bits_of bytes) ≡ low_bits count buffer ++ bits_of (drop next bytes)

-- the low n bytes of a number, the lowest first
abbrev pub low_bytes : ℕ → ℕ → List ℕ
low_bytes zero v = []
low_bytes (suc n) v = v % 256 ∷ low_bytes n (v / 256)
