-- Varints (Draco Bitstream Specification 2.2, section "Core types"; which are too long is this project's choice).
use Rattle.std.specs.Prelude.{ℕ, zero, suc, ◌+◌, ◌-◌, ◌*◌, ◌/◌, ◌%◌, ◌^◌, List, [], ◌∷◌, length, Result, Ok, Err, nat_lt, if◌then◌else◌}
use Rattle.drc_base.specs.declared.kinds.Kind.{Kind}
use Rattle.drc_base.specs.declared.kinds.Kind.TheVariants as kind
use Rattle.drc_bits.specs.Reading.{Reading, Item, advanced, fault_at}

-- one more group in front of these
abbrev pub with_group : ℕ → Result (List ℕ) Kind → Result (List ℕ) Kind
with_group group (Ok groups) = Ok (group ∷ groups)
with_group group (Err k) = Err k

-- the groups of seven bits up to and with the first byte below 128, which is one of the first `most`
abbrev pub varint_groups : ℕ → List ℕ → Result (List ℕ) Kind
varint_groups zero bytes = Err kind.Long
varint_groups (suc most) [] = Err kind.Short
varint_groups (suc most) (b ∷ bytes) = if nat_lt b 128 then Ok (b ∷ []) else with_group (b - 128) (varint_groups most bytes)

-- the number of these groups, the low one first
abbrev pub value_of : List ℕ → ℕ
value_of [] = 0
value_of (group ∷ groups) = group + 128 * value_of groups

-- the value of these groups and how many bytes they took, where it is below the limit
abbrev pub fitting : ℕ → Result (List ℕ) Kind → Result (ℕ × ℕ) Kind
fitting limit (Ok groups) = if nat_lt (value_of groups) limit then Ok (value_of groups, length groups) else Err kind.Long
fitting limit (Err k) = Err k

-- the varint at the beginning of these bytes: its value below the limit, and how many bytes it takes
unfoldable pub varint : ℕ → ℕ → List ℕ → Result (ℕ × ℕ) Kind
varint most limit bytes = fitting limit (varint_groups most bytes)

-- what a varint at the beginning is as an item; its faults stand where it begins
abbrev pub as_item : Reading → Result (ℕ × ℕ) Kind → Item ℕ
as_item c (Ok x) = Ok (x.0, advanced x.1 c)
as_item c (Err k) = fault_at k c

-- a varint of 32 bits, of at most five bytes
abbrev pub var32_at : Reading → Item ℕ
var32_at c = as_item c (varint 5 (2 ^ 32) c.rest)

-- a varint of 64 bits, of at most ten bytes
abbrev pub var64_at : Reading → Item ℕ
var64_at c = as_item c (varint 10 (2 ^ 64) c.rest)

-- the shortest spelling of a number, in at most this many bytes
unfoldable pub spelling : ℕ → ℕ → List ℕ
spelling zero v = []
spelling (suc most) v = if nat_lt v 128 then v ∷ [] else (v % 128 + 128) ∷ spelling most (v / 128)
