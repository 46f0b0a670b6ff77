use Rattle.std.proofs.Common.{◌≡◌, List, ℕ, ◌++◌, ◌∙◌, length, rules, ap, subst, sym}
use Rattle.drc_bits.specs.Bits.{AreBits, bits_at, bits_of, bytes_for, low_bits, low_bytes, packed}
use Rattle.drc_bits.specs.Spells.{Spells}
use Rattle.drc_bits.proofs.PackedBits.{AreBits-append, AreBits-bits_of, AreBits-low_bits, Spells-bits}
use Rattle.drc_bits.proofs.Packing.{IsBytes-front, finished, finished_bits}
use Rattle.drc_bits.proofs.bit_writer.BitWriter.finish.Goals as goal
use Rattle.drc_bits.proofs.bit_writer.BitWriter.finish.Goals.{After-put_bytes}

-- the bytes that were put out, and those of the buffer
out_is : (c : After-put_bytes) → c.put_bytes.new.bytes.items ≡ c.self.inside.bytes.items ++ low_bytes (bytes_for c.self.inside.count) c.self.inside.buffer
out_is c =
    let n : c.div_ceil.result ≡ bytes_for c.self.inside.count = search rules in
    c.put_bytes.ensures.items ∙ ap (λ k. c.self.inside.bytes.items ++ low_bytes k c.self.inside.buffer) n

-- they are the bits that were put, packed
packed_is : (c : After-put_bytes) → c.put_bytes.new.bytes.items ≡ packed (bits_of c.self.inside.bytes.items ++ low_bits c.self.inside.count c.self.inside.buffer)
packed_is c =
    finished c.self.inside.bytes.items c.put_bytes.new.bytes.items c.self.inside.count c.self.inside.buffer
    (IsBytes-front c.self.inside.bytes.items (low_bytes (bytes_for c.self.inside.count) c.self.inside.buffer) c.put_bytes.new.bytes.items (out_is c) c.put_bytes.ensures.bytes)
    c.self.invariant.1 (out_is c)

pub returns-clause-bytes : goal.returns-clause-bytes
returns-clause-bytes c = rw (← c.self.view_is) (packed_is c)

pub returns-clause-bits : goal.returns-clause-bits
returns-clause-bits c =
    rw (← c.self.view_is)
    (finished_bits c.self.inside.bytes.items c.put_bytes.new.bytes.items c.self.inside.count c.self.inside.buffer c.self.invariant.1 (out_is c))

pub returns-clause-again : goal.returns-clause-again
returns-clause-again c =
    let bits : List ℕ = bits_of c.self.inside.bytes.items ++ low_bits c.self.inside.count c.self.inside.buffer in
    let are : AreBits bits =
    AreBits-append (bits_of c.self.inside.bytes.items) (low_bits c.self.inside.count c.self.inside.buffer) (AreBits-bits_of c.self.inside.bytes.items) (AreBits-low_bits c.self.inside.count c.self.inside.buffer) in
    rw (← c.self.view_is) (subst (λ xs. Spells (bits_at (length bits)) xs bits) (sym (packed_is c)) (Spells-bits bits are))
