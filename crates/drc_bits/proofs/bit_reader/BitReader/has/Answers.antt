use Rattle.std.proofs.Common.{◌≡◌, ℕ, ◌+◌, ◌-◌, ◌*◌, ◌/◌, ◌<◌, length, arith, sym, ap, ◌∙◌, le-leb, lt-ltb, ltb-true}
use Rattle.drc_bits.specs.Bits.{bits_left}
use Rattle.drc_bits.proofs.Loading.{length-placed}
use Rattle.drc_bits.proofs.bit_reader.BitReader.has.Goals as goal
use Rattle.drc_bits.proofs.bit_reader.BitReader.has.Goals.{After-from-count}

-- the bits that are left are those of the buffer and those of the bytes behind it
left : (c : After-from-count) → length (bits_left c.args.self.now) ≡ 8 * (length c.self.inside.bytes.now - c.self.inside.next) + c.from-count.result
left c =
    ap (λ r. length (bits_left r)) (sym c.self.view_is)
    ∙ length-placed c.self.inside.bytes.now c.self.inside.next c.self.inside.buffer c.self.inside.count c.self.invariant
    ∙ ap (λ n. 8 * (length c.self.inside.bytes.now - c.self.inside.next) + n) (sym c.from-count.ensures)

pub returns-then-n-count : goal.returns-then-n-count
returns-then-n-count c =
    let l = left (goal.at.returns-then-n-count c).After-from-count in
    (λ t. omega (arith, l, c.if-n-count.true), λ h. le-leb c.args.n c.from-count.result c.if-n-count.true)

pub returns-else-n-count : goal.returns-else-n-count
returns-else-n-count c =
    let l = left (goal.at.returns-else-n-count c).After-from-count in
    let eighth : ℕ = (c.args.n - c.from-count.result - 1) / 8 in
    let bytes : ℕ = length c.self.inside.bytes.now - c.self.inside.next in (
      λ t. let below : eighth < bytes = ltb-true eighth bytes t in omega (arith, l, below, c.if-n-count.false),
      λ h. lt-ltb eighth bytes (omega (arith, l, h, c.if-n-count.false)),
    )
