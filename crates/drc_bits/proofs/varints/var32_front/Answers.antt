use Rattle.std.proofs.Common.{◌≡◌, ◌<◌, ◌≤◌, ◌^◌, ◌+◌, ◌*◌, ℕ, List, arith, refl, ◌∙◌, slice_index_or, Ok, Err}
use Rattle.drc_base.specs.declared.kinds.Kind.TheVariants as kind
use Rattle.drc_bits.proofs.Groups.{limited, weight_below_5, group_fits, ReadSoFar, ReadSoFar-high, ReadSoFar-low, ReadSoFar-short, ReadSoFar-long}
use Rattle.drc_bits.proofs.varints.var32_front.Goals as goal

light : (bytes : List ℕ) (i value weight : ℕ) → ReadSoFar 5 bytes i value weight → i < 5 → weight ≤ 2 ^ 28
light bytes i value weight so fits = rw so.weighs (weight_below_5 i fits)

-- one group more fits
fits_more : (bytes : List ℕ) (i value weight b : ℕ) → ReadSoFar 5 bytes i value weight → i < 5 → b < 256
    → value + b * weight < 257 * 2 ^ 28
fits_more bytes i value weight b so fits byte = group_fits value weight b (2 ^ 28) so.small (light bytes i value weight so fits) byte

above : (v n : ℕ) → 4294967296 ≤ v → limited 4294967296 (Ok (v, n)) ≡ Err kind.Long
above v n high = grind arith

below : (v n : ℕ) → v < 4294967296 → limited 4294967296 (Ok (v, n)) ≡ Ok (v, n)
below v n low = grind arith

pub returns-then-i-bytes-clause-value : goal.returns-then-i-bytes-clause-value
returns-then-i-bytes-clause-value c = ReadSoFar-short 5 _ _ _ _ _ c.loop-i.invariant c.loop-i-test.true c.if-i-bytes.true

pub overflow_add-value : goal.overflow_add-value
overflow_add-value c = omega (arith, fits_more _ _ _ _ (slice_index_or c.args.bytes.now c.loop-i.i 0) c.loop-i.invariant c.loop-i-test.true (omega (arith, c.type_inv.bytes c.loop-i.i)))

pub returns-then-value-ge4294967296-clause-value : goal.returns-then-value-ge4294967296-clause-value
returns-then-value-ge4294967296-clause-value c =
    ReadSoFar-low 5 _ _ _ _ _ _ c.loop-i.invariant c.loop-i-test.true c.if-i-bytes.false refl c.if-byte-lt128.true ∙ above _ _ c.if-value-ge4294967296.true

pub returns-then-byte-lt128-clause-value : goal.returns-then-byte-lt128-clause-value
returns-then-byte-lt128-clause-value c =
    ReadSoFar-low 5 _ _ _ _ _ _ c.loop-i.invariant c.loop-i-test.true c.if-i-bytes.false refl c.if-byte-lt128.true ∙ below _ _ c.if-value-ge4294967296.false

pub loop-i-preserved : goal.loop-i-preserved
loop-i-preserved c = ReadSoFar-high 5 _ _ _ _ _ c.loop-i.invariant c.loop-i-test.true c.if-i-bytes.false refl c.if-byte-lt128.false (omega (arith, c.type_inv.bytes c.loop-i.i))

pub returns-clause-value : goal.returns-clause-value
returns-clause-value c = let all : c.loop-i.i ≡ 5 = omega arith in ReadSoFar-long 5 _ _ _ _ (rw all at c.loop-i.invariant)
