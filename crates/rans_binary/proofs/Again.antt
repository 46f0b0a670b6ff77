-- A written block is read again, whatever follows it.
use Rattle.std.proofs.Common.{◌≡◌, ℕ, ◌+◌, ◌-◌, ◌^◌, ◌<◌, ◌≤◌, Bool, nat_lt, List, ◌∷◌, ◌++◌, map, length, Ok, Some, sym, refl, ap, ◌∙◌, inl, arith, append_assoc, lt-ltb, length-append}
use Rattle.std.specs.Prelude.{slice_get}
use Rattle.std.proofs.lemmas.Bool.{cond-true}
use Rattle.drc_base.specs.declared.kinds.Kind.TheVariants as kind
use Rattle.drc_bits.specs.Reading.{must}
use Rattle.drc_bits.specs.Numbers.{number_at}
use Rattle.drc_bits.specs.Varint.{spelling}
use Rattle.drc_bits.proofs.Written.{reading, bytes_at-front, number_at-byte, var32_at-spelling}
use Rattle.rans_core.specs.Coder.{Interval, CoderState, all_pushed, started}
use Rattle.rans_core.proofs.Pulling.{all_pushed-Pulled}
use Rattle.rans_core.proofs.Closing.{started-spelled}
use Rattle.rans_binary.specs.Blocks.{Block, IsBlockOf, block, bit_block_at, coded_bits, first_bits, bit_interval, zeros_for}
use Rattle.rans_binary.proofs.BitNumbers.{get-first_bits}
use Rattle.rans_binary.proofs.Bits.{first_bits-Pulled, intervals-Fit}

pub zeros_for-bounds : (bits : List Bool) → (1 ≤ zeros_for bits) × (zeros_for bits ≤ 255)
zeros_for-bounds bits = (omega arith, omega arith)

-- one byte that passes a test
pub must-byte : (place b : ℕ) (rest : List ℕ) → 0 < b → must kind.BadProb (λ n. nat_lt 0 n) (number_at 1) (reading place (b ∷ rest)) ≡ Ok (b, reading (place + 1) rest)
must-byte place b rest h = rw (number_at-byte place b rest) (cond-true _ _ _ (lt-ltb 0 b h))

-- a block that is spelled so gives its first state
pub block_at-spelled : (place zeros : ℕ) (coded rest : List ℕ) (s : CoderState) → 0 < zeros → length coded < 2 ^ 32 → started 3 4096 coded ≡ Some s →
    bit_block_at (reading place (zeros ∷ (spelling 5 (length coded) ++ (coded ++ rest))))
    ≡ Ok (record { ones = 256 - zeros; state = s }, reading (place + 1 + length (spelling 5 (length coded)) + length coded) rest)
unfolding bit_block_at
block_at-spelled place zeros coded rest s some small e =
    rw (
      must-byte place zeros (spelling 5 (length coded) ++ (coded ++ rest)) some,
      var32_at-spelling (place + 1) (length coded) (coded ++ rest) small,
      bytes_at-front (place + 1 + length (spelling 5 (length coded))) coded rest,
      e,
    ) refl

pub block-again : (bits : List Bool) → length (coded_bits (zeros_for bits) bits) < 2 ^ 32 → IsBlockOf bits (block bits)
unfolding block
block-again bits small =
    let zeros : ℕ = zeros_for bits in
    let bounds = zeros_for-bounds bits in
    let coded : List ℕ = coded_bits zeros bits in
    let text : List ℕ = spelling 5 (length coded) in
    let is : List Interval = map (bit_interval (256 - zeros)) bits in
    let both = all_pushed-Pulled 16 256 is (omega arith) (omega arith) (omega arith) (intervals-Fit (256 - zeros) bits (omega (arith, bounds)) (omega (arith, bounds))) in
    let s : CoderState = all_pushed 16 256 is in
    let b : Block = record { ones = 256 - zeros; state = s } in
    let start : started 3 4096 coded ≡ Some s = started-spelled 3 4096 s (omega arith) (inl (omega arith)) both.0 in
    let first : first_bits (length bits) b ≡ bits = first_bits-Pulled (256 - zeros) s bits both.1 in record {
      start = b;
      spells = record {
        reads = λ place rest.
            let whole : (zeros ∷ text ++ coded) ++ rest ≡ zeros ∷ (text ++ (coded ++ rest)) = ap (λ xs. zeros ∷ xs) (append_assoc text coded rest) in
            let end : place + 1 + length text + length coded ≡ place + length (zeros ∷ text ++ coded) = omega (arith, length-append text coded) in
            ap (λ xs. bit_block_at (reading place xs)) whole
            ∙ block_at-spelled place zeros coded rest s (omega (arith, bounds)) small start
            ∙ ap (λ n. Ok (b, reading n rest)) end;
      };
      pulls = both.1;
      first = first;
      numbered = λ k h. ap (λ xs. slice_get xs k) (sym first) ∙ get-first_bits (length bits) k b h;
    }
