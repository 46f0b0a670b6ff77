use Rattle.rans_binary.proofs.BitNumbers.{bit_of-behind, first_bits-add, get-first_bits}
use Rattle.rans_binary.proofs.laws.bits_have_numbers.Goals as goal

pub returns : goal.returns
returns c = record {
  numbered = λ b n k h. get-first_bits n k b h;
  behind = λ b m k. bit_of-behind m k b;
  first = λ b m n. first_bits-add m n b;
}
