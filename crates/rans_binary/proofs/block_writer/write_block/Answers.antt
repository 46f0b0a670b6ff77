use Rattle.std.proofs.Common.{◌≡◌, ◌<◌, ◌^◌, length, subst, arith, rules}
use Rattle.rans_binary.specs.Blocks.{block, coded_bits, zeros_for}
use Rattle.rans_binary.proofs.Again.{block-again}
use Rattle.rans_binary.proofs.block_writer.write_block.Goals as goal

pub returns-clause-again : goal.returns-clause-again
unfolding block
returns-clause-again c =
    let e : c.extend_from_slice-2.new.self.items ≡ block c.args.bits.now = search rules in
    let coded : c.in_ok-coded.coded.items ≡ coded_bits (zeros_for c.args.bits.now) c.args.bits.now = search rules in
    let long : length c.in_ok-coded.coded.items < 2 ^ 32 = omega (arith, c.in_ok-coded.ensures.length, c.in_ok-coded.coded.ok) in
    rw e (block-again c.args.bits.now (subst (λ xs. length xs < 2 ^ 32) coded long))
