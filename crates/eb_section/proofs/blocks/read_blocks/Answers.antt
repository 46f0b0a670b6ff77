use Rattle.std.proofs.Common.{rules}
use Rattle.std.proofs.lemmas.Result.{err_from_is_err_and}
use Rattle.drc_bits.proofs.Many.{many_at-next, many_at-fault, many_at-end}
use Rattle.rans_binary.specs.Blocks.{bit_block_at}
use Rattle.eb_section.proofs.blocks.read_blocks.Goals as goal

pub returns-in_err-block-clause-blocks : goal.returns-in_err-block-clause-blocks
returns-in_err-block-clause-blocks c =
    let p = err_from_is_err_and c.from_residual.result c.from_residual.ensures.1 in
    rw (p.1, p.2) (many_at-fault bit_block_at c.args.count c.loop-k._k _ _ _ _ c.loop-k.invariant.told c.loop-k-test.true c.in_err-block.ensures.0)

pub loop-k-preserved : goal.loop-k-preserved
loop-k-preserved c = record {
  told = rw c.in_ok-push.ensures.items (many_at-next bit_block_at c.args.count c.loop-k._k _ _ _ _ _ c.loop-k.invariant.told c.loop-k-test.true c.in_ok-block.ensures);
  len = search rules;
}

pub returns-clause-blocks : goal.returns-clause-blocks
returns-clause-blocks c = many_at-end bit_block_at c.args.count c.loop-k._k _ _ _ c.loop-k.invariant.told c.loop-k-test.false
