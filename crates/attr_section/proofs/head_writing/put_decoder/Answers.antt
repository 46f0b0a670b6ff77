use Rattle.attr_section.proofs.Spelling.{decoder_spelled}
use Rattle.attr_section.proofs.head_writing.put_decoder.Goals as goal

pub returns-clause-again : goal.returns-clause-again
returns-clause-again c = decoder_spelled c.args.decoder.now c.requires.passes (rw c.as_slice-heads.ensures.items at c.in_ok-put_heads.ensures.again)
