use Rattle.std.proofs.Common.{◌≡◌, length, subst, ◌∙◌}
use Rattle.drc_bits.specs.Spells.{Spells}
use Rattle.symbol_coding.specs.Block.{block_at, block_bytes}
use Rattle.seq_section.specs.Packed.{symbols_of}
use Rattle.seq_section.proofs.Symbols.{Spells-packed}
use Rattle.seq_section.proofs.packed.put_packed.Goals as goal

pub returns-clause-again : goal.returns-clause-again
returns-clause-again c =
    let told : c.as_slice.result.now ≡ symbols_of c.args.faces.now = c.as_slice.ensures.value ∙ c.in_ok-symbols.ensures.symbols in
    let block = rw c.in_ok-block.ensures.block at c.in_ok-block.ensures.again in
    Spells-packed c.args.points c.args.faces.now c.requires.below (subst (λ l. Spells (block_at (length l) 1) (block_bytes l 1) l) told block)
