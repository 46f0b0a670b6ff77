use Rattle.std.proofs.Common.{◌∙◌, Bool, List, subst}
use Rattle.rans_binary.specs.Blocks.{block, IsBlockOf}
use Rattle.attr_section.proofs.SpelledTexture.{Spells-orientations}
use Rattle.attr_section.proofs.textured_writing.put_orientations.Goals as goal

pub returns-clause-again : goal.returns-clause-again
returns-clause-again c = λ entries few.
    Spells-orientations entries c.args.orientations.items few c.requires
    (subst (λ (bits : List Bool). IsBlockOf bits (block bits)) (c.deref.ensures.value ∙ c.bits_from-bits.ensures.bits) c.in_ok-put_bits.ensures.again)
