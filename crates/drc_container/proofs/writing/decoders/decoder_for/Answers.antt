use Rattle.std.proofs.Common.{arith}
use Rattle.drc_container.proofs.lemmas.surface.AttributeSurfaces.{cut-each}
use Rattle.drc_container.proofs.writing.decoders.decoder_for.Goals as goal

pub is_cut_at-corner-requires : goal.is_cut_at-corner-requires
is_cut_at-corner-requires c = omega (arith, c.requires.attribute, cut-each c.args.coding.now.degree c.args.s.now c.requires.stands)
