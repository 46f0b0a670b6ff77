use Rattle.std.proofs.Common.{◌++◌, ◌-◌, true, Some, List, length, map, refl, sym, ap, ◌∙◌, subst}
use Rattle.drc_base.specs.Profile.{profile_numbered}
use Rattle.drc_bits.specs.Spells.{Spells}
use Rattle.attr_section.specs.declared.decoder_heads.DecoderHead.{DecoderHead}
use Rattle.attr_section.specs.Heads.{bare_decoder, heads_at, heads_bytes, HaveCodings, DecodersPass, AreAcceptedLinks}
use Rattle.drc_container.specs.surface.AttributeSurfaces.{glued_on}
use Rattle.drc_container.specs.choice.Predicts.{needed_number}
use Rattle.drc_container.proofs.lemmas.writing.SurfaceParts.{decoders-pass}
use Rattle.drc_container.proofs.lemmas.writing.SurfaceLinks.{codings-for}
use Rattle.drc_container.proofs.lemmas.writing.SurfaceLinks.{are-linked}
use Rattle.drc_container.proofs.writing.decoders.put_decoder_heads.Goals as goal

pub write_heads-requires : goal.write_heads-requires
write_heads-requires c = subst DecodersPass (sym c.requires.decoders) (decoders-pass c.args.coding.now (glued_on c.args.s.now) c.heads-heads.ensures.sound)

pub returns-clause-bytes : goal.returns-clause-bytes
returns-clause-bytes c = c.in_ok-write_heads.ensures.bytes ∙ ap (λ (ds : List DecoderHead). c.args.out.now.items ++ heads_bytes true ds) c.requires.decoders

pub returns-clause-again : goal.returns-clause-again
returns-clause-again c =
    let d = glued_on c.args.s.now in
    let n = length d.mesh.heads - 1 in
    let number = needed_number c.args.coding.now.predict d.mesh.heads in
    subst (λ (ds : List DecoderHead). Spells (heads_at (profile_numbered number) (Some n)) (heads_bytes true ds) (map bare_decoder ds)) c.requires.decoders
    (c.in_ok-write_heads.ensures.again number (Some n) (subst (HaveCodings number) (sym c.requires.decoders) (codings-for c.args.coding.now d)) refl
    (subst (AreAcceptedLinks (Some n)) (sym c.requires.decoders) (are-linked c.args.coding.now d c.heads-heads.ensures.sound)))
