use Rattle.std.proofs.Common.{◌≡◌, ◌++◌, ◌∷◌, [], ◌<◌, List, length, get_or, map, ap, sym, ◌∙◌, arith}
use Rattle.std.specs.List.{enumerate_from}
use Rattle.std.proofs.lemmas.List.{take_all}
use Rattle.attr_heads.specs.declared.heads.Head.{Head}
use Rattle.attr_heads.proofs.Passing.{heads_say}
use Rattle.attr_section.specs.declared.decoder_heads.DecoderHead.{DecoderHead}
use Rattle.drc_container.specs.writing.WrittenOnSurface.{decoder_for, decoders_for}
use Rattle.drc_container.specs.surface.AttributeSurfaces.{glued_on}
use Rattle.drc_container.proofs.lemmas.writing.SurfaceParts.{decoders-more}
use Rattle.drc_container.proofs.writing.decoders.decoders_of.Goals as goal

pub overflow_cast-attr : goal.overflow_cast-attr
overflow_cast-attr c =
    let say = heads_say c.args.s.now.mesh.heads c.heads-head-items.ensures.sound.points.heads_pass in
    omega (arith, say.few, ap length c.heads-head-items.ensures.value)

pub loop-attr-preserved : goal.loop-attr-preserved
loop-attr-preserved c =
    let coding = c.args.coding.now in
    let d = glued_on c.args.s.now in
    let k = c.loop-attr.attr in
    let h = c.head-item.result in
    let has : k < length d.mesh.heads = omega (arith, ap length c.heads-head-items.ensures.value) in
    let named : h ≡ get_or d.mesh.heads k h = c.head-item.is ∙ ap (λ (hs : List Head). get_or hs k h) c.heads-head-items.ensures.value in
    c.in_ok-push.ensures.items
    ∙ ap (λ (x : DecoderHead). c.loop-attr.decoders.items ++ x ∷ []) c.in_ok-decoder_for.ensures
    ∙ ap (λ (l : List DecoderHead). l ++ decoder_for coding d k h ∷ []) c.loop-attr.invariant
    ∙ sym (decoders-more coding d k h has named)

pub returns : goal.returns
unfolding decoders_for
returns c =
    let d = glued_on c.args.s.now in
    c.loop-attr.invariant
    ∙ ap (λ (hs : List Head). map (λ (k, h). decoder_for c.args.coding.now d k h) (enumerate_from 0 hs)) (take_all c.loop-attr.attr d.mesh.heads (omega (arith, ap length c.heads-head-items.ensures.value)))
