use Rattle.drc_base.specs.Profile.{profile_numbered}
use Rattle.std.proofs.Common.{◌≡◌, ◌+◌, ◌<◌, ◌++◌, ◌∷◌, [], List, length, get_or, ap, arith}
use Rattle.std.proofs.lemmas.List.{get_or_default}
use Rattle.std.proofs.lemmas.Grind.{common_steps}
use Rattle.std.specs.List.{All}
use Rattle.std.proofs.lemmas.List.Elements.{All-push}
use Rattle.std.proofs.lemmas.Result.{err_from_is_err_and}
use Rattle.attr_section.specs.declared.decoder_heads.DecoderHead.{DecoderHead}
use Rattle.attr_section.specs.Heads.{no_link, attributes_of, decoder_at, decoders_at}
use Rattle.attr_section.specs.Orders.{HasCoordinates}
use Rattle.attr_section.proofs.Each.{each_at-next, each_at-refuses, each_at-end}
use Rattle.attr_section.proofs.head_reading.read_linked_decoders.Goals as goal

attributes_of-push : (ds : List DecoderHead) (d : DecoderHead) → attributes_of (ds ++ d ∷ []) ≡ attributes_of ds + length d.heads
attributes_of-push ds d = grind (arith, common_steps)

pub returns-in_err-decoder-clause-item : goal.returns-in_err-decoder-clause-item
unfolding decoders_at
returns-in_err-decoder-clause-item c =
    let p = err_from_is_err_and c.from_residual.result c.from_residual.ensures.1 in
    let within : c.loop-link.link-index < length c.args.links.now = omega arith in
    rw (p.1, p.2) (each_at-refuses (λ before link. decoder_at (profile_numbered c.args.profile.number) (attributes_of before) link) c.args.links.now c.loop-link.link-index (get_or c.args.links.now c.loop-link.link-index no_link) c.loop-link.decoders.items c.loop-link.c c.in_err-decoder.field-0.0
    (decoders_at (profile_numbered c.args.profile.number) c.args.links.now c.args.c.now) c.loop-link.invariant.0 within (get_or_default c.args.links.now c.loop-link.link-index no_link (get_or c.args.links.now c.loop-link.link-index no_link) within)
    (rw c.loop-link.invariant.1 at c.in_err-decoder.ensures.item))

pub loop-link-preserved : goal.loop-link-preserved
unfolding decoders_at
loop-link-preserved c =
    let within : c.loop-link.link-index < length c.args.links.now = omega arith in
    let count : c.len.result ≡ length c.in_ok-decoder.decoder.heads = c.len.ensures in
    rw (c.in_ok-push.ensures.items, attributes_of-push, count) (
      each_at-next (λ before link. decoder_at (profile_numbered c.args.profile.number) (attributes_of before) link) c.args.links.now c.loop-link.link-index (get_or c.args.links.now c.loop-link.link-index no_link) c.loop-link.decoders.items c.loop-link.c c.read_decoder_head.new.c c.in_ok-decoder.decoder
          (decoders_at (profile_numbered c.args.profile.number) c.args.links.now c.args.c.now) c.loop-link.invariant.0 within (get_or_default c.args.links.now c.loop-link.link-index no_link (get_or c.args.links.now c.loop-link.link-index no_link) within)
          (rw c.loop-link.invariant.1 at c.in_ok-decoder.ensures.item),
      ap (λ n. n + length c.in_ok-decoder.decoder.heads) c.loop-link.invariant.1,
      c.in_ok-decoder.ensures.few,
      All-push (λ d. All (λ h. 0 < h.comps) d.heads) c.loop-link.decoders.items c.in_ok-decoder.decoder c.loop-link.invariant.3 c.in_ok-decoder.ensures.some,
      All-push (λ d. All HasCoordinates d.heads) c.loop-link.decoders.items c.in_ok-decoder.decoder c.loop-link.invariant.4 c.in_ok-decoder.ensures.squares,
    )

pub returns-clause-item : goal.returns-clause-item
unfolding decoders_at
returns-clause-item c =
    each_at-end (λ before link. decoder_at (profile_numbered c.args.profile.number) (attributes_of before) link) c.args.links.now c.loop-link.link-index c.loop-link.decoders.items c.loop-link.c (decoders_at (profile_numbered c.args.profile.number) c.args.links.now c.args.c.now) c.loop-link.invariant.0 (omega arith)
