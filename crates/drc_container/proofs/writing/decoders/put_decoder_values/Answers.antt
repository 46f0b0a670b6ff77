use Rattle.std.proofs.Common.{◌≡◌, ◌++◌, Some, length, sym, ap, ◌∙◌, subst, arith}
use Rattle.corner_table.specs.Ordered.{Ordered}
use Rattle.attr_section.specs.TablePositions.{read_in}
use Rattle.attr_section.specs.Written.{DecoderValuesPass, HaveEntries, decoder_values_bytes}
use Rattle.drc_container.specs.writing.WrittenOnSurface.{surface_order}
use Rattle.drc_container.specs.writing.Encoded.{AreReadAgain}
use Rattle.drc_container.specs.surface.AttributeSurfaces.{glued_on, order_in}
use Rattle.drc_container.proofs.lemmas.surface.AttributeSurfaces.{cut-each}
use Rattle.drc_container.proofs.lemmas.writing.SurfaceParts.{kept-walk}
use Rattle.drc_container.proofs.writing.decoders.put_decoder_values.Goals.{After-surface_at-surface}
use Rattle.drc_container.proofs.writing.decoders.put_decoder_values.Goals as goal

pub surface_at-surface-requires : goal.surface_at-surface-requires
surface_at-surface-requires c = omega (arith, c.requires.attribute, cut-each c.args.coding.now.degree c.args.s.now c.requires.stands)

-- the surface is that of the attribute
is-walk : (c : After-surface_at-surface) → order_in c.surface_at-surface.result.now ≡ surface_order c.args.coding.now (glued_on c.args.s.now) c.args.attr
is-walk c = kept-walk c.args.coding.now c.args.s.now c.args.attr c.surface_at-surface.result.now c.requires.stands c.requires.attribute c.surface_at-surface.ensures

pub put_values_over-requires-clause-values : goal.put_values_over-requires-clause-values
put_values_over-requires-clause-values c =
    subst (λ (w : Ordered). DecoderValuesPass (Some w) c.args.decoder.now.heads c.args.values.now)
    (sym (is-walk (goal.at.put_values_over-requires-clause-values c).After-surface_at-surface)) c.requires.values

pub put_values_over-requires-clause-entries : goal.put_values_over-requires-clause-entries
put_values_over-requires-clause-entries c =
    subst (λ (w : Ordered). HaveEntries (length w.corners) c.args.decoder.now.heads c.args.values.now)
    (sym (is-walk (goal.at.put_values_over-requires-clause-entries c).After-surface_at-surface)) c.requires.entries

pub returns-clause-bytes : goal.returns-clause-bytes
returns-clause-bytes c =
    c.in_ok-put_values_over.ensures.bytes
    ∙ ap (λ (w : Ordered). c.args.out.now.items ++ decoder_values_bytes c.args.coding.now.plain (Some w) (read_in c.args.found) c.args.decoder.now.heads c.args.values.now)
    (is-walk (goal.at.returns-clause-bytes c).After-surface_at-surface)

pub returns-clause-again : goal.returns-clause-again
returns-clause-again c =
    λ n since. subst (λ (w : Ordered). AreReadAgain n c.args.coding.now.plain w (read_in c.args.found) c.args.decoder.now c.args.values.now)
    (is-walk (goal.at.returns-clause-again c).After-surface_at-surface) (c.in_ok-put_values_over.ensures.again n since)
