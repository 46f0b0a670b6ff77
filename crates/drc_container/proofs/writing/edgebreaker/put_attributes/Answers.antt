-- The surfaces are those of the mesh.
use Rattle.std.proofs.Common.{◌-◌, ◌++◌, Some, length, map, ap, subst, arith}
use Rattle.std.specs.Prelude.{OnOk}
use Rattle.std.specs.List.{All, enumerate_from}
use Rattle.drc_base.specs.Profile.{profile_numbered}
use Rattle.drc_base.specs.Refusals.{Answers}
use Rattle.drc_bits.specs.Spells.{Spells}
use Rattle.attr_heads.specs.FirstFault.{value_unless}
use Rattle.attr_section.specs.Heads.{bare_decoder, heads_at}
use Rattle.drc_container.specs.choice.Refused.{values_fault}
use Rattle.drc_container.specs.choice.CanCode.{CanCode}
use Rattle.drc_container.specs.choice.Predicts.{needed_number}
use Rattle.drc_container.specs.writing.WrittenOnSurface.{GluedMesh, coded_values, decoders_for, decoder_heads_bytes, values_bytes_on}
use Rattle.drc_container.specs.writing.Encoded.{AttributeSpelled}
use Rattle.drc_container.proofs.writing.edgebreaker.put_attributes.Goals as goal

pub put_attributes_over-requires-clause-some : goal.put_attributes_over-requires-clause-some
put_attributes_over-requires-clause-some c =
    omega (arith, c.requires.some, ap (λ (g : GluedMesh). length g.mesh.faces) c.in_ok-surfaces.ensures.glued)

pub returns-clause-answer : goal.returns-clause-answer
returns-clause-answer c =
    let coding = c.args.coding.now in
    subst (λ (g : GluedMesh). Answers (λ _. c.put_attributes_over.new.out.items) (value_unless (values_fault coding g) (c.args.out.now.items ++ (decoder_heads_bytes coding g ++ values_bytes_on coding g))) c.put_attributes_over.result)
    c.in_ok-surfaces.ensures.glued c.put_attributes_over.ensures.answer

pub returns-clause-can : goal.returns-clause-can
returns-clause-can c =
    let coding = c.args.coding.now in
    subst (λ (g : GluedMesh). OnOk c.put_attributes_over.result (CanCode g.mesh.heads (coded_values coding g)))
    c.in_ok-surfaces.ensures.glued c.put_attributes_over.ensures.can

pub returns-clause-heads : goal.returns-clause-heads
returns-clause-heads c =
    let coding = c.args.coding.now in
    subst (λ (g : GluedMesh). OnOk c.put_attributes_over.result (Spells (heads_at (profile_numbered (needed_number coding.predict g.mesh.heads)) (Some (length g.mesh.heads - 1))) (decoder_heads_bytes coding g) (map bare_decoder (decoders_for coding g))))
    c.in_ok-surfaces.ensures.glued c.put_attributes_over.ensures.heads

pub returns-clause-again : goal.returns-clause-again
returns-clause-again c =
    let coding = c.args.coding.now in
    subst (λ (g : GluedMesh). OnOk c.put_attributes_over.result (All (λ (k, h). AttributeSpelled (needed_number coding.predict g.mesh.heads) coding g k h) (enumerate_from 0 g.mesh.heads)))
    c.in_ok-surfaces.ensures.glued c.put_attributes_over.ensures.again
