use Rattle.std.proofs.Common.{◌≡◌, ◌≤◌, List, get_or, refl, sym, ◌∙◌, ap, subst}
use Rattle.drc_base.specs.declared.limits.TheConstants.{MAX_VALUES}
use Rattle.mesh_model.specs.Contents.{heads_in, points_in}
use Rattle.attr_section.specs.declared.decoder_heads.DecoderHead.{DecoderHead}
use Rattle.attr_section.specs.declared.values.Values.{Values}
use Rattle.attr_section.specs.Written.{IsReadIn, any_came_later}
use Rattle.drc_container.specs.Columns.{columns_of}
use Rattle.attr_section.specs.Attributes.{values_in}
use Rattle.attr_section.specs.Positions.{PositionsRead}
use Rattle.drc_container.specs.choice.Predicts.{needed_number}
use Rattle.drc_container.specs.choice.Choice.{predict_chosen}
use Rattle.drc_container.specs.writing.Written.{decoder_of, values_of}
use Rattle.drc_container.proofs.lemmas.writing.Attributed.{decoder_passes, decoder_values_pass, columns_of_geometry}
use Rattle.drc_container.proofs.lemmas.writing.Needed.{codings-needed, read-needed}
use Rattle.drc_container.proofs.lemmas.writing.Again.{heads_again, values_again, attributes_spelled}
use Rattle.drc_container.proofs.writing.sequential.put_attributes.Goals as goal

pub write_heads-requires : goal.write_heads-requires
write_heads-requires c = rw (c.as_slice.ensures.value, c.in_ok-decoders.ensures) (decoder_passes c.args.g.now c.requires.sound)

pub write_decoder-requires-clause-values : goal.write_decoder-requires-clause-values
write_decoder-requires-clause-values c =
    let is : c.index.result.now ≡ decoder_of c.args.g.now = c.index.ensures ∙ ap (λ ds. get_or ds 0 c.index.result.now) c.in_ok-decoders.ensures in
    rw (is, c.requires.values) (decoder_values_pass c.args.g.now c.args.choice.now c.requires.can c.requires.sound)

pub returns-clause-again : goal.returns-clause-again
returns-clause-again c =
    let g = c.args.g.now in
    let p = predict_chosen g c.args.choice.now in
    let n = needed_number p (heads_in g) in
    let plain = c.args.choice.now.plain_values in
    let pass = columns_of_geometry g c.args.choice.now c.requires.can c.requires.sound in
    let is : c.index.result.now ≡ decoder_of g = c.index.ensures ∙ ap (λ ds. get_or ds 0 c.index.result.now) c.in_ok-decoders.ensures in
    let few : values_in (values_of g p) ≤ MAX_VALUES = subst (λ n. n ≤ MAX_VALUES) (sym pass.total) c.requires.sound.few_values in
    attributes_spelled plain g p
    (heads_again n g c.as_slice.result.now (c.as_slice.ensures.value ∙ c.in_ok-decoders.ensures) (codings-needed p (heads_in g) (decoder_of g) refl) c.in_ok-write_heads.ensures.again)
    (values_again n plain g p c.index.result.now c.args.values.now is c.requires.values
    (λ entries spent place rest have few. c.in_ok-write_decoder.ensures.again tt n PositionsRead.NotYet entries spent place rest
    (subst (λ (vs : List Values). IsReadIn n PositionsRead.NotYet PositionsRead.NotYet (any_came_later c.index.result.now.heads vs)) (sym c.requires.values)
    (subst (λ (x : DecoderHead). IsReadIn n PositionsRead.NotYet PositionsRead.NotYet (any_came_later x.heads (values_of g p))) (sym is)
    (read-needed p (heads_in g) (columns_of (heads_in g) (points_in g)) PositionsRead.NotYet)))
    have few))
    pass.entries few
