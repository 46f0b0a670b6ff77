use Rattle.std.proofs.Common.{rules, ◌+◌, ◌-◌, length, take, drop, refl, ap, arith}
use Rattle.attr_section.specs.TablePositions.{read_in}
use Rattle.drc_container.specs.choice.Predicts.{needed_number}
use Rattle.drc_container.specs.surface.AttributeSurfaces.{glued_on}
use Rattle.drc_container.proofs.lemmas.surface.AttributeSurfaces.{cut-each}
use Rattle.drc_container.proofs.lemmas.writing.SurfaceParts.{values-each, decoders-each, whole-gluing, kept-walk}
use Rattle.drc_container.proofs.lemmas.writing.SurfacePut.{IsAt, is-at, found-none, found-more, head-named, value-named, put-pass, put-entries, put-again, put-more, again-more, bytes-end, again-end}
use Rattle.drc_container.proofs.writing.decoders.put_values.Goals.{After-index-decoders-attr}
use Rattle.drc_container.proofs.writing.decoders.put_values.Goals as goal

pub slice_bounds-its_values-end : goal.slice_bounds-its_values-end
slice_bounds-its_values-end c =
    let d = glued_on c.args.s.now in
    omega (arith, ap length c.requires.values, ap length c.requires.decoders, values-each c.args.coding.now d, decoders-each c.args.coding.now d)

pub put_decoder_values-requires-clause-attribute : goal.put_decoder_values-requires-clause-attribute
put_decoder_values-requires-clause-attribute c = omega (arith, ap length c.requires.decoders, decoders-each c.args.coding.now (glued_on c.args.s.now))

pub surface_at-requires : goal.surface_at-requires
surface_at-requires c =
    omega (arith, ap length c.requires.decoders, decoders-each c.args.coding.now (glued_on c.args.s.now), cut-each c.args.coding.now.degree c.args.s.now c.requires.stands)

pub bounds-heads-attr : goal.bounds-heads-attr
bounds-heads-attr c = omega (arith, ap length c.requires.decoders, decoders-each c.args.coding.now (glued_on c.args.s.now), ap length c.heads-heads.ensures.value)

pub bounds-values-attr : goal.bounds-values-attr
bounds-values-attr c =
    let d = glued_on c.args.s.now in
    omega (arith, ap length c.requires.values, ap length c.requires.decoders, values-each c.args.coding.now d, decoders-each c.args.coding.now d)

pub loop-attr-init : goal.loop-attr-init
loop-attr-init c = record { bytes = search rules; again = search rules; found = found-none c.args.coding.now (glued_on c.args.s.now) }

-- what is known of the attribute
at_hand : (c : After-index-decoders-attr)
    → IsAt c.args.coding.now (glued_on c.args.s.now) c.loop-attr.attr c.index-decoders-attr.result (take (c.loop-attr.attr + 1 - c.loop-attr.attr) (drop c.loop-attr.attr c.args.values.now))
at_hand c =
    is-at c.args.coding.now (glued_on c.args.s.now) c.args.decoders.now c.args.values.now c.loop-attr.attr c.index-decoders-attr.result
    c.requires.decoders c.requires.values c.loop-attr-test.true c.index-decoders-attr.is

pub put_decoder_values-requires-clause-values : goal.put_decoder_values-requires-clause-values
put_decoder_values-requires-clause-values c =
    let s = c.args.s.now in
    put-pass c.args.coding.now (glued_on s) c.loop-attr.attr c.index-decoders-attr.result _ c.heads-heads.ensures.sound
    (whole-gluing c.args.coding.now.degree s c.requires.stands c.face_count-faces.ensures.gluing) c.requires.some c.requires.can
    (at_hand (goal.at.put_decoder_values-requires-clause-values c).After-index-decoders-attr)

pub put_decoder_values-requires-clause-entries : goal.put_decoder_values-requires-clause-entries
put_decoder_values-requires-clause-entries c =
    put-entries c.args.coding.now (glued_on c.args.s.now) c.loop-attr.attr c.index-decoders-attr.result _ c.heads-heads.ensures.sound
    (at_hand (goal.at.put_decoder_values-requires-clause-entries c).After-index-decoders-attr)

pub loop-attr-preserved : goal.loop-attr-preserved
loop-attr-preserved c =
    let coding = c.args.coding.now in
    let d = glued_on c.args.s.now in
    let k = c.loop-attr.attr in
    let at = at_hand (goal.at.loop-attr-preserved c).After-index-decoders-attr in
    let n = needed_number coding.predict d.mesh.heads in
    let part = take (k + 1 - k) (drop k c.args.values.now) in
    record {
      bytes = put-more coding d k c.index-decoders-attr.result part (read_in c.loop-attr.found) c.args.out.now.items c.put_decoder_values.new.out.items c.loop-attr.out.items at c.loop-attr.invariant.found c.in_ok-put_decoder_values.ensures.bytes c.loop-attr.invariant.bytes;
      again = again-more n coding d k at.has c.loop-attr.invariant.again (put-again coding d k c.index-decoders-attr.result part (read_in c.loop-attr.found) at c.loop-attr.invariant.found c.in_ok-put_decoder_values.ensures.again);
      found = found-more coding d k c.index-heads-attr.result c.index-values-attr.result _ (read_in c.loop-attr.found) _ at.has c.loop-attr.invariant.found
          (head-named d k c.args.s.now.mesh.heads c.heads-heads.result.now c.index-heads-attr.result at.has c.heads-heads.ensures.value refl c.index-heads-attr.is)
          (value-named coding d k c.args.values.now c.index-values-attr.result at.has c.requires.values c.index-values-attr.is)
          (kept-walk coding c.args.s.now k c.surface_at.result.now c.requires.stands at.has c.surface_at.ensures) c.found_behind-found.ensures;
    }

pub returns-clause-bytes : goal.returns-clause-bytes
returns-clause-bytes c =
    let d = glued_on c.args.s.now in
    bytes-end c.args.coding.now d c.loop-attr.attr c.args.out.now.items c.loop-attr.out.items
    (omega (arith, ap length c.requires.decoders, decoders-each c.args.coding.now d)) c.loop-attr.invariant.bytes

pub returns-clause-again : goal.returns-clause-again
returns-clause-again c =
    let d = glued_on c.args.s.now in
    again-end (needed_number c.args.coding.now.predict d.mesh.heads) c.args.coding.now d c.loop-attr.attr (omega (arith, ap length c.requires.decoders, decoders-each c.args.coding.now d)) c.loop-attr.invariant.again
