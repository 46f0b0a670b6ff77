use Rattle.std.proofs.Common.{◌<◌, ◌≤◌, ℤ, List, Result, Ok, length, pos, ap, ◌∙◌, arith, reverse}
use Rattle.std.proofs.Math.Numerals.{add-one}
use Rattle.std.proofs.lemmas.Result.{err_from_is_err_and}
use Rattle.drc_base.specs.declared.kinds.Kind.{Kind}
use Rattle.texture_prediction.specs.Projection.{pair}
use Rattle.texture_prediction.specs.Texture.{left_of}
use Rattle.predict.specs.Wrap.{Range}
use Rattle.predict.specs.Surfaces.{surface}
use Rattle.texture_values.specs.Pairs.{pairs_of}
use Rattle.texture_values.specs.Foretold.{texture_step}
use Rattle.texture_values.specs.Restored.{restored_pair, restored_texture}
use Rattle.texture_values.proofs.Listed.{length-pairs, flat-pairs}
use Rattle.texture_values.proofs.Steps.{goes-more, goes-not, goes-all}
use Rattle.texture_values.proofs.restored.restore_texture.Goals as goal

pub returns-in_err-prediction : goal.returns-in_err-prediction
unfolding restored_texture
returns-in_err-prediction c =
    let p = err_from_is_err_and c.from_residual.result c.from_residual.ensures.1 in
    let has : c.loop-e.e < length (pairs_of c.loop-e.values) = omega (arith, length-pairs c.loop-e.values, c.loop-e.auto.values, c.requires.whole) in
    rw (p.1, p.2) (goes-not (texture_step (surface c.args.on.now) c.args.places.now) c.args.wrap.now (reverse c.args.orientations.now) (pairs_of c.args.values.now)
    (pairs_of c.loop-e.values) (left_of c.args.orientations.now c.loop-e.left) c.loop-e.e c.in_err-prediction.field-0.0 (pair (pos 0) (pos 0))
    c.loop-e.invariant.goes has c.in_err-prediction.ensures)

pub loop-e-preserved : goal.loop-e-preserved
loop-e-preserved c =
    let h = c.in_ok-prediction.ensures in
    let has : c.loop-e.e < length (pairs_of c.loop-e.values) = omega (arith, length-pairs c.loop-e.values, c.loop-e.auto.values, c.requires.whole) in
    let value = c.restored_pair.ensures ∙ ap (λ (r : Range). restored_pair r c.in_ok-prediction.prediction c.pair_at-correction.result) c.copy-wrap.ensures.same in
    record {
      left = h.1;
      goes = rw (add-one c.loop-e.e) (goes-more (texture_step (surface c.args.on.now) c.args.places.now) c.args.wrap.now (reverse c.args.orientations.now)
          (pairs_of c.args.values.now) (pairs_of c.loop-e.values) (pairs_of c.put_pair.new.values) (left_of c.args.orientations.now c.loop-e.left)
          (left_of c.args.orientations.now c.in_ok-prediction.rest) c.loop-e.e c.in_ok-prediction.prediction c.pair_at-correction.result c.restored_pair.result
          (pair (pos 0) (pos 0)) c.loop-e.invariant.goes has h.0 c.pair_at-correction.ensures value c.put_pair.ensures);
    }

pub returns : goal.returns
unfolding restored_texture
returns c =
    let done : length (pairs_of c.loop-e.values) ≤ c.loop-e.e = omega (arith, length-pairs c.loop-e.values, c.loop-e.auto.values, c.requires.whole) in
    goes-all (texture_step (surface c.args.on.now) c.args.places.now) c.args.wrap.now (reverse c.args.orientations.now) (pairs_of c.args.values.now)
    (pairs_of c.loop-e.values) (left_of c.args.orientations.now c.loop-e.left) c.loop-e.e c.loop-e.invariant.goes done
    ∙ ap restored (flat-pairs c.loop-e.values (length c.args.on.now.order.now.corner_of_entry) (c.loop-e.auto.values ∙ c.requires.whole))
  where
    restored : List ℤ → Result (List ℤ) Kind
    restored values = Ok values
