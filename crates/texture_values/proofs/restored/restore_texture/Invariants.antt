use Rattle.std.proofs.Common.{◌≤◌, length, reverse}
use Rattle.texture_prediction.specs.Texture.{left_of}
use Rattle.predict.specs.Surfaces.{surface}
use Rattle.texture_values.specs.Pairs.{pairs_of}
use Rattle.texture_values.specs.Foretold.{texture_step}
use Rattle.texture_values.proofs.Steps.{Goes}
use Rattle.texture_values.proofs.restored.restore_texture.Given as goal

abbrev pub invariant-loop-e : goal.invariant-loop-e
invariant-loop-e l = record {
  left : l.left ≤ length l.orientations;
  goes : Goes (texture_step (surface l.fn.on) l.fn.places) l.fn.wrap (reverse l.fn.orientations) (pairs_of l.fn.values) (pairs_of l.values)
      (left_of l.fn.orientations l.left) l.e;
}
