use Rattle.std.proofs.Common.{◌≡◌, ◌*◌, ◌≤◌, ◌≤ℤ◌, length, vec_len, vec_capacity}
use Rattle.std.specs.List.{All}
use Rattle.predict.specs.Wrap.{least_correction, greatest_correction}
use Rattle.predict.specs.Surfaces.{surface}
use Rattle.texture_values.specs.Pairs.{pairs_of}
use Rattle.texture_values.proofs.Writing.{Writes}
use Rattle.texture_values.proofs.corrected.correct_texture.Given as goal

abbrev pub invariant-loop-e : goal.invariant-loop-e
invariant-loop-e l = record {
  len : vec_len l.corrections ≡ l.e * 2;
  long : length l.corrections.items ≡ l.e * 2;
  room : vec_capacity l.corrections ≡ length l.values;
  few : vec_len l.orientations ≤ l.e;
  places : vec_capacity l.orientations ≡ l.entries;
  small : All (λ c. (least_correction l.fn.wrap ≤ℤ c) × (c ≤ℤ greatest_correction l.fn.wrap)) l.corrections.items;
  writes : Writes (surface l.fn.on) l.fn.places l.fn.wrap (pairs_of l.fn.values) (pairs_of l.corrections.items) l.orientations.items l.e;
}
