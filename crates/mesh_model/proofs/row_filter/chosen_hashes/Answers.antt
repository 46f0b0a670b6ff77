use Rattle.std.proofs.Common.{◌≡◌, length, arith}
use Rattle.mesh_model.proofs.row_filter.chosen_hashes.Goals as goal

pub hashes_like-requires-clause-words : goal.hashes_like-requires-clause-words
hashes_like-requires-clause-words c =
    let long : length c.kept_hashes.new.words ≡ c.next_power_of_two-size.result = omega (arith, c.kept_hashes.auto.words, c.as_mut_slice-words.ensures.len, c.in_ok-words.ensures.len) in
    (omega (arith, long), omega (arith, long, c.next_power_of_two-size.ensures.upper_bound, c.requires.few))
