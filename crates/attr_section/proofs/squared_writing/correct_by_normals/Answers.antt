use Rattle.std.proofs.Common.{◌≡◌, length, ap, ◌∙◌, arith}
use Rattle.attr_section.proofs.squared_writing.correct_by_normals.Goals as goal

pub correct_normals-requires-clause-pairs : goal.correct_normals-requires-clause-pairs
correct_normals-requires-clause-pairs c =
    let sums : length c.deref.result.now ≡ length c.args.on.now.order.now.corner_of_entry = ap length c.deref.ensures.value ∙ c.in_ok-sums.ensures.len in
    omega (arith, sums, c.requires.each)
