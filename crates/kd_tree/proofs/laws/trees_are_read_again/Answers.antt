use Rattle.std.proofs.Common.{◌≡◌, ◌+◌, [], refl, ◌∙◌, arith}
use Rattle.kd_tree.proofs.Again.{read-again}
use Rattle.kd_tree.proofs.laws.trees_are_read_again.Goals as goal

pub returns : goal.returns
returns c = λ fault depth keys s small long settled split rest.
    read-again fault depth 0 [] keys s small (λ k e h. (long k e h ∙ (let z : depth ≡ 0 + depth = omega arith in z), refl)) settled split rest
