-- The first attribute's integers are among those of a row.
use Rattle.std.proofs.Common.{◌≤◌, List, [], ◌∷◌, arith}
use Rattle.std.proofs.lemmas.List.Sums.{get_or-le-sum_by}
use Rattle.attr_heads.specs.declared.heads.Head.{Head}
use Rattle.attr_heads.specs.Head.{width_of}
use Rattle.pairing.specs.Pairing.{first_width}

pub first_width_le : (heads : List Head) → first_width heads ≤ width_of heads
first_width_le [] = omega arith
first_width_le (head ∷ heads) = get_or-le-sum_by (λ (h : Head). h.comps) (head ∷ heads) 0 head (omega arith)
