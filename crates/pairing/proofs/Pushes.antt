-- A list that is written, read.
use Rattle.std.proofs.Common.{◌≡◌, ℕ, ◌+◌, ◌≤◌, List, get_or, set, ◌∙◌, arith, get_or-set_other}

pub rest_unwritten : (old items : List ℕ) (x v : ℕ) → ((k : ℕ) → x ≤ k → get_or items k 0 ≡ get_or old k 0) →
    (k : ℕ) → x + 1 ≤ k → get_or (set items x v) k 0 ≡ get_or old k 0
rest_unwritten old items x v h k m = get_or-set_other items x k v 0 (λ e. omega arith) ∙ h k (omega arith)
