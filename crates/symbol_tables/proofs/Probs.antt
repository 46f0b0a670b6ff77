-- Reading probabilities one after another.
use Rattle.std.proofs.Common.{◌≡◌, ℕ, suc, ◌+◌, ◌-◌, ◌<◌, ◌≤◌, List, [], ◌∷◌, ◌++◌, Ok, Err, refl, sym, ◌∙◌, ap, append-nil, arith}
use Rattle.drc_base.specs.declared.faults.Fault.{Fault}
use Rattle.drc_bits.specs.Reading.{Reading, Item}
use Rattle.drc_bits.proofs.Many.{with_front, with_front-cons}
use Rattle.symbol_tables.specs.Tables.{prob_at, probs_at}

-- the next probability was read
pub probs_at-next : (n k behind run p more : ℕ) (c d : Reading) (front : List ℕ) (whole : Item (List ℕ)) →
    with_front front (probs_at (n - k) run c) ≡ whole → k < n → behind ≡ n - (k + 1) → prob_at behind run c ≡ Ok ((p, more), d) →
    with_front (front ++ p ∷ []) (probs_at (n - (k + 1)) more d) ≡ whole
unfolding probs_at
probs_at-next n k behind run p more c d front whole so fits last is =
    let step : n - k ≡ suc (n - (k + 1)) = omega arith in
    let e : prob_at (n - (k + 1)) run c ≡ Ok ((p, more), d) = rw (← last) is in
    sym (with_front-cons front p (probs_at (n - (k + 1)) more d)) ∙ (rw (step, e) refl) ∙ so

-- it is a fault
pub probs_at-fault : (n k behind run : ℕ) (c : Reading) (front : List ℕ) (f : Fault) (whole : Item (List ℕ)) →
    with_front front (probs_at (n - k) run c) ≡ whole → k < n → behind ≡ n - (k + 1) → prob_at behind run c ≡ Err f → whole ≡ Err f
unfolding probs_at
probs_at-fault n k behind run c front f whole so fits last is =
    let step : n - k ≡ suc (n - (k + 1)) = omega arith in
    let e : prob_at (n - (k + 1)) run c ≡ Err f = rw (← last) is in
    sym so ∙ rw (step, e) refl

-- none is left
pub probs_at-end : (n k run : ℕ) (c : Reading) (front : List ℕ) (whole : Item (List ℕ)) →
    with_front front (probs_at (n - k) run c) ≡ whole → n ≤ k → whole ≡ Ok (front, c)
unfolding probs_at
probs_at-end n k run c front whole so done =
    let none : n - k ≡ 0 = omega arith in
    sym so ∙ rw none (ap (λ (l : List ℕ). Ok (l, c)) (append-nil front))
