-- Reading a chain of items in a loop, each with the one before it, and reading again what a chain is spelled by.
use Rattle.std.proofs.Common.{◌≡◌, ℕ, ◌+◌, ◌-◌, ◌<◌, ◌≤◌, List, [], ◌∷◌, ◌++◌, length, Ok, Err, refl, sym, ◌∙◌, ap, append-nil, arith}
use Rattle.drc_base.specs.declared.faults.Fault.{Fault}
use Rattle.drc_base.specs.Steps.{◌>>=◌}
use Rattle.drc_bits.specs.Reading.{Reading, Item, chain_at}
use Rattle.drc_bits.specs.Spells.{Spells}
use Rattle.drc_bits.proofs.Many.{one_fewer, with_front, with_front-cons}
use Rattle.drc_bits.proofs.Spelled.{Spells-none, Spells-then}

-- the next item was read
pub chain_at-next : {A : Type 0} (item : A → Reading → Item A) (n k : ℕ) (before x : A) (c d : Reading) (front : List A) (whole : Item (List A))
    → with_front front (chain_at item (n - k) before c) ≡ whole → k < n → item before c ≡ Ok (x, d)
    → with_front (front ++ x ∷ []) (chain_at item (n - (k + 1)) x d) ≡ whole
unfolding chain_at
chain_at-next item n k before x c d front whole so fits is =
    sym (with_front-cons front x (chain_at item (n - (k + 1)) x d))
    ∙ (rw (one_fewer n k fits, is) refl)
    ∙ so

-- the next item is a fault
pub chain_at-fault : {A : Type 0} (item : A → Reading → Item A) (n k : ℕ) (before : A) (c : Reading) (front : List A) (f : Fault) (whole : Item (List A))
    → with_front front (chain_at item (n - k) before c) ≡ whole → k < n → item before c ≡ Err f → whole ≡ Err f
unfolding chain_at
chain_at-fault item n k before c front f whole so fits is = sym so ∙ rw (one_fewer n k fits, is) refl

-- no item is left to be read
pub chain_at-end : {A : Type 0} (item : A → Reading → Item A) (n k : ℕ) (before : A) (c : Reading) (front : List A) (whole : Item (List A))
    → with_front front (chain_at item (n - k) before c) ≡ whole → n ≤ k → whole ≡ Ok (front, c)
unfolding chain_at
chain_at-end {A} item n k before c front whole so done =
    let none : n - k ≡ 0 = omega arith in
    sym so ∙ rw none (ap (λ (l : List A). Ok (l, c)) (append-nil front))

-- ---- read again

-- the bytes of a chain, from those of each item behind the one before it
abbrev pub chain_bytes : {A : Type 0} → (A → A → List ℕ) → A → List A → List ℕ
chain_bytes bytes before [] = []
chain_bytes bytes before (x ∷ xs) = bytes before x ++ chain_bytes bytes x xs

-- each item of a chain is read from its bytes
abbrev pub ChainSpelled : {A : Type 0} → (A → Reading → Item A) → (A → A → List ℕ) → A → List A → Type 0
ChainSpelled item bytes before [] = Unit {0}
ChainSpelled item bytes before (x ∷ xs) = Spells (item before) (bytes before x) x × ChainSpelled item bytes x xs

-- so the chain is
pub Spells-chain : {A : Type 0} (item : A → Reading → Item A) (bytes : A → A → List ℕ) (before : A) (xs : List A)
    → ChainSpelled item bytes before xs → Spells (chain_at item (length xs) before) (chain_bytes bytes before xs) xs
unfolding chain_at
Spells-chain item bytes before [] each = Spells-none []
Spells-chain {A} item bytes before (x ∷ xs) each =
    Spells-then (item before) (λ v c. chain_at item (length xs) v c >>= λ vs. Ok (v ∷ vs.0, vs.1)) (bytes before x) (chain_bytes bytes x xs) x (x ∷ xs) each.0
    (record { reads = λ place rest. rw ((Spells-chain item bytes x xs each.1).reads place rest) refl })
