-- Reading n items in a loop: what was read so far, in front of what is still to come.
use Rattle.std.proofs.Common.{◌≡◌, ℕ, suc, ◌+◌, ◌-◌, ◌<◌, ◌≤◌, List, [], ◌∷◌, ◌++◌, Ok, Err, refl, sym, ◌∙◌, ap, append_assoc, append-nil, arith}
use Rattle.drc_base.specs.declared.faults.Fault.{Fault}
use Rattle.drc_base.specs.Steps.{◌>>=◌}
use Rattle.drc_bits.specs.Reading.{Reading, Item, many_at}

-- these items in front of the item's
abbrev pub with_front : {A : Type 0} → List A → Item (List A) → Item (List A)
with_front front item = item >>= λ xs. Ok (front ++ xs.0, xs.1)

pub with_front-nil : {A : Type 0} (item : Item (List A)) → with_front [] item ≡ item
with_front-nil (Ok x) = refl
with_front-nil (Err f) = refl

pub with_front-cons : {A : Type 0} (front : List A) (x : A) (item : Item (List A))
    → with_front front (item >>= λ xs. Ok (x ∷ xs.0, xs.1)) ≡ with_front (front ++ x ∷ []) item
with_front-cons {A} front x (Ok xs) = ap (λ (l : List A). Ok (l, xs.1)) (sym (append_assoc front (x ∷ []) xs.0))
with_front-cons front x (Err f) = refl

pub one_fewer : (n k : ℕ) → k < n → n - k ≡ suc (n - (k + 1))
one_fewer n k fits = omega arith

-- the next item was read
pub many_at-next : {A : Type 0} (item : Reading → Item A) (n k : ℕ) (c d : Reading) (front : List A) (x : A) (whole : Item (List A))
    → with_front front (many_at item (n - k) c) ≡ whole → k < n → item c ≡ Ok (x, d)
    → with_front (front ++ x ∷ []) (many_at item (n - (k + 1)) d) ≡ whole
unfolding many_at
many_at-next item n k c d front x whole so fits is =
    sym (with_front-cons front x (many_at item (n - (k + 1)) d))
    ∙ (rw (one_fewer n k fits, is) refl)
    ∙ so

-- the next item is a fault
pub many_at-fault : {A : Type 0} (item : Reading → Item A) (n k : ℕ) (c : Reading) (front : List A) (f : Fault) (whole : Item (List A))
    → with_front front (many_at item (n - k) c) ≡ whole → k < n → item c ≡ Err f → whole ≡ Err f
unfolding many_at
many_at-fault item n k c front f whole so fits is = sym so ∙ rw (one_fewer n k fits, is) refl

-- no item is left to be read
pub many_at-end : {A : Type 0} (item : Reading → Item A) (n k : ℕ) (c : Reading) (front : List A) (whole : Item (List A))
    → with_front front (many_at item (n - k) c) ≡ whole → n ≤ k → whole ≡ Ok (front, c)
unfolding many_at
many_at-end {A} item n k c front whole so done =
    let none : n - k ≡ 0 = omega arith in
    sym so ∙ rw none (ap (λ (l : List A). Ok (l, c)) (append-nil front))
