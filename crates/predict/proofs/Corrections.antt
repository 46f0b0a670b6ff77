-- The symbols of integers, and of corrections, one after another.
use Rattle.std.proofs.Common.{◌≡◌, ℕ, ◌+◌, ◌*◌, ◌<◌, ◌≤◌, ℤ, pos, negsuc, ◌-ℤ◌, unsigned_abs, int_lt, nat_lt, true, false, FitsSigned, w32, List, [], ◌∷◌, ◌++◌, length, map, take, get_or, sym, ◌∙◌, ap, arith}
use Rattle.std.proofs.lemmas.Int.{ints}
use Rattle.std.proofs.lemmas.List.{map-append, take_all}
use Rattle.predict.specs.Wrap.{Range, correction_of}
use Rattle.predict.specs.Restored.{corrections}
use Rattle.predict.proofs.Restoring.{take-corrections, length-corrections}
use Rattle.predict.specs.Symbols.{zigzag_of}

-- the symbol of a negative integer, and of another
pub symbol_of-negative : (x : ℤ) → int_lt x (pos 0) ≡ true → unsigned_abs (negsuc 0 -ℤ x) * 2 + 1 ≡ zigzag_of x
symbol_of-negative (pos n) below = absurd (no_less n below)
  where
    no_less : (n : ℕ) → nat_lt n 0 ≡ true → ⊥
    no_less n below = grind arith
symbol_of-negative (negsuc n) below = let rest : negsuc 0 -ℤ negsuc n ≡ pos n = omega (arith, ints) in rw rest (omega arith)

pub symbol_of-other : (x : ℤ) → int_lt x (pos 0) ≡ false → unsigned_abs x * 2 ≡ zigzag_of x
symbol_of-other (pos n) above = omega arith
symbol_of-other (negsuc n) above = cc

pub complement_fits : (x : ℤ) → FitsSigned w32 x → FitsSigned w32 (negsuc 0 -ℤ x)
complement_fits x fits = search (arith, ints)

-- the symbol of the next correction is pushed
pub symbols-more : (f : List ℤ → ℤ) (r : Range) (v : List ℤ) (ss ts : List ℕ) (i s : ℕ) (p c : ℤ) → i < length v
    → p ≡ f (take i v) → c ≡ correction_of r p (get_or v i (pos 0)) → s ≡ zigzag_of c → ts ≡ ss ++ s ∷ []
    → ss ≡ map zigzag_of (take i (corrections f r v)) → ts ≡ map zigzag_of (take (i + 1) (corrections f r v))
symbols-more f r v ss ts i s p c has p_is c_is s_is push so =
    push
    ∙ ap (λ front. front ++ s ∷ []) so
    ∙ ap (λ x. map zigzag_of (take i (corrections f r v)) ++ x ∷ []) (s_is ∙ ap zigzag_of (c_is ∙ ap (λ q. correction_of r q (get_or v i (pos 0))) p_is))
    ∙ sym (map-append zigzag_of (take i (corrections f r v)) (correction_of r (f (take i v)) (get_or v i (pos 0)) ∷ []))
    ∙ ap (map zigzag_of) (sym (take-corrections f r v i has))

-- all symbols are there
pub symbols-end : (f : List ℤ → ℤ) (r : Range) (v : List ℤ) (ss : List ℕ) (i : ℕ) → length v ≤ i
    → ss ≡ map zigzag_of (take i (corrections f r v)) → ss ≡ map zigzag_of (corrections f r v)
symbols-end f r v ss i done is =
    is ∙ ap (map zigzag_of) (take_all i (corrections f r v) (omega (arith, done, length-corrections f r v)))
