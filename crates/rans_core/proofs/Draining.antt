-- Emitting low bytes, a step at a time.
use Rattle.std.proofs.Common.{◌≡◌, ℕ, zero, suc, ◌+◌, ◌*◌, ◌/◌, ◌%◌, ◌^◌, ◌<◌, ◌≤◌, List, [], ◌∷◌, ◌++◌, reverse, sym, refl, ap, ◌∙◌, arith, add-one, lt-ltb, le-ltb}
use Rattle.std.proofs.lemmas.Bool.{cond-true, cond-false}
use Rattle.std.proofs.lemmas.List.{reverse-append}
use Rattle.rans_core.specs.Coder.{Coder, CoderState, drained, state_pushed}
use Rattle.rans_core.proofs.Pulling.{drained-below, drained-above}

-- nothing is emitted below the limit
pub drained-stop : (times limit number : ℕ) (bytes : List ℕ) → number < limit → drained times limit number bytes ≡ record { number = number; bytes = bytes }
unfolding drained
drained-stop zero limit number bytes h = refl
drained-stop (suc times) limit number bytes h = cond-true _ _ _ (lt-ltb number limit h)

-- nothing is emitted after the last time
pub drained-none : (times limit number : ℕ) (bytes : List ℕ) → times ≡ 0 → drained times limit number bytes ≡ record { number = number; bytes = bytes }
unfolding drained
drained-none times limit number bytes h = rw h refl

-- one byte more is emitted at the end of the list in order
pub drained-step : (times times' limit number b : ℕ) (xs ys : List ℕ) → limit ≤ number → times' ≡ times + 1 → b ≡ number % 256 → ys ≡ xs ++ b ∷ [] →
    drained times limit (number / 256) (reverse ys) ≡ drained times' limit number (reverse xs)
unfolding drained
drained-step times times' limit number b xs ys h t e p =
    rw (p, t, add-one times, e) (ap (drained times limit (number / 256)) (reverse-append xs (number % 256 ∷ [])) ∙ sym (cond-false _ _ _ (le-ltb number limit h)))

-- what is left is between a 256th of the limit and the limit
pub drained-fits : (low number rest : ℕ) (bytes out : List ℕ) → 1 ≤ low → low ≤ number → number < 2 ^ 32 →
    drained 4 (256 * low) number bytes ≡ record { number = rest; bytes = out } → (low ≤ rest) × (rest < 256 * low)
drained-fits low number rest bytes out one above below e =
    let n : (drained 4 (256 * low) number bytes).number ≡ rest = ap (λ (s : CoderState). s.number) e in
    let a : low ≤ (drained 4 (256 * low) number bytes).number = drained-above low (256 * low) 4 number bytes refl above in
    let b : (drained 4 (256 * low) number bytes).number < 256 * low = drained-below (256 * low) 4 number bytes (omega arith) in
    (omega (arith, a, n), omega (arith, b, n))

-- what the code does at a push is the push rule
pub pushed-is : (bits number rest result cum prob : ℕ) (bytes out : List ℕ) →
    drained 4 (256 * (4 * prob)) number bytes ≡ record { number = rest; bytes = out } → result ≡ rest / prob * 2 ^ bits + rest % prob + cum →
    (let s : CoderState = state_pushed 4 (2 ^ bits) (record { cum = cum; prob = prob }) (record { number = number; bytes = bytes }) in
    let c : Coder = record { bits = bits; state = record { number = result; bytes = out } } in c ≡ record { bits = bits; state = s })
unfolding state_pushed
pushed-is bits number rest result cum prob bytes out e f = rw (e, f) refl
