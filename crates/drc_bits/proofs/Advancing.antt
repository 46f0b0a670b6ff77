-- Reading further on.
use Rattle.std.proofs.Common.{◌≡◌, ℕ, ◌+◌, List, drop, ap, ◌∙◌, arith}
use Rattle.std.proofs.lemmas.List.{drop-drop}
use Rattle.drc_bits.specs.Reading.{Reading, advanced}

-- further on, and further on from there
pub advanced-advanced : (a b : ℕ) (c : Reading) → advanced b (advanced a c) ≡ advanced (a + b) c
advanced-advanced a b c =
    let place : c.place + a + b ≡ c.place + (a + b) = omega arith in
    let rest : drop b (drop a c.rest) ≡ drop (a + b) c.rest = drop-drop b a c.rest in
    ap (λ (p : ℕ). record { place = p; rest = drop b (drop a c.rest) }) place
    ∙ ap (λ (l : List ℕ). record { place = c.place + (a + b); rest = l }) rest
