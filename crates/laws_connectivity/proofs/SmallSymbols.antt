-- The symbols of faces' indices have 32 bits.
use Rattle.std.proofs.Common.{◌≡◌, ℕ, ◌^◌, ◌<◌, ◌≤◌, List, [], ◌∷◌, ℤ, pos, negsuc, ◌-ℤ◌, refl, arith}
use Rattle.std.specs.List.{All, flat_map}
use Rattle.std.proofs.lemmas.Int.{ints}
use Rattle.std.proofs.lemmas.List.Elements.{All-nil, All-cons, All-head, All-tail, All-append}
use Rattle.seq_section.specs.Indices.{IsFaceBelow}
use Rattle.seq_section.specs.Packed.{difference_symbol, symbols_after, symbols_of}

-- the symbol of a difference between small numbers
small-symbol : (d : ℤ) (i start : ℕ) → d ≡ pos i -ℤ pos start → i < 2 ^ 30 → start < 2 ^ 30 → difference_symbol d < 2 ^ 32
small-symbol (pos n) i start is small small_start = omega (arith, ints, is)
small-symbol (negsuc n) i start is small small_start = omega (arith, ints, is)

small-after : (start : ℕ) (indices : List ℕ) → start < 2 ^ 30 → All (λ i. i < 2 ^ 30) indices → All (λ v. v < 2 ^ 32) (symbols_after (pos start) indices)
small-after start [] small each = All-nil (λ v. v < 2 ^ 32)
small-after start (i ∷ indices) small each =
    let here : i < 2 ^ 30 = All-head (λ x. x < 2 ^ 30) i indices each in
    All-cons (λ v. v < 2 ^ 32) (difference_symbol (pos i -ℤ pos start)) (symbols_after (pos i) indices)
    (small-symbol (pos i -ℤ pos start) i start refl here small)
    (small-after i indices here (All-tail (λ x. x < 2 ^ 30) i indices each))

-- the corners of faces are below what their indices are below
corners-below : (points : ℕ) (faces : List (List ℕ)) → points ≤ 2 ^ 30 → All (IsFaceBelow points) faces → All (λ i. i < 2 ^ 30) (flat_map (λ face. face) faces)
corners-below points [] few each = All-nil (λ i. i < 2 ^ 30)
corners-below points (face ∷ faces) few each =
    let here : IsFaceBelow points face = All-head (IsFaceBelow points) face faces each in
    All-append (λ i. i < 2 ^ 30) face (flat_map (λ face. face) faces) (λ k d h. omega (arith, here.1 k d h, few))
    (corners-below points faces few (All-tail (IsFaceBelow points) face faces each))

pub small-symbols : (points : ℕ) (faces : List (List ℕ)) → points ≤ 2 ^ 30 → All (IsFaceBelow points) faces → All (λ v. v < 2 ^ 32) (symbols_of faces)
small-symbols points faces few each = small-after 0 (flat_map (λ face. face) faces) (omega arith) (corners-below points faces few each)
