-- A text that is written by way of a chunk.
use Rattle.std.proofs.Common.{◌≡◌, ℕ, List, ◌++◌, sym, ap, ◌∙◌, append_assoc}

-- one more line in the chunk, after room was made in it
pub chunk_more : (before held out now new line : List ℕ) → out ++ now ≡ before ++ held → new ≡ now ++ line → out ++ new ≡ (before ++ held) ++ line
chunk_more before held out now new line same more =
    ap (λ (t : List ℕ). out ++ t) more ∙ sym (append_assoc out now line) ∙ ap (λ (t : List ℕ). t ++ line) same
