-- Sets of bits, with one more number.
use Rattle.std.proofs.Common.{◌≡◌, ℕ, ◌*◌, ◌/◌, ◌%◌, ◌^◌, ◌<◌, List, length, get_or, set, bit_or, w64, sym, ap, ◌∙◌, inl, inr, arith, get_or-set_same, get_or-set_other}
use Rattle.std.specs.Int.{bit_at}
use Rattle.std.proofs.lemmas.Bool.{cases_eq}
use Rattle.std.proofs.lemmas.Nat.Bits.{bit_at_set_same, bit_at_set_other}
use Rattle.mesh_model.specs.BitSet.{HasBit}

-- the words with the bit of a number set
abbrev pub with_bit : List ℕ → ℕ → List ℕ
with_bit words n = set words (n / 64) (bit_or (get_or words (n / 64) 0) (1 * 2 ^ (n % 64) % 2 ^ 64))

pub HasBit-put : (words : List ℕ) (n : ℕ) → n / 64 < length words → HasBit (with_bit words n) n
HasBit-put words n within =
    let index : n % 64 < 64 = omega arith in
    ap (λ word. bit_at word (n % 64)) (get_or-set_same words (n / 64) (bit_or (get_or words (n / 64) 0) (1 * 2 ^ (n % 64) % 2 ^ 64)) 0 within)
    ∙ bit_at_set_same w64 (get_or words (n / 64) 0) (n % 64) index

-- the other numbers stay
pub HasBit-other : (words : List ℕ) (n m : ℕ) → n / 64 < length words → HasBit words m → HasBit (with_bit words n) m
HasBit-other words n m within there =
    let index : n % 64 < 64 = omega arith in
    let word = bit_or (get_or words (n / 64) 0) (1 * 2 ^ (n % 64) % 2 ^ 64) in
    elim (cases_eq (m / 64) (n / 64)) [
      | inl same ↦
          let here : get_or (with_bit words n) (m / 64) 0 ≡ word = ap (λ k. get_or (with_bit words n) k 0) same ∙ get_or-set_same words (n / 64) word 0 within in
          elim (cases_eq (m % 64) (n % 64)) [
            | inl alike ↦ ap (λ w. bit_at w (m % 64)) here ∙ ap (bit_at word) alike ∙ bit_at_set_same w64 (get_or words (n / 64) 0) (n % 64) index
            | inr apart ↦ ap (λ w. bit_at w (m % 64)) here ∙ bit_at_set_other w64 (get_or words (n / 64) 0) (n % 64) index (m % 64) apart
                ∙ ap (λ k. bit_at (get_or words k 0) (m % 64)) (sym same) ∙ there
          ]
      | inr other ↦ ap (λ w. bit_at w (m % 64)) (get_or-set_other words (n / 64) (m / 64) word 0 other) ∙ there
    ]
