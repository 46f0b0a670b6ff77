-- A decimal number in its one spelling at the front of a text (this project's choice).
use Rattle.std.specs.Prelude.{ℕ, ◌≡◌, ◌+◌, ◌-◌, ◌*◌, ◌^◌, ◌≤◌, ◌&&◌, ◌==◌, Bool, List, [], ◌∷◌, length, drop, fold, Option, None, Some}
use Rattle.std.specs.Prelude.{option_map, nat_le, nat_lt, if◌then◌else◌}
use Rattle.std.specs.Fmt.{decimal}
use Rattle.std.specs.Str.{bytes_eq}

-- a decimal digit
abbrev pub is_digit : ℕ → Bool
is_digit c = nat_le 48 c && nat_le c 57

-- the digits at the front of a text
abbrev pub digits_of : List ℕ → List ℕ
digits_of [] = []
digits_of (c ∷ cs) = if is_digit c then c ∷ digits_of cs else []

-- what stands behind these digits
abbrev pub behind_digits : List ℕ → List ℕ
behind_digits [] = []
behind_digits (c ∷ cs) = if is_digit c then behind_digits cs else c ∷ cs

-- the number that digits write when they follow those of n
abbrev pub value_after : ℕ → List ℕ → ℕ
value_after n digits = fold (λ n c. n * 10 + (c - 48)) n digits

-- what stands behind this byte
abbrev pub behind_byte : ℕ → List ℕ → Option (List ℕ)
behind_byte c [] = None
behind_byte c (b ∷ bs) = if b == c then Some bs else None

-- the digits at the front that, behind those of n, write a number below 2^32, and the byte c right behind them: the
-- number, and what stands behind the byte
unfoldable pub digits_then : ℕ → ℕ → List ℕ → Option (ℕ × List ℕ)
digits_then c n text =
    if nat_lt (value_after n (digits_of text)) (2 ^ 32)
    then option_map (λ rest. (value_after n (digits_of text), rest)) (behind_byte c (behind_digits text)) else None

-- whether the digits at the front of a text are the decimal text of their number: one digit or more, with no zero in
-- front of others
abbrev pub is_spelled : List ℕ → Bool
is_spelled text = bytes_eq (decimal (value_after 0 (digits_of text))) (digits_of text)

-- a number below 2^32 in its one spelling, and the byte c right behind it
unfoldable pub number_then : ℕ → List ℕ → Option (ℕ × List ℕ)
number_then c text = if is_spelled text then digits_then c 0 text else None

-- an item that is read at a place of a text, with what stands behind it, is what a call answers with the place behind it
abbrev pub IsReadAt : {A : Type 0} → List ℕ → Option (A × List ℕ) → Option (A × ℕ) → Type 0
IsReadAt text item None = item ≡ None
IsReadAt text item (Some found) = (item ≡ Some (found.0, drop found.1 text)) × (found.1 ≤ length text)
