-- The numbers of ASCII PLY text (PLY 1.0; leading zeros and -0 are accepted by this project's choice).
use Rattle.std.specs.Prelude.{ℕ, ◌+◌, ◌-◌, ◌*◌, ◌&&◌, Bool, List, [], ◌∷◌, length, fold, ℤ, pos, neg_ℤ, Option, None, Some}
use Rattle.std.specs.Prelude.{option_map, option_and_then, nat_lt, nat_le, int_le, ◌==◌, if◌then◌else◌}
use Rattle.std.specs.List.{list_all}

-- a decimal digit
abbrev pub is_digit : ℕ → Bool
is_digit c = nat_le 48 c && nat_le c 57

-- digits alone, one or more
unfoldable pub is_digits : List ℕ → Bool
is_digits token = nat_lt 0 (length token) && list_all is_digit token

-- the number that digits write
unfoldable pub digits_value : List ℕ → ℕ
digits_value digits = fold (λ n c. n * 10 + (c - 48)) 0 digits

-- the number of a token of digits alone, however many they are
unfoldable pub natural_of : List ℕ → Option ℕ
natural_of token = if is_digits token then Some (digits_value token) else None

-- the number of a token of digits alone, or of - and digits
unfoldable pub integer_of : List ℕ → Option ℤ
integer_of [] = None
integer_of (c ∷ cs) = if c == 45 then option_map (λ n. neg_ℤ (pos n)) (natural_of cs) else option_map pos (natural_of (c ∷ cs))

-- the value, if it passes the test
abbrev pub only_if : {A : Type 0} → (A → Bool) → Option A → Option A
only_if test None = None
only_if test (Some x) = if test x then Some x else None

-- the number of a token of digits alone that is at most `most`
unfoldable pub natural_within : ℕ → List ℕ → Option ℕ
natural_within most token = only_if (λ n. nat_le n most) (natural_of token)

-- a number from -below up to most
abbrev pub is_between : ℕ → ℕ → ℤ → Bool
is_between below most v = int_le (neg_ℤ (pos below)) v && int_le v (pos most)

-- a hexadecimal digit of either case, and its value
abbrev pub hex_value : ℕ → Option ℕ
hex_value c =
    if nat_le 48 c && nat_le c 57 then Some (c - 48)
    else (if nat_le 97 c && nat_le c 102 then Some (c - 87)
    else (if nat_le 65 c && nat_le c 70 then Some (c - 55) else None))

-- the number that hexadecimal digits write when they follow those of n
abbrev pub hex_after : ℕ → List ℕ → Option ℕ
hex_after n [] = Some n
hex_after n (c ∷ cs) = option_and_then (λ d. hex_after (n * 16 + d) cs) (hex_value c)

-- a bit pattern of 32 bits: eight hexadecimal digits
unfoldable pub pattern_of : List ℕ → Option ℕ
pattern_of token = if length token == 8 then hex_after 0 token else None

-- the number of the first token, and the tokens after it
abbrev pub first_integer : List (List ℕ) → Option (ℤ × List (List ℕ))
first_integer [] = None
first_integer (token ∷ tokens) = option_map (λ v. (v, tokens)) (integer_of token)
