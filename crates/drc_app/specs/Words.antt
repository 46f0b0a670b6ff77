-- Tables of words (this project's choice).
use Rattle.std.specs.Prelude.{ℕ, List, map, Option}
use Rattle.std.specs.Map.{lookup}
use Rattle.std.specs.Str.{bytes_eq}

-- a table: rows of a word and what it names
abbrev pub Words : Type 0 → Type 0
Words A = List (List ℕ × A)

-- the table of these values, each with its word
abbrev pub word_rows : {A : Type 0} → (A → List ℕ) → List A → Words A
word_rows word all = map (λ x. (word x, x)) all

-- the same words, each naming what is made of its value
abbrev pub naming : {A B : Type 0} → (A → B) → Words A → Words B
naming f rows = map (λ row. (row.0, f row.1)) rows

-- what a word names: the value of the first row of this word
abbrev pub value_named : {A : Type 0} → Words A → List ℕ → Option A
value_named rows w = lookup (bytes_eq w) rows
