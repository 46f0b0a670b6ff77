-- The lines of a header that declare elements and their properties (PLY 1.0).
use Rattle.std.specs.Prelude.{ℕ, ◌&&◌, Bool, true, false, List, [], ◌∷◌, Option, None, Some, codes, if◌then◌else◌}
use Rattle.std.specs.Str.{bytes_eq}
use Rattle.ply_text.specs.declared.words.Keyword.{Keyword}
use Rattle.ply_text.specs.declared.words.Keyword.TheVariants.{Other}
use Rattle.ply_text.specs.Numbers.{is_digits}
use Rattle.ply_text.specs.Words.{keyword_of}

-- `ply` alone
unfoldable pub is_magic : List (List ℕ) → Bool
is_magic (word ∷ []) = bytes_eq word (codes "ply")
is_magic _ = false

-- `format ascii 1.0`
unfoldable pub is_format : List (List ℕ) → Bool
is_format (word ∷ form ∷ version ∷ []) = bytes_eq word (codes "format") && bytes_eq form (codes "ascii") && bytes_eq version (codes "1.0")
is_format _ = false

-- what the first word of a line says; a line without tokens says nothing
abbrev pub keyword_at : List (List ℕ) → Keyword
keyword_at [] = Other
keyword_at (word ∷ _) = keyword_of word

-- a word alone
abbrev pub is_alone : List (List ℕ) → Bool
is_alone (_ ∷ []) = true
is_alone _ = false

-- `element NAME N`: the name, and the number's digits
unfoldable pub element_of : List (List ℕ) → Option (List ℕ × List ℕ)
element_of (_ ∷ name ∷ number ∷ []) = if is_digits number then Some (name, number) else None
element_of _ = None

-- a property of lists
unfoldable pub is_list : List (List ℕ) → Bool
is_list (_ ∷ word ∷ _) = bytes_eq word (codes "list")
is_list _ = false

-- `property TYPE NAME`
unfoldable pub scalar_of : List (List ℕ) → Option (List ℕ × List ℕ)
scalar_of (_ ∷ type ∷ name ∷ []) = Some (type, name)
scalar_of _ = None

-- `property list CTYPE ITYPE NAME`
unfoldable pub list_of : List (List ℕ) → Option (List ℕ × List ℕ × List ℕ)
list_of (_ ∷ _ ∷ ctype ∷ itype ∷ name ∷ []) = Some (ctype, itype, name)
list_of _ = None
