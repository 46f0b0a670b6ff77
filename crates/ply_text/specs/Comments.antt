-- The comment lines of a header that describe attributes (this project's choice; the numbers follow
-- the Draco Bitstream Specification 2.2, attribute decoders).
use Rattle.std.specs.Prelude.{ℕ, zero, suc, ◌-◌, ◌^◌, ◌&&◌, Bool, false, List, [], ◌∷◌, length, Option, None, Some}
use Rattle.std.specs.Prelude.{option_and_then, codes, is_none, ◌==◌, slice_get, nat_le}
use Rattle.std.specs.Str.{bytes_eq}
use Rattle.attr_heads.specs.declared.heads.Head.{Head}
use Rattle.attr_heads.specs.declared.quants.Quant.{Quant}
use Rattle.attr_heads.specs.Usages.{is_usage}
use Rattle.attr_heads.specs.DataTypes.{is_type, is_float}
use Rattle.attr_heads.specs.Head.{has_comps}
use Rattle.attr_heads.specs.Quants.{are_quant_bits}
use Rattle.attr_heads.specs.Octahedra.{are_octahedral_bits}
use Rattle.attr_heads.specs.declared.octahedra.TheConstants.{OCTAHEDRAL_INTEGERS, OCTAHEDRAL_SINCE}
use Rattle.ply_text.specs.Numbers.{natural_within, only_if, pattern_of}

infixl 10 ◌>>=◌
abbrev pub ◌>>=◌ : {A B : Type 0} → Option A → (A → Option B) → Option B
o >>= f = option_and_then f o

-- a line that begins with a comment's word, `drc` and this form
unfoldable pub is_form : List ℕ → List (List ℕ) → Bool
is_form form (word ∷ drc ∷ second ∷ _) = bytes_eq drc (codes "drc") && bytes_eq second form
is_form form _ = false

-- the byte that a token of digits alone writes
abbrev pub byte_of : List ℕ → Option ℕ
byte_of token = natural_within 255 token

-- the attribute that the fields of its line give: its number is the one that is due
unfoldable pub head_of : ℕ → List ℕ → List ℕ → List ℕ → List ℕ → List ℕ → List ℕ → Option Head
head_of number k usage dtype comps normalized id = do
  _ ← only_if (λ n. n == number) (natural_within 15 k)
  u ← only_if is_usage (byte_of usage)
  d ← only_if is_type (byte_of dtype)
  c ← only_if has_comps (byte_of comps)
  flag ← byte_of normalized
  i ← natural_within (2 ^ 32 - 1) id
  Some (record { usage = u; dtype = d; comps = c; normalized = flag; id = i; quant = None; octa = None })

-- `comment drc attr k usage dtype comps normalized id`
unfoldable pub attr_of : ℕ → List (List ℕ) → Option Head
attr_of number (_ ∷ _ ∷ _ ∷ k ∷ usage ∷ dtype ∷ comps ∷ normalized ∷ id ∷ []) = head_of number k usage dtype comps normalized id
attr_of number _ = None

-- each token a bit pattern
abbrev pub patterns_of : List (List ℕ) → Option (List ℕ)
patterns_of [] = Some []
patterns_of (token ∷ tokens) = do
  first ← pattern_of token
  others ← patterns_of tokens
  Some (first ∷ others)

-- a head that no line says more of: it has neither a quantisation nor a square
abbrev pub is_bare : Head → Bool
is_bare head = is_none head.quant && is_none head.octa

-- the quantisation of a head: bits, range, and a minimum for each component
unfoldable pub fields_of : Head → List ℕ → List ℕ → List (List ℕ) → Option Quant
fields_of head bits range minima = do
  b ← only_if are_quant_bits (byte_of bits)
  r ← pattern_of range
  m ← only_if (λ min. is_bare head && length min == head.comps) (patterns_of minima)
  Some (record { bits = b; range = r; min = m })

-- `comment drc quant k bits range min ..`: the number of a head that is bare so far, and its quantisation
unfoldable pub quant_of : List Head → List (List ℕ) → Option (ℕ × Quant)
quant_of heads (_ ∷ _ ∷ _ ∷ k ∷ bits ∷ range ∷ minima) = do
  n ← natural_within 15 k
  head ← slice_get heads n
  q ← fields_of head bits range minima
  Some (n, q)
quant_of heads _ = None

-- head n with this quantisation
abbrev pub with_quant : ℕ → Quant → List Head → List Head
with_quant n q [] = []
with_quant zero q (head ∷ heads) = record head { quant = Some q } ∷ heads
with_quant (suc n) q (head ∷ heads) = head ∷ with_quant n q heads

-- a comment of a square, in a profile that has octahedral attributes
abbrev pub is_octa : ℕ → List (List ℕ) → Bool
is_octa profile line = nat_le OCTAHEDRAL_SINCE profile && is_form (codes "octa") line

-- a head may be given a square: it is bare, of floats, and has the two coordinates
abbrev pub takes_square : Head → Bool
takes_square head = is_bare head && (is_float head.dtype && head.comps == OCTAHEDRAL_INTEGERS)

-- the bits of the square of a head
unfoldable pub square_of : Head → List ℕ → Option ℕ
square_of head bits = only_if (λ b. takes_square head && are_octahedral_bits b) (byte_of bits)

-- `comment drc octa k bits`: the number of a head that may be given a square, and the bits of its coordinates
unfoldable pub octa_of : List Head → List (List ℕ) → Option (ℕ × ℕ)
octa_of heads (_ ∷ _ ∷ _ ∷ k ∷ bits ∷ []) = do
  n ← natural_within 15 k
  head ← slice_get heads n
  b ← square_of head bits
  Some (n, b)
octa_of heads _ = None

-- head n with a square of so many bits
abbrev pub with_octa : ℕ → ℕ → List Head → List Head
with_octa n bits [] = []
with_octa zero bits (head ∷ heads) = record head { octa = Some bits } ∷ heads
with_octa (suc n) bits (head ∷ heads) = head ∷ with_octa n bits heads
