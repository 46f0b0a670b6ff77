-- What the table of data types says of their bytes.
use Rattle.std.proofs.Common.{◌≡◌, ℕ, ◌≤◌, ◌==◌, true, false, not, pos, negsuc, ◌≤ℤ◌, List, [], ◌∷◌, Option, None, Some, find, is_some, refl, sym, ap, ◌∙◌, inl, inr, arith}
use Rattle.std.proofs.lemmas.Int.{ints}
use Rattle.std.specs.Prelude.{unwrap_or}
use Rattle.std.proofs.lemmas.Bool.{eqb-true, cases_Bool, cond-true, cond-false}
use Rattle.attr_heads.specs.declared.data_types.DataType.{DataType}
use Rattle.attr_heads.specs.declared.data_types.DataType.TheVariants.{Int8, Uint8, Int16, Uint16, Int32, Uint32, Float32}
use Rattle.attr_heads.specs.declared.quants.Quant.{Quant}
use Rattle.attr_heads.specs.DataTypes.{byte_of, data_types, type_of, is_type, float_in, integer_in, is_float, is_integer, least_in, greatest_in, least_of, greatest_of}
use Rattle.attr_heads.specs.Head.{has_type}

-- a type that isn't one of floats is one of integers
pub integer_type : (dtype : ℕ) → is_type dtype ≡ true → is_float dtype ≡ false → is_integer dtype ≡ true
integer_type dtype is other = go (type_of dtype) is other where
  go : (t : Option DataType) → is_some t ≡ true → float_in t ≡ false → integer_in t ≡ true
  go None some other = cc
  go (Some t) some other = ap not other

-- and one of integers isn't one of floats
pub integer_no_float : (dtype : ℕ) → is_integer dtype ≡ true → is_float dtype ≡ false
integer_no_float dtype is = go (type_of dtype) is where
  go : (t : Option DataType) → integer_in t ≡ true → float_in t ≡ false
  go None is = refl
  go (Some Int8) is = refl
  go (Some Uint8) is = refl
  go (Some Int16) is = refl
  go (Some Uint16) is = refl
  go (Some Int32) is = refl
  go (Some Uint32) is = refl
  go (Some Float32) is = cc

-- the type of an attribute that has what is due of a quantisation and a square is accepted
pub type_passes : (dtype : ℕ) (quant : Option Quant) (octa : Option ℕ) → has_type dtype quant octa ≡ true → is_type dtype ≡ true
type_passes dtype None None is = integer_is (type_of dtype) is where
  integer_is : (t : Option DataType) → integer_in t ≡ true → is_some t ≡ true
  integer_is None is = cc
  integer_is (Some t) is = refl
type_passes dtype None (Some bits) is = float_is (type_of dtype) is where
  float_is : (t : Option DataType) → float_in t ≡ true → is_some t ≡ true
  float_is None is = cc
  float_is (Some t) is = refl
type_passes dtype (Some q) None is = float_is (type_of dtype) is where
  float_is : (t : Option DataType) → float_in t ≡ true → is_some t ≡ true
  float_is None is = cc
  float_is (Some t) is = refl
type_passes dtype (Some q) (Some bits) is = cc

-- what is found has the byte that was looked for
found_byte : (ts : List DataType) (dtype : ℕ) (t : DataType) → find (λ u. byte_of u == dtype) ts ≡ Some t → byte_of t ≡ dtype
found_byte [] dtype t e = cc
found_byte (u ∷ ts) dtype t e = elim (cases_Bool (byte_of u == dtype)) [
  | inl is ↦ ap (λ (o : Option DataType). byte_of (unwrap_or o u)) (sym (sym (cond-true _ _ _ is) ∙ e)) ∙ eqb-true (byte_of u) dtype is
  | inr not_it ↦ found_byte ts dtype t (sym (cond-false _ _ _ not_it) ∙ e)
]

byte_few : (t : DataType) → byte_of t ≤ 9
byte_few Int8 = omega arith
byte_few Uint8 = omega arith
byte_few Int16 = omega arith
byte_few Uint16 = omega arith
byte_few Int32 = omega arith
byte_few Uint32 = omega arith
byte_few Float32 = omega arith

-- the bytes of accepted types are at most 9
pub type_few : (dtype : ℕ) → is_type dtype ≡ true → dtype ≤ 9
type_few dtype is = go (type_of dtype) refl is where
  go : (t : Option DataType) → type_of dtype ≡ t → is_some t ≡ true → dtype ≤ 9
  go None e some = cc
  go (Some t) e some = omega (arith, byte_few t, found_byte data_types dtype t e)

-- the integers of all data types lie in 32 bits
pub least_low : (dtype : ℕ) → negsuc 2147483647 ≤ℤ least_of dtype
least_low dtype = go (type_of dtype) where
  go : (t : Option DataType) → negsuc 2147483647 ≤ℤ least_in t
  go None = omega (arith, ints)
  go (Some Int8) = omega (arith, ints)
  go (Some Uint8) = omega (arith, ints)
  go (Some Int16) = omega (arith, ints)
  go (Some Uint16) = omega (arith, ints)
  go (Some Int32) = omega (arith, ints)
  go (Some Uint32) = omega (arith, ints)
  go (Some Float32) = omega (arith, ints)

pub greatest_high : (dtype : ℕ) → greatest_of dtype ≤ℤ pos 2147483647
greatest_high dtype = go (type_of dtype) where
  go : (t : Option DataType) → greatest_in t ≤ℤ pos 2147483647
  go None = omega (arith, ints)
  go (Some Int8) = omega (arith, ints)
  go (Some Uint8) = omega (arith, ints)
  go (Some Int16) = omega (arith, ints)
  go (Some Uint16) = omega (arith, ints)
  go (Some Int32) = omega (arith, ints)
  go (Some Uint32) = omega (arith, ints)
  go (Some Float32) = omega (arith, ints)
