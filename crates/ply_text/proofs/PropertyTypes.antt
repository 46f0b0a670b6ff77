-- What the table of the types of properties says.
use Rattle.std.proofs.Common.{◌≡◌, ℕ, true, List, refl}
use Rattle.std.specs.Prelude.{codes, unwrap_or}
use Rattle.attr_heads.specs.DataTypes.{is_integer}
use Rattle.ply_text.specs.declared.property_types.PropertyType.{PropertyType}
use Rattle.ply_text.specs.declared.property_types.PropertyType.TheVariants.{Char, Uchar, Short, Ushort, Int, Uint}
use Rattle.ply_text.specs.PropertyTypes.{type_row, type_byte, type_having, column_type, type_word}

-- the types of properties are those of integers
pub types_integer : (t : PropertyType) → is_integer (type_byte t) ≡ true
types_integer Char = refl
types_integer Uchar = refl
types_integer Short = refl
types_integer Ushort = refl
types_integer Int = refl
types_integer Uint = refl

-- what holds of the words that are written holds of that of each data type
pub written_word : (P : List ℕ → Type 0) → P (codes "char") → P (codes "uchar") → P (codes "short") → P (codes "ushort") → P (codes "int") → P (codes "uint") → (dtype : ℕ) → P (type_word dtype)
unfolding type_word
written_word P char uchar short ushort int uint dtype = go (unwrap_or (type_having (column_type dtype)) Int) where
  go : (t : PropertyType) → P (type_row t).written
  go Char = char
  go Uchar = uchar
  go Short = short
  go Ushort = ushort
  go Int = int
  go Uint = uint
