-- The types of properties of integers, each by its row of one table (PLY 1.0; which word is written, and that floats stand as
-- integers of 32 bits, is this project's choice).
use Rattle.std.specs.Prelude.{ℕ, ◌==◌, ◌||◌, Bool, List, [], ◌∷◌, codes, find, Option, option_map, unwrap_or, if◌then◌else◌}
use Rattle.std.specs.Str.{bytes_eq}
use Rattle.attr_heads.specs.declared.data_types.DataType.{DataType}
use Rattle.attr_heads.specs.declared.data_types.DataType.TheVariants as data_type
use Rattle.attr_heads.specs.DataTypes.{byte_of, is_float}
use Rattle.ply_text.specs.declared.property_types.PropertyType.{PropertyType}
use Rattle.ply_text.specs.declared.property_types.PropertyType.TheVariants.{Char, Uchar, Short, Ushort, Int, Uint}

-- what is known of the type of a property: the data type of its values, the word that is written, and the other word that is read
pub record TypeRow : Type 0 where
  pub dtype : DataType
  pub written : List ℕ
  pub other : List ℕ

abbrev pub type_row : PropertyType → TypeRow
type_row Char = record { dtype = data_type.Int8; written = codes "char"; other = codes "int8" }
type_row Uchar = record { dtype = data_type.Uint8; written = codes "uchar"; other = codes "uint8" }
type_row Short = record { dtype = data_type.Int16; written = codes "short"; other = codes "int16" }
type_row Ushort = record { dtype = data_type.Uint16; written = codes "ushort"; other = codes "uint16" }
type_row Int = record { dtype = data_type.Int32; written = codes "int"; other = codes "int32" }
type_row Uint = record { dtype = data_type.Uint32; written = codes "uint"; other = codes "uint32" }

-- all types
abbrev pub types : List PropertyType
types = Char ∷ Uchar ∷ Short ∷ Ushort ∷ Int ∷ Uint ∷ []

-- the byte of its data type
abbrev pub type_byte : PropertyType → ℕ
type_byte t = byte_of (type_row t).dtype

-- this is one of its words
abbrev pub has_word : PropertyType → List ℕ → Bool
has_word t word = bytes_eq word (type_row t).written || bytes_eq word (type_row t).other

-- the type of a word, and that of the values of a data type, where there is one
abbrev pub type_named : List ℕ → Option PropertyType
type_named word = find (λ t. has_word t word) types

abbrev pub type_having : ℕ → Option PropertyType
type_having dtype = find (λ t. type_byte t == dtype) types

-- the data type that a type word names
unfoldable pub type_of : List ℕ → Option ℕ
type_of word = option_map type_byte (type_named word)

-- the data type of the properties of a head of this type: integers of 32 bits stand for floats
abbrev pub column_type : ℕ → ℕ
column_type dtype = if is_float dtype then byte_of data_type.Int32 else dtype

-- the type word that is written for the properties of a head of this data type
unfoldable pub type_word : ℕ → List ℕ
type_word dtype = (type_row (unwrap_or (type_having (column_type dtype)) Int)).written
