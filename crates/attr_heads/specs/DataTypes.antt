-- The data types of attributes, each by its row of one table (Draco Bitstream Specification 2.2, section "Attributes Decoder"; which
-- are accepted, and which integers, is this project's choice).
use Rattle.std.specs.Prelude.{ℕ, ◌==◌, Bool, true, false, not, ℤ, pos, negsuc, List, [], ◌∷◌, find, Option, None, Some, is_some}
use Rattle.attr_heads.specs.declared.data_types.TypeFacts.{TypeFacts}
use Rattle.attr_heads.specs.declared.data_types.DataType.{DataType}
use Rattle.attr_heads.specs.declared.data_types.DataType.TheVariants.{Int8, Uint8, Int16, Uint16, Int32, Uint32, Float32}

-- what is known of a data type: its byte, whether its values are floats, which integers stand for, and the least and the greatest integer
abbrev pub type_facts : DataType → TypeFacts
type_facts Int8 = record { byte = 1; float = false; least = negsuc 127; greatest = pos 127 }
type_facts Uint8 = record { byte = 2; float = false; least = pos 0; greatest = pos 255 }
type_facts Int16 = record { byte = 3; float = false; least = negsuc 32767; greatest = pos 32767 }
type_facts Uint16 = record { byte = 4; float = false; least = pos 0; greatest = pos 65535 }
type_facts Int32 = record { byte = 5; float = false; least = negsuc 2147483647; greatest = pos 2147483647 }
type_facts Uint32 = record { byte = 6; float = false; least = pos 0; greatest = pos 2147483647 }
type_facts Float32 = record { byte = 9; float = true; least = negsuc 2147483647; greatest = pos 2147483647 }

-- all data types
abbrev pub data_types : List DataType
data_types = Int8 ∷ Uint8 ∷ Int16 ∷ Uint16 ∷ Int32 ∷ Uint32 ∷ Float32 ∷ []

-- the byte of a data type in a stream
abbrev pub byte_of : DataType → ℕ
byte_of t = (type_facts t).byte

-- the data type of a byte, where there is one
abbrev pub type_of : ℕ → Option DataType
type_of dtype = find (λ t. byte_of t == dtype) data_types

-- a byte is that of an accepted data type
abbrev pub is_type : ℕ → Bool
is_type dtype = is_some (type_of dtype)

-- what a table says of the floats, the least and the greatest integer of a type that may be missing
abbrev pub float_in : Option DataType → Bool
float_in None = false
float_in (Some t) = (type_facts t).float

abbrev pub integer_in : Option DataType → Bool
integer_in None = false
integer_in (Some t) = not (type_facts t).float

abbrev pub least_in : Option DataType → ℤ
least_in None = pos 0
least_in (Some t) = (type_facts t).least

abbrev pub greatest_in : Option DataType → ℤ
greatest_in None = pos 2147483647
greatest_in (Some t) = (type_facts t).greatest

-- a byte is that of a type of floats, or of integers
abbrev pub is_float : ℕ → Bool
is_float dtype = float_in (type_of dtype)

abbrev pub is_integer : ℕ → Bool
is_integer dtype = integer_in (type_of dtype)

-- the least and the greatest integer of an attribute of this type
abbrev pub least_of : ℕ → ℤ
least_of dtype = least_in (type_of dtype)

abbrev pub greatest_of : ℕ → ℤ
greatest_of dtype = greatest_in (type_of dtype)
