-- The PLY text of a geometry, line by line and token by token (PLY 1.0; the comment lines, the order of
-- the lines and the names are this project's choice).
use Rattle.std.specs.Prelude.{ℕ, zero, suc, ◌+◌, ◌/◌, ◌%◌, ◌&&◌, ◌||◌, Bool, not, List, [], ◌∷◌, ◌++◌, length, map, take}
use Rattle.std.specs.Prelude.{flat_map, Option, None, Some, is_none, ℤ, codes, nat_lt, ◌==◌, if◌then◌else◌}
use Rattle.std.specs.List.{list_any}
use Rattle.std.specs.Fmt.{decimal, signed_decimal}
use Rattle.attr_heads.specs.declared.quants.Quant.{Quant}
use Rattle.attr_heads.specs.declared.heads.Head.{Head}
use Rattle.attr_heads.specs.declared.usages.TheConstants.{POSITION, NORMAL, COLOUR, TEXTURE_COORDINATE}
use Rattle.mesh_model.specs.declared.geometries.Geometry.{Geometry}
use Rattle.mesh_model.specs.declared.geometries.Geometry.TheVariants.{Mesh, Cloud}
use Rattle.ply_text.specs.PropertyTypes.{type_word}

-- tokens, each with a space before it
abbrev pub spaced : List (List ℕ) → List ℕ
spaced [] = []
spaced (token ∷ tokens) = (32 ∷ token) ++ spaced tokens

-- what follows the first token of a line: each further token behind a space, and the LF
abbrev pub rest_text : List (List ℕ) → List ℕ
rest_text [] = 10 ∷ []
rest_text (token ∷ tokens) = 32 ∷ (token ++ rest_text tokens)

-- a line of tokens with single spaces between them, and its LF
unfoldable pub line_text : List (List ℕ) → List ℕ
line_text [] = 10 ∷ []
line_text (token ∷ tokens) = token ++ rest_text tokens

-- lines one after another
abbrev pub text_of : List (List (List ℕ)) → List ℕ
text_of lines = flat_map line_text lines

-- ---- heads

-- a hexadecimal digit, in lower case
abbrev pub hex_digit : ℕ → ℕ
hex_digit d = if nat_lt d 10 then 48 + d else 87 + d

-- the last n hexadecimal digits of a number
abbrev pub hex_digits : ℕ → ℕ → List ℕ
hex_digits zero v = []
hex_digits (suc n) v = hex_digits n (v / 16) ++ hex_digit (v % 16) ∷ []

-- a bit pattern of 32 bits
unfoldable pub pattern_text : ℕ → List ℕ
pattern_text v = hex_digits 8 v

-- `comment drc attr k usage dtype comps normalized id`
unfoldable pub attr_line : ℕ → Head → List (List ℕ)
attr_line k h =
    codes "comment" ∷ codes "drc" ∷ codes "attr" ∷ decimal k ∷ decimal h.usage ∷ decimal h.dtype ∷ decimal h.comps
    ∷ decimal h.normalized ∷ decimal h.id ∷ []

-- `comment drc quant k bits range min ..`
unfoldable pub quant_line : ℕ → Quant → List (List ℕ)
quant_line k q = codes "comment" ∷ codes "drc" ∷ codes "quant" ∷ decimal k ∷ decimal q.bits ∷ pattern_text q.range ∷ map pattern_text q.min

abbrev pub quant_lines : ℕ → Option Quant → List (List (List ℕ))
quant_lines k None = []
quant_lines k (Some q) = quant_line k q ∷ []

-- `comment drc octa k bits`
unfoldable pub octa_line : ℕ → ℕ → List (List ℕ)
octa_line k bits = codes "comment" ∷ codes "drc" ∷ codes "octa" ∷ decimal k ∷ decimal bits ∷ []

abbrev pub octa_lines : ℕ → Option ℕ → List (List (List ℕ))
octa_lines k None = []
octa_lines k (Some bits) = octa_line k bits ∷ []

-- the line that says more of head k, where it has a quantisation or a square
abbrev pub detail_lines : ℕ → Head → List (List (List ℕ))
detail_lines k h = quant_lines k h.quant ++ octa_lines k h.octa

-- the lines of heads from number k on
abbrev pub head_lines : ℕ → List Head → List (List (List ℕ))
head_lines k [] = []
head_lines k (h ∷ hs) = (attr_line k h ∷ detail_lines k h) ++ head_lines (k + 1) hs

-- ---- properties

-- a head that may have names of its usage: a position or a normal of three components, a colour of three or four,
-- a texture coordinate of two; never one with a square
abbrev pub may_be_named : Head → Bool
may_be_named h =
    is_none h.octa
    && (((h.usage == POSITION || h.usage == NORMAL) && h.comps == 3)
    || (h.usage == COLOUR && (h.comps == 3 || h.comps == 4)) || (h.usage == TEXTURE_COORDINATE && h.comps == 2))

-- such a head of this usage
abbrev pub takes_names : ℕ → Head → Bool
takes_names usage h = (h.usage == usage) && may_be_named h

-- head k has the names of its usage: it is the first that may
abbrev pub has_usage_names : List Head → ℕ → Head → Bool
has_usage_names heads k h = may_be_named h && not (list_any (takes_names h.usage) (take k heads))

-- the j-th name of a usage
unfoldable pub usage_name : ℕ → ℕ → List ℕ
usage_name usage j =
    if usage == POSITION then (if j == 0 then codes "x" else (if j == 1 then codes "y" else codes "z"))
    else (if usage == NORMAL then (if j == 0 then codes "nx" else (if j == 1 then codes "ny" else codes "nz"))
    else (if usage == COLOUR
    then (if j == 0 then codes "red" else (if j == 1 then codes "green" else (if j == 2 then codes "blue" else codes "alpha")))
    else (if j == 0 then codes "s" else codes "t")))

-- component j of head k without a name of its usage
abbrev pub plain_name : ℕ → ℕ → List ℕ
plain_name k j = (97 ∷ decimal k) ++ (95 ∷ decimal j)

-- the name of component j of head k
abbrev pub name_at : Bool → ℕ → ℕ → ℕ → List ℕ
name_at named k usage j = if named then usage_name usage j else plain_name k j

-- `property TYPE NAME`
unfoldable pub property_line : ℕ → List ℕ → List (List ℕ)
property_line dtype name = codes "property" ∷ type_word dtype ∷ name ∷ []

-- n components of head k, from component j on
abbrev pub component_lines : Bool → ℕ → Head → ℕ → ℕ → List (List (List ℕ))
component_lines named k h j zero = []
component_lines named k h j (suc n) = property_line h.dtype (name_at named k h.usage j) ∷ component_lines named k h (j + 1) n

-- the properties of heads from number k on, which are among all heads
abbrev pub property_lines : List Head → ℕ → List Head → List (List (List ℕ))
property_lines heads k [] = []
property_lines heads k (h ∷ hs) = component_lines (has_usage_names heads k h) k h 0 h.comps ++ property_lines heads (k + 1) hs

-- ---- the whole text

-- `element NAME N`
unfoldable pub element_line : List ℕ → ℕ → List (List ℕ)
element_line name n = codes "element" ∷ name ∷ decimal n ∷ []

abbrev pub first_lines : List (List (List ℕ))
first_lines = (codes "ply" ∷ []) ∷ (codes "format" ∷ codes "ascii" ∷ codes "1.0" ∷ []) ∷ []

-- the header up to the properties of a point
abbrev pub points_header : List Head → ℕ → List (List (List ℕ))
points_header heads points =
    first_lines ++ head_lines 0 heads ++ (element_line (codes "vertex") points ∷ []) ++ property_lines heads 0 heads

-- the property of a face
abbrev pub list_line : List (List ℕ)
list_line = codes "property" ∷ codes "list" ∷ codes "uchar" ∷ codes "int" ∷ codes "vertex_indices" ∷ []

-- the faces' part of the header
abbrev pub faces_header : ℕ → List (List (List ℕ))
faces_header faces = element_line (codes "face") faces ∷ list_line ∷ []

abbrev pub last_line : List (List (List ℕ))
last_line = (codes "end_header" ∷ []) ∷ []

-- a point, and a face behind its count
abbrev pub point_lines : List (List ℤ) → List (List (List ℕ))
point_lines points = map (λ row. map signed_decimal row) points

unfoldable pub face_line : List ℕ → List (List ℕ)
face_line face = (51 ∷ []) ∷ map decimal face

abbrev pub face_lines : List (List ℕ) → List (List (List ℕ))
face_lines faces = map face_line faces

abbrev pub ply_lines : Geometry → List (List (List ℕ))
ply_lines (Mesh m) =
    points_header m.heads (length m.points) ++ faces_header (length m.faces) ++ last_line ++ point_lines m.points ++ face_lines m.faces
ply_lines (Cloud c) = points_header c.heads (length c.points) ++ last_line ++ point_lines c.points

-- the text of a geometry
unfoldable pub ply_text : Geometry → List ℕ
ply_text g = text_of (ply_lines g)
