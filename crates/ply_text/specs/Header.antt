-- The header of a PLY text: a definition on its lines' tokens (PLY 1.0, in this project's profile).
use Rattle.std.specs.Prelude.{ℕ, ◌+◌, ◌*◌, ◌&&◌, ◌||◌, Bool, true, false, not, List, [], ◌∷◌, length, map, replicate, flat_map}
use Rattle.std.specs.Prelude.{None, Result, Ok, nat_lt, is_some, is_none, unwrap_or, if◌then◌else◌}
use Rattle.std.specs.List.{list_all}
use Rattle.std.specs.Str.{bytes_eq}
use Rattle.drc_base.specs.declared.faults.Fault.{Fault}
use Rattle.drc_base.specs.declared.kinds.Kind.TheVariants.{PlyMagic, PlyHeader, PlyElement, PlyAttr, PlyShort, AttrLimit, ValueLimit}
use Rattle.drc_base.specs.declared.limits.TheConstants.{MAX_ATTRIBUTES, MAX_VALUES}
use Rattle.drc_base.specs.declared.profiles.TheConstants.{PROFILE_TWO}
use Rattle.drc_base.specs.Steps.{◌>>=◌}
use Rattle.attr_heads.specs.declared.heads.Head.{Head}
use Rattle.attr_heads.specs.Head.{has_type}
use Rattle.ply_text.specs.declared.headers.Property.{Property}
use Rattle.ply_text.specs.declared.headers.Header.{Header}
use Rattle.ply_text.specs.declared.words.Keyword.{Keyword}
use Rattle.ply_text.specs.declared.words.Keyword.TheVariants as keyword
use Rattle.ply_text.specs.Faults.{refuse}
use Rattle.ply_text.specs.PropertyTypes.{column_type}
use Rattle.ply_text.specs.Tokens.{token_lines}
use Rattle.ply_text.specs.Declarations.{is_magic, keyword_at, is_alone}
use Rattle.ply_text.specs.Draft.{Draft, statement}
use Rattle.ply_text.specs.NamedHeads.{named_heads}

-- the types of the properties that heads have, each head's components in a row
unfoldable pub column_types : List Head → List ℕ
column_types heads = flat_map (λ h. replicate h.comps (column_type h.dtype)) heads

-- a head has a quantisation or a square exactly where its type is that of floats
abbrev pub is_head_typed : Head → Bool
is_head_typed h = has_type h.dtype h.quant h.octa

-- the types of properties, in order
abbrev pub property_types : List Property → List ℕ
property_types properties = map (λ p. p.dtype) properties

-- each element that was declared has its properties
unfoldable pub is_whole : Draft → Bool
is_whole d = is_some d.vertices && nat_lt 0 (length d.properties) && (is_none d.faces || is_some d.list)

-- the attributes: those of the comments, else those that the names give
unfoldable pub heads_of : Draft → List Head
heads_of d = if nat_lt 0 (length d.heads) then d.heads else named_heads 0 0 d.properties

-- heads agree with the properties
unfoldable pub agrees : List Head → List Property → Bool
agrees heads properties = bytes_eq (column_types heads) (property_types properties) && list_all is_head_typed heads

-- the last line: it is alone, nothing is missing, and then the tests of the attributes
unfoldable pub header_by : ℕ → Draft → List Head → Result Header Fault
header_by at d heads =
    if nat_lt MAX_ATTRIBUTES (length heads) then refuse AttrLimit at
    else (if not (agrees heads d.properties) then refuse PlyAttr at
    else (if nat_lt MAX_VALUES (unwrap_or d.vertices 0 * length d.properties) then refuse ValueLimit at
    else Ok (record {
      heads = heads;
      vertices = unwrap_or d.vertices 0;
      faces = d.faces;
      types = property_types d.properties;
      list = d.list;
      body_line = at + 1;
    })))

unfoldable pub ply_header_at : ℕ → Draft → List (List ℕ) → Result Header Fault
ply_header_at at d line =
    if not (is_alone line) then refuse PlyHeader at
    else (if not (is_whole d) then refuse PlyElement at else header_by at d (heads_of d))

abbrev pub is_end_by : Keyword → Bool
is_end_by keyword.EndHeader = true
is_end_by _ = false

-- the line ends the header
abbrev pub ends_header : Draft → List (List ℕ) → Bool
ends_header d line = d.formatted && is_end_by (keyword_at line)

-- the header from line number `at` on, in the profile of this number
abbrev pub header_from : ℕ → ℕ → Draft → List (List (List ℕ)) → Result Header Fault
header_from profile at d [] = refuse PlyShort at
header_from profile at d (line ∷ lines) =
    if ends_header d line then ply_header_at at d line
    else (statement profile at d line >>= λ next. header_from profile (at + 1) next lines)

-- nothing was declared yet
abbrev pub no_draft : Draft
no_draft = record { formatted = false; heads = []; vertices = None; properties = []; faces = None; list = None }

-- the header of lines
abbrev pub header_of_lines : ℕ → List (List (List ℕ)) → Result Header Fault
header_of_lines profile [] = refuse PlyShort 1
header_of_lines profile (first ∷ lines) = if is_magic first then header_from profile 2 no_draft lines else refuse PlyMagic 1

-- the header of a PLY text in the profile of this number, or its first fault
unfoldable pub header_of_in : ℕ → List ℕ → Result Header Fault
header_of_in profile text = header_of_lines profile (token_lines text)

-- the same in the profile for which no other one is chosen
abbrev pub header_of : List ℕ → Result Header Fault
header_of text = header_of_in PROFILE_TWO.number text
