-- The header of a PLY text as a shape of its lines (PLY 1.0, in this project's profile): which lines stand where, and what
-- they say, of the whole list of lines at once. Nothing is said here of how they are read.
use Rattle.std.specs.Prelude.{ℕ, ◌≡◌, ◌<◌, ◌≤◌, ◌+◌, ◌*◌, ◌^◌, ◌++◌, ◌&&◌, ◌||◌, ◌==◌, Bool, false, not, IsTrue, List, [], ◌∷◌, length}
use Rattle.std.specs.Prelude.{Option, None, Some, All, codes, nat_le, slice_get, slice_index_or}
use Rattle.std.specs.List.{AllZip, filter}
use Rattle.std.specs.Str.{bytes_eq}
use Rattle.drc_base.specs.declared.limits.TheConstants.{MAX_POINTS, MAX_FACES, MAX_ATTRIBUTES, MAX_VALUES}
use Rattle.ply_text.specs.declared.headers.Header.{Header}
use Rattle.attr_heads.specs.declared.heads.Head.{Head}
use Rattle.attr_heads.specs.declared.quants.Quant.{Quant}
use Rattle.attr_heads.specs.Usages.{is_usage}
use Rattle.attr_heads.specs.DataTypes.{is_type, is_float}
use Rattle.attr_heads.specs.Head.{has_comps}
use Rattle.attr_heads.specs.declared.octahedra.TheConstants.{OCTAHEDRAL_SINCE}
use Rattle.ply_text.specs.Draft.{PropertyParts}
use Rattle.ply_text.specs.Header.{column_types, is_head_typed, property_types}
use Rattle.ply_text.specs.IsHeader.{QuantFits, SquareFits}
use Rattle.ply_text.specs.Numbers.{is_digits, digits_value, pattern_of}
use Rattle.ply_text.specs.Words.{is_indices}
use Rattle.ply_text.specs.PropertyTypes.{type_of}
use Rattle.laws_text.specs.NameShape.{NamesGive}

-- a line, by its tokens
abbrev pub Line : Type 0
Line = List (List ℕ)

-- the token is digits alone, and they write n
abbrev pub writes : ℕ → List ℕ → Bool
writes n token = is_digits token && (digits_value token == n)

abbrev pub Writes : ℕ → List ℕ → Type 0
Writes n token = IsTrue (writes n token)

-- the token is eight hexadecimal digits, and they write n
abbrev pub WritesPattern : ℕ → List ℕ → Type 0
WritesPattern n token = pattern_of token ≡ Some n

-- ---- elements and properties

-- `element NAME N`
pub record IsElement (name : List ℕ) (n : ℕ) (line : Line) : Type 0 where
  pub number : List ℕ
  pub form : line ≡ codes "element" ∷ name ∷ number ∷ []
  pub says : Writes n number

-- `property TYPE NAME`
pub record IsProperty (p : PropertyParts) (line : Line) : Type 0 where
  pub word : List ℕ
  pub form : line ≡ codes "property" ∷ word ∷ p.name ∷ []
  pub says : type_of word ≡ Some p.dtype

-- `property list CTYPE ITYPE vertex_indices`, or `vertex_index`
pub record IsListProperty (types : ℕ × ℕ) (line : Line) : Type 0 where
  pub count : List ℕ
  pub index : List ℕ
  pub name : List ℕ
  pub form : line ≡ codes "property" ∷ codes "list" ∷ count ∷ index ∷ name ∷ []
  pub counts : type_of count ≡ Some types.0
  pub indices : type_of index ≡ Some types.1
  pub named : IsTrue (is_indices name)

-- the two lines that declare m faces and the types of their lists
pub record DeclareFaces (m : ℕ) (types : ℕ × ℕ) (lines : List Line) : Type 0 where
  pub element : Line
  pub property : Line
  pub order : lines ≡ element ∷ property ∷ []
  pub faces : IsElement (codes "face") m element
  pub few : m ≤ MAX_FACES
  pub list : IsListProperty types property

-- what is declared of faces: nothing in a cloud, an element with its one list in a mesh
abbrev pub MayDeclareFaces : Option ℕ → Option (ℕ × ℕ) → List Line → Type 0
MayDeclareFaces None None lines = lines ≡ []
MayDeclareFaces None (Some types) lines = ⊥
MayDeclareFaces (Some m) None lines = ⊥
MayDeclareFaces (Some m) (Some types) lines = DeclareFaces m types lines

-- `format ascii 1.0`
abbrev pub format_line : Line
format_line = codes "format" ∷ codes "ascii" ∷ codes "1.0" ∷ []

-- the lines are the format's, that of n points, those of their properties, and then those of faces
pub record Declare (n : ℕ) (properties : List PropertyParts) (faces : Option ℕ) (list : Option (ℕ × ℕ)) (lines : List Line) : Type 0 where
  pub vertex : Line
  pub columns : List Line
  pub mesh : List Line
  pub order : lines ≡ format_line ∷ vertex ∷ (columns ++ mesh)
  pub points : IsElement (codes "vertex") n vertex
  pub few : n ≤ MAX_POINTS
  pub some : 1 ≤ length properties
  pub each : AllZip IsProperty properties columns
  pub rest : MayDeclareFaces faces list mesh

-- ---- comments

-- `comment ..` or `obj_info ..`
abbrev pub is_comment : Line → Bool
is_comment [] = false
is_comment (word ∷ tokens) = bytes_eq word (codes "comment") || bytes_eq word (codes "obj_info")

-- any other line
abbrev pub is_declaration : Line → Bool
is_declaration line = not (is_comment line)

-- `comment drc FORM ..`
abbrev pub has_form : List ℕ → Line → Bool
has_form form [] = false
has_form form (word ∷ []) = false
has_form form (word ∷ drc ∷ []) = false
has_form form (word ∷ drc ∷ second ∷ tokens) = bytes_eq word (codes "comment") && (bytes_eq drc (codes "drc") && bytes_eq second form)

-- `comment drc attr ..`
abbrev pub is_attr : Line → Bool
is_attr line = has_form (codes "attr") line

-- `comment drc quant ..`
abbrev pub is_quant : Line → Bool
is_quant line = has_form (codes "quant") line

-- `comment drc octa ..`, in a profile that has octahedral attributes
abbrev pub is_octa : ℕ → Line → Bool
is_octa profile line = nat_le OCTAHEDRAL_SINCE profile && has_form (codes "octa") line

-- a line that says more of a head
abbrev pub is_detail : ℕ → Line → Bool
is_detail profile line = is_quant line || is_octa profile line

-- a line that says more of head k: `comment drc quant k ..` or `comment drc octa k ..`
abbrev pub is_detail_of : ℕ → ℕ → Line → Bool
is_detail_of profile k line = is_detail profile line && writes k (slice_index_or line 3 [])

-- `comment drc attr k usage dtype comps normalized id`: it gives all of head k but its quantisation and its square
pub record IsAttrLine (k : ℕ) (head : Head) (line : Line) : Type 0 where
  pub numbers : List (List ℕ)
  pub form : line ≡ codes "comment" ∷ codes "drc" ∷ codes "attr" ∷ numbers
  pub say : AllZip Writes (k ∷ head.usage ∷ head.dtype ∷ head.comps ∷ head.normalized ∷ head.id ∷ []) numbers
  pub usage : IsTrue (is_usage head.usage)
  pub dtype : IsTrue (is_type head.dtype)
  pub comps : IsTrue (has_comps head.comps)
  pub flag : head.normalized < 2 ^ 8
  pub id : head.id < 2 ^ 32

-- `comment drc quant k bits range min ..`: it gives the quantisation of head k, which has `comps` components
pub record IsQuantLine (k comps : ℕ) (q : Quant) (line : Line) : Type 0 where
  pub number : List ℕ
  pub bits : List ℕ
  pub range : List ℕ
  pub minima : List (List ℕ)
  pub form : line ≡ codes "comment" ∷ codes "drc" ∷ codes "quant" ∷ number ∷ bits ∷ range ∷ minima
  pub head : Writes k number
  pub says_bits : Writes q.bits bits
  pub says_range : WritesPattern q.range range
  pub says_minima : AllZip WritesPattern q.min minima
  pub fits : QuantFits comps q

-- `comment drc octa k bits`, in a profile that has octahedral attributes: it gives the square of head k, which is of floats
pub record IsOctaLine (profile k dtype comps bits : ℕ) (line : Line) : Type 0 where
  pub since : OCTAHEDRAL_SINCE ≤ profile
  pub number : List ℕ
  pub written : List ℕ
  pub form : line ≡ codes "comment" ∷ codes "drc" ∷ codes "octa" ∷ number ∷ written ∷ []
  pub head : Writes k number
  pub says_bits : Writes bits written
  pub float : IsTrue (is_float dtype)
  pub fits : SquareFits comps bits

-- the attr lines, in their order, give the heads from number k on
abbrev pub AreAttrLines : ℕ → List Head → List Line → Type 0
AreAttrLines k [] [] = Unit {0}
AreAttrLines k [] (line ∷ lines) = ⊥
AreAttrLines k (head ∷ heads) [] = ⊥
AreAttrLines k (head ∷ heads) (line ∷ lines) = IsAttrLine k head line × AreAttrLines (k + 1) heads lines

-- the lines that say more of one head: none if it has neither a quantisation nor a square, else the one that gives it; no head
-- has both
abbrev pub AreDetailLines : ℕ → ℕ → ℕ → ℕ → Option Quant → Option ℕ → List Line → Type 0
AreDetailLines profile k dtype comps None None lines = lines ≡ []
AreDetailLines profile k dtype comps (Some q) None lines = (line : Line) × (lines ≡ line ∷ []) × IsQuantLine k comps q line
AreDetailLines profile k dtype comps None (Some bits) lines =
    (line : Line) × (lines ≡ line ∷ []) × IsOctaLine profile k dtype comps bits line
AreDetailLines profile k dtype comps (Some q) (Some bits) lines = ⊥

-- in the profile of this number the comments among these lines describe these heads: there is an attr line for each, in order; a
-- quant line for each head that is quantised, an octa line for each that has a square, and no other of these; and each quant and
-- octa line stands somewhere behind the attr line of its head
pub record Describe (profile : ℕ) (heads : List Head) (lines : List Line) : Type 0 where
  pub attrs : AreAttrLines 0 heads (filter is_attr lines)
  pub details : (k : ℕ) (head : Head) → slice_get heads k ≡ Some head
      → AreDetailLines profile k head.dtype head.comps head.quant head.octa (filter (is_detail_of profile k) lines)
  pub behind : (before after : List Line) (line : Line) → lines ≡ before ++ line ∷ after → IsTrue (is_detail profile line) →
      (k : ℕ) × IsTrue (is_detail_of profile k line) × (k < length (filter is_attr before))

-- ---- the header

-- the heads of a header: those that its comments describe; where they describe none, those that the names of its properties give
abbrev pub AreHeads : List Head → List PropertyParts → List Head → Type 0
AreHeads [] properties heads = NamesGive 0 properties heads
AreHeads (head ∷ described) properties heads = heads ≡ head ∷ described

-- these lines, from `ply` to `end_header`, are a header in the profile of this number, and it says h. Of the lines between, those that
-- are no comments declare the points with their properties, and the faces; the comments, wherever they stand, describe attributes or say
-- nothing. The heads have the types of the properties, each head's components in a row, and all is within the limits
pub record IsHeaderOf (profile : ℕ) (h : Header) (lines : List Line) : Type 0 where
  pub between : List Line
  pub whole : lines ≡ (codes "ply" ∷ []) ∷ (between ++ (codes "end_header" ∷ []) ∷ [])
  pub properties : List PropertyParts
  pub described : List Head
  pub declared : Declare h.vertices properties h.faces h.list (filter is_declaration between)
  pub describe : Describe profile described between
  pub heads : AreHeads described properties h.heads
  pub few : length h.heads ≤ MAX_ATTRIBUTES
  pub types : h.types ≡ property_types properties
  pub columns : column_types h.heads ≡ h.types
  pub typed : All (λ head. IsTrue (is_head_typed head)) h.heads
  pub values : h.vertices * length h.types ≤ MAX_VALUES
  pub body : h.body_line ≡ length lines + 1

-- the lines begin with a header of this profile that says h, whatever follows it
pub record BeginWithHeader (profile : ℕ) (h : Header) (lines : List Line) : Type 0 where
  pub header : List Line
  pub rest : List Line
  pub cut : lines ≡ header ++ rest
  pub is : IsHeaderOf profile h header
