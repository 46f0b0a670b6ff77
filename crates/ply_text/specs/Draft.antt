-- What the lines of a header have declared so far, and what one more line adds or which fault it has
-- (PLY 1.0, in this project's profile; the order of the tests is this project's choice).
use Rattle.std.specs.Prelude.{ℕ, ◌++◌, ◌&&◌, Bool, true, List, [], ◌∷◌, length, Option, Some, Result, Ok, codes, nat_le}
use Rattle.std.specs.Prelude.{is_none, is_some, if◌then◌else◌}
use Rattle.std.specs.Str.{bytes_eq}
use Rattle.drc_base.specs.declared.faults.Fault.{Fault}
use Rattle.drc_base.specs.declared.kinds.Kind.TheVariants.{PlyFormat, PlyHeader, PlyType, PlyElement, PlyAttr, PointLimit}
use Rattle.drc_base.specs.declared.kinds.Kind.TheVariants.{FaceLimit, AttrLimit}
use Rattle.drc_base.specs.declared.limits.TheConstants.{MAX_POINTS, MAX_FACES, MAX_ATTRIBUTES}
use Rattle.drc_base.specs.Steps.{◌>>=◌}
use Rattle.attr_heads.specs.declared.heads.Head.{Head}
use Rattle.ply_text.specs.declared.headers.Property.{Property}
use Rattle.ply_text.specs.declared.drafts.HeaderDraft.{HeaderDraft}
use Rattle.ply_text.specs.declared.words.Keyword.{Keyword}
use Rattle.ply_text.specs.declared.words.Keyword.TheVariants as keyword
use Rattle.ply_text.specs.Faults.{refuse, or_refuse}
use Rattle.ply_text.specs.Numbers.{natural_within}
use Rattle.ply_text.specs.Words.{is_indices}
use Rattle.ply_text.specs.PropertyTypes.{type_of}
use Rattle.ply_text.specs.Comments.{is_form, attr_of, quant_of, with_quant, is_octa, octa_of, with_octa}
use Rattle.ply_text.specs.Declarations.{is_format, keyword_at, element_of, is_list, scalar_of, list_of}

-- a property of a point: its data type, and its name
abbrev pub PropertyParts : Type 0
PropertyParts = Property

abbrev pub property : ℕ → List ℕ → PropertyParts
property dtype name = record { dtype = dtype; name = name }

-- what was declared so far
pub record Draft : Type 0 where
  pub formatted : Bool
  pub heads : List Head
  pub vertices : Option ℕ
  pub properties : List Property
  pub faces : Option ℕ
  pub list : Option (ℕ × ℕ)

-- a draft without the room of its lists
abbrev pub draft_of : HeaderDraft → Draft
draft_of d =
    record {
      formatted = d.formatted;
      heads = d.heads.items;
      vertices = d.vertices;
      properties = d.properties.items;
      faces = d.faces;
      list = d.list;
    }

-- between `element vertex` and `element face`
abbrev pub in_vertex : Draft → Bool
in_vertex d = is_some d.vertices && is_none d.faces

-- an `element` line: its form, then its name, then the limit
unfoldable pub element : ℕ → Draft → List (List ℕ) → Result Draft Fault
element at d line = do
  e ← or_refuse PlyHeader at (element_of line)
  if bytes_eq e.0 (codes "vertex") && is_none d.vertices
      then (or_refuse PointLimit at (natural_within MAX_POINTS e.1) >>= λ n. Ok (record d { vertices = Some n }))
      else (if bytes_eq e.0 (codes "face") && in_vertex d
      then (or_refuse FaceLimit at (natural_within MAX_FACES e.1) >>= λ n. Ok (record d { faces = Some n }))
      else refuse PlyElement at)

-- a property of numbers: its form, then its type, then its place
unfoldable pub scalar : ℕ → Draft → List (List ℕ) → Result Draft Fault
scalar at d line = do
  p ← or_refuse PlyHeader at (scalar_of line)
  dtype ← or_refuse PlyType at (type_of p.0)
  if in_vertex d then Ok (record d { properties = d.properties ++ property dtype p.1 ∷ [] }) else refuse PlyElement at

-- a property of lists: its form, then its types, then its place and name
unfoldable pub list : ℕ → Draft → List (List ℕ) → Result Draft Fault
list at d line = do
  p ← or_refuse PlyHeader at (list_of line)
  ctype ← or_refuse PlyType at (type_of p.0)
  itype ← or_refuse PlyType at (type_of p.1)
  if in_vertex d
      then refuse PlyType at
      else (if is_some d.faces && is_none d.list && is_indices p.2
      then Ok (record d { list = Some (ctype, itype) }) else refuse PlyElement at)

-- an attribute's line: the seventeenth is one too many, whatever follows its first words
unfoldable pub attribute : ℕ → Draft → List (List ℕ) → Result Draft Fault
attribute at d line =
    if nat_le MAX_ATTRIBUTES (length d.heads) then refuse AttrLimit at
    else (or_refuse PlyAttr at (attr_of (length d.heads) line) >>= λ head. Ok (record d { heads = d.heads ++ head ∷ [] }))

-- a quantisation's line
unfoldable pub quantisation : ℕ → Draft → List (List ℕ) → Result Draft Fault
quantisation at d line = do
  q ← or_refuse PlyAttr at (quant_of d.heads line)
  Ok (record d { heads = with_quant q.0 q.1 d.heads })

-- a square's line
unfoldable pub square : ℕ → Draft → List (List ℕ) → Result Draft Fault
square at d line = do
  q ← or_refuse PlyAttr at (octa_of d.heads line)
  Ok (record d { heads = with_octa q.0 q.1 d.heads })

-- a comment: any but the forms of this project's own that the profile of this number has says nothing
unfoldable pub comment : ℕ → ℕ → Draft → List (List ℕ) → Result Draft Fault
comment profile at d line =
    if is_form (codes "attr") line then attribute at d line
    else (if is_form (codes "quant") line then quantisation at d line
    else (if is_octa profile line then square at d line else Ok d))

-- a line after the format's
abbrev pub declaration : ℕ → Draft → List (List ℕ) → Keyword → Result Draft Fault
declaration at d line keyword.Element = element at d line
declaration at d line keyword.Property = if is_list line then list at d line else scalar at d line
declaration at d line _ = refuse PlyHeader at

-- any other line than a comment: the first is the format's
unfoldable pub body : ℕ → Draft → List (List ℕ) → Keyword → Result Draft Fault
body at d line word =
    if d.formatted then declaration at d line word
    else (if is_format line then Ok (record d { formatted = true }) else refuse PlyFormat at)

-- any line but the first and the last
abbrev pub statement_by : ℕ → ℕ → Draft → List (List ℕ) → Keyword → Result Draft Fault
statement_by profile at d line keyword.Comment = comment profile at d line
statement_by profile at d line keyword.ObjInfo = Ok d
statement_by profile at d line word = body at d line word

unfoldable pub statement : ℕ → ℕ → Draft → List (List ℕ) → Result Draft Fault
statement profile at d line = statement_by profile at d line (keyword_at line)
