-- A whole PLY text as a shape of its lines (PLY 1.0, in this project's profile): a header, a line for each point, one for
-- each face, and then nothing.
use Rattle.std.specs.Prelude.{ℕ, ◌≡◌, ◌<◌, ◌++◌, ℤ, pos, IsTrue, List, [], ◌∷◌, length, Option, None, Some}
use Rattle.std.specs.List.{AllZip, AllByRecursion}
use Rattle.mesh_model.specs.declared.geometries.Geometry.{Geometry}
use Rattle.attr_heads.specs.declared.bounds.Bounds.{Bounds}
use Rattle.attr_heads.specs.Bounds.{in_bounds, type_bounds}
use Rattle.attr_heads.specs.Head.{row_bounds}
use Rattle.ply_text.specs.declared.headers.Header.{Header}
use Rattle.ply_text.specs.Numbers.{integer_of}
use Rattle.ply_mesh.specs.Read.{geometry_of_rows}
use Rattle.laws_text.specs.HeaderShape.{Line, IsHeaderOf}

-- the token is the number v, which lies within the bounds
abbrev pub WritesNumber : Bounds → ℤ → List ℕ → Type 0
WritesNumber bounds v token = (integer_of token ≡ Some v) × IsTrue (in_bounds bounds v)

-- a point's line: a number for each column, within its bounds
abbrev pub IsRowLine : List Bounds → List ℤ → Line → Type 0
IsRowLine [] [] [] = Unit {0}
IsRowLine (bounds ∷ columns) (v ∷ row) (token ∷ tokens) = WritesNumber bounds v token × IsRowLine columns row tokens
IsRowLine columns row tokens = ⊥

-- a face's line: 3, and then the numbers of its three points
pub record IsFaceLine (types : ℕ × ℕ) (points : ℕ) (face : List ℕ) (line : Line) : Type 0 where
  pub count : List ℕ
  pub corners : Line
  pub form : line ≡ count ∷ corners
  pub three : WritesNumber (type_bounds types.0) (pos 3) count
  pub long : length face ≡ 3
  pub each : AllZip (λ point token. WritesNumber (type_bounds types.1) (pos point) token × (point < points)) face corners

-- as many lines of faces as the header says
pub record AreFaceLines (h : Header) (faces : List (List ℕ)) (lines : List Line) : Type 0 where
  pub types : ℕ × ℕ
  pub list : h.list ≡ Some types
  pub count : h.faces ≡ Some (length faces)
  pub each : AllZip (IsFaceLine types h.vertices) faces lines

-- a cloud has no lines of faces
abbrev pub MayHaveFaceLines : Header → Option (List (List ℕ)) → List Line → Type 0
MayHaveFaceLines h None lines = (h.faces ≡ None) × (lines ≡ [])
MayHaveFaceLines h (Some faces) lines = AreFaceLines h faces lines

-- these lines are a text in the profile of this number, and it says g: a header, the lines of points, those of faces, and then only lines
-- without tokens
pub record IsTextOf (profile : ℕ) (g : Geometry) (lines : List Line) : Type 0 where
  pub h : Header
  pub header : List Line
  pub rows : List Line
  pub triangles : List Line
  pub rest : List Line
  pub whole : lines ≡ header ++ (rows ++ (triangles ++ rest))
  pub is : IsHeaderOf profile h header
  pub points : List (List ℤ)
  pub count : length points ≡ h.vertices
  pub each : AllZip (IsRowLine (row_bounds h.heads)) points rows
  pub faces : Option (List (List ℕ))
  pub face_lines : MayHaveFaceLines h faces triangles
  pub blank : AllByRecursion (λ line. line ≡ []) rest
  pub geometry : g ≡ geometry_of_rows h.heads points faces
