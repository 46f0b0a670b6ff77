-- What holds of PLY texts as definitions.
use Rattle.std.specs.Prelude.{ℕ, ◌≡◌, ◌↔◌, List, Ok}
use Rattle.ply_text.specs.declared.headers.Header.{Header}
use Rattle.ply_text.specs.Header.{header_of_lines, header_of_in}
use Rattle.attr_heads.specs.declared.heads.Head.{Head}
use Rattle.ply_text.specs.Draft.{PropertyParts}
use Rattle.ply_text.specs.NamedHeads.{named_heads}
use Rattle.ply_text.specs.Tokens.{token_lines}
use Rattle.mesh_model.specs.declared.geometries.Geometry.{Geometry}
use Rattle.ply_mesh.specs.Read.{ply_read_in}
use Rattle.laws_text.specs.TextShape.{IsTextOf}
use Rattle.laws_text.specs.NameShape.{NamesGive}
use Rattle.laws_text.specs.HeaderShape.{Line, BeginWithHeader}

-- in each profile a header is read off lines exactly where they begin with lines of a header's shape, and it is what these say
abbrev pub HeadersAreShapes : Type 0
HeadersAreShapes = (profile : ℕ) (lines : List Line) (h : Header)
    → (header_of_lines profile lines ≡ Ok h) ↔ BeginWithHeader profile h lines

-- the same of a text: its lines and their tokens
abbrev pub TextHeadersAreShapes : Type 0
TextHeadersAreShapes = (profile : ℕ) (text : List ℕ) (h : Header)
    → (header_of_in profile text ≡ Ok h) ↔ BeginWithHeader profile h (token_lines text)

-- the heads that names give are those of the pieces of the properties
abbrev pub NamesAreShapes : Type 0
NamesAreShapes = (properties : List PropertyParts) (heads : List Head)
    → (heads ≡ named_heads 0 0 properties) ↔ NamesGive 0 properties heads

-- in each profile a text means a geometry exactly where its lines have the shape of a text, and it is what they say
abbrev pub TextsAreShapes : Type 0
TextsAreShapes = (profile : ℕ) (text : List ℕ) (g : Geometry)
    → (ply_read_in profile text ≡ Ok g) ↔ IsTextOf profile g (token_lines text)
