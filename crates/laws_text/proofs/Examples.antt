-- Headers, worked by hand: one that has the shape, part by part, one with attributes by names, one with a square, and lines that
-- are none.
use Rattle.std.proofs.Common.{◌≡◌, ℕ, true, List, [], ◌∷◌, ◌++◌, None, Some, Ok, refl, subst, arith}
use Rattle.std.specs.List.{filter}
use Rattle.std.specs.Prelude.{codes, slice_get, zero, suc}
use Rattle.std.proofs.lemmas.List.Elements.{All-from_recursion}
use Rattle.mesh_model.specs.declared.geometries.Geometry.{Geometry}
use Rattle.mesh_model.specs.declared.geometries.Geometry.TheVariants.{Mesh}
use Rattle.attr_heads.specs.Bounds.{in_bounds}
use Rattle.ply_mesh.specs.Body.{token_number, row_read}
use Rattle.ply_mesh.specs.Read.{body_of, ply_read, ply_read_in}
use Rattle.ply_text.specs.Tokens.{tokens_of, token_lines}
use Rattle.laws_text.specs.TextShape.{IsTextOf}
use Rattle.laws_text.proofs.Texts.{texts_are_shapes}
use Rattle.std.specs.Prelude.{pos}
use Rattle.ply_text.specs.declared.headers.Header.{Header}
use Rattle.attr_heads.specs.declared.heads.Head.{Head}
use Rattle.ply_text.specs.Comments.{is_form, attr_of, head_of, quant_of, octa_of, square_of}
use Rattle.ply_text.specs.Declarations.{is_magic, is_format, element_of, is_list, scalar_of, list_of}
use Rattle.ply_text.specs.Draft.{property, element, scalar, list, attribute, quantisation, square, comment, body, statement}
use Rattle.ply_text.specs.Header.{column_types, is_head_typed, is_whole, heads_of, agrees, header_by, ply_header_at, header_of_lines, header_of_in}
use Rattle.ply_text.specs.NamedHeads.{run_of}
use Rattle.ply_text.specs.Numbers.{is_digits, digits_value, natural_of, integer_of, natural_within, pattern_of}
use Rattle.ply_text.specs.Words.{keyword_of, is_indices}
use Rattle.ply_text.specs.PropertyTypes.{type_of}
use Rattle.laws_text.specs.HeaderShape.{Line, is_detail_of, AreDetailLines, Declare, Describe, IsHeaderOf, BeginWithHeader}
use Rattle.laws_text.proofs.Describing.{Behind, behind_nil, behind_more}
use Rattle.laws_text.proofs.Shapes.{front_read, read_shape, headers_are_shapes}

-- ---- a quantised mesh, with comments among its lines

abbrev attr_line : Line
attr_line = codes "comment" ∷ codes "drc" ∷ codes "attr" ∷ codes "0" ∷ codes "0" ∷ codes "9" ∷ codes "1" ∷ codes "0" ∷ codes "7" ∷ []

abbrev format : Line
format = codes "format" ∷ codes "ascii" ∷ codes "1.0" ∷ []

abbrev info : Line
info = codes "obj_info" ∷ codes "any" ∷ codes "words" ∷ []

abbrev quant_line : Line
quant_line = codes "comment" ∷ codes "drc" ∷ codes "quant" ∷ codes "0" ∷ codes "8" ∷ codes "3F800000" ∷ codes "00000000" ∷ []

abbrev points : Line
points = codes "element" ∷ codes "vertex" ∷ codes "03" ∷ []

abbrev column : Line
column = codes "property" ∷ codes "int" ∷ codes "a" ∷ []

abbrev faces : Line
faces = codes "element" ∷ codes "face" ∷ codes "1" ∷ []

abbrev note : Line
note = codes "comment" ∷ codes "x" ∷ []

abbrev index_list : Line
index_list = codes "property" ∷ codes "list" ∷ codes "uint8" ∷ codes "int" ∷ codes "vertex_index" ∷ []

abbrev between : List Line
between = attr_line ∷ format ∷ info ∷ quant_line ∷ points ∷ column ∷ faces ∷ note ∷ index_list ∷ []

abbrev lines : List Line
lines = (codes "ply" ∷ []) ∷ (between ++ (codes "end_header" ∷ []) ∷ [])

abbrev head : Head
head = record { usage = 0; dtype = 9; comps = 1; normalized = 0; id = 7; quant = Some (record { bits = 8; range = 1065353216; min = 0 ∷ [] }); octa = None }

abbrev header : Header
header = record { heads = head ∷ []; vertices = 3; faces = Some 1; types = 5 ∷ []; list = Some (2, 5); body_line = 12 }

declared : Declare 3 (property 5 (codes "a") ∷ []) (Some 1) (Some (2, 5)) (format ∷ points ∷ column ∷ faces ∷ index_list ∷ [])
unfolding is_digits digits_value type_of is_indices
declared = record {
  vertex = points;
  columns = column ∷ [];
  mesh = faces ∷ index_list ∷ [];
  order = refl;
  points = record { number = codes "03"; form = refl; says = refl };
  few = omega arith;
  some = omega arith;
  each = (record { word = codes "int"; form = refl; says = refl }, tt);
  rest = record {
    element = faces;
    property = index_list;
    order = refl;
    faces = record { number = codes "1"; form = refl; says = refl };
    few = omega arith;
    list = record { count = codes "uint8"; index = codes "int"; name = codes "vertex_index"; form = refl; counts = refl; indices = refl; named = refl };
  };
}

quant_said : (k : ℕ) (h : Head) → slice_get (head ∷ []) k ≡ Some h → AreDetailLines 2 k h.dtype h.comps h.quant h.octa (filter (is_detail_of 2 k) between)
unfolding is_digits digits_value pattern_of
quant_said zero h e =
    let s : head ≡ h = cc e in
    let one : AreDetailLines 2 0 9 1 head.quant None (quant_line ∷ []) = (
      quant_line,
      refl,
      record {
        number = codes "0";
        bits = codes "8";
        range = codes "3F800000";
        minima = codes "00000000" ∷ [];
        form = refl;
        head = refl;
        says_bits = refl;
        says_range = refl;
        says_minima = (refl, tt);
        fits = record { bits = refl; minima = refl };
      },
    ) in
    subst (λ (h : Head). AreDetailLines 2 0 h.dtype h.comps h.quant h.octa (quant_line ∷ [])) s one
quant_said (suc k) h e = absurd (cc e)

quant_behind : Behind 2 0 between
unfolding is_digits digits_value
quant_behind =
    behind_more 2 0 attr_line (format ∷ info ∷ quant_line ∷ points ∷ column ∷ faces ∷ note ∷ index_list ∷ []) (λ q. absurd (cc q))
    (behind_more 2 1 format (info ∷ quant_line ∷ points ∷ column ∷ faces ∷ note ∷ index_list ∷ []) (λ q. absurd (cc q))
    (behind_more 2 1 info (quant_line ∷ points ∷ column ∷ faces ∷ note ∷ index_list ∷ []) (λ q. absurd (cc q))
    (behind_more 2 1 quant_line (points ∷ column ∷ faces ∷ note ∷ index_list ∷ []) (λ _. (0, refl, omega arith))
    (behind_more 2 1 points (column ∷ faces ∷ note ∷ index_list ∷ []) (λ q. absurd (cc q))
    (behind_more 2 1 column (faces ∷ note ∷ index_list ∷ []) (λ q. absurd (cc q))
    (behind_more 2 1 faces (note ∷ index_list ∷ []) (λ q. absurd (cc q))
    (behind_more 2 1 note (index_list ∷ []) (λ q. absurd (cc q))
    (behind_more 2 1 index_list [] (λ q. absurd (cc q)) (behind_nil 2 1)))))))))

described : Describe 2 (head ∷ []) between
unfolding is_digits digits_value pattern_of
described = record {
  attrs = (
    record {
      numbers = codes "0" ∷ codes "0" ∷ codes "9" ∷ codes "1" ∷ codes "0" ∷ codes "7" ∷ [];
      form = refl;
      say = (refl, (refl, (refl, (refl, (refl, (refl, tt))))));
      usage = refl;
      dtype = refl;
      comps = refl;
      flag = omega arith;
      id = omega arith;
    },
    tt,
  );
  details = quant_said;
  behind = λ before after line e is. let b = quant_behind before after line e is in let lt = b.2 in (b.0, b.1, omega arith);
}

shaped : IsHeaderOf 2 header lines
unfolding column_types
shaped = record {
  between = between;
  whole = refl;
  properties = property 5 (codes "a") ∷ [];
  described = head ∷ [];
  declared = declared;
  describe = described;
  heads = refl;
  few = omega arith;
  types = refl;
  columns = refl;
  typed = All-from_recursion (λ h. is_head_typed h ≡ true) (head ∷ []) (refl, tt);
  values = omega arith;
  body = refl;
}

-- so it is read, whatever follows
read : (rest : List Line) → header_of_lines 2 (lines ++ rest) ≡ Ok header
read rest = front_read 2 header lines rest shaped

-- ---- a cloud with attributes by names

abbrev cloud_lines : List Line
cloud_lines =
    (codes "ply" ∷ [])
    ∷ format
    ∷ (codes "element" ∷ codes "vertex" ∷ codes "2" ∷ [])
    ∷ (codes "property" ∷ codes "short" ∷ codes "x" ∷ [])
    ∷ (codes "property" ∷ codes "short" ∷ codes "y" ∷ [])
    ∷ (codes "property" ∷ codes "short" ∷ codes "z" ∷ [])
    ∷ (codes "property" ∷ codes "uchar" ∷ codes "w" ∷ [])
    ∷ (codes "end_header" ∷ [])
    ∷ (codes "1" ∷ codes "2" ∷ codes "3" ∷ codes "4" ∷ [])
    ∷ []

abbrev cloud_header : Header
cloud_header = record {
  heads = record { usage = 0; dtype = 3; comps = 3; normalized = 0; id = 0; quant = None; octa = None } ∷ record { usage = 4; dtype = 2; comps = 1; normalized = 0; id = 1; quant = None; octa = None } ∷ [];
  vertices = 2;
  faces = None;
  types = 3 ∷ 3 ∷ 3 ∷ 2 ∷ [];
  list = None;
  body_line = 9;
}

cloud_read : header_of_lines 2 cloud_lines ≡ Ok cloud_header
unfolding is_magic statement body is_format keyword_of element element_of is_digits digits_value natural_of natural_within scalar scalar_of is_list type_of ply_header_at is_whole heads_of header_by agrees column_types run_of
cloud_read = refl

cloud_shaped : BeginWithHeader 2 cloud_header cloud_lines
cloud_shaped = read_shape 2 cloud_lines cloud_header cloud_read

-- ---- a square, which profile 3 reads and profile 2 doesn't

abbrev square_lines : List Line
square_lines =
    (codes "ply" ∷ [])
    ∷ format
    ∷ (codes "comment" ∷ codes "drc" ∷ codes "attr" ∷ codes "0" ∷ codes "1" ∷ codes "9" ∷ codes "2" ∷ codes "0" ∷ codes "0" ∷ [])
    ∷ (codes "comment" ∷ codes "drc" ∷ codes "octa" ∷ codes "0" ∷ codes "4" ∷ [])
    ∷ (codes "element" ∷ codes "vertex" ∷ codes "0" ∷ [])
    ∷ (codes "property" ∷ codes "int" ∷ codes "a" ∷ [])
    ∷ (codes "property" ∷ codes "int" ∷ codes "b" ∷ [])
    ∷ (codes "end_header" ∷ [])
    ∷ []

abbrev square_header : Header
square_header = record {
  heads = record { usage = 1; dtype = 9; comps = 2; normalized = 0; id = 0; quant = None; octa = Some 4 } ∷ [];
  vertices = 0;
  faces = None;
  types = 5 ∷ 5 ∷ [];
  list = None;
  body_line = 9;
}

square_read : header_of_lines 3 square_lines ≡ Ok square_header
unfolding is_magic statement body is_format keyword_of comment is_form attribute attr_of head_of square octa_of square_of element element_of is_digits digits_value natural_of natural_within scalar scalar_of is_list type_of ply_header_at is_whole heads_of header_by agrees column_types
square_read = refl

square_shaped : BeginWithHeader 3 square_header square_lines
square_shaped = read_shape 3 square_lines square_header square_read

square_none : (h : Header) → BeginWithHeader 2 h square_lines → ⊥
unfolding is_magic statement body is_format keyword_of comment is_form attribute attr_of head_of element element_of is_digits digits_value natural_of natural_within scalar scalar_of is_list type_of ply_header_at is_whole heads_of header_by agrees column_types
square_none h b = let e = (headers_are_shapes 2 square_lines h).1 b in absurd (cc e)

-- ---- no headers

-- a quantisation before its head
abbrev early_lines : List Line
early_lines = (codes "ply" ∷ []) ∷ quant_line ∷ attr_line ∷ format ∷ points ∷ column ∷ (codes "end_header" ∷ []) ∷ []

early_none : (h : Header) → BeginWithHeader 2 h early_lines → ⊥
unfolding is_magic statement keyword_of comment is_form quantisation quant_of is_digits digits_value natural_of natural_within
early_none h b = let e = (headers_are_shapes 2 early_lines h).1 b in absurd (cc e)

-- a list before its element
abbrev list_lines : List Line
list_lines = (codes "ply" ∷ []) ∷ format ∷ points ∷ index_list ∷ column ∷ faces ∷ (codes "end_header" ∷ []) ∷ []

list_none : (h : Header) → BeginWithHeader 2 h list_lines → ⊥
unfolding is_magic statement body is_format keyword_of element element_of is_digits digits_value natural_of natural_within list list_of is_list type_of
list_none h b = let e = (headers_are_shapes 2 list_lines h).1 b in absurd (cc e)

-- ---- a whole text

abbrev text : List ℕ
text = codes "ply\nformat ascii 1.0\r\nelement vertex 1\nproperty uchar a\nelement face 0\nproperty list uchar int vertex_indices\nend_header\n\t007 \n\n"

abbrev geometry : Geometry
geometry = Mesh (record { heads = record { usage = 4; dtype = 2; comps = 1; normalized = 0; id = 0; quant = None; octa = None } ∷ []; points = (pos 7 ∷ []) ∷ []; faces = [] })

text_read : ply_read text ≡ Ok geometry
unfolding ply_read_in header_of_in body_of token_lines tokens_of row_read token_number integer_of in_bounds is_magic statement body is_format keyword_of element element_of is_digits digits_value natural_of natural_within scalar scalar_of list list_of is_list is_indices type_of ply_header_at is_whole heads_of header_by agrees column_types run_of
text_read = refl

text_shaped : IsTextOf 2 geometry (token_lines text)
text_shaped = (texts_are_shapes 2 text geometry).0 text_read
