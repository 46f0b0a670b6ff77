-- What is written of a geometry is read as that geometry.
use Rattle.std.proofs.Common.{◌≡◌, ℕ, zero, suc, ◌+◌, ◌-◌, ◌*◌, ◌<◌, ◌≤◌, ◌^◌, Bool, true, List, [], ◌∷◌, ◌++◌, length, drop, map, Option, Some, None, Result, Ok, refl, sym, ap, subst, ◌∙◌, append_assoc, arith}
use Rattle.std.specs.Prelude.{codes, ℤ, replicate}
use Rattle.std.specs.List.{AllByRecursion, list_all}
use Rattle.std.specs.Fmt.{signed_decimal}
use Rattle.std.proofs.lemmas.Bool.{lt-ltb, le-ltb, and_from, cond-true}
use Rattle.std.proofs.lemmas.Slice.Eq.{bytes_eq-Decides}
use Rattle.std.proofs.lemmas.List.{length-append, length-map, drop_at, map-append, append-nil}
use Rattle.std.proofs.lemmas.List.Elements.{recursion_from_All}
use Rattle.drc_base.specs.declared.faults.Fault.{Fault}
use Rattle.drc_base.specs.declared.limits.TheConstants.{MAX_POINTS, MAX_FACES, MAX_VALUES, MAX_ATTRIBUTES}
use Rattle.drc_base.specs.Steps.{◌>>=◌}
use Rattle.attr_heads.specs.declared.heads.Head.{Head}
use Rattle.mesh_model.specs.declared.geometries.Geometry.{Geometry}
use Rattle.mesh_model.specs.declared.geometries.Geometry.TheVariants.{Mesh, Cloud}
use Rattle.attr_heads.specs.declared.bounds.Bounds.{Bounds}
use Rattle.attr_heads.specs.Head.{width_of, row_bounds}
use Rattle.mesh_model.specs.Parts.{RowFits, ArePoints, IsFaceOf}
use Rattle.attr_heads.proofs.Types.{type_passes, type_few}
use Rattle.attr_heads.proofs.Widths.{width_of-bounds}
use Rattle.mesh_model.specs.Contents.{heads_in}
use Rattle.mesh_model.specs.IsGeometry.{IsGeometry}
use Rattle.attr_heads.proofs.Passing.{HeadSays, HeadsSay, heads_say}
use Rattle.ply_text.specs.declared.headers.Header.{Header}
use Rattle.ply_text.specs.Tokens.{token_lines}
use Rattle.ply_text.specs.Words.{keyword_of}
use Rattle.ply_text.specs.Declarations.{is_magic, is_format}
use Rattle.ply_text.specs.Draft.{Draft, PropertyParts, statement, body}
use Rattle.ply_text.specs.PropertyTypes.{column_type}
use Rattle.ply_text.specs.Header.{column_types, is_head_typed, property_types, is_whole, heads_of, agrees, header_by, ply_header_at, ends_header, header_from, no_draft, header_of_lines, header_of_in}
use Rattle.ply_mesh.specs.Fields.{HasFields}
use Rattle.ply_mesh.specs.RoundTripLaw.{IsReadAgain}
use Rattle.ply_mesh.specs.Body.{row_read, face_of, items_from}
use Rattle.ply_mesh.specs.Read.{body_of, ply_read_in}
use Rattle.ply_mesh.specs.Text.{head_lines, has_usage_names, property_lines, element_line, faces_header, point_lines, face_line, face_lines, ply_text, text_of}
use Rattle.ply_mesh.proofs.Lexing.{are_tokens, are_lines, list_all-append, lines_again}
use Rattle.ply_mesh.proofs.NumberTexts.{IsSmall}
use Rattle.ply_mesh.proofs.TokenTexts.{head_tokens, property_tokens, element_tokens, point_tokens, face_tokens}
use Rattle.ply_mesh.proofs.WellFormed.{IsTyped, length-column_types}
use Rattle.ply_mesh.proofs.BodyAgain.{IsNarrow, columns_narrow, typed_small, row_back, row_typed_back, items_back, face_back}
use Rattle.ply_mesh.proofs.BodySteps.{cloud_from, mesh_ends}
use Rattle.ply_mesh.proofs.HeaderSteps.{Lines, Passes, is_had, all_had, Passes-one, Passes-append, with_heads, heads_step, with_points, vertex_step, components_of, all_properties, properties_step, with_faces, faces_step}

-- ---- heads and their columns

component_types : (named : Bool) (k : ℕ) (h : Head) (j n : ℕ) → property_types (components_of named k h j n) ≡ replicate n (column_type h.dtype)
component_types named k h j zero = refl
component_types named k h j (suc n) = ap (λ (ds : List ℕ). column_type h.dtype ∷ ds) (component_types named k h (j + 1) n)

all_types : (all : List Head) (k : ℕ) (hs : List Head) → property_types (all_properties all k hs) ≡ column_types hs
unfolding column_types
all_types all k [] = refl
all_types all k (h ∷ hs) =
    map-append _ (components_of (has_usage_names all k h) k h 0 h.comps) (all_properties all (k + 1) hs)
    ∙ ap (λ (ds : List ℕ). ds ++ property_types (all_properties all (k + 1) hs)) (component_types (has_usage_names all k h) k h 0 h.comps)
    ∙ ap (λ (ds : List ℕ). replicate h.comps (column_type h.dtype) ++ ds) (all_types all (k + 1) hs)

all_typed : (hs : List Head) → AllByRecursion HeadSays hs → list_all is_head_typed hs ≡ true
all_typed [] p = refl
all_typed (h ∷ hs) p = and_from (is_head_typed h) (list_all is_head_typed hs) p.0.typed (all_typed hs p.1)

-- ---- the header

abbrev end_line : List (List ℕ)
end_line = codes "end_header" ∷ []

abbrev made : List Head → ℕ → Option ℕ → Option (ℕ × ℕ) → ℕ → Header
made hs n faces list body = record { heads = hs; vertices = n; faces = faces; types = column_types hs; list = list; body_line = body }

module _ (hs : List Head) (n : ℕ) (p : HeadsSay hs) (f : AllByRecursion HasFields hs) (wide : 0 < width_of hs) (values : n * width_of hs ≤ MAX_VALUES) where
  abbrev ps : List PropertyParts
  ps = all_properties hs 0 hs

  columns : length ps ≡ width_of hs
  columns =
      let a : length (property_types ps) ≡ length (column_types hs) = ap length (all_types hs 0 hs) in
      sym (length-map ps _) ∙ a ∙ length-column_types hs

  agreed : agrees hs ps ≡ true
  unfolding agrees
  agreed = and_from _ _ ((bytes_eq-Decides (column_types hs) (property_types ps)).1 (sym (all_types hs 0 hs))) (all_typed hs (recursion_from_All HeadSays hs p.each))

  cloud_end : (at : ℕ) → ply_header_at at (with_points hs n ps) end_line ≡ Ok (made hs n None None (at + 1))
  unfolding ply_header_at is_whole heads_of header_by
  cloud_end at =
      rw (
        lt-ltb 0 (length ps) (omega (arith, columns)),
        lt-ltb 0 (length hs) (omega (arith, p.some)),
        le-ltb MAX_ATTRIBUTES (length hs) (omega (arith, p.few)),
        agreed,
        le-ltb MAX_VALUES (n * length ps) (subst (λ w. n * w ≤ MAX_VALUES) (sym columns) values),
        all_types hs 0 hs,
      ) refl

  mesh_end : (m at : ℕ) → ply_header_at at (with_faces hs n ps m (Some (2, 5))) end_line ≡ Ok (made hs n (Some m) (Some (2, 5)) (at + 1))
  unfolding ply_header_at is_whole heads_of header_by
  mesh_end m at =
      rw (
        lt-ltb 0 (length ps) (omega (arith, columns)),
        lt-ltb 0 (length hs) (omega (arith, p.some)),
        le-ltb MAX_ATTRIBUTES (length hs) (omega (arith, p.few)),
        agreed,
        le-ltb MAX_VALUES (n * length ps) (subst (λ w. n * w ≤ MAX_VALUES) (sym columns) values),
        all_types hs 0 hs,
      ) refl

-- `format ascii 1.0`
abbrev format_line : List (List ℕ)
format_line = codes "format" ∷ codes "ascii" ∷ codes "1.0" ∷ []

format_is : (profile : ℕ) (at : ℕ) → statement profile at no_draft format_line ≡ Ok (with_heads [])
unfolding statement body is_format keyword_of
format_is profile at = refl

format_step : (profile : ℕ) → Passes profile no_draft (format_line ∷ []) (with_heads [])
format_step profile = Passes-one profile no_draft format_line (with_heads []) refl (format_is profile)

-- the header's lines after the first, up to the properties of points
abbrev points_rest : List Head → ℕ → Lines
points_rest hs n = format_line ∷ ((head_lines 0 hs ++ element_line (codes "vertex") n ∷ []) ++ property_lines hs 0 hs)

points_pass : (profile : ℕ) (hs : List Head) (n : ℕ) → HeadsSay hs → AllByRecursion HasFields hs → AllByRecursion (λ h. is_had profile h ≡ true) hs → n ≤ MAX_POINTS → Passes profile no_draft (points_rest hs n) (with_points hs n (all_properties hs 0 hs))
points_pass profile hs n p f had few =
    let each = recursion_from_All HeadSays hs p.each in
    let a = heads_step profile 0 [] hs refl (omega (arith, p.few)) each f had in
    let b = Passes-append profile (with_heads []) (with_heads hs) (with_points hs n []) (head_lines 0 hs) (element_line (codes "vertex") n ∷ []) a (vertex_step profile hs n few) in
    let c = Passes-append profile (with_heads []) (with_points hs n []) (with_points hs n (all_properties hs 0 hs)) (head_lines 0 hs ++ element_line (codes "vertex") n ∷ []) (property_lines hs 0 hs) b (properties_step profile hs n [] hs 0 hs each) in
    Passes-append profile no_draft (with_heads []) (with_points hs n (all_properties hs 0 hs)) (format_line ∷ []) ((head_lines 0 hs ++ element_line (codes "vertex") n ∷ []) ++ property_lines hs 0 hs) (format_step profile) c

end_is : (d : Draft) → d.formatted ≡ true → ends_header d end_line ≡ true
unfolding keyword_of
end_is d h = rw h refl

magic_is : is_magic (codes "ply" ∷ []) ≡ true
unfolding is_magic
magic_is = refl

-- a header of these lines, and the lines after it
read_again : (profile : ℕ) (text : List ℕ) (xs : Lines) (d : Draft) (h : Header) (rest : Lines) (g : Geometry) → token_lines text ≡ (((codes "ply" ∷ []) ∷ xs) ++ end_line ∷ []) ++ rest → Passes profile no_draft xs d → d.formatted ≡ true → ply_header_at (2 + length xs) d end_line ≡ Ok h → h.body_line ≡ 2 + length xs + 1 → body_of h rest ≡ Ok g → ply_read_in profile text ≡ Ok g
unfolding ply_read_in header_of_in
read_again profile text xs d h rest g cut pass formatted last place meaning =
    let regrouped : (xs ++ end_line ∷ []) ++ rest ≡ xs ++ (end_line ∷ rest) = append_assoc xs (end_line ∷ []) rest in
    let header : header_of_lines profile (token_lines text) ≡ Ok h =
    ap (header_of_lines profile) cut ∙ cond-true (is_magic (codes "ply" ∷ [])) (header_from profile 2 no_draft ((xs ++ end_line ∷ []) ++ rest)) _ magic_is ∙ ap (header_from profile 2 no_draft) regrouped ∙ pass.passes 2 (end_line ∷ rest)
    ∙ cond-true (ends_header d end_line) (ply_header_at (2 + length xs) d end_line) _ (end_is d formatted) ∙ last in
    let before : h.body_line - 1 ≡ length (((codes "ply" ∷ []) ∷ xs) ++ end_line ∷ []) = omega (arith, place, length-append ((codes "ply" ∷ []) ∷ xs) (end_line ∷ [])) in
    let after : drop (h.body_line - 1) (token_lines text) ≡ rest = ap (drop (h.body_line - 1)) cut ∙ drop_at (((codes "ply" ∷ []) ∷ xs) ++ end_line ∷ []) rest (h.body_line - 1) (sym before) in
    ap (λ (r : Result Header Fault). r >>= λ (y : Header). body_of y (drop (y.body_line - 1) (token_lines text))) header ∙ ap (body_of h) after ∙ meaning

-- ---- tokens and lines

dtype_few : (h : Head) → HeadSays h → h.dtype < 2 ^ 32
dtype_few h p = omega (arith, type_few h.dtype (type_passes h.dtype h.quant h.octa p.typed))

dtypes_few : (hs : List Head) → AllByRecursion HeadSays hs → AllByRecursion (λ h. h.dtype < 2 ^ 32) hs
dtypes_few [] p = tt
dtypes_few (h ∷ hs) p = (dtype_few h p.0, dtypes_few hs p.1)

smalls : (bs : List Bounds) (vs : List ℤ) → AllByRecursion IsNarrow bs → IsTyped bs vs → AllByRecursion IsSmall vs
smalls [] [] n h = tt
smalls [] (v ∷ vs) n h = absurd h
smalls (b ∷ bs) [] n h = absurd h
smalls (b ∷ bs) (v ∷ vs) n h = (typed_small b v n.0 h.0, smalls bs vs n.1 h.1)

rows_small : (hs : List Head) (points : List (List ℤ)) → AllByRecursion HeadSays hs → AllByRecursion (RowFits hs) points → AllByRecursion (AllByRecursion IsSmall) points
rows_small hs [] p h = tt
rows_small hs (r ∷ rs) p h = (smalls (row_bounds hs) r (columns_narrow hs p) (row_typed_back hs r h.0), rows_small hs rs p h.1)

faces_few : (points : ℕ) (faces : List (List ℕ)) → points ≤ MAX_POINTS → AllByRecursion (IsFaceOf points) faces → AllByRecursion (AllByRecursion (λ p. p < 2 ^ 32)) faces
faces_few points [] few h = tt
faces_few points (face ∷ faces) few h =
    (recursion_from_All (λ p. p < 2 ^ 32) face (λ j d lt. let s = h.0.1 j d lt in omega arith), faces_few points faces few h.1)

-- ---- the points

module _ (hs : List Head) (points : List (List ℤ)) (is : ArePoints hs points) (f : AllByRecursion HasFields hs) where
  passing : HeadsSay hs
  passing = heads_say hs is.heads_pass

  wide_enough : 0 < width_of hs
  wide_enough = (width_of-bounds hs is.heads_pass).0

  fits : AllByRecursion (RowFits hs) points
  fits = recursion_from_All (RowFits hs) points is.rows_fit

  narrow : AllByRecursion IsNarrow (row_bounds hs)
  narrow = columns_narrow hs (recursion_from_All HeadSays hs passing.each)

  rows_back : (at : ℕ) (rest : Lines) → items_from (row_read (row_bounds hs)) (length points) at (point_lines points ++ rest) ≡ Ok (points, rest)
  rows_back at rest =
      items_back (RowFits hs) (row_read (row_bounds hs)) (λ (row : List ℤ). map signed_decimal row)
      (λ line row fit. row_back (row_bounds hs) line row narrow (row_typed_back hs row fit))
      points at rest fits

  points_few : length points < 2 ^ 32
  points_few = let few = is.few_points in omega arith

  rest_lines : are_lines (points_rest hs (length points)) ≡ true
  rest_lines =
      let few : 0 + length hs < 2 ^ 32 = omega (arith, passing.few) in
      let each = recursion_from_All HeadSays hs passing.each in
      let a = head_tokens 0 hs few each f (dtypes_few hs each) in
      let b : are_lines (element_line (codes "vertex") (length points) ∷ []) ≡ true = and_from _ _ (element_tokens (codes "vertex") (length points) refl points_few) refl in
      let c = property_tokens hs 0 hs few each in
      list_all-append are_tokens (head_lines 0 hs ++ element_line (codes "vertex") (length points) ∷ []) (property_lines hs 0 hs) (list_all-append are_tokens (head_lines 0 hs) (element_line (codes "vertex") (length points) ∷ []) a b) c

  rows_lines : are_lines (point_lines points) ≡ true
  rows_lines = point_tokens points (rows_small hs points (recursion_from_All HeadSays hs passing.each) fits)

-- ---- the geometry

abbrev ply_line : List (List ℕ)
ply_line = codes "ply" ∷ []

abbrev cloud_part : List Head → List (List ℤ) → Geometry
cloud_part hs points = Cloud (record { heads = hs; points = points })

abbrev mesh_part : List Head → List (List ℤ) → List (List ℕ) → Geometry
mesh_part hs points faces = Mesh (record { heads = hs; points = points; faces = faces })

-- the cut text of a header and what follows it
cut_again : (xs rest : Lines) → are_lines xs ≡ true → are_lines rest ≡ true → token_lines (text_of (((ply_line ∷ xs) ++ end_line ∷ []) ++ rest)) ≡ ((ply_line ∷ xs) ++ end_line ∷ []) ++ rest
cut_again xs rest a b =
    lines_again (((ply_line ∷ xs) ++ end_line ∷ []) ++ rest)
    (list_all-append are_tokens ((ply_line ∷ xs) ++ end_line ∷ []) rest (list_all-append are_tokens (ply_line ∷ xs) (end_line ∷ []) (and_from _ _ refl a) refl) b)

cloud_body : (hs : List Head) (points : List (List ℤ)) → ArePoints hs points → AllByRecursion HasFields hs → (line : ℕ) → body_of (made hs (length points) None None line) (point_lines points) ≡ Ok (cloud_part hs points)
cloud_body hs points is f line =
    let rows = ap (items_from (row_read (row_bounds hs)) (length points) line) (sym (append-nil (point_lines points))) ∙ rows_back hs points is f line [] in
    cloud_from (made hs (length points) None None line) (point_lines points) [] points refl rows

cloud_again : (profile : ℕ) (hs : List Head) (points : List (List ℤ)) → ArePoints hs points → AllByRecursion HasFields hs → AllByRecursion (λ h. is_had profile h ≡ true) hs → ply_read_in profile (ply_text (cloud_part hs points)) ≡ Ok (cloud_part hs points)
unfolding ply_text
cloud_again profile hs points is f had =
    let xs = points_rest hs (length points) in
    let line = 2 + length xs + 1 in
    let pass = passing hs points is f in
    read_again profile (text_of (((ply_line ∷ xs) ++ end_line ∷ []) ++ point_lines points)) xs (with_points hs (length points) (all_properties hs 0 hs)) (made hs (length points) None None line) (point_lines points) (cloud_part hs points)
    (cut_again xs (point_lines points) (rest_lines hs points is f) (rows_lines hs points is f))
    (points_pass profile hs (length points) pass f had is.few_points)
    refl
    (cloud_end hs (length points) pass f (wide_enough hs points is f) is.few_values (2 + length xs))
    refl
    (cloud_body hs points is f line)

-- the header's lines of a mesh after the first
abbrev mesh_rest : List Head → ℕ → ℕ → Lines
mesh_rest hs n m = points_rest hs n ++ faces_header m

module _ (hs : List Head) (points : List (List ℤ)) (faces : List (List ℕ)) (is : ArePoints hs points) (few : length faces ≤ MAX_FACES) (each : AllByRecursion (IsFaceOf (length points)) faces) (f : AllByRecursion HasFields hs) where
  abbrev mesh_header : ℕ → Header
  mesh_header line = made hs (length points) (Some (length faces)) (Some (2, 5)) line

  faces_back : (at : ℕ) → items_from (face_of (2, 5) (length points)) (length faces) at (face_lines faces) ≡ Ok (faces, [])
  faces_back at =
      ap (items_from (face_of (2, 5) (length points)) (length faces) at) (sym (append-nil (face_lines faces)))
      ∙ items_back (IsFaceOf (length points)) (face_of (2, 5) (length points)) face_line (λ line face ok. face_back (length points) line face is.few_points ok) faces at [] each

  mesh_body : (line : ℕ) → body_of (mesh_header line) (point_lines points ++ face_lines faces) ≡ Ok (mesh_part hs points faces)
  mesh_body line =
      mesh_ends (mesh_header line) (point_lines points ++ face_lines faces) (face_lines faces) [] points faces (length faces) refl (rows_back hs points is f line (face_lines faces)) (faces_back (line + length points))

  faces_small : length faces < 2 ^ 32
  faces_small = omega (arith, few)

  mesh_lines : are_lines (mesh_rest hs (length points) (length faces)) ≡ true
  mesh_lines = list_all-append are_tokens (points_rest hs (length points)) (faces_header (length faces)) (rest_lines hs points is f)
      (and_from _ _ (element_tokens (codes "face") (length faces) refl faces_small) refl)

  body_lines : are_lines (point_lines points ++ face_lines faces) ≡ true
  body_lines = list_all-append are_tokens (point_lines points) (face_lines faces) (rows_lines hs points is f) (face_tokens faces (faces_few (length points) faces is.few_points each))

  mesh_pass : (profile : ℕ) → AllByRecursion (λ h. is_had profile h ≡ true) hs → Passes profile no_draft (mesh_rest hs (length points) (length faces)) (with_faces hs (length points) (all_properties hs 0 hs) (length faces) (Some (2, 5)))
  mesh_pass profile had =
      Passes-append profile no_draft (with_points hs (length points) (all_properties hs 0 hs)) (with_faces hs (length points) (all_properties hs 0 hs) (length faces) (Some (2, 5))) (points_rest hs (length points)) (faces_header (length faces))
      (points_pass profile hs (length points) (passing hs points is f) f had is.few_points)
      (faces_step profile hs (length points) (all_properties hs 0 hs) (length faces) few)

  mesh_again : (profile : ℕ) → AllByRecursion (λ h. is_had profile h ≡ true) hs → ply_read_in profile (ply_text (mesh_part hs points faces)) ≡ Ok (mesh_part hs points faces)
  unfolding ply_text
  mesh_again profile had =
      let xs = mesh_rest hs (length points) (length faces) in
      let line = 2 + length xs + 1 in
      let rest = point_lines points ++ face_lines faces in
      let head = (ply_line ∷ xs) ++ end_line ∷ [] in
      let regrouped : (head ++ point_lines points) ++ face_lines faces ≡ head ++ rest = append_assoc head (point_lines points) (face_lines faces) in
      read_again profile (text_of ((head ++ point_lines points) ++ face_lines faces)) xs (with_faces hs (length points) (all_properties hs 0 hs) (length faces) (Some (2, 5))) (mesh_header line) rest (mesh_part hs points faces)
      (ap (λ (ls : Lines). token_lines (text_of ls)) regrouped ∙ cut_again xs rest mesh_lines body_lines)
      (mesh_pass profile had)
      refl
      (mesh_end hs (length points) (passing hs points is f) f (wide_enough hs points is f) is.few_values (length faces) (2 + length xs))
      refl
      (mesh_body line)

-- what is written of a geometry is read as that geometry
pub geometry_again : (g : Geometry) → IsGeometry g → AllByRecursion HasFields (heads_in g) → IsReadAgain (ply_text g) g
geometry_again (Mesh m) is f profile has = mesh_again m.heads m.points m.faces is.points is.few_faces (recursion_from_All (IsFaceOf (length m.points)) m.faces is.faces) f profile (all_had profile m.heads has)
geometry_again (Cloud c) is f profile has = cloud_again profile c.heads c.points is f (all_had profile c.heads has)
