-- A text means a geometry exactly where its lines have the shape of one.
use Rattle.std.proofs.Common.{◌≡◌, ℕ, ◌+◌, ◌-◌, List, [], ◌++◌, length, drop, Option, Some, None, Result, Ok, refl, sym, ap, subst, ◌∙◌, arith}
use Rattle.std.specs.Prelude.{ℤ, unwrap_or}
use Rattle.std.specs.List.{AllZip, AllByRecursion}
use Rattle.std.proofs.lemmas.List.{drop_at}
use Rattle.drc_base.specs.Steps.{◌>>=◌}
use Rattle.mesh_model.specs.declared.geometries.Geometry.{Geometry}
use Rattle.ply_text.specs.declared.headers.Header.{Header}
use Rattle.attr_heads.specs.Head.{row_bounds}
use Rattle.ply_text.specs.Header.{header_of_in}
use Rattle.ply_text.specs.Tokens.{token_lines}
use Rattle.ply_mesh.specs.Body.{row_read, face_of, items_from}
use Rattle.ply_mesh.specs.Read.{geometry_of_rows, face_items_from, body_of, ply_read_in}
use Rattle.laws_text.specs.HeaderShape.{Line, MayDeclareFaces, IsHeaderOf, BeginWithHeader}
use Rattle.laws_text.specs.TextShape.{IsRowLine, IsFaceLine, MayHaveFaceLines, IsTextOf}
use Rattle.laws_text.specs.Laws.{TextsAreShapes}
use Rattle.laws_text.proofs.Lines.{step_ok}
use Rattle.laws_text.proofs.Items.{row_says, row_line_read, face_says, face_line_read, AreItems, items_say, items_read, ends_say, ends_read}
use Rattle.laws_text.proofs.Shapes.{text_headers_are_shapes}

step_on : {A B E : Type 0} (r : Result A E) (f : A → Result B E) (x : A) → r ≡ Ok x → (r >>= f) ≡ f x
step_on r f x e = ap (λ r. r >>= f) e

-- a header with faces has their types
list_there : (m : Option ℕ) (types : Option (ℕ × ℕ)) (lines : List Line) (k : ℕ) → MayDeclareFaces m types lines → m ≡ Some k → (t : ℕ × ℕ) × (types ≡ Some t)
list_there None None lines k h e = absurd (cc e)
list_there None (Some t) lines k h e = absurd h
list_there (Some m) None lines k h e = absurd h
list_there (Some m) (Some t) lines k h e = (t, refl)

-- ---- faces

record Faces (h : Header) (faces : Option (List (List ℕ))) (lines rest : List Line) : Type 0 where
  triangles : List Line
  cut : lines ≡ triangles ++ rest
  are : MayHaveFaceLines h faces triangles

faces_say : (h : Header) (at : ℕ) (lines : List Line) (o : Option ℕ) (p : Option (List (List ℕ)) × List Line) → ((k : ℕ) → o ≡ Some k → (t : ℕ × ℕ) × (h.list ≡ Some t)) → h.faces ≡ o → face_items_from h at lines o ≡ Ok p → Faces h p.0 lines p.1
faces_say h at lines None p typed same e =
    let s : ◌≡◌ {A = Option (List (List ℕ)) × List Line} (None, lines) p = cc e in
    let none : Faces h None lines lines = record { triangles = []; cut = refl; are = (same, refl) } in
    subst (λ (p : Option (List (List ℕ)) × List Line). Faces h p.0 lines p.1) s none
faces_say h at lines (Some k) p typed same e =
    let t = typed k refl in
    let a = step_ok (items_from (face_of (unwrap_or h.list (0, 0)) h.vertices) k at lines) _ p e in
    let s : ◌≡◌ {A = Option (List (List ℕ)) × List Line} (Some a.0.0, a.0.1) p = cc a.2 in
    let there : unwrap_or h.list (0, 0) ≡ t.0 = ap (λ (o : Option (ℕ × ℕ)). unwrap_or o (0, 0)) t.1 in
    let b : items_from (face_of t.0 h.vertices) k at lines ≡ Ok a.0 = ap (λ (t : ℕ × ℕ). items_from (face_of t h.vertices) k at lines) (sym there) ∙ a.1 in
    let i : AreItems (IsFaceLine t.0 h.vertices) k a.0.0 lines a.0.1 = items_say (IsFaceLine t.0 h.vertices) (face_of t.0 h.vertices) (λ at line face e. face_says t.0 h.vertices at line face e) k at lines a.0 b in
    let some : Faces h (Some a.0.0) lines a.0.1 = record {
      triangles = i.front;
      cut = i.cut;
      are = record { types = t.0; list = t.1; count = same ∙ ap Some (sym i.count); each = i.each };
    } in
    subst (λ (p : Option (List (List ℕ)) × List Line). Faces h p.0 lines p.1) s some

faces_read : (h : Header) (at : ℕ) (faces : Option (List (List ℕ))) (triangles rest : List Line) → MayHaveFaceLines h faces triangles → face_items_from h at (triangles ++ rest) h.faces ≡ Ok (faces, rest)
faces_read h at None triangles rest are = rw (are.0, are.1) refl
faces_read h at (Some faces) triangles rest are =
    let r = items_read (IsFaceLine are.types h.vertices) (face_of are.types h.vertices) (λ at face line is. face_line_read are.types h.vertices at face line is) at faces triangles rest are.each in
    ap (face_items_from h at (triangles ++ rest)) are.count
    ∙ ap (λ (o : Option (ℕ × ℕ)). items_from (face_of (unwrap_or o (0, 0)) h.vertices) (length faces) at (triangles ++ rest) >>= λ (p : List (List ℕ) × List Line). Ok (Some p.0, p.1)) are.list
    ∙ step_on (items_from (face_of are.types h.vertices) (length faces) at (triangles ++ rest)) _ (faces, rest) r

-- ---- the body

-- the lines behind profile a header
record Body (h : Header) (g : Geometry) (lines : List Line) : Type 0 where
  rows : List Line
  triangles : List Line
  rest : List Line
  whole : lines ≡ rows ++ (triangles ++ rest)
  points : List (List ℤ)
  count : length points ≡ h.vertices
  each : AllZip (IsRowLine (row_bounds h.heads)) points rows
  faces : Option (List (List ℕ))
  face_lines : MayHaveFaceLines h faces triangles
  blank : AllByRecursion (λ line. line ≡ []) rest
  geometry : g ≡ geometry_of_rows h.heads points faces

body_says : (h : Header) (lines : List Line) (g : Geometry) → ((k : ℕ) → h.faces ≡ Some k → (t : ℕ × ℕ) × (h.list ≡ Some t)) → body_of h lines ≡ Ok g → Body h g lines
unfolding body_of
body_says h lines g typed e =
    let p = step_ok (items_from (row_read (row_bounds h.heads)) h.vertices h.body_line lines) _ g e in
    let q = step_ok (face_items_from h (h.body_line + h.vertices) p.0.1 h.faces) _ g p.2 in
    let r = ends_say (geometry_of_rows h.heads p.0.0 q.0.0) g _ q.0.1 q.2 in
    let i = items_say (IsRowLine (row_bounds h.heads)) (row_read (row_bounds h.heads)) (λ at line row e. row_says (row_bounds h.heads) at line row e) h.vertices h.body_line lines p.0 p.1 in
    let f = faces_say h (h.body_line + h.vertices) p.0.1 h.faces q.0 typed refl q.1 in
    record {
      rows = i.front;
      triangles = f.triangles;
      rest = q.0.1;
      whole = i.cut ∙ ap (λ (ls : List Line). i.front ++ ls) f.cut;
      points = p.0.0;
      count = i.count;
      each = i.each;
      faces = q.0.0;
      face_lines = f.are;
      blank = r.1;
      geometry = sym r.0;
    }

body_read : (h : Header) (lines : List Line) (g : Geometry) → Body h g lines → body_of h lines ≡ Ok g
unfolding body_of
body_read h lines g b =
    let heads = h.heads in
    let tail = b.triangles ++ b.rest in
    let a : items_from (row_read (row_bounds h.heads)) h.vertices h.body_line lines ≡ Ok (b.points, tail) =
    ap (items_from (row_read (row_bounds h.heads)) h.vertices h.body_line) b.whole ∙ ap (λ n. items_from (row_read (row_bounds h.heads)) n h.body_line (b.rows ++ tail)) (sym b.count)
    ∙ items_read (IsRowLine (row_bounds h.heads)) (row_read (row_bounds h.heads)) (λ at row line is. row_line_read (row_bounds h.heads) at row line is) h.body_line b.points b.rows tail b.each in
    step_on (items_from (row_read (row_bounds h.heads)) h.vertices h.body_line lines) _ (b.points, tail) a
    ∙ step_on (face_items_from h (h.body_line + h.vertices) tail h.faces) _ (b.faces, b.rest) (faces_read h (h.body_line + h.vertices) b.faces b.triangles b.rest b.face_lines)
    ∙ ends_read (geometry_of_rows heads b.points b.faces) (h.body_line + h.vertices + unwrap_or h.faces 0) b.rest b.blank
    ∙ ap Ok (sym b.geometry)

-- ---- the text

behind : (profile : ℕ) (h : Header) (lines front rest : List Line) → lines ≡ front ++ rest → IsHeaderOf profile h front → drop (h.body_line - 1) lines ≡ rest
behind profile h lines front rest cut is = ap (drop (h.body_line - 1)) cut ∙ drop_at front rest (h.body_line - 1) (let b = is.body in omega arith)

body_behind : (profile : ℕ) (h : Header) (lines front rest : List Line) (g : Geometry) → lines ≡ front ++ rest → IsHeaderOf profile h front → body_of h (drop (h.body_line - 1) lines) ≡ Ok g → body_of h rest ≡ Ok g
body_behind profile h lines front rest g cut is e = subst (λ (ls : List Line). body_of h ls ≡ Ok g) (behind profile h lines front rest cut is) e

-- a header, and what stands behind profile it
text_from : (profile : ℕ) (h : Header) (g : Geometry) (lines : List Line) (begin : BeginWithHeader profile h lines) → Body h g begin.rest → IsTextOf profile g lines
text_from profile h g lines begin b = record {
  h = h;
  header = begin.header;
  rows = b.rows;
  triangles = b.triangles;
  rest = b.rest;
  whole = begin.cut ∙ ap (λ (ls : List Line). begin.header ++ ls) b.whole;
  is = begin.is;
  points = b.points;
  count = b.count;
  each = b.each;
  faces = b.faces;
  face_lines = b.face_lines;
  blank = b.blank;
  geometry = b.geometry;
}

text_says : (profile : ℕ) (text : List ℕ) (g : Geometry) → ply_read_in profile text ≡ Ok g → IsTextOf profile g (token_lines text)
unfolding ply_read_in
text_says profile text g e =
    let lines = token_lines text in
    let p = step_ok (header_of_in profile text) (λ h. body_of h (drop (h.body_line - 1) (token_lines text))) g e in
    let h = p.0 in
    let begin : BeginWithHeader profile h lines = (text_headers_are_shapes profile text h).0 p.1 in
    let after : body_of h begin.rest ≡ Ok g = body_behind profile h lines begin.header begin.rest g begin.cut begin.is p.2 in
    text_from profile h g lines begin (body_says h begin.rest g (λ k there. list_there h.faces h.list begin.is.declared.mesh k begin.is.declared.rest there) after)

text_read : (profile : ℕ) (text : List ℕ) (g : Geometry) → IsTextOf profile g (token_lines text) → ply_read_in profile text ≡ Ok g
unfolding ply_read_in
text_read profile text g is =
    let h = is.h in
    let lines = token_lines text in
    let tail = is.rows ++ (is.triangles ++ is.rest) in
    let header : header_of_in profile text ≡ Ok h = (text_headers_are_shapes profile text h).1 (record { header = is.header; rest = tail; cut = is.whole; is = is.is }) in
    let body : Body h g tail = record {
      rows = is.rows;
      triangles = is.triangles;
      rest = is.rest;
      whole = refl;
      points = is.points;
      count = is.count;
      each = is.each;
      faces = is.faces;
      face_lines = is.face_lines;
      blank = is.blank;
      geometry = is.geometry;
    } in
    step_on (header_of_in profile text) (λ h. body_of h (drop (h.body_line - 1) lines)) h header ∙ ap (body_of h) (behind profile h lines is.header tail is.whole is.is) ∙ body_read h tail g body

pub texts_are_shapes : TextsAreShapes
texts_are_shapes profile text g = (text_says profile text g, text_read profile text g)
