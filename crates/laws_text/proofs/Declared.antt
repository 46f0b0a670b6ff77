-- Lines of declarations go on as their forms say, and all of them together have one form.
use Rattle.std.proofs.Common.{◌≡◌, ℕ, ◌≤◌, true, false, List, [], ◌∷◌, ◌++◌, length, Option, Some, None, Ok, refl, sym, ap, subst, ◌∙◌, append_assoc, inl, inr}
use Rattle.std.specs.Prelude.{codes}
use Rattle.std.specs.List.{AllZip}
use Rattle.std.specs.Str.{bytes_eq}
use Rattle.std.proofs.lemmas.Bool.{and_parts, cases_Bool}
use Rattle.std.proofs.lemmas.List.{append-nil}
use Rattle.drc_base.specs.declared.limits.TheConstants.{MAX_POINTS, MAX_FACES}
use Rattle.attr_heads.specs.declared.heads.Head.{Head}
use Rattle.ply_text.specs.Numbers.{is_digits}
use Rattle.ply_text.specs.Words.{keyword_of}
use Rattle.ply_text.specs.PropertyTypes.{type_of}
use Rattle.ply_text.specs.Declarations.{is_format, keyword_at, element_of, is_list, scalar_of, list_of}
use Rattle.ply_text.specs.Draft.{PropertyParts, element, scalar, list, body}
use Rattle.ply_text.specs.Header.{ends_header}
use Rattle.laws_text.specs.HeaderShape.{Line, writes, IsElement, IsProperty, IsListProperty, DeclareFaces, MayDeclareFaces, Declare, format_line}
use Rattle.laws_text.proofs.Lines.{word_from, writes_within}
use Rattle.laws_text.proofs.Declaring.{Stage, begun, formatted, points, faces, listed, draft_at, Next}

no_type_list : (word : List ℕ) (t : ℕ) → type_of word ≡ Some t → bytes_eq word (codes "list") ≡ false
unfolding type_of
no_type_list word t e = elim (cases_Bool (bytes_eq word (codes "list"))) [
  | inr no' ↦ no'
  | inl yes' ↦ let f : type_of (codes "list") ≡ Some t = ap type_of (sym (word_from word (codes "list") yes')) ∙ e in absurd (cc)
]

digits_of : (n : ℕ) (token : List ℕ) → writes n token ≡ true → is_digits token ≡ true
digits_of n token e = (and_parts _ _ e).0

-- a next line goes on, and doesn't end the header
pub next_body : (s s' : Stage) (at : ℕ) (heads : List Head) (line : Line) → Next s line s' → body at (draft_at s heads) line (keyword_at line) ≡ Ok (draft_at s' heads)
unfolding body is_format keyword_of element element_of scalar scalar_of list list_of is_list
next_body begun s' at heads line (f, e) = rw (f, e) refl
next_body formatted s' at heads line (n, few, is, e) = rw (is.form, e, digits_of n is.number is.says, writes_within MAX_POINTS is.number n is.says few) refl
next_body (points n ps) s' at heads line (inl (p, is, e)) = rw (is.form, e, no_type_list is.word p.dtype is.says, is.says) refl
next_body (points n ps) s' at heads line (inr (m, few, is, e)) = rw (is.form, e, digits_of m is.number is.says, writes_within MAX_FACES is.number m is.says few) refl
next_body (faces n ps m) s' at heads line (types, is, e) = rw (is.form, e, is.counts, is.indices, is.named) refl
next_body (listed n ps m types) s' at heads line h = absurd h

pub next_goes : (s s' : Stage) (heads : List Head) (line : Line) → Next s line s' → ends_header (draft_at s heads) line ≡ false
unfolding keyword_of
next_goes begun s' heads line h = refl
next_goes formatted s' heads line (n, few, is, e) = rw is.form refl
next_goes (points n ps) s' heads line (inl (p, is, e)) = rw is.form refl
next_goes (points n ps) s' heads line (inr (m, few, is, e)) = rw is.form refl
next_goes (faces n ps m) s' heads line (types, is, e) = rw is.form refl
next_goes (listed n ps m types) s' heads line h = absurd h

-- ---- all lines

abbrev pub Steps : Stage → List Line → Stage → Type 0
Steps s [] s' = s ≡ s'
Steps s (line ∷ lines) s' = (next : Stage) × Next s line next × Steps next lines s'

-- the stage of a whole header
abbrev pub IsDone : Stage → ℕ → List PropertyParts → Option ℕ → Option (ℕ × ℕ) → Type 0
IsDone begun n ps m types = ⊥
IsDone formatted n ps m types = ⊥
IsDone (points k qs) n ps m types = (k ≡ n) × (qs ≡ ps) × (m ≡ None) × (types ≡ None) × (1 ≤ length ps)
IsDone (faces k qs l) n ps m types = ⊥
IsDone (listed k qs l t) n ps m types = (k ≡ n) × (qs ≡ ps) × (m ≡ Some l) × (types ≡ Some t) × (1 ≤ length ps)

-- what is left where points are declared: properties, and perhaps faces
record PointsRest (n : ℕ) (qs : List PropertyParts) (k : ℕ) (ps : List PropertyParts) (m : Option ℕ) (types : Option (ℕ × ℕ)) (lines : List Line) : Type 0 where
  more : List PropertyParts
  columns : List Line
  mesh : List Line
  cut : lines ≡ columns ++ mesh
  each : AllZip IsProperty more columns
  whole : qs ++ more ≡ ps
  same : n ≡ k
  some : 1 ≤ length ps
  rest : MayDeclareFaces m types mesh

-- what is left where faces are declared: their list
record FacesRest (n : ℕ) (qs : List PropertyParts) (f : ℕ) (k : ℕ) (ps : List PropertyParts) (m : Option ℕ) (types : Option (ℕ × ℕ)) (lines : List Line) : Type 0 where
  property : Line
  kinds : ℕ × ℕ
  one : lines ≡ property ∷ []
  list : IsListProperty kinds property
  same : n ≡ k
  whole : qs ≡ ps
  faces : m ≡ Some f
  lists : types ≡ Some kinds
  some : 1 ≤ length ps

listed_rest : (n f k : ℕ) (qs ps : List PropertyParts) (t : ℕ × ℕ) (m : Option ℕ) (types : Option (ℕ × ℕ)) (line : Line) (lines : List Line) (s : Stage) → IsListProperty t line → Steps (listed n qs f t) lines s → IsDone s k ps m types → FacesRest n qs f k ps m types (line ∷ lines)
listed_rest n f k qs ps t m types line [] s is e done =
    let d = subst (λ (s : Stage). IsDone s k ps m types) (sym e) done in
    record { property = line; kinds = t; one = refl; list = is; same = d.0; whole = d.1; faces = d.2; lists = d.3; some = d.4 }
listed_rest n f k qs ps t m types line (l ∷ lines) s is (next, by, steps) done = absurd by

faces_rest : (n f k : ℕ) (qs ps : List PropertyParts) (m : Option ℕ) (types : Option (ℕ × ℕ)) (lines : List Line) (s : Stage) → Steps (faces n qs f) lines s → IsDone s k ps m types → FacesRest n qs f k ps m types lines
faces_rest n f k qs ps m types [] s e done = absurd (subst (λ (s : Stage). IsDone s k ps m types) (sym e) done)
faces_rest n f k qs ps m types (line ∷ lines) s (next, (t, is, e), steps) done = listed_rest n f k qs ps t m types line lines s is (subst (λ (x : Stage). Steps x lines s) e steps) done

points_rest : (n k : ℕ) (qs ps : List PropertyParts) (m : Option ℕ) (types : Option (ℕ × ℕ)) (lines : List Line) (s : Stage) → Steps (points n qs) lines s → IsDone s k ps m types → PointsRest n qs k ps m types lines
points_rest n k qs ps m types [] s e done =
    let d = subst (λ (s : Stage). IsDone s k ps m types) (sym e) done in
    record { more = []; columns = []; mesh = []; cut = refl; each = tt; whole = append-nil qs ∙ d.1; same = d.0; some = d.4; rest = rw (d.2, d.3) refl }
points_rest n k qs ps m types (line ∷ lines) s (next, inl (p, is, e), steps) done =
    let r = points_rest n k (qs ++ p ∷ []) ps m types lines s (subst (λ (x : Stage). Steps x lines s) e steps) done in
    record {
      more = p ∷ r.more;
      columns = line ∷ r.columns;
      mesh = r.mesh;
      cut = ap (λ (ls : List Line). line ∷ ls) r.cut;
      each = (is, r.each);
      whole = sym (append_assoc qs (p ∷ []) r.more) ∙ r.whole;
      same = r.same;
      some = r.some;
      rest = r.rest;
    }
points_rest n k qs ps m types (line ∷ lines) s (next, inr (f, few, is, e), steps) done =
    let r = faces_rest n f k qs ps m types lines s (subst (λ (x : Stage). Steps x lines s) e steps) done in
    record {
      more = [];
      columns = [];
      mesh = line ∷ lines;
      cut = refl;
      each = tt;
      whole = append-nil qs ∙ r.whole;
      same = r.same;
      some = r.some;
      rest =
          let declare : DeclareFaces f r.kinds (line ∷ lines) = record { element = line; property = r.property; order = ap (λ (ls : List Line). line ∷ ls) r.one; faces = is; few = few; list = r.list } in
          rw (r.faces, r.lists) declare;
    }

vertex_rest : (k : ℕ) (ps : List PropertyParts) (m : Option ℕ) (types : Option (ℕ × ℕ)) (line : Line) (lines : List Line) (s : Stage) → line ≡ format_line → Steps formatted lines s → IsDone s k ps m types → Declare k ps m types (line ∷ lines)
vertex_rest k ps m types line [] s f e done = absurd (subst (λ (s : Stage). IsDone s k ps m types) (sym e) done)
vertex_rest k ps m types line (vertex ∷ lines) s f (next, (n, few, is, e), steps) done =
    let r = points_rest n k [] ps m types lines s (subst (λ (x : Stage). Steps x lines s) e steps) done in
    record {
      vertex = vertex;
      columns = r.columns;
      mesh = r.mesh;
      order = ap (λ (l : Line). l ∷ vertex ∷ lines) f ∙ ap (λ (ls : List Line). format_line ∷ vertex ∷ ls) r.cut;
      points = subst (λ (n : ℕ). IsElement (codes "vertex") n vertex) r.same is;
      few = subst (λ (n : ℕ). n ≤ MAX_POINTS) r.same few;
      some = r.some;
      each = subst (λ (qs : List PropertyParts). AllZip IsProperty qs r.columns) r.whole r.each;
      rest = r.rest;
    }

-- lines that go on from the beginning to a whole header declare it
pub steps_declare : (k : ℕ) (ps : List PropertyParts) (m : Option ℕ) (types : Option (ℕ × ℕ)) (lines : List Line) (s : Stage) → Steps begun lines s → IsDone s k ps m types → Declare k ps m types lines
steps_declare k ps m types [] s e done = absurd (subst (λ (s : Stage). IsDone s k ps m types) (sym e) done)
steps_declare k ps m types (line ∷ lines) s (next, (f, e), steps) done = vertex_rest k ps m types line lines s f (subst (λ (x : Stage). Steps x lines s) e steps) done

-- ---- and the other way round

-- the stage that is reached
pub record Reaches (s : Stage) (k : ℕ) (ps : List PropertyParts) (m : Option ℕ) (types : Option (ℕ × ℕ)) (lines : List Line) : Type 0 where
  pub stage : Stage
  pub steps : Steps s lines stage
  pub done : IsDone stage k ps m types

mesh_reach : (k : ℕ) (ps : List PropertyParts) (m : Option ℕ) (types : Option (ℕ × ℕ)) (lines : List Line) → 1 ≤ length ps → MayDeclareFaces m types lines → Reaches (points k ps) k ps m types lines
mesh_reach k ps None None lines some e = rw e (record { stage = points k ps; steps = refl; done = (refl, refl, refl, refl, some) })
mesh_reach k ps None (Some t) lines some h = absurd h
mesh_reach k ps (Some f) None lines some h = absurd h
mesh_reach k ps (Some f) (Some t) lines some h =
    rw h.order (record {
      stage = listed k ps f t;
      steps = (faces k ps f, inr (f, h.few, h.faces, refl), (listed k ps f t, (t, h.list, refl), refl));
      done = (refl, refl, refl, refl, some);
    })

columns_reach : (k : ℕ) (qs more ps : List PropertyParts) (m : Option ℕ) (types : Option (ℕ × ℕ)) (columns mesh : List Line) → AllZip IsProperty more columns → qs ++ more ≡ ps → 1 ≤ length ps → MayDeclareFaces m types mesh → Reaches (points k qs) k ps m types (columns ++ mesh)
columns_reach k qs [] ps m types [] mesh each whole some rest =
    subst (λ (xs : List PropertyParts). Reaches (points k xs) k ps m types mesh) (sym whole ∙ append-nil qs) (mesh_reach k ps m types mesh some rest)
columns_reach k qs [] ps m types (line ∷ columns) mesh each whole some rest = absurd each
columns_reach k qs (p ∷ more) ps m types [] mesh each whole some rest = absurd each
columns_reach k qs (p ∷ more) ps m types (line ∷ columns) mesh (is, each) whole some rest =
    let r = columns_reach k (qs ++ p ∷ []) more ps m types columns mesh each (append_assoc qs (p ∷ []) more ∙ whole) some rest in
    record { stage = r.stage; steps = (points k (qs ++ p ∷ []), inl (p, is, refl), r.steps); done = r.done }

-- lines that declare a header go on to its end
pub declare_reach : (k : ℕ) (ps : List PropertyParts) (m : Option ℕ) (types : Option (ℕ × ℕ)) (lines : List Line) → Declare k ps m types lines → Reaches begun k ps m types lines
declare_reach k ps m types lines d =
    let r = columns_reach k [] ps ps m types d.columns d.mesh d.each refl d.some d.rest in
    rw d.order (record {
      stage = r.stage;
      steps = (formatted, (refl, refl), (points k [], (k, d.few, d.points, refl), r.steps));
      done = r.done;
    })
