-- Declarations, line by line and as a whole.
use Rattle.std.proofs.Common.{◌≡◌, ℕ, ◌≤◌, ◌&&◌, Bool, true, false, List, [], ◌∷◌, ◌++◌, cond, Some, None, Ok, refl, sym, ap, ◌∙◌, inl, inr, ◌⊎◌}
use Rattle.std.specs.Prelude.{codes, is_some, is_none}
use Rattle.std.specs.Str.{bytes_eq}
use Rattle.std.proofs.lemmas.Bool.{and_parts}
use Rattle.drc_base.specs.declared.kinds.Kind.TheVariants.{PlyFormat, PlyHeader, PlyType, PlyElement, PointLimit, FaceLimit}
use Rattle.drc_base.specs.declared.limits.TheConstants.{MAX_POINTS, MAX_FACES}
use Rattle.attr_heads.specs.declared.heads.Head.{Head}
use Rattle.ply_text.specs.Numbers.{natural_within, is_digits}
use Rattle.ply_text.specs.Words.{keyword_of, is_indices}
use Rattle.ply_text.specs.PropertyTypes.{type_of}
use Rattle.ply_text.specs.Declarations.{is_format, keyword_at, element_of, is_list, scalar_of, list_of}
use Rattle.ply_text.specs.Draft.{Draft, PropertyParts, property, in_vertex, element, scalar, list, declaration, body}
use Rattle.laws_text.specs.HeaderShape.{Line, IsElement, IsProperty, IsListProperty, format_line}
use Rattle.laws_text.proofs.Lines.{word_from, passed, not_refused, or_refuse_ok, within_writes}
use Rattle.laws_text.proofs.Keywords.{keyword_cases}

-- how far the declarations have come
pub data Stage : Type 0 where
  begun : Stage
  formatted : Stage
  points : ℕ → List PropertyParts → Stage
  faces : ℕ → List PropertyParts → ℕ → Stage
  listed : ℕ → List PropertyParts → ℕ → ℕ × ℕ → Stage

abbrev pub draft_at : Stage → List Head → Draft
draft_at begun heads = record { formatted = false; heads = heads; vertices = None; properties = []; faces = None; list = None }
draft_at formatted heads = record { formatted = true; heads = heads; vertices = None; properties = []; faces = None; list = None }
draft_at (points n ps) heads = record { formatted = true; heads = heads; vertices = Some n; properties = ps; faces = None; list = None }
draft_at (faces n ps m) heads = record { formatted = true; heads = heads; vertices = Some n; properties = ps; faces = Some m; list = None }
draft_at (listed n ps m types) heads = record { formatted = true; heads = heads; vertices = Some n; properties = ps; faces = Some m; list = Some types }

-- ---- the forms of lines

element_form : (line : Line) (e : List ℕ × List ℕ) → element_of line ≡ Some e → (first : List ℕ) × (line ≡ first ∷ e.0 ∷ e.1 ∷ []) × (is_digits e.1 ≡ true)
unfolding element_of
element_form [] e h = absurd (cc)
element_form (a ∷ []) e h = absurd (cc)
element_form (a ∷ b ∷ []) e h = absurd (cc)
element_form (a ∷ b ∷ c ∷ []) e h =
    passed (is_digits c) (Some (b, c)) None (Some e) _ h
    (λ digits s. let t : (b, c) ≡ e = cc in (a, ap (λ (p : List ℕ × List ℕ). a ∷ p.0 ∷ p.1 ∷ []) t, ap (λ (p : List ℕ × List ℕ). is_digits p.1) (sym t) ∙ digits))
    (λ _ s. absurd (cc))
element_form (a ∷ b ∷ c ∷ d ∷ ts) e h = absurd (cc)

scalar_form : (line : Line) (p : List ℕ × List ℕ) → scalar_of line ≡ Some p → (first : List ℕ) × (line ≡ first ∷ p.0 ∷ p.1 ∷ [])
unfolding scalar_of
scalar_form [] p h = absurd (cc)
scalar_form (a ∷ []) p h = absurd (cc)
scalar_form (a ∷ b ∷ []) p h = absurd (cc)
scalar_form (a ∷ b ∷ c ∷ []) p h = let t : (b, c) ≡ p = cc in (a, ap (λ (p : List ℕ × List ℕ). a ∷ p.0 ∷ p.1 ∷ []) t)
scalar_form (a ∷ b ∷ c ∷ d ∷ ts) p h = absurd (cc)

list_form : (line : Line) (p : List ℕ × List ℕ × List ℕ) → list_of line ≡ Some p → (first : List ℕ) × (second : List ℕ) × (line ≡ first ∷ second ∷ p.0 ∷ p.1 ∷ p.2 ∷ [])
unfolding list_of
list_form [] p h = absurd (cc)
list_form (a ∷ []) p h = absurd (cc)
list_form (a ∷ b ∷ []) p h = absurd (cc)
list_form (a ∷ b ∷ c ∷ []) p h = absurd (cc)
list_form (a ∷ b ∷ c ∷ d ∷ []) p h = absurd (cc)
list_form (a ∷ b ∷ c ∷ d ∷ g ∷ []) p h = let t : (c, d, g) ≡ p = cc in (a, b, ap (λ (p : List ℕ × List ℕ × List ℕ). a ∷ b ∷ p.0 ∷ p.1 ∷ p.2 ∷ []) t)
list_form (a ∷ b ∷ c ∷ d ∷ g ∷ h ∷ ts) p e = absurd (cc)

format_form : (line : Line) → is_format line ≡ true → line ≡ format_line
unfolding is_format
format_form [] e = absurd (cc)
format_form (a ∷ []) e = absurd (cc)
format_form (a ∷ b ∷ []) e = absurd (cc)
format_form (a ∷ b ∷ c ∷ []) e =
    let p = and_parts (bytes_eq a (codes "format") && bytes_eq b (codes "ascii")) (bytes_eq c (codes "1.0")) e in
    let q = and_parts (bytes_eq a (codes "format")) (bytes_eq b (codes "ascii")) p.0 in
    let x = word_from a (codes "format") q.0 in
    let y = word_from b (codes "ascii") q.1 in
    let z = word_from c (codes "1.0") p.1 in
    rw (x, y, z) refl
format_form (a ∷ b ∷ c ∷ d ∷ ts) e = absurd (cc)

-- ---- one line

-- what a declaration adds
abbrev pub Next : Stage → Line → Stage → Type 0
Next begun line s = (line ≡ format_line) × (s ≡ formatted)
Next formatted line s = (n : ℕ) × (n ≤ MAX_POINTS) × IsElement (codes "vertex") n line × (s ≡ points n [])
Next (points n ps) line s =
    ((p : PropertyParts) × IsProperty p line × (s ≡ points n (ps ++ p ∷ [])))
    ⊎ ((m : ℕ) × (m ≤ MAX_FACES) × IsElement (codes "face") m line × (s ≡ faces n ps m))
Next (faces n ps m) line s = (types : ℕ × ℕ) × IsListProperty types line × (s ≡ listed n ps m types)
Next (listed n ps m types) line s = ⊥

-- a line goes on from a stage to the next, which it says
pub record GoesOn (s : Stage) (heads : List Head) (line : Line) (d : Draft) : Type 0 where
  pub next : Stage
  pub by : Next s line next
  pub draft : d ≡ draft_at next heads

-- after the format an element or a property goes on
declared : (at : ℕ) (d d' : Draft) (line : Line) (P : Type 0) → declaration at d line (keyword_at line) ≡ Ok d'
    → ((tokens : Line) → line ≡ codes "element" ∷ tokens → element at d line ≡ Ok d' → P)
    → ((tokens : Line) → line ≡ codes "property" ∷ tokens → cond (is_list line) (list at d line) (scalar at d line) ≡ Ok d' → P) → P
unfolding keyword_of
declared at d d' [] P e f g = not_refused P PlyHeader at d' e
declared at d d' (word ∷ tokens) P e f g =
    keyword_cases word P
    (λ c. not_refused P PlyHeader at d' (rw c at e))
    (λ c o. not_refused P PlyHeader at d' (rw (c, o) at e))
    (λ c o x. f tokens (ap (λ (w : List ℕ). w ∷ tokens) (word_from word (codes "element") x)) (rw (c, o, x) at e))
    (λ c o x p. g tokens (ap (λ (w : List ℕ). w ∷ tokens) (word_from word (codes "property") p)) (rw (c, o, x, p) at e))
    (λ c o x p q. not_refused P PlyHeader at d' (rw (c, o, x, p, q) at e))
    (λ c o x p q. not_refused P PlyHeader at d' (rw (c, o, x, p, q) at e))

-- the line begins with this word
abbrev Leads : List ℕ → Line → Type 0
Leads word line = (tokens : Line) × (line ≡ word ∷ tokens)

led : (word a b c : List ℕ) (line : Line) → Leads word line → line ≡ a ∷ b ∷ c ∷ [] → line ≡ word ∷ b ∷ c ∷ []
led word a b c line (tokens, e) f = let g : word ∷ tokens ≡ a ∷ b ∷ c ∷ [] = sym e ∙ f in let h : a ≡ word = cc in f ∙ ap (λ (x : List ℕ). x ∷ b ∷ c ∷ []) h

vertex_goes : (at : ℕ) (heads : List Head) (d : Draft) (line : Line) → Leads (codes "element") line → element at (draft_at formatted heads) line ≡ Ok d → GoesOn formatted heads line d
unfolding element
vertex_goes at heads d line l h =
    let p = or_refuse_ok PlyHeader at (element_of line) _ d h in
    let e = p.0 in
    let f = element_form line e p.1 in
    passed (bytes_eq e.0 (codes "vertex") && true) _ _ (Ok d) _ p.2
    (λ name go.
    let q = or_refuse_ok PointLimit at (natural_within MAX_POINTS e.1) _ d go in
    let w = within_writes MAX_POINTS e.1 q.0 q.1 in
    record {
      next = points q.0 [];
      by = (q.0, w.1, record { number = e.1; form = led (codes "element") f.0 e.0 e.1 line l f.1 ∙ ap (λ (x : List ℕ). codes "element" ∷ x ∷ e.1 ∷ []) (word_from e.0 (codes "vertex") (and_parts _ _ name).0); says = w.0 }, refl);
      draft = let s = q.2 in cc;
    })
    (λ name go. passed (bytes_eq e.0 (codes "face") && false) _ _ (Ok d) _ go (λ face _. absurd (let z = (and_parts (bytes_eq e.0 (codes "face")) false face).1 in cc)) (λ face go. not_refused _ PlyElement at d go))

none_and : (P : Type 0) (b : Bool) → (b && false) ≡ true → P
none_and P true e = absurd (cc)
none_and P false e = absurd (cc)

left_out : (P : Type 0) (b c : Bool) → c ≡ false → (b && c) ≡ true → P
left_out P b c e f = let g = (and_parts b c f).1 in absurd (cc)

both : (P : Type 0) (b : Bool) → b ≡ false → b ≡ true → P
both P b e f = absurd (cc)

face_goes : (at n : ℕ) (ps : List PropertyParts) (heads : List Head) (d : Draft) (line : Line) → Leads (codes "element") line → element at (draft_at (points n ps) heads) line ≡ Ok d → GoesOn (points n ps) heads line d
unfolding element
face_goes at n ps heads d line l h =
    let p = or_refuse_ok PlyHeader at (element_of line) _ d h in
    let e = p.0 in
    let f = element_form line e p.1 in
    passed (bytes_eq e.0 (codes "vertex") && false) _ _ (Ok d) _ p.2
    (λ name go. none_and _ (bytes_eq e.0 (codes "vertex")) name)
    (λ _ go.
    passed (bytes_eq e.0 (codes "face") && true) _ _ (Ok d) _ go
    (λ name more.
    let q = or_refuse_ok FaceLimit at (natural_within MAX_FACES e.1) _ d more in
    let w = within_writes MAX_FACES e.1 q.0 q.1 in
    record {
      next = faces n ps q.0;
      by = inr (q.0, w.1, record { number = e.1; form = led (codes "element") f.0 e.0 e.1 line l f.1 ∙ ap (λ (x : List ℕ). codes "element" ∷ x ∷ e.1 ∷ []) (word_from e.0 (codes "face") (and_parts _ _ name).0); says = w.0 }, refl);
      draft = let s = q.2 in cc;
    })
    (λ _ more. not_refused _ PlyElement at d more))

-- no element where faces are declared
no_element : (at : ℕ) (d d' : Draft) (line : Line) (P : Type 0) → is_none d.vertices ≡ false → in_vertex d ≡ false → element at d line ≡ Ok d' → P
unfolding element
no_element at d d' line P v i h =
    let p = or_refuse_ok PlyHeader at (element_of line) _ d' h in
    let e = p.0 in
    passed (bytes_eq e.0 (codes "vertex") && is_none d.vertices) _ _ (Ok d') P p.2
    (λ name go. left_out P (bytes_eq e.0 (codes "vertex")) (is_none d.vertices) v name)
    (λ _ go. passed (bytes_eq e.0 (codes "face") && in_vertex d) _ _ (Ok d') P go
    (λ name more. left_out P (bytes_eq e.0 (codes "face")) (in_vertex d) i name)
    (λ _ more. not_refused P PlyElement at d' more))

scalar_goes : (at n : ℕ) (ps : List PropertyParts) (heads : List Head) (d : Draft) (line : Line) → Leads (codes "property") line → scalar at (draft_at (points n ps) heads) line ≡ Ok d → GoesOn (points n ps) heads line d
unfolding scalar
scalar_goes at n ps heads d line l h =
    let p = or_refuse_ok PlyHeader at (scalar_of line) _ d h in
    let f = scalar_form line p.0 p.1 in
    let t = or_refuse_ok PlyType at (type_of p.0.0) _ d p.2 in
    let s = t.2 in
    record {
      next = points n (ps ++ property t.0 p.0.1 ∷ []);
      by = inl (property t.0 p.0.1, record { word = p.0.0; form = led (codes "property") f.0 p.0.0 p.0.1 line l f.1; says = t.1 }, refl);
      draft = cc;
    }

no_scalar : (at : ℕ) (d d' : Draft) (line : Line) (P : Type 0) → in_vertex d ≡ false → scalar at d line ≡ Ok d' → P
unfolding scalar
no_scalar at d d' line P i h =
    let p = or_refuse_ok PlyHeader at (scalar_of line) _ d' h in
    let t = or_refuse_ok PlyType at (type_of p.0.0) _ d' p.2 in
    passed (in_vertex d) _ _ (Ok d') P t.2 (λ there _. both P (in_vertex d) i there) (λ _ go. not_refused P PlyElement at d' go)

second : (a b c g h word : List ℕ) (tokens line : Line) → line ≡ word ∷ tokens → line ≡ a ∷ b ∷ c ∷ g ∷ h ∷ [] → is_list line ≡ true → line ≡ word ∷ codes "list" ∷ c ∷ g ∷ h ∷ []
unfolding is_list
second a b c g h word tokens line e f i =
    let x : word ∷ tokens ≡ a ∷ b ∷ c ∷ g ∷ h ∷ [] = sym e ∙ f in
    let y : a ≡ word = cc in
    let z : bytes_eq b (codes "list") ≡ true = ap is_list (sym f) ∙ i in
    f ∙ ap (λ (w : List ℕ). w ∷ b ∷ c ∷ g ∷ h ∷ []) y ∙ ap (λ (w : List ℕ). word ∷ w ∷ c ∷ g ∷ h ∷ []) (word_from b (codes "list") z)

list_goes : (at n m : ℕ) (ps : List PropertyParts) (heads : List Head) (d : Draft) (line : Line) → Leads (codes "property") line → is_list line ≡ true → list at (draft_at (faces n ps m) heads) line ≡ Ok d → GoesOn (faces n ps m) heads line d
unfolding list
list_goes at n m ps heads d line (tokens, l) i h =
    let p = or_refuse_ok PlyHeader at (list_of line) _ d h in
    let f = list_form line p.0 p.1 in
    let t = or_refuse_ok PlyType at (type_of p.0.0) _ d p.2 in
    let u = or_refuse_ok PlyType at (type_of p.0.1) _ d t.2 in
    passed (is_indices p.0.2) _ _ (Ok d) _ u.2
    (λ named go. record {
      next = listed n ps m (t.0, u.0);
      by = ((t.0, u.0), record { count = p.0.0; index = p.0.1; name = p.0.2; form = second f.0 f.1 p.0.0 p.0.1 p.0.2 (codes "property") tokens line l f.2 i; counts = t.1; indices = u.1; named = named }, refl);
      draft = cc;
    })
    (λ _ go. not_refused _ PlyElement at d go)

no_list : (at : ℕ) (d d' : Draft) (line : Line) (P : Type 0) → (is_some d.faces && is_none d.list) ≡ false → list at d line ≡ Ok d' → P
unfolding list
no_list at d d' line P i h =
    let p = or_refuse_ok PlyHeader at (list_of line) _ d' h in
    let t = or_refuse_ok PlyType at (type_of p.0.0) _ d' p.2 in
    let u = or_refuse_ok PlyType at (type_of p.0.1) _ d' t.2 in
    passed (in_vertex d) _ _ (Ok d') P u.2 (λ _ go. not_refused P PlyType at d' go) (λ _ go.
    passed ((is_some d.faces && is_none d.list) && is_indices p.0.2) _ _ (Ok d') P go
    (λ there _. both P (is_some d.faces && is_none d.list) i (and_parts (is_some d.faces && is_none d.list) (is_indices p.0.2) there).0)
    (λ _ more. not_refused P PlyElement at d' more))

property_goes : (at n : ℕ) (ps : List PropertyParts) (heads : List Head) (d : Draft) (line : Line) → Leads (codes "property") line →
    cond (is_list line) (list at (draft_at (points n ps) heads) line) (scalar at (draft_at (points n ps) heads) line) ≡ Ok d → GoesOn (points n ps) heads line d
property_goes at n ps heads d line l h =
    passed (is_list line) _ _ (Ok d) _ h (λ _ go. no_list at (draft_at (points n ps) heads) d line _ refl go) (λ _ go. scalar_goes at n ps heads d line l go)

-- what goes on is the next of its stage
pub body_goes : (s : Stage) (at : ℕ) (heads : List Head) (d : Draft) (line : Line) → body at (draft_at s heads) line (keyword_at line) ≡ Ok d → GoesOn s heads line d
unfolding body
body_goes begun at heads d line h =
    passed (is_format line) _ _ (Ok d) _ h
    (λ is go. record { next = formatted; by = (format_form line is, refl); draft = cc })
    (λ _ go. not_refused _ PlyFormat at d go)
body_goes formatted at heads d line h =
    declared at (draft_at formatted heads) d line _ h
    (λ tokens e go. vertex_goes at heads d line (tokens, e) go)
    (λ tokens e go. passed (is_list line) _ _ (Ok d) _ go (λ _ more. no_list at (draft_at formatted heads) d line _ refl more) (λ _ more. no_scalar at (draft_at formatted heads) d line _ refl more))
body_goes (points n ps) at heads d line h =
    declared at (draft_at (points n ps) heads) d line _ h
    (λ tokens e go. face_goes at n ps heads d line (tokens, e) go)
    (λ tokens e go. property_goes at n ps heads d line (tokens, e) go)
body_goes (faces n ps m) at heads d line h =
    declared at (draft_at (faces n ps m) heads) d line _ h
    (λ tokens e go. no_element at (draft_at (faces n ps m) heads) d line _ refl refl go)
    (λ tokens e go. passed (is_list line) _ _ (Ok d) _ go (λ i more. list_goes at n m ps heads d line (tokens, e) i more) (λ _ more. no_scalar at (draft_at (faces n ps m) heads) d line _ refl more))
body_goes (listed n ps m types) at heads d line h =
    declared at (draft_at (listed n ps m types) heads) d line _ h
    (λ tokens e go. no_element at (draft_at (listed n ps m types) heads) d line _ refl refl go)
    (λ tokens e go. passed (is_list line) _ _ (Ok d) _ go (λ _ more. no_list at (draft_at (listed n ps m types) heads) d line _ refl more) (λ _ more. no_scalar at (draft_at (listed n ps m types) heads) d line _ refl more))
