-- Lines of points and faces, one after another.
use Rattle.std.proofs.Common.{◌≡◌, ℕ, zero, suc, ◌+◌, ◌<◌, List, [], ◌∷◌, ◌++◌, length, eqb, ltb, Some, None, Result, Ok, refl, ap, subst, ◌∙◌}
use Rattle.std.specs.Prelude.{ℤ, pos, negsuc, map, replicate}
use Rattle.std.specs.List.{AllZip, AllByRecursion}
use Rattle.std.specs.Ordering.{int_eq}
use Rattle.std.proofs.lemmas.Bool.{eq-eqb, ltb-true, lt-ltb}
use Rattle.std.proofs.lemmas.Bool.Decides.{Decides-int_eq}
use Rattle.drc_base.specs.declared.faults.Fault.{Fault}
use Rattle.drc_base.specs.declared.kinds.Kind.TheVariants.{PlyRow, PlyNumber, PlyFace, PlyIndex, PlyShort, PlyRest}
use Rattle.attr_heads.specs.declared.bounds.Bounds.{Bounds}
use Rattle.attr_heads.specs.Bounds.{in_bounds, type_bounds}
use Rattle.ply_text.specs.Numbers.{integer_of}
use Rattle.ply_mesh.specs.Body.{token_number, numbers_of, row_read, point_numbered, points_numbered, indices_of, face_count_read, face_of, items_from, ends}
use Rattle.laws_text.specs.HeaderShape.{Line}
use Rattle.laws_text.specs.TextShape.{WritesNumber, IsRowLine, IsFaceLine}
use Rattle.laws_text.proofs.Lines.{passed, not_refused, or_refuse_ok, some_from, step_ok, bind_some, only_if_some}

-- ---- numbers

number_says : (bounds : Bounds) (token : List ℕ) (v : ℤ) → token_number bounds token ≡ Some v → WritesNumber bounds v token
unfolding token_number
number_says bounds token v e = only_if_some (in_bounds bounds) (integer_of token) v e

number_read : (bounds : Bounds) (token : List ℕ) (v : ℤ) → WritesNumber bounds v token → token_number bounds token ≡ Some v
unfolding token_number
number_read bounds token v h = rw (h.0, h.1) refl

numbers_say : (columns : List Bounds) (tokens : Line) (row : List ℤ) → numbers_of columns tokens ≡ Some row → IsRowLine columns row tokens
numbers_say [] [] row e = let s : [] ≡ row = cc e in subst (λ (r : List ℤ). IsRowLine [] r []) s tt
numbers_say [] (token ∷ tokens) row e = absurd (cc e)
numbers_say (bounds ∷ columns) [] row e = absurd (cc e)
numbers_say (bounds ∷ columns) (token ∷ tokens) row e =
    let a = bind_some (token_number bounds token) _ row e in
    let b = bind_some (numbers_of columns tokens) _ row a.2 in
    let s : a.0 ∷ b.0 ≡ row = cc b.2 in
    subst (λ (r : List ℤ). IsRowLine (bounds ∷ columns) r (token ∷ tokens)) s (number_says bounds token a.0 a.1, numbers_say columns tokens b.0 b.1)

numbers_read : (columns : List Bounds) (row : List ℤ) (tokens : Line) → IsRowLine columns row tokens → (numbers_of columns tokens ≡ Some row) × (length tokens ≡ length columns)
numbers_read [] [] [] h = (refl, refl)
numbers_read [] [] (token ∷ tokens) h = absurd h
numbers_read [] (v ∷ row) tokens h = absurd h
numbers_read (bounds ∷ columns) [] tokens h = absurd h
numbers_read (bounds ∷ columns) (v ∷ row) [] h = absurd h
numbers_read (bounds ∷ columns) (v ∷ row) (token ∷ tokens) h =
    let r = numbers_read columns row tokens h.1 in
    (rw (number_read bounds token v h.0, r.0) refl, ap suc r.1)

-- ---- points

pub row_says : (columns : List Bounds) (at : ℕ) (line : Line) (row : List ℤ) → row_read columns at line ≡ Ok row → IsRowLine columns row line
unfolding row_read
row_says columns at line row e =
    passed (eqb (length line) (length columns)) _ _ (Ok row) _ e
    (λ _ go. numbers_say columns line row (some_from PlyNumber at (numbers_of columns line) row go))
    (λ _ go. not_refused _ PlyRow at row go)

pub row_line_read : (columns : List Bounds) (at : ℕ) (row : List ℤ) (line : Line) → IsRowLine columns row line → row_read columns at line ≡ Ok row
unfolding row_read
row_line_read columns at row line h = let r = numbers_read columns row line h in rw (eq-eqb (length line) (length columns) r.1, r.0) refl

-- ---- faces

numbered : (points : ℕ) (v : ℤ) (p : ℕ) → point_numbered points v ≡ Some p → (v ≡ pos p) × (p < points)
numbered points (pos n) p e =
    passed (ltb n points) (Some n) None (Some p) _ e (λ lt go. let s : n ≡ p = cc go in (ap pos s, subst (λ k. k < points) s (ltb-true n points lt))) (λ _ go. absurd (cc go))
numbered points (negsuc n) p e = absurd (cc e)

-- the numbers of points among these values
abbrev AreNumbered : ℕ → List ℕ → List ℤ → Type 0
AreNumbered points face values = AllZip (λ p v. (v ≡ pos p) × (p < points)) face values

all_numbered : (points : ℕ) (values : List ℤ) (face : List ℕ) → points_numbered points values ≡ Some face → AreNumbered points face values
all_numbered points [] face e = let s : [] ≡ face = cc e in subst (λ (f : List ℕ). AreNumbered points f []) s tt
all_numbered points (v ∷ values) face e =
    let a = bind_some (point_numbered points v) _ face e in
    let b = bind_some (points_numbered points values) _ face a.2 in
    let s : a.0 ∷ b.0 ≡ face = cc b.2 in
    subst (λ (f : List ℕ). AreNumbered points f (v ∷ values)) s (numbered points v a.0 a.1, all_numbered points values b.0 b.1)

-- a corner's token
abbrev IsCorner : Bounds → ℕ → ℕ → List ℕ → Type 0
IsCorner indices points p token = WritesNumber indices (pos p) token × (p < points)

corners_say : (n : ℕ) (indices : Bounds) (points : ℕ) (values : List ℤ) (tokens : Line) (face : List ℕ) → IsRowLine (replicate n indices) values tokens → AreNumbered points face values → (length face ≡ n) × AllZip (IsCorner indices points) face tokens
corners_say zero indices points [] [] [] row named = (refl, tt)
corners_say zero indices points [] [] (p ∷ face) row named = absurd named
corners_say zero indices points [] (token ∷ tokens) face row named = absurd row
corners_say zero indices points (v ∷ values) tokens face row named = absurd row
corners_say (suc n) indices points [] tokens face row named = absurd row
corners_say (suc n) indices points (v ∷ values) [] face row named = absurd row
corners_say (suc n) indices points (v ∷ values) (token ∷ tokens) [] row named = absurd named
corners_say (suc n) indices points (v ∷ values) (token ∷ tokens) (p ∷ face) row named =
    let rest = corners_say n indices points values tokens face row.1 named.1 in
    (ap suc rest.0, ((subst (λ (x : ℤ). WritesNumber indices x token) named.0.0 row.0, named.0.1), rest.1))

corners_read : (indices : Bounds) (points : ℕ) (face : List ℕ) (tokens : Line) → AllZip (IsCorner indices points) face tokens → IsRowLine (replicate (length face) indices) (map pos face) tokens × (points_numbered points (map pos face) ≡ Some face)
corners_read indices points [] [] h = (tt, refl)
corners_read indices points [] (token ∷ tokens) h = absurd h
corners_read indices points (p ∷ face) [] h = absurd h
corners_read indices points (p ∷ face) (token ∷ tokens) h =
    let rest = corners_read indices points face tokens h.1 in
    ((h.0.0, rest.0), rw (lt-ltb p points h.0.1, rest.1) refl)

three_from : (ctype at : ℕ) (count : List ℕ) (v : ℤ) → face_count_read ctype at count ≡ Ok v → WritesNumber (type_bounds ctype) (pos 3) count
three_from ctype at count v e =
    let a = or_refuse_ok PlyNumber at (token_number (type_bounds ctype) count) _ v e in
    passed (int_eq a.0 (pos 3)) _ _ (Ok v) _ a.2
    (λ three _. subst (λ (x : ℤ). WritesNumber (type_bounds ctype) x count) ((Decides-int_eq a.0 (pos 3)).0 three) (number_says (type_bounds ctype) count a.0 a.1))
    (λ _ go. not_refused _ PlyFace at v go)

pub face_says : (types : ℕ × ℕ) (points at : ℕ) (line : Line) (face : List ℕ) → face_of types points at line ≡ Ok face → IsFaceLine types points face line
unfolding face_of indices_of
face_says types points at [] face e = not_refused _ PlyRow at face e
face_says types points at (count ∷ tokens) face e =
    let a = step_ok (face_count_read types.0 at count) _ face e in
    passed (eqb (length tokens) 3) _ _ (Ok face) _ a.2
    (λ _ go.
    let b = or_refuse_ok PlyNumber at (numbers_of (replicate 3 (type_bounds types.1)) tokens) _ face go in
    let c = some_from PlyIndex at (points_numbered points b.0) face b.2 in
    let s = corners_say 3 (type_bounds types.1) points b.0 tokens face (numbers_say (replicate 3 (type_bounds types.1)) tokens b.0 b.1) (all_numbered points b.0 face c) in
    record { count = count; corners = tokens; form = refl; three = three_from types.0 at count a.0 a.1; long = s.0; each = s.1 })
    (λ _ go. not_refused _ PlyRow at face go)

three_read : (ctype at : ℕ) (count : List ℕ) → WritesNumber (type_bounds ctype) (pos 3) count → face_count_read ctype at count ≡ Ok (pos 3)
three_read ctype at count h = rw (number_read (type_bounds ctype) count (pos 3) h) refl

pub face_line_read : (types : ℕ × ℕ) (points at : ℕ) (face : List ℕ) (line : Line) → IsFaceLine types points face line → face_of types points at line ≡ Ok face
unfolding face_of indices_of
face_line_read types points at face line is =
    let r = corners_read (type_bounds types.1) points face is.corners is.each in
    let row : IsRowLine (replicate 3 (type_bounds types.1)) (map pos face) is.corners = subst (λ n. IsRowLine (replicate n (type_bounds types.1)) (map pos face) is.corners) is.long r.0 in
    let n = numbers_read (replicate 3 (type_bounds types.1)) (map pos face) is.corners row in
    ap (face_of types points at) is.form ∙ rw (three_read types.0 at is.count is.three, eq-eqb (length is.corners) 3 n.1, n.0, r.1) refl

-- ---- items in a row

-- lines in front, each an item
pub record AreItems {A : Type 0} (R : A → Line → Type 0) (n : ℕ) (xs : List A) (lines rest : List Line) : Type 0 where
  pub front : List Line
  pub cut : lines ≡ front ++ rest
  pub count : length xs ≡ n
  pub each : AllZip R xs front

pub items_say : {A : Type 0} (R : A → Line → Type 0) (item : ℕ → Line → Result A Fault) → ((at : ℕ) (line : Line) (x : A) → item at line ≡ Ok x → R x line)
    → (n at : ℕ) (lines : List Line) (p : List A × List Line) → items_from item n at lines ≡ Ok p → AreItems R n p.0 lines p.1
items_say {A} R item says zero at lines p e =
    let s : ◌≡◌ {A = List A × List Line} ([], lines) p = cc e in
    subst (λ (p : List A × List Line). AreItems R 0 p.0 lines p.1) s (record { front = []; cut = refl; count = refl; each = tt })
items_say R item says (suc n) at [] p e = not_refused _ PlyShort at p e
items_say {A} R item says (suc n) at (line ∷ lines) p e =
    let a = step_ok (item at line) _ p e in
    let b = step_ok (items_from item n (at + 1) lines) _ p a.2 in
    let r = items_say R item says n (at + 1) lines b.0 b.1 in
    let s : ◌≡◌ {A = List A × List Line} (a.0 ∷ b.0.0, b.0.1) p = cc b.2 in
    let both : AreItems R (suc n) (a.0 ∷ b.0.0) (line ∷ lines) b.0.1 = record { front = line ∷ r.front; cut = ap (λ (ls : List Line). line ∷ ls) r.cut; count = ap suc r.count; each = (says at line a.0 a.1, r.each) } in
    subst (λ (p : List A × List Line). AreItems R (suc n) p.0 (line ∷ lines) p.1) s both

pub items_read : {A : Type 0} (R : A → Line → Type 0) (item : ℕ → Line → Result A Fault) → ((at : ℕ) (x : A) (line : Line) → R x line → item at line ≡ Ok x)
    → (at : ℕ) (xs : List A) (front rest : List Line) → AllZip R xs front → items_from item (length xs) at (front ++ rest) ≡ Ok (xs, rest)
items_read R item reads at [] [] rest h = refl
items_read R item reads at [] (line ∷ front) rest h = absurd h
items_read R item reads at (x ∷ xs) [] rest h = absurd h
items_read R item reads at (x ∷ xs) (line ∷ front) rest h = rw (reads at x line h.0, items_read R item reads (at + 1) xs front rest h.1) refl

-- ---- the end

pub ends_say : {A : Type 0} (x y : A) (at : ℕ) (lines : List Line) → ends x at lines ≡ Ok y → (x ≡ y) × AllByRecursion (λ line. line ≡ []) lines
ends_say x y at [] e = (cc e, tt)
ends_say x y at ([] ∷ lines) e = let r = ends_say x y (at + 1) lines e in (r.0, (refl, r.1))
ends_say x y at ((token ∷ tokens) ∷ lines) e = not_refused _ PlyRest at y e

pub ends_read : {A : Type 0} (x : A) (at : ℕ) (lines : List Line) → AllByRecursion (λ line. line ≡ []) lines → ends x at lines ≡ Ok x
ends_read x at [] h = refl
ends_read x at ([] ∷ lines) h = ends_read x (at + 1) lines h.1
ends_read x at ((token ∷ tokens) ∷ lines) h = let e = h.0 in absurd (cc e)
