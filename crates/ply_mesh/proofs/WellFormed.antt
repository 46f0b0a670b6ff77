-- Rows and faces that are read fit the header.
use Rattle.std.proofs.Common.{◌≡◌, ℕ, zero, suc, ◌+◌, ◌*◌, ◌<◌, ◌≤◌, Bool, true, false, cond, eqb, ltb, List, [], ◌∷◌, length, get_or, All, Option, Some, None, Result, Ok, refl, sym, ap, subst, ◌∙◌, arith}
use Rattle.std.specs.Prelude.{ℤ, pos, negsuc, option_and_then, IfSome, replicate}
use Rattle.std.specs.List.{AllByRecursion}
use Rattle.std.proofs.lemmas.Bool.{ltb-true}
use Rattle.std.proofs.lemmas.List.{length-append, length-replicate}
use Rattle.std.proofs.lemmas.List.Elements.{All-from_recursion}
use Rattle.std.proofs.lemmas.List.Sums.{sum_by-cons}
use Rattle.std.proofs.lemmas.Option.{same_Some}
use Rattle.drc_base.specs.declared.faults.Fault.{Fault}
use Rattle.drc_base.specs.declared.kinds.Kind.TheVariants.{PlyRow, PlyNumber, PlyIndex}
use Rattle.attr_heads.specs.declared.heads.Head.{Head}
use Rattle.attr_heads.specs.declared.bounds.Bounds.{Bounds}
use Rattle.attr_heads.specs.Bounds.{in_bounds, no_bounds, type_bounds, bounds_of}
use Rattle.attr_heads.specs.Head.{width_of, row_bounds}
use Rattle.drc_base.specs.declared.limits.TheConstants.{MAX_VALUES, MAX_FACES}
use Rattle.drc_base.specs.Steps.{◌>>=◌}
use Rattle.mesh_model.specs.Parts.{RowFits, IsFaceOf, ArePoints, AreRows, IsMesh, cells_of, cloud_of, mesh_of}
use Rattle.mesh_model.proofs.Made.{AreRows-cells_of, cloud_of-IsCloud, mesh_of-IsMesh}
use Rattle.ply_text.specs.Faults.{or_refuse}
use Rattle.ply_text.specs.Numbers.{integer_of}
use Rattle.ply_text.specs.declared.headers.Header.{Header}
use Rattle.ply_text.specs.Header.{column_types}
use Rattle.ply_text.specs.PropertyTypes.{column_type}
use Rattle.ply_text.specs.IsHeader.{IsHeader}
use Rattle.ply_mesh.specs.Body.{token_number, numbers_of, row_read, point_numbered, points_numbered, indices_of, face_count_read, face_of, items_from}
use Rattle.ply_mesh.proofs.Binds.{bind_ok, some_ok, then_ok, then_some, only_test}

-- ---- items

abbrev done : {A : Type 0} → A → Result A Fault
done x = Ok x

ok_is : {A : Type 0} (x y : A) → done x ≡ done y → x ≡ y
ok_is x y e = cc

pub pair_ok : {A B : Type 0} (a x : A) (b y : B) → ◌≡◌ {A = Result (A × B) Fault} (Ok (a, b)) (Ok (x, y)) → (a ≡ x) × (b ≡ y)
pair_ok {A} {B} a x b y e = let p : ◌≡◌ {A = A × B} (a, b) (x, y) = ok_is (a, b) (x, y) e in (ap (λ (q : A × B). q.0) p, ap (λ (q : A × B). q.1) p)

pub items_count : {A : Type 0} (item : ℕ → List (List ℕ) → Result A Fault) (n at : ℕ) (lines : List (List (List ℕ))) (xs : List A) (rest : List (List (List ℕ))) → items_from item n at lines ≡ Ok (xs, rest) → length xs ≡ n
items_count {A} item zero at lines xs rest e = let p : ◌≡◌ {A = Result (List A × List (List (List ℕ))) Fault} (Ok ([], lines)) (Ok (xs, rest)) = e in ap length (sym (pair_ok [] xs lines rest p).0)
items_count item (suc n) at [] xs rest e = absurd cc
items_count {A} item (suc n) at (line ∷ lines) xs rest e =
    let a = bind_ok (item at line) (λ first. items_from item n (at + 1) lines >>= λ (y : List A × List (List (List ℕ))). Ok (first ∷ y.0, y.1)) (xs, rest) e in
    let b = bind_ok (items_from item n (at + 1) lines) (λ (y : List A × List (List (List ℕ))). Ok (a.0 ∷ y.0, y.1)) (xs, rest) a.2 in
    let p = pair_ok (a.0 ∷ b.0.0) xs b.0.1 rest b.2 in
    ap length (sym p.0) ∙ ap suc (items_count item n (at + 1) lines b.0.0 b.0.1 b.1)

pub items_all : {A : Type 0} (P : A → Type 0) (item : ℕ → List (List ℕ) → Result A Fault) → ((at : ℕ) (line : List (List ℕ)) (x : A) → item at line ≡ Ok x → P x) → (n at : ℕ) (lines : List (List (List ℕ))) (xs : List A) (rest : List (List (List ℕ))) → items_from item n at lines ≡ Ok (xs, rest) → AllByRecursion P xs
items_all {A} P item each zero at lines xs rest e = subst (AllByRecursion P) (pair_ok [] xs lines rest e).0 tt
items_all P item each (suc n) at [] xs rest e = absurd cc
items_all {A} P item each (suc n) at (line ∷ lines) xs rest e =
    let a = bind_ok (item at line) (λ first. items_from item n (at + 1) lines >>= λ (y : List A × List (List (List ℕ))). Ok (first ∷ y.0, y.1)) (xs, rest) e in
    let b = bind_ok (items_from item n (at + 1) lines) (λ (y : List A × List (List (List ℕ))). Ok (a.0 ∷ y.0, y.1)) (xs, rest) a.2 in
    let p = pair_ok (a.0 ∷ b.0.0) xs b.0.1 rest b.2 in
    subst (AllByRecursion P) p.0 (each at line a.0 a.1, items_all P item each n (at + 1) lines b.0.0 b.0.1 b.1)

-- ---- rows

-- a number within the bounds of each column
abbrev pub IsTyped : List Bounds → List ℤ → Type 0
IsTyped [] [] = Unit {0}
IsTyped [] (v ∷ vs) = ⊥
IsTyped (b ∷ bs) [] = ⊥
IsTyped (b ∷ bs) (v ∷ vs) = (in_bounds b v ≡ true) × IsTyped bs vs

number_typed : (b : Bounds) (token : List ℕ) (v : ℤ) → token_number b token ≡ Some v → in_bounds b v ≡ true
unfolding token_number
number_typed b token v e = (only_test (in_bounds b) (integer_of token) v e).0

pub numbers_typed : (bs : List Bounds) (tokens : List (List ℕ)) (vs : List ℤ) → numbers_of bs tokens ≡ Some vs → IsTyped bs vs
numbers_typed [] [] vs e = subst (IsTyped []) (same_Some [] vs e) tt
numbers_typed [] (t ∷ ts) vs e = absurd cc
numbers_typed (b ∷ bs) [] vs e = absurd cc
numbers_typed (b ∷ bs) (t ∷ ts) vs e =
    let x = then_some (token_number b t) (λ first. option_and_then (λ others. Some (first ∷ others)) (numbers_of bs ts)) vs e in
    let y = then_some (numbers_of bs ts) (λ others. Some (x.0 ∷ others)) vs x.2 in
    subst (IsTyped (b ∷ bs)) (same_Some (x.0 ∷ y.0) vs y.2) (number_typed b t x.0 x.1, numbers_typed bs ts y.0 y.1)

pub row_typed : (bs : List Bounds) (at : ℕ) (line : List (List ℕ)) (row : List ℤ) → row_read bs at line ≡ Ok row → IsTyped bs row
unfolding row_read
row_typed bs at line row e =
    let t = then_ok (eqb (length line) (length bs)) (or_refuse PlyNumber at (numbers_of bs line)) PlyRow at row e in
    numbers_typed bs line row (some_ok PlyNumber at (numbers_of bs line) row t.1)

-- there is a column for each integer of a row
pub length-row_bounds : (heads : List Head) → length (row_bounds heads) ≡ width_of heads
length-row_bounds [] = refl
length-row_bounds (h ∷ hs) =
    length-append (replicate h.comps (bounds_of h)) (row_bounds hs) ∙ ap (λ n. n + length (row_bounds hs)) (length-replicate h.comps (bounds_of h))
    ∙ ap (λ n. h.comps + n) (length-row_bounds hs) ∙ sym (sum_by-cons (λ (x : Head). x.comps) h hs)

-- and a property
pub length-column_types : (heads : List Head) → length (column_types heads) ≡ width_of heads
unfolding column_types
length-column_types [] = refl
length-column_types (h ∷ hs) =
    length-append (replicate h.comps (column_type h.dtype)) (column_types hs) ∙ ap (λ n. n + length (column_types hs)) (length-replicate h.comps (column_type h.dtype))
    ∙ ap (λ n. h.comps + n) (length-column_types hs) ∙ sym (sum_by-cons (λ (x : Head). x.comps) h hs)

typed_at : (bs : List Bounds) (vs : List ℤ) → IsTyped bs vs → (length vs ≡ length bs) × ((j : ℕ) → j < length bs → in_bounds (get_or bs j no_bounds) (get_or vs j (pos 0)) ≡ true)
typed_at [] [] h = (refl, λ j lt. absurd (omega arith))
typed_at [] (v ∷ vs) h = absurd h
typed_at (b ∷ bs) [] h = absurd h
typed_at (b ∷ bs) (v ∷ vs) h = let t = typed_at bs vs h.1 in (ap suc t.0, at t) where
  at : (length vs ≡ length bs) × ((j : ℕ) → j < length bs → in_bounds (get_or bs j no_bounds) (get_or vs j (pos 0)) ≡ true) → (j : ℕ) → j < suc (length bs) → in_bounds (get_or (b ∷ bs) j no_bounds) (get_or (v ∷ vs) j (pos 0)) ≡ true
  at t zero lt = h.0
  at t (suc j) lt = t.1 j (omega arith)

pub row_fits : (heads : List Head) (row : List ℤ) → IsTyped (row_bounds heads) row → RowFits heads row
row_fits heads row h =
    let t = typed_at (row_bounds heads) row h in
    let n = length-row_bounds heads in
    (t.0 ∙ n, λ j lt. t.1 j (omega arith))

-- ---- faces

point_inside : (points : ℕ) (v : ℤ) (p : ℕ) → point_numbered points v ≡ Some p → p < points
point_inside points (pos n) p e = go (ltb n points) refl e where
  go : (b : Bool) → ltb n points ≡ b → cond b (Some n) None ≡ Some p → p < points
  go true t e = let s : n ≡ p = same_Some n p e in omega (arith, ltb-true n points t)
  go false t e = absurd cc
point_inside points (negsuc n) p e = absurd cc

points_inside : (points : ℕ) (vs : List ℤ) (face : List ℕ) → points_numbered points vs ≡ Some face → (length face ≡ length vs) × AllByRecursion (λ p. p < points) face
points_inside points [] face e = subst (λ (f : List ℕ). (length f ≡ 0) × AllByRecursion (λ p. p < points) f) (same_Some [] face e) (refl, tt)
points_inside points (v ∷ vs) face e =
    let a = then_some (point_numbered points v) (λ first. option_and_then (λ others. Some (first ∷ others)) (points_numbered points vs)) face e in
    let b = then_some (points_numbered points vs) (λ others. Some (a.0 ∷ others)) face a.2 in
    let r = points_inside points vs b.0 b.1 in
    subst (λ (f : List ℕ). (length f ≡ suc (length vs)) × AllByRecursion (λ p. p < points) f) (same_Some (a.0 ∷ b.0) face b.2) (ap suc r.0, (point_inside points v a.0 a.1, r.1))

pub face_fits : (list : ℕ × ℕ) (points at : ℕ) (line : List (List ℕ)) (face : List ℕ) → face_of list points at line ≡ Ok face → IsFaceOf points face
unfolding face_of indices_of
face_fits list points at [] face e = absurd cc
face_fits list points at (count ∷ tokens) face e =
    let a = bind_ok (face_count_read list.0 at count) (λ _. indices_of list.1 points at tokens) face e in
    let bs = type_bounds list.1 ∷ type_bounds list.1 ∷ type_bounds list.1 ∷ [] in
    let t = then_ok (eqb (length tokens) 3) (or_refuse PlyNumber at (numbers_of bs tokens) >>= λ values. or_refuse PlyIndex at (points_numbered points values)) PlyRow at face a.2 in
    let b = bind_ok (or_refuse PlyNumber at (numbers_of bs tokens)) (λ values. or_refuse PlyIndex at (points_numbered points values)) face t.1 in
    let vs = numbers_typed bs tokens b.0 (some_ok PlyNumber at (numbers_of bs tokens) b.0 b.1) in
    let n : length b.0 ≡ 3 = (typed_at bs b.0 vs).0 in
    let r = points_inside points b.0 face (some_ok PlyIndex at (points_numbered points b.0) face b.2) in
    (r.0 ∙ n, All-from_recursion (λ p. p < points) face r.1)

-- ---- geometries

pub points_fit : (h : Header) → IsHeader h → (lines rest : List (List (List ℕ))) (rows : List (List ℤ)) → items_from (row_read (row_bounds h.heads)) h.vertices h.body_line lines ≡ Ok (rows, rest) → ArePoints h.heads rows × (length rows ≡ h.vertices)
points_fit h is lines rest rows e =
    let n = items_count (row_read (row_bounds h.heads)) h.vertices h.body_line lines rows rest e in
    let typed = items_all (IsTyped (row_bounds h.heads)) (row_read (row_bounds h.heads)) (λ at line row r. row_typed (row_bounds h.heads) at line row r) h.vertices h.body_line lines rows rest e in
    let columns : length h.types ≡ width_of h.heads = ap length (sym is.types) ∙ length-column_types h.heads in (
      record {
        heads_pass = is.heads;
        few_points = omega (arith, n, is.vertices);
        few_values = subst (λ k. k * width_of h.heads ≤ MAX_VALUES) (sym n) (subst (λ w. h.vertices * w ≤ MAX_VALUES) columns is.values);
        rows_fit = λ k d lt. row_fits h.heads (get_or rows k d) (All-from_recursion (IsTyped (row_bounds h.heads)) rows typed k d lt);
      },
      n,
    )

pub cloud_fits : (h : Header) → IsHeader h → (lines rest : List (List (List ℕ))) (rows : List (List ℤ)) (heads : List Head) (cells : List ℤ) → heads ≡ h.heads → cells ≡ cells_of rows → items_from (row_read (row_bounds h.heads)) h.vertices h.body_line lines ≡ Ok (rows, rest)
    → AreRows heads cells × (cloud_of heads cells ≡ Ok (record { heads = heads; points = rows }))
cloud_fits h is lines rest rows heads cells he ce e =
    let p = points_fit h is lines rest rows e in
    let are : ArePoints heads rows = subst (λ (hs : List Head). ArePoints hs rows) (sym he) p.0 in
    rw ce (AreRows-cells_of heads rows are, cloud_of-IsCloud (record { heads = heads; points = rows }) are)

pub mesh_fits : (h : Header) (list : ℕ × ℕ) (count at : ℕ) → IsHeader h → (lines rest more : List (List (List ℕ))) (rows : List (List ℤ)) (faces : List (List ℕ)) (heads : List Head) (cells : List ℤ) → heads ≡ h.heads → cells ≡ cells_of rows → items_from (row_read (row_bounds h.heads)) h.vertices h.body_line lines ≡ Ok (rows, rest)
    → h.faces ≡ Some count → items_from (face_of list h.vertices) count at rest ≡ Ok (faces, more)
    → AreRows heads cells × (mesh_of heads cells faces ≡ Ok (record { heads = heads; points = rows; faces = faces }))
mesh_fits h list count at is lines rest more rows faces heads cells he ce e fe fs =
    let p = points_fit h is lines rest rows e in
    let are : ArePoints heads rows = subst (λ (hs : List Head). ArePoints hs rows) (sym he) p.0 in
    let n = items_count (face_of list h.vertices) count at rest faces more fs in
    let few : count ≤ MAX_FACES = subst (λ (o : Option ℕ). IfSome o (λ k. k ≤ MAX_FACES)) fe is.faces in
    let each = items_all (IsFaceOf h.vertices) (face_of list h.vertices) (λ a line f r. face_fits list h.vertices a line f r) count at rest faces more fs in
    let whole : IsMesh (record { heads = heads; points = rows; faces = faces }) = record {
      points = are;
      few_faces = omega (arith, n, few);
      faces = subst (λ k. All (IsFaceOf k) faces) (sym p.1) (All-from_recursion (IsFaceOf h.vertices) faces each);
    } in
    rw ce (AreRows-cells_of heads rows are, mesh_of-IsMesh (record { heads = heads; points = rows; faces = faces }) whole)
