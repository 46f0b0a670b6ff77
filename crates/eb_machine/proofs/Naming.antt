-- Names stay the names of the fans when a face is added, some of whose sides are glued.
use Rattle.std.proofs.Common.{◌≡◌, ◌≢◌, ℕ, zero, suc, ◌<◌, Bool, true, false, not, List, [], ◌∷◌, ◌++◌, length, get_or, map, inl, inr, sym, refl, ap, ◌∙◌, subst, arith, length-append}
use Rattle.std.proofs.lemmas.Bool.{cases_lt}
use Rattle.std.proofs.lemmas.List.{length-map}
use Rattle.corner_table.specs.Sides.{Side, Place, first, second, third, side, same, next, prev, place_after, place_before, Gluing, IsGluing, IsFree}
use Rattle.corner_table.proofs.Places.{not_same, same_refl, same_tells}
use Rattle.eb_machine.specs.Named.{Triangle, corner, no_triangle, Row, new_row, renamed_triangle, renamed_row}
use Rattle.eb_machine.specs.Shown.{name_of, row_named, Among, AreNames}
use Rattle.eb_machine.proofs.RowLists.{among_filter, from_filter, among_map, from_map, among_first, among_last, from_append}
use Rattle.eb_machine.specs.OneFaceMore.{Pairs, glue_all, IsOther, PairsAreApart, more_triangles, without_all, new_rows, HasPlace, FitsNames, IsNewName, Grows}
use Rattle.eb_machine.proofs.ManyGlued.{all_gluing, Meet, free_tells, new_is_free, old_is_free}
use Rattle.eb_machine.proofs.FaceNamed.{IsAlone, NamesAround, alike_around, together_around}

-- a list with one item more, read before the item and at it
pub get_or-before_last : {A : Type 0} (xs : List A) (y d : A) (i : ℕ) → i < length xs → get_or (xs ++ (y ∷ [])) i d ≡ get_or xs i d
get_or-before_last [] y d i h = absurd (omega arith)
get_or-before_last (x ∷ xs) y d zero h = refl
get_or-before_last (x ∷ xs) y d (suc i) h = get_or-before_last xs y d i (omega arith)

pub get_or-last : {A : Type 0} (xs : List A) (y d : A) → get_or (xs ++ (y ∷ [])) (length xs) d ≡ y
get_or-last [] y d = refl
get_or-last (x ∷ xs) y d = get_or-last xs y d

get_or-renamed : (rename : ℕ → ℕ) (ts : List Triangle) (i : ℕ) → i < length ts → get_or (map (renamed_triangle rename) ts) i no_triangle ≡ renamed_triangle rename (get_or ts i no_triangle)
get_or-renamed rename [] i h = absurd (omega arith)
get_or-renamed rename (t ∷ ts) zero h = refl
get_or-renamed rename (t ∷ ts) (suc i) h = get_or-renamed rename ts i (omega arith)

corner-renamed : (rename : ℕ → ℕ) (t : Triangle) (k : Place) → corner (renamed_triangle rename t) k ≡ rename (corner t k)
corner-renamed rename t first = refl
corner-renamed rename t second = refl
corner-renamed rename t third = refl

pub length-more : (rename : ℕ → ℕ) (ts : List Triangle) (t : Triangle) → length (more_triangles rename ts t) ≡ suc (length ts)
length-more rename ts t =
    let a = length-append (map (renamed_triangle rename) ts) (t ∷ []) in
    let b = length-map ts (renamed_triangle rename) in
    omega arith

pub name_old : (rename : ℕ → ℕ) (ts : List Triangle) (t : Triangle) (c : Side) → c.face < length ts → name_of (more_triangles rename ts t) c ≡ rename (name_of ts c)
name_old rename ts t c h =
    let l : c.face < length (map (renamed_triangle rename) ts) = (let b = length-map ts (renamed_triangle rename) in omega arith) in
    ap (λ (u : Triangle). corner u c.place) (get_or-before_last (map (renamed_triangle rename) ts) t no_triangle c.face l ∙ get_or-renamed rename ts c.face h)
    ∙ corner-renamed rename (get_or ts c.face no_triangle) c.place

pub name_new : (rename : ℕ → ℕ) (ts : List Triangle) (t : Triangle) (k : Place) → name_of (more_triangles rename ts t) (side (length ts) k) ≡ corner t k
name_new rename ts t k =
    ap (λ (u : Triangle). corner u k)
    (ap (λ (n : ℕ). get_or (more_triangles rename ts t) n no_triangle) (sym (length-map ts (renamed_triangle rename))) ∙ get_or-last (map (renamed_triangle rename) ts) t no_triangle)

among_without_all : (r : Row) (ps : Pairs) (rows : List Row) → Among r rows → IsOther r.side ps → Among r (without_all ps rows)
among_without_all r [] rows h o = h
among_without_all r (p ∷ ps) rows h o = among_filter (λ (q : Row). not (same q.side p.1)) r (without_all ps rows) (among_without_all r ps rows h o.1) (ap not (not_same r.side p.1 o.0))

not_true : (b : Bool) → not b ≡ true → b ≡ false
not_true true e = absurd (cc)
not_true false e = refl

apart_from : (x y : Side) → same x y ≡ false → x ≢ y
apart_from x y f e = let no : false ≡ true = sym f ∙ ap (same x) (sym e) ∙ same_refl x in cc

from_without_all : (r : Row) (ps : Pairs) (rows : List Row) → Among r (without_all ps rows) → Among r rows × IsOther r.side ps
from_without_all r [] rows h = (h, tt)
from_without_all r (p ∷ ps) rows h =
    let t = from_filter (λ (q : Row). not (same q.side p.1)) r (without_all ps rows) h in
    let u = from_without_all r ps rows t.0 in
    (u.0, (apart_from r.side p.1 (not_true _ t.1), u.1))

among_new : (f : ℕ) (t : Triangle) (k : Place) (ks : List Place) → HasPlace k ks → Among (new_row f t k) (new_rows f t ks)
among_new f t k [] h = h
among_new f t k (j ∷ ks) h = elim h [ inl e ↦ inl (ap (new_row f t) e) | inr m ↦ inr (among_new f t k ks m) ]

from_new : (f : ℕ) (t : Triangle) (r : Row) (ks : List Place) → Among r (new_rows f t ks) → (k : Place) × HasPlace k ks × (new_row f t k ≡ r)
from_new f t r [] h = absurd h
from_new f t r (j ∷ ks) h = elim h [ inl e ↦ (j, inl refl, e) | inr m ↦ (let u = from_new f t r ks m in (u.0, inr u.1, u.2)) ]

face_of : (f : ℕ) (x : Side) → x.face ≡ f → x ≡ side f x.place
face_of f x e = ap (λ (n : ℕ). side n x.place) e

pub names_grow : (ts : List Triangle) (rows : List Row) (g : Gluing) (made made' : ℕ) (rename : ℕ → ℕ) (t : Triangle) (ps : Pairs) (ks : List Place) → Grows ts rows g made made' rename t ps ks →
    AreNames (more_triangles rename ts t) (map (renamed_row rename) (without_all ps rows) ++ new_rows (length ts) t ks) (glue_all (length ts) ps g) made'
names_grow ts rows g made made' rename t ps ks W = record {
  gluing = subst (λ (n : ℕ). IsGluing n h) (sym long) G;
  rows_are = λ r m. let u = are r m in (subst (λ (n : ℕ). IsFree n h r.side) (sym long) u.0, u.1);
  sides_are = λ a A. become a (subst (λ (n : ℕ). IsFree n h a) long A);
  one_name = alike_around around;
  one_fan = λ c d l k e. together_around around c d (subst (λ (n : ℕ). c.face < n) long l) (subst (λ (n : ℕ). d.face < n) long k) e;
  below = λ c l. under c (subst (λ (n : ℕ). c.face < n) long l);
}
  where
    f : ℕ
    f = length ts

    h : Gluing
    h = glue_all f ps g

    new : List Triangle
    new = more_triangles rename ts t

    long : length new ≡ suc f
    long = length-more rename ts t

    N : AreNames ts rows g made
    N = W.names

    G : IsGluing (suc f) h
    G = all_gluing N.gluing ps W.apart

    meeting : (qs : Pairs) → PairsAreApart f g qs → FitsNames ts rename t qs → Meet f (name_of new) qs
    meeting [] A F = tt
    meeting (p ∷ qs) A F = (
      name_new rename ts t (place_before p.0) ∙ F.0 ∙ sym (name_old rename ts t (next p.1) A.0.within),
      name_new rename ts t (place_after p.0) ∙ F.1 ∙ sym (name_old rename ts t (prev p.1) A.0.within),
      meeting qs A.3 F.2,
    )

    alone : (k : Place) → IsNewName ts rename t k → IsAlone f (name_of new) k
    alone k n d l e = elim (cases_lt d.face f) [
      | inl m ↦ absurd (n.0 d m (sym (name_old rename ts t d m) ∙ e ∙ name_new rename ts t k))
      | inr m ↦ (
          let at : d ≡ side f d.place = face_of f d (omega arith) in
          elim (same_tells d (side f k)) [
            | inl q ↦ sym q
            | inr q ↦ absurd (n.1 d.place (λ p. q (at ∙ ap (side f) p)) (sym (name_new rename ts t d.place) ∙ ap (name_of new) (sym at) ∙ e ∙ name_new rename ts t k))
          ])
    ]

    around : NamesAround f g (name_of ts) (name_of new) rename ps
    around = record {
      gluing = N.gluing;
      apart = W.apart;
      one_name = N.one_name;
      stay = name_old rename ts t;
      meets = meeting ps W.apart W.fits;
      corners = λ k. elim (W.corners k) [ inl m ↦ inl m | inr n ↦ inr (alone k n) ];
      merged = W.merged;
    }

    under : (c : Side) → c.face < suc f → name_of new c < made'
    under c l = elim (cases_lt c.face f) [
      | inl m ↦ subst (λ (n : ℕ). n < made') (sym (name_old rename ts t c m)) (W.below_old (name_of ts c) (N.below c m))
      | inr m ↦ subst (λ (n : ℕ). n < made') (sym (ap (name_of new) (face_of f c (omega arith)) ∙ name_new rename ts t c.place)) (W.below_new c.place)
    ]

    -- the rows
    old_row : (a : Side) → a.face < f → renamed_row rename (row_named ts a) ≡ row_named new a
    old_row a l = ap (λ (n : ℕ). record { side = a; from = n; to = rename (name_of ts (prev a)) }) (sym (name_old rename ts t (next a) l)) ∙ ap (λ (n : ℕ). record { side = a; from = name_of new (next a); to = n }) (sym (name_old rename ts t (prev a) l))

    fresh_row : (k : Place) → new_row f t k ≡ row_named new (side f k)
    fresh_row k = ap (λ (n : ℕ). record { side = side f k; from = n; to = corner t (place_before k) }) (sym (name_new rename ts t (place_after k))) ∙ ap (λ (n : ℕ). record { side = side f k; from = name_of new (next (side f k)); to = n }) (sym (name_new rename ts t (place_before k)))

    IsOf : Row → Type 0
    IsOf r = IsFree (suc f) h r.side × (r ≡ row_named new r.side)

    stays_row : (r : Row) → Among r rows → IsOther r.side ps → IsOf (renamed_row rename r)
    stays_row r m o =
        let u = N.rows_are r m in
        (old_is_free f g ps r.side u.0 o, ap (renamed_row rename) u.1 ∙ old_row r.side u.0.within)

    are : (r : Row) → Among r (map (renamed_row rename) (without_all ps rows) ++ new_rows f t ks) → IsOf r
    are r m = elim (from_append r (map (renamed_row rename) (without_all ps rows)) (new_rows f t ks) m) [
      | inl o ↦ (
          let u = from_map (renamed_row rename) r (without_all ps rows) o in
          let w = from_without_all u.0 ps rows u.1 in
          subst IsOf u.2 (stays_row u.0 w.0 w.1))
      | inr n ↦ (
          let u = from_new f t r ks n in
          subst IsOf u.2 (new_is_free N.gluing ps u.0 W.apart (W.left_only u.0 u.1), fresh_row u.0))
    ]

    become : (a : Side) → IsFree (suc f) h a → Among (row_named new a) (map (renamed_row rename) (without_all ps rows) ++ new_rows f t ks)
    become a A = elim (free_tells N.gluing ps a W.apart A) [
      | inl o ↦ among_first (row_named new a) _ (new_rows f t ks)
          (subst (λ (r : Row). Among r (map (renamed_row rename) (without_all ps rows))) (old_row a o.0.within)
          (among_map (renamed_row rename) (row_named ts a) (without_all ps rows) (among_without_all (row_named ts a) ps rows (N.sides_are a o.0) o.1)))
      | inr n ↦ among_last (row_named new a) (map (renamed_row rename) (without_all ps rows)) _
          (subst (λ (r : Row). Among r (new_rows f t ks)) (fresh_row a.place ∙ ap (row_named new) (sym (face_of f a n.0)))
          (among_new f t a.place ks (W.left a.place n.1)))
    ]
