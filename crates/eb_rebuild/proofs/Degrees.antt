-- The degree of a vertex, counted over names, is that over its fan.
use Rattle.std.proofs.Common.{◌≡◌, ℕ, zero, suc, ◌+◌, ◌<◌, ◌≤◌, Bool, true, false, ◌&&◌, ◌||◌, ◌==◌, is_none, cond, List, [], ◌∷◌, ◌++◌, length, get_or, take, None, inl, inr, sym, refl, ap, ◌∙◌, arith, eqb-true, eq-eqb, sum_by, count_by}
use Rattle.std.specs.List.{list_any}
use Rattle.std.proofs.lemmas.Bool.{and_parts, or_cases, cases_lt}
use Rattle.std.proofs.lemmas.List.{take_all}
use Rattle.std.proofs.lemmas.List.Sums.{sum_by_more, sum_by-append, sum_by-cons}
use Rattle.std.proofs.lemmas.List.Folds.{list_any-append}
use Rattle.corner_table.specs.Sides.{Side, Place, first, second, third, side, next, Gluing, IsFree}
use Rattle.corner_table.specs.Fans.{meets, corners_of}
use Rattle.corner_table.specs.Table.{gluing_of}
use Rattle.eb_machine.specs.Degree.{degree}
use Rattle.eb_machine.specs.Named.{Triangle, no_triangle, Row, NamedState}
use Rattle.eb_machine.specs.Shown.{name_of, row_named, Among}
use Rattle.eb_rebuild.specs.Counted.{times_in}
use Rattle.eb_rebuild.specs.NamedTables.{NamedTable, IsNamedTable}
use Rattle.corner_table.proofs.Places.{option_tells}
use Rattle.eb_machine.proofs.NamedLaw.{Stands, name_test}
use Rattle.eb_rebuild.proofs.NamedTables.{alone, stands_alone}

corners_of-suc : (m : ℕ) → corners_of (suc m) ≡ corners_of m ++ (side m first ∷ side m second ∷ side m third ∷ [])
unfolding corners_of
corners_of-suc m = refl

corners_of-zero : corners_of zero ≡ []
unfolding corners_of
corners_of-zero = refl

count_three : (p : Side → Bool) (xs : List Side) (a b c : Side) → count_by p (xs ++ (a ∷ b ∷ c ∷ [])) ≡ count_by p xs + (cond (p a) 1 0 + cond (p b) 1 0 + cond (p c) 1 0)
count_three p xs a b c =
    let one : Side → ℕ = λ x. cond (p x) 1 0 in
    let e = sum_by-append one xs (a ∷ b ∷ c ∷ []) in
    let h = sum_by-cons one a (b ∷ c ∷ []) in
    let k = sum_by-cons one b (c ∷ []) in
    let l = sum_by-cons one c [] in
    let z : sum_by one [] ≡ 0 = refl in
    omega arith

-- corner by corner
count_is : {x : NamedState} → Stands x → (c : Side) → c.face < length x.triangles → (m : ℕ) → m ≤ length x.triangles →
    sum_by (times_in (name_of x.triangles c)) (take m x.triangles) ≡ count_by (meets (length x.triangles) x.glued c) (corners_of m)
count_is {x} W c h zero l = sym (ap (count_by (meets (length x.triangles) x.glued c)) corners_of-zero)
count_is {x} W c h (suc m) l =
    let ts = x.triangles in
    let v = name_of ts c in
    let p : Side → Bool = meets (length ts) x.glued c in
    let one : (k : Place) → ◌≡◌ {A = ℕ} (cond (v == name_of ts (side m k)) 1 0) (cond (p (side m k)) 1 0) = λ k. ap (λ (t : Bool). cond t 1 0) (name_test W c (side m k) h l) in
    let before = count_is W c h m (omega arith) in
    let step : sum_by (times_in v) (take (m + 1) ts) ≡ sum_by (times_in v) (take m ts) + times_in v (get_or ts m no_triangle) = sum_by_more (times_in v) ts m no_triangle l in
    let more = ap (count_by p) (corners_of-suc m) ∙ count_three p (corners_of m) (side m first) (side m second) (side m third) in
    let a = one first in
    let b = one second in
    let d = one third in
    ap (λ (n : ℕ). sum_by (times_in v) (take n ts)) (let q : suc m ≡ m + 1 = omega arith in q) ∙ step
    ∙ ap (λ (n : ℕ). n + times_in v (get_or ts m no_triangle)) before
    ∙ ap (λ (n : ℕ). count_by p (corners_of m) + n) (three a b d)
    ∙ sym more
  where
    three : {a a' b b' d d' : ℕ} → a ≡ a' → b ≡ b' → d ≡ d' → a + b + d ≡ a' + b' + d'
    three p q r = λ i. p i + q i + r i

-- a search over rows and one over corners
any_among : (q : Row → Bool) (rows : List Row) → list_any q rows ≡ true → (r : Row) × Among r rows × (q r ≡ true)
any_among q [] e = absurd (let no : false ≡ true = e in cc)
any_among q (x ∷ rows) e = elim (or_cases (q x) (list_any q rows) e) [
  | inl t ↦ (x, inl refl, t)
  | inr t ↦ (let u = any_among q rows t in (u.0, inr u.1, u.2))
]

or_first : (t u : Bool) → t ≡ true → (t || u) ≡ true
or_first true u e = refl
or_first false u e = absurd (cc)

or_second : (t u : Bool) → u ≡ true → (t || u) ≡ true
or_second true u e = refl
or_second false u e = e

pub among_any : (q : Row → Bool) (r : Row) (rows : List Row) → Among r rows → q r ≡ true → list_any q rows ≡ true
among_any q r [] m e = absurd m
among_any q r (x ∷ rows) m e = elim m [
  | inl i ↦ or_first (q x) (list_any q rows) (ap q i ∙ e)
  | inr k ↦ or_second (q x) (list_any q rows) (among_any q r rows k e)
]

any_corner : (p : Side → Bool) (m : ℕ) → list_any p (corners_of m) ≡ true → (x : Side) × (x.face < m) × (p x ≡ true)
any_corner p zero e = absurd (let no : false ≡ true = sym (ap (list_any p) corners_of-zero) ∙ e in cc)
any_corner p (suc m) e =
    elim (or_cases (list_any p (corners_of m)) (list_any p (side m first ∷ side m second ∷ side m third ∷ [])) (sym (ap (list_any p) (corners_of-suc m) ∙ list_any-append p (corners_of m) (side m first ∷ side m second ∷ side m third ∷ [])) ∙ e)) [
      | inl t ↦ (let u = any_corner p m t in let l = u.1 in (u.0, omega arith, u.2))
      | inr t ↦ elim (or_cases (p (side m first)) (p (side m second) || (p (side m third) || false)) t) [
        | inl a ↦ (side m first, omega arith, a)
        | inr r ↦ elim (or_cases (p (side m second)) (p (side m third) || false) r) [
          | inl a ↦ (side m second, omega arith, a)
          | inr s ↦ elim (or_cases (p (side m third)) false s) [
            | inl a ↦ (side m third, omega arith, a)
            | inr n ↦ absurd (let no : false ≡ true = n in cc)
          ]
        ]
      ]
    ]

corner_last : (p : Side → Bool) (m : ℕ) (k : Place) → p (side m k) ≡ true → list_any p (side m first ∷ side m second ∷ side m third ∷ []) ≡ true
corner_last p m first e = or_first (p (side m first)) (p (side m second) || (p (side m third) || false)) e
corner_last p m second e = or_second (p (side m first)) (p (side m second) || (p (side m third) || false)) (or_first (p (side m second)) (p (side m third) || false) e)
corner_last p m third e = or_second (p (side m first)) (p (side m second) || (p (side m third) || false)) (or_second (p (side m second)) (p (side m third) || false) (or_first (p (side m third)) false e))

corner_any : (p : Side → Bool) (m : ℕ) (x : Side) → x.face < m → p x ≡ true → list_any p (corners_of m) ≡ true
corner_any p zero x h e = absurd (omega arith)
corner_any p (suc m) x h e =
    let last : List Side = side m first ∷ side m second ∷ side m third ∷ [] in
    ap (list_any p) (corners_of-suc m) ∙ list_any-append p (corners_of m) last ∙ elim (cases_lt x.face m) [
      | inl l ↦ or_first (list_any p (corners_of m)) (list_any p last) (corner_any p m x l e)
      | inr l ↦ (
          let at : x.face ≡ m = omega arith in
          or_second (list_any p (corners_of m)) (list_any p last) (corner_last p m x.place (ap p (sym (ap (λ (n : ℕ). side n x.place) at)) ∙ e)))
    ]

one_truth : (t u : Bool) → (t ≡ true → u ≡ true) → (u ≡ true → t ≡ true) → t ≡ u
one_truth true u f h = sym (f refl)
one_truth false true f h = h refl
one_truth false false f h = refl

none_of : (g : Gluing) (x : Side) → is_none (g x) ≡ true → g x ≡ None
none_of g x e = elim (option_tells (g x)) [ inl n ↦ n | inr y ↦ absurd (let no : false ≡ true = sym (ap is_none y.1) ∙ e in cc) ]

-- a row starts at the vertex
starts_is : {x : NamedState} → Stands x → (c : Side) → c.face < length x.triangles →
    list_any (λ (r : Row). r.from == name_of x.triangles c) x.rows ≡ list_any (λ (y : Side). is_none (x.glued y) && meets (length x.triangles) x.glued c (next y)) (corners_of (length x.triangles))
starts_is {x} W c h = one_truth _ _ to back
  where
    f : ℕ
    f = length x.triangles

    p : Side → Bool
    p y = is_none (x.glued y) && meets f x.glued c (next y)

    q : Row → Bool
    q r = r.from == name_of x.triangles c

    both : (t u : Bool) → t ≡ true → u ≡ true → (t && u) ≡ true
    both true u e k = k
    both false u e k = absurd (cc)

    to : list_any q x.rows ≡ true → list_any p (corners_of f) ≡ true
    to e =
        let u = any_among q x.rows e in
        let w = W.names.rows_are u.0 u.1 in
        let name : name_of x.triangles (next u.0.side) ≡ name_of x.triangles c = ap (λ (r : Row). r.from) (sym w.1) ∙ eqb-true u.0.from (name_of x.triangles c) u.2 in
        corner_any p f u.0.side w.0.within
        (both (is_none (x.glued u.0.side)) (meets f x.glued c (next u.0.side)) (ap is_none w.0.free)
        (sym (name_test W c (next u.0.side) h w.0.within) ∙ eq-eqb (name_of x.triangles c) (name_of x.triangles (next u.0.side)) (sym name)))

    back : list_any p (corners_of f) ≡ true → list_any q x.rows ≡ true
    back e =
        let u = any_corner p f e in
        let w = and_parts (is_none (x.glued u.0)) (meets f x.glued c (next u.0)) u.2 in
        let A : IsFree f x.glued u.0 = record { within = u.1; free = none_of x.glued u.0 w.0 } in
        among_any q (row_named x.triangles u.0) x.rows (W.names.sides_are u.0 A)
        (eq-eqb (name_of x.triangles (next u.0)) (name_of x.triangles c) (sym (eqb-true (name_of x.triangles c) (name_of x.triangles (next u.0)) (name_test W c (next u.0) h u.1 ∙ w.1))))

-- by names and by fans
pub degree_is : (v : NamedTable) → IsNamedTable v → (c : Side) → c.face < v.table.faces →
    sum_by (times_in (name_of v.triangles c)) v.triangles + cond (list_any (λ (r : Row). r.from == name_of v.triangles c) v.rows) 1 0 ≡ degree v.table.faces (gluing_of v.table) c
degree_is v I c h =
    let W = stands_alone v I in
    let l : c.face < length v.triangles = (let a = I.long in omega arith) in
    ap (λ (ts : List Triangle). sum_by (times_in (name_of v.triangles c)) ts + cond (list_any (λ (r : Row). r.from == name_of v.triangles c) v.rows) 1 0) (sym (take_all (length v.triangles) v.triangles (omega arith)))
    ∙ ap (λ (n : ℕ). n + cond (list_any (λ (r : Row). r.from == name_of v.triangles c) v.rows) 1 0) (count_is {x = alone v} W c l (length v.triangles) (omega arith))
    ∙ ap (λ (t : Bool). count_by (meets (length v.triangles) (gluing_of v.table) c) (corners_of (length v.triangles)) + cond t 1 0) (starts_is {x = alone v} W c l)
    ∙ ap (λ (n : ℕ). degree n (gluing_of v.table) c) I.long
