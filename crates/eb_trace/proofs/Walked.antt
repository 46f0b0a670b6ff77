-- The walk over the whole surface comes to each face once, and all of its symbols are settled.
use Rattle.std.proofs.Common.{◌≡◌, ℕ, zero, suc, ◌<◌, ◌≤◌, true, false, ◌==◌, List, [], ◌∷◌, Option, Some, None, inl, inr, sym, refl, ap, ◌∙◌, subst, arith}
use Rattle.std.proofs.lemmas.Bool.{cases_Bool, cases_eq, cond-true, cond-false, or_right}
use Rattle.corner_table.specs.Sides.{Side, second, side, Gluing, IsGluing}
use Rattle.corner_table.specs.Fans.{HasThreeFans}
use Rattle.corner_table.proofs.Places.{option_tells}
use Rattle.eb_trace.specs.Trace.{TracedEntry, TraceWalk, is_face_visited, start_corner, begun, begun_inside, face_run, traced_runs, nothing_walked, trace}
use Rattle.eb_trace.proofs.Visited.{is_inside, Extends, extends_trans, extends_length, visited_tells, number_visited, inside_visited, run_extends, run_interior}
use Rattle.eb_trace.proofs.Walking.{Between, start_corner_tells, from_boundary, from_inside}

pub walked_none : (faces : ℕ) (g : Gluing) → traced_runs faces g zero ≡ nothing_walked
unfolding traced_runs
walked_none faces g = refl

pub walked_more : (faces : ℕ) (g : Gluing) (f : ℕ) → traced_runs faces g (suc f) ≡ face_run faces g f (traced_runs faces g f)
unfolding traced_runs
walked_more faces g f = refl

-- what was walked stays
abbrev pub GoesOnFrom : TraceWalk → TraceWalk → Type 0
GoesOnFrom v w = Extends v.entries w.entries × ((x : ℕ) → is_inside w.interior x ≡ true → is_inside v.interior x ≡ true)

begun_on : (faces : ℕ) (g : Gluing) (f : ℕ) (w : TraceWalk) (o : Option Side) → GoesOnFrom (begun faces g f w o) w
begun_on faces g f w (Some c) = (run_extends faces g faces (record w { bits = false ∷ w.bits }) c, λ x h. ap (λ (l : List ℕ). is_inside l x) (run_interior faces g faces (record w { bits = false ∷ w.bits }) c) ∙ h)
begun_on faces g f w None = elim (option_tells (g (side f second))) [
  | inl n ↦ subst (λ (o : Option Side). GoesOnFrom (begun_inside faces g f w o) w) (sym n) (([], refl), λ x h. h)
  | inr c ↦ subst (λ (o : Option Side). GoesOnFrom (begun_inside faces g f w o) w) (sym c.1) (
    run_extends faces g faces (record w { interior = f ∷ w.interior; bits = true ∷ w.bits }) c.0,
    λ x h. ap (λ (l : List ℕ). is_inside l x) (run_interior faces g faces (record w { interior = f ∷ w.interior; bits = true ∷ w.bits }) c.0) ∙ or_right (f == x) (is_inside w.interior x) h,
  )
]

pub from_on : (faces : ℕ) (g : Gluing) (f : ℕ) (w : TraceWalk) → GoesOnFrom (face_run faces g f w) w
from_on faces g f w = elim (cases_Bool (is_face_visited w f)) [
  | inl t ↦ subst (λ (v : TraceWalk). GoesOnFrom v w) (sym (cond-true (is_face_visited w f) _ _ t)) (([], refl), λ x h. h)
  | inr t ↦ subst (λ (v : TraceWalk). GoesOnFrom v w) (sym (cond-false (is_face_visited w f) _ _ t)) (begun_on faces g f w (start_corner faces g f))
]

module _ (faces : ℕ) (g : Gluing) (G : IsGluing faces g) (F : HasThreeFans faces g) (all : List TracedEntry) (insides : List ℕ) where
  abbrev Known : TraceWalk → Type 0
  Known w = (x : ℕ) → is_inside w.interior x ≡ true → is_inside insides x ≡ true

  abbrev Goes : ℕ → TraceWalk → Type 0
  Goes f v = Extends all v.entries → Known v → Between faces g G F all insides v × (is_face_visited v f ≡ true)

  from_ok : (f : ℕ) → f < faces → (w : TraceWalk) → Between faces g G F all insides w → Goes f (face_run faces g f w)
  from_ok f h w B = elim (cases_Bool (is_face_visited w f)) [
    | inl t ↦ subst (Goes f) (sym (cond-true (is_face_visited w f) _ _ t)) (λ x k. (B, t))
    | inr t ↦ subst (Goes f) (sym (cond-false (is_face_visited w f) _ _ t)) (elim (start_corner_tells faces g G F all insides f h) [
      | inl c ↦ subst (λ (o : Option Side). Goes f (begun faces g f w o)) (sym c.1) (λ x k.
          from_boundary faces g G F all insides w B (λ y q. k y (ap (λ (l : List ℕ). is_inside l y) (run_interior faces g faces (record w { bits = false ∷ w.bits }) c.0) ∙ q)) f h t c.0 c.2 (false ∷ w.bits) refl x)
      | inr inside ↦ subst (λ (o : Option Side). Goes f (begun faces g f w o)) (sym inside.0) (elim (option_tells (g (side f second))) [
        | inl n ↦ absurd ((inside.1 second).0 n)
        | inr c ↦ subst (λ (o : Option Side). Goes f (begun_inside faces g f w o)) (sym c.1) (λ x k.
            from_inside faces g G F all insides w B f (λ y q. k y (ap (λ (l : List ℕ). is_inside l y) (run_interior faces g faces (record w { interior = f ∷ w.interior; bits = true ∷ w.bits }) c.0) ∙ q)) h t inside.1 c.0 c.1 (true ∷ w.bits) refl x)
      ])
    ])
  ]

  -- before the first run
  nothing_ok : Between faces g G F all insides nothing_walked
  nothing_ok = record {
    logged = record {
      gates = λ k h. absurd (let l : k < 0 = h in omega arith);
      raw = λ k a h. absurd (let l : k < 0 = h in omega arith);
      apart = λ i j h. absurd (let l : i < 0 = h in omega arith);
      outside = λ j h. absurd (let l : j < 0 = h in omega arith);
      bounded = λ j h. absurd (let l : j < 0 = h in omega arith);
      joined = λ k a h. absurd (let l : k < 0 = h in omega arith);
    };
    settled = λ k h. absurd (let l : k < 0 = h in omega arith);
    closed = λ x y e h. refl;
    last = λ j e. absurd (let q : 0 ≡ suc j = e in omega arith);
    kept = refl;
    inner = tt;
    bits = λ O. sym (Rattle.eb_trace.proofs.Walking.bits_none faces g G F all insides);
  }

  -- what is visited stays visited
  stays_visited : (v w : TraceWalk) → Extends all v.entries → GoesOnFrom v w → (e : ℕ) → is_face_visited w e ≡ true → is_face_visited v e ≡ true
  stays_visited v w x on e h = elim (visited_tells all w (extends_trans all v.entries w.entries x on.0) e h) [
    | inl t ↦ (
        let l = t.1 in
        let m = extends_length v.entries w.entries on.0 in
        ap (is_face_visited v) (sym t.2) ∙ number_visited all v x t.0 (omega arith))
    | inr i ↦ inside_visited v e (on.1 e i)
  ]

  abbrev Walks : ℕ → TraceWalk → Type 0
  Walks n v = Extends all v.entries → Known v → Between faces g G F all insides v × ((e : ℕ) → e < n → is_face_visited v e ≡ true)

  walk_ok : (n : ℕ) → n ≤ faces → Walks n (traced_runs faces g n)
  walk_ok zero h = subst (Walks zero) (sym (walked_none faces g)) (λ x k. (nothing_ok, λ e l. absurd (omega arith)))
  walk_ok (suc f) h = subst (Walks (suc f)) (sym (walked_more faces g f)) (λ x k.
      let on = from_on faces g f (traced_runs faces g f) in
      let B = walk_ok f (omega arith) (extends_trans all (face_run faces g f (traced_runs faces g f)).entries (traced_runs faces g f).entries x on.0) (λ y q. k y (on.1 y q)) in
      let N = from_ok f (omega arith) (traced_runs faces g f) B.0 x k in (
        N.0,
        λ e l. elim (cases_eq e f) [
          | inl q ↦ ap (is_face_visited (face_run faces g f (traced_runs faces g f))) q ∙ N.1
          | inr q ↦ stays_visited (face_run faces g f (traced_runs faces g f)) (traced_runs faces g f) x on e (B.1 e (omega arith))
        ],
      ))

-- the whole walk
abbrev pub entries_of : ℕ → Gluing → List TracedEntry
entries_of faces g = (trace faces g).entries

abbrev pub insides_of : ℕ → Gluing → List ℕ
insides_of faces g = (trace faces g).interior

pub trace_ok : (faces : ℕ) (g : Gluing) (G : IsGluing faces g) (F : HasThreeFans faces g) → Between faces g G F (entries_of faces g) (insides_of faces g) (trace faces g) × ((e : ℕ) → e < faces → is_face_visited (trace faces g) e ≡ true)
trace_ok faces g G F = walk_ok faces g G F (entries_of faces g) (insides_of faces g) faces (omega arith) ([], refl) (λ x h. h)
