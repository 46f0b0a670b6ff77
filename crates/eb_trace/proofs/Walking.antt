-- The whole walk: what its runs say once they have ended, where they start, and that they come to every face.
use Rattle.std.proofs.Common.{◌≡◌, ◌≢◌, ℕ, zero, suc, ◌*◌, ◌<◌, ◌≤◌, Bool, true, false, ◌==◌, cond, is_none, List, [], ◌∷◌, ◌++◌, length, Option, Some, None, option_map, ◌⊎◌, inl, inr, sym, refl, ap, ◌∙◌, subst, arith, eq-eqb, ne_eqb, eqb-true}
use Rattle.std.proofs.lemmas.Bool.{cases_Bool, cases_eq, cases_lt, cond-true, cond-false, or_from, or_cases, or_left}
use Rattle.corner_table.specs.declared.symbols.Symbol.{Symbol}
use Rattle.corner_table.specs.declared.symbols.Symbol.TheVariants.{C, S, L, R, E}
use Rattle.corner_table.specs.Sides.{Side, Place, first, second, third, side, next, prev, Gluing, IsGluing}
use Rattle.corner_table.specs.Fans.{InFan, rightmost, HasThreeFans}
use Rattle.corner_table.proofs.Places.{option_tells, Some_injective}
use Rattle.corner_table.proofs.Walks.{left_crosses, right_by-fan}
use Rattle.corner_table.proofs.Boundary.{rightmost_tells}
use Rattle.eb_trace.specs.Trace.{TracedEntry, TraceWalk, is_face_visited, run, start_by, start_corner, or_else, symbol_at_corner, trace_visit}
use Rattle.eb_trace.proofs.Rings.{Ring, GoesRound, OtherInFan, ring_of, through_map, long_walk}
use Rattle.eb_trace.proofs.Covered.{IsClosed, IsFaceOf, IsCovered, IsPart, IsVisiting, closed_covered, not_yet, still_unvisited, part_back, part_forth, three_sides, fan_unvisited, closed_visited, through_visited, count_most}
use Rattle.eb_trace.proofs.Visited.{is_inside, inside_visits, Extends, extends_trans, extends_top, extends_length, visited_tells, number_visited, inside_visited, not_inside, fan_within, after_entries, run_extends, run_interior, run_bits, run_goes_on, run_ends}
use Rattle.eb_trace.proofs.Log.{AfterEnd, at_boundary, at_inside, KeptFrom, Unseen, Later, Raw, Settled}
use Rattle.eb_trace.proofs.Moments.{corner, symbol, Logged, Moment, Ended, run_ok, other_face, true_not_false}

module _ (faces : ℕ) (g : Gluing) (G : IsGluing faces g) (F : HasThreeFans faces g) (all : List TracedEntry) (insides : List ℕ) where
  abbrev at : ℕ → Side
  at k = corner faces g G F all insides k

  abbrev word : ℕ → Symbol
  word k = symbol faces g G F all insides k

  abbrev Logs : ℕ → ℕ → List ℕ → Type 0
  Logs a count now = Logged faces g G F all insides a count now

  abbrev Moments : ℕ → TraceWalk → Side → Type 0
  Moments a w c = Moment faces g G F all insides a w c

  abbrev Ends : ℕ → TraceWalk → Type 0
  Ends a w = Ended faces g G F all insides a w

  -- what a run's symbols say once it has ended
  settle : (a : ℕ) (w : TraceWalk) → Ends a w → Extends all w.entries → (k : ℕ) → a ≤ k → k < length w.entries → Settled g at insides (length all) k (word k)
  settle a w N x k h l = go (word k) (N.logged.raw k h l)
    where
      here_visited : is_face_visited w (at k).face ≡ true
      here_visited = number_visited all w x k l

      -- what was unvisited then, is visited now, and is another face
      later : (f : ℕ) → Unseen at w.interior k f → is_face_visited w f ≡ true → f ≢ (at k).face → Later at (length all) k f
      later f u v ne = elim (visited_tells all w x f v) [
        | inr i ↦ absurd (true_not_false (is_inside w.interior f) i u.1)
        | inl t ↦ (
            let n = extends_length all w.entries x in
            let b = t.1 in (
              t.0,
              elim (cases_lt k t.0) [
                | inl q ↦ q
                | inr q ↦ elim (cases_eq t.0 k) [
                  | inl e ↦ absurd (ne (sym t.2 ∙ ap (λ (j : ℕ). (at j).face) e))
                  | inr e ↦ absurd (u.0 t.0 (omega arith) t.2)
                ]
              ],
              omega arith,
              t.2,
            ))
      ]

      go : (s : Symbol) → Raw g at insides w.interior k s → Settled g at insides (length all) k s
      go C t = ringed (ring_of G (at k) (N.logged.bounded k l) t.0)
        where
          ringed : Ring g (OtherInFan g (at k)) (at k) → Ring g (λ d. Later at (length all) k d.face) (at k)
          ringed r =
              let start : is_face_visited w r.from.face ≡ true = closed_visited G (is_face_visited w) N.closed (next (at k)) (prev r.from) (left_crosses g (at k) r.from r.leaves) here_visited in
              record {
                from = r.from;
                to = r.to;
                leaves = r.leaves;
                round = through_map (λ d. Later at (length all) k d.face) (λ d p. later d.face (t.1 d p.0.0) p.1 (other_face G F (at k) d (N.logged.bounded k l) p.0)) (through_visited G (is_face_visited w) N.closed (OtherInFan g (at k)) r.round start);
                returns = r.returns;
              }
      go S (y, e, u, met) = (y, e, later y.face u (closed_visited G (is_face_visited w) N.closed (prev (at k)) y e here_visited) (λ q. G.apart (prev (at k)) y e (sym q)), met)
      go L t = t
      go R t = t
      go E t = t

  -- a corner of an interior start face has a ring of faces with symbols
  abbrev pub InsideRing : Side → Type 0
  InsideRing c = Ring g (λ d. (j : ℕ) × (j < length all) × ((at j).face ≡ d.face)) c

  -- interior start faces, the last first, with the numbers of the first symbols of their runs
  abbrev pub Insides : ℕ → List ℕ → Type 0
  Insides bound [] = Unit {0}
  Insides bound (f ∷ fs) = (a : ℕ) × (a < bound) × (f < faces) × (g (side f second) ≡ Some (at a)) × ((p : Place) → InsideRing (side f p)) × (is_inside fs f ≡ false) × Insides a fs

  insides_more : (b bound : ℕ) → b ≤ bound → (fs : List ℕ) → Insides b fs → Insides bound fs
  insides_more b bound l [] I = tt
  insides_more b bound l (f ∷ fs) (a, h, w, e, r, n, rest) = (a, omega arith, w, e, r, n, rest)

  -- the start bits of the symbols below number k, the last first: of each that no other symbol was entered before
  abbrev pub bits_across : Option Side → List Bool
  bits_across None = false ∷ []
  bits_across (Some y) = cond (is_inside insides y.face) (true ∷ []) []

  unfoldable pub bits_to : ℕ → List Bool
  bits_to zero = []
  bits_to (suc k) = bits_across (g (at k)) ++ bits_to k

  -- in the end, no face with a symbol is an interior start face
  abbrev pub AreOutside : Type 0
  AreOutside = (k : ℕ) → k < length all → is_inside insides (at k).face ≡ false

  -- between two runs
  pub record Between (w : TraceWalk) : Type 0 where
    pub logged : Logs (length w.entries) (length w.entries) w.interior
    pub settled : (k : ℕ) → k < length w.entries → Settled g at insides (length all) k (word k)
    pub closed : IsClosed g (is_face_visited w)
    pub last : AfterEnd word (length w.entries)
    pub kept : w.kept ≡ []
    pub inner : Insides (length w.entries) w.interior
    pub bits : AreOutside → w.bits ≡ bits_to (length w.entries)

  pub bits_none : bits_to zero ≡ []
  unfolding bits_to
  bits_none = refl

  pub bits_more : (k : ℕ) → bits_to (suc k) ≡ bits_across (g (at k)) ++ bits_to k
  unfolding bits_to
  bits_more k = refl

  -- symbols that are no first ones add no bits
  bits_same : (a count : ℕ) → a < count → (known : (f : ℕ) → f < count → is_inside insides (at f).face ≡ false) → ((k : ℕ) → a < k → k < count → (j : ℕ) × (j < k) × (z : Side) × (g (at k) ≡ Some z) × (z.face ≡ (at j).face)) → bits_to count ≡ bits_to (suc a)
  bits_same a zero h known joined = absurd (omega arith)
  bits_same a (suc k) h known joined = elim (cases_eq a k) [
    | inl e ↦ ap (λ (j : ℕ). bits_to (suc j)) (sym e)
    | inr n ↦ (
        let t = joined k (omega arith) (omega arith) in
        let l = t.1 in
        bits_more k
        ∙ ap (λ (o : Option Side). bits_across o ++ bits_to k) t.3
        ∙ ap (λ (b : Bool). cond b (true ∷ []) [] ++ bits_to k) (ap (is_inside insides) t.4 ∙ known t.0 (omega arith))
        ∙ bits_same a k (omega arith) (λ f q. known f (omega arith)) (λ i u v. joined i u (omega arith)))
  ]

  -- the first symbol of a run has the corner that it starts at
  run_first : (turns : ℕ) (w : TraceWalk) (c : Side) → Extends all (run faces g (suc turns) w c).entries → (at (length w.entries) ≡ c) × (length w.entries < length (run faces g (suc turns) w c).entries)
  run_first turns w c x = elim (option_tells (trace_visit faces g w c).1) [
    | inl n ↦ from ([], ap (λ (y : TraceWalk). y.entries) (run_ends faces g turns w c n) ∙ after_entries g w c (symbol_at_corner faces g w c))
    | inr d ↦ (
        let t = run_extends faces g turns (trace_visit faces g w c).0 d.0 in
        from (t.0, ap (λ (y : TraceWalk). y.entries) (run_goes_on faces g turns w c d.0 d.1) ∙ t.1 ∙ ap (λ (l : List TracedEntry). t.0 ++ l) (after_entries g w c (symbol_at_corner faces g w c))))
  ]
    where
      from : Extends (run faces g (suc turns) w c).entries (record { corner = c; symbol = symbol_at_corner faces g w c } ∷ w.entries) → (at (length w.entries) ≡ c) × (length w.entries < length (run faces g (suc turns) w c).entries)
      from y = (
        ap (λ (e : TracedEntry). e.corner) (extends_top all (record { corner = c; symbol = symbol_at_corner faces g w c }) w.entries (extends_trans all (run faces g (suc turns) w c).entries (record { corner = c; symbol = symbol_at_corner faces g w c } ∷ w.entries) x y)),
        extends_length (run faces g (suc turns) w c).entries (record { corner = c; symbol = symbol_at_corner faces g w c } ∷ w.entries) y,
      )

  -- a run that has ended settles its symbols
  ended_between : (w v : TraceWalk) → Between w → Ends (length w.entries) v → Extends all v.entries → Insides (length v.entries) v.interior → (AreOutside → v.bits ≡ bits_to (length v.entries)) → Between v
  ended_between w v B N x I bits = record {
    logged = record { gates = N.logged.gates; raw = λ k h l. absurd (omega arith); apart = N.logged.apart; outside = N.logged.outside; bounded = N.logged.bounded; joined = λ k l h. absurd (omega arith) };
    settled = λ k h. elim (cases_lt k (length w.entries)) [ inl l ↦ B.settled k l | inr l ↦ settle (length w.entries) v N x k l h ];
    closed = N.closed;
    last = N.last;
    kept = N.kept;
    inner = I;
    bits = bits;
  }

  -- what a start corner is: its side is free, and it lies in the part of the face that it starts from
  abbrev pub IsStart : ℕ → Side → Type 0
  IsStart f c = (g c ≡ None) × (c.face < faces) × ((V : ℕ → Bool) → IsClosed g V → V f ≡ false → V c.face ≡ false)

  none_is : (o : Option Side) → is_none o ≡ true → o ≡ None
  none_is None h = refl
  none_is (Some x) h = absurd (let no : false ≡ true = h in cc)

  some_is : (o : Option Side) → is_none o ≡ false → o ≢ None
  some_is o h e = true_not_false (is_none o) (ap {A = Option Side} is_none e) h

  last_in_fan : (x : Side) → InFan g x (rightmost g (3 * faces) x)
  last_in_fan x = elim (rightmost_tells g (3 * faces) x) [ inl t ↦ right_by-fan g t.0 x _ t.1 | inr p ↦ right_by-fan g (3 * faces) x _ p ]

  -- one corner of a face gives a start corner, or has its side glued and a fan without ends
  start_tells : (x : Side) → x.face < faces → (o : Option Side) → start_by faces g x ≡ o → ((c : Side) × (o ≡ Some c) × IsStart x.face c) ⊎ ((o ≡ None) × (g x ≢ None) × GoesRound g x)
  start_tells x h o e = elim (cases_Bool (is_none (g x))) [
    | inl t ↦ inl (x, sym e ∙ cond-true (is_none (g x)) _ _ t, (none_is (g x) t, h, λ V K u. u))
    | inr t ↦ elim (cases_Bool (is_none (g (prev (rightmost g (3 * faces) x))))) [
      | inl u ↦ inl (
        prev (rightmost g (3 * faces) x),
        sym e ∙ cond-false (is_none (g x)) _ _ t ∙ cond-true (is_none (g (prev (rightmost g (3 * faces) x)))) _ _ u,
        (none_is _ u, fan_within G (last_in_fan x) h, λ V K v. fan_unvisited V K (last_in_fan x) v),
      )
      | inr u ↦ inr (
        sym e ∙ cond-false (is_none (g x)) _ _ t ∙ cond-false (is_none (g (prev (rightmost g (3 * faces) x)))) _ _ u,
        some_is (g x) t,
        elim (rightmost_tells g (3 * faces) x) [
          | inr p ↦ long_walk G x (rightmost g (3 * faces) x) h p
          | inl q ↦ absurd (elim (option_tells (g (prev (rightmost g (3 * faces) x)))) [
            | inl n ↦ some_is _ u n
            | inr y ↦ (let no : Some (prev y.0) ≡ None = sym (ap (option_map prev) y.1) ∙ q.2 in cc)
          ])
        ],
      )
    ]
  ]

  -- a face gives a start corner, or is inside: its sides are glued, and its fans have no ends
  abbrev pub IsInside : ℕ → Type 0
  IsInside f = (p : Place) → (g (side f p) ≢ None) × GoesRound g (side f p)

  pub start_corner_tells : (f : ℕ) → f < faces → ((c : Side) × (start_corner faces g f ≡ Some c) × IsStart f c) ⊎ ((start_corner faces g f ≡ None) × IsInside f)
  start_corner_tells f h = elim (start_tells (side f first) h _ refl) [
    | inl t ↦ inl (t.0, ap (λ (o : Option Side). or_else o (or_else (start_by faces g (side f second)) (start_by faces g (side f third)))) t.1, t.2)
    | inr a ↦ elim (start_tells (side f second) h _ refl) [
      | inl t ↦ inl (t.0, ap (λ (o : Option Side). or_else o (or_else (start_by faces g (side f second)) (start_by faces g (side f third)))) a.0 ∙ ap (λ (o : Option Side). or_else o (start_by faces g (side f third))) t.1, t.2)
      | inr b ↦ elim (start_tells (side f third) h _ refl) [
        | inl t ↦ inl (t.0, before a.0 b.0 ∙ t.1, t.2)
        | inr c ↦ inr (before a.0 b.0 ∙ c.0, inside (a.1, a.2) (b.1, b.2) (c.1, c.2))
      ]
    ]
  ]
    where
      before : start_by faces g (side f first) ≡ None → start_by faces g (side f second) ≡ None → start_corner faces g f ≡ start_by faces g (side f third)
      before a b = ap (λ (o : Option Side). or_else o (or_else (start_by faces g (side f second)) (start_by faces g (side f third)))) a ∙ ap (λ (o : Option Side). or_else o (start_by faces g (side f third))) b

      inside : (g (side f first) ≢ None) × GoesRound g (side f first) → (g (side f second) ≢ None) × GoesRound g (side f second) → (g (side f third) ≢ None) × GoesRound g (side f third) → IsInside f
      inside a b c first = a
      inside a b c second = b
      inside a b c third = c

  -- all faces fit the turns of a run
  enough : (w : TraceWalk) → Rattle.eb_trace.proofs.Covered.unvisited_count (is_face_visited w) faces ≤ faces
  enough w = count_most (is_face_visited w) faces

  -- a run from a boundary
  pub from_boundary : (w : TraceWalk) → Between w → ((x : ℕ) → is_inside w.interior x ≡ true → is_inside insides x ≡ true) → (f : ℕ) → f < faces → is_face_visited w f ≡ false → (c : Side) → IsStart f c → (bits : List Bool) → bits ≡ false ∷ w.bits →
      Extends all (run faces g faces (record w { bits = bits }) c).entries → Between (run faces g faces (record w { bits = bits }) c) × (is_face_visited (run faces g faces (record w { bits = bits }) c) f ≡ true)
  from_boundary w B known f h u c start bits told x = (ended_between w v B N x inner bits_are, visits)
    where
      v : TraceWalk
      v = run faces g faces (record w { bits = bits }) c

      moment : Moments (length w.entries) (record w { bits = bits }) c
      moment = record {
        logged = B.logged;
        within = start.1;
        fresh = start.2 (is_face_visited w) B.closed u;
        gated = λ y e. absurd (let no : None ≡ Some y = sym start.0 ∙ e in cc);
        gate = at_boundary B.last start.0;
        covered = closed_covered g (is_face_visited w) (c ∷ w.kept) B.closed;
        kept = subst (KeptFrom g at word (length w.entries) c (length w.entries)) (sym B.kept) tt;
        known = known;
        joined = λ l. absurd (omega arith);
      }

      N : Ends (length w.entries) (run faces g faces (record w { bits = bits }) c)
      N = run_ok faces g G F all insides (length w.entries) faces (record w { bits = bits }) c moment (omega arith) (enough w) x

      same : (run faces g faces (record w { bits = bits }) c).interior ≡ w.interior
      same = run_interior faces g faces (record w { bits = bits }) c

      begins : (n : ℕ) → faces ≡ n → (at (length w.entries) ≡ c) × (length w.entries < length (run faces g faces (record w { bits = bits }) c).entries)
      begins zero e = absurd (omega (arith, e))
      begins (suc n) e =
          subst (λ (m : ℕ). Extends all (run faces g m (record w { bits = bits }) c).entries → (at (length w.entries) ≡ c) × (length w.entries < length (run faces g m (record w { bits = bits }) c).entries)) (sym e)
          (λ y. run_first n (record w { bits = bits }) c y) x

      bits_are : AreOutside → (run faces g faces (record w { bits = bits }) c).bits ≡ bits_to (length (run faces g faces (record w { bits = bits }) c).entries)
      bits_are O =
          let b = begins faces refl in
          let l = extends_length all (run faces g faces (record w { bits = bits }) c).entries x in
          run_bits faces g faces (record w { bits = bits }) c ∙ told ∙ ap (λ (t : List Bool). false ∷ t) (B.bits O)
          ∙ sym (ap (λ (d : Side). bits_across (g d) ++ bits_to (length w.entries)) b.0 ∙ ap (λ (o : Option Side). bits_across o ++ bits_to (length w.entries)) start.0)
          ∙ sym (bits_more (length w.entries))
          ∙ sym (bits_same (length w.entries) (length (run faces g faces (record w { bits = bits }) c).entries) b.1 (λ k q. O k (omega arith)) N.logged.joined)

      inner : Insides (length (run faces g faces (record w { bits = bits }) c).entries) (run faces g faces (record w { bits = bits }) c).interior
      inner = (let l = (begins faces refl).1 in subst (Insides (length (run faces g faces (record w { bits = bits }) c).entries)) (sym same) (insides_more (length w.entries) (length (run faces g faces (record w { bits = bits }) c).entries) (omega arith) w.interior B.inner))

      visits : is_face_visited (run faces g faces (record w { bits = bits }) c) f ≡ true
      visits = elim (cases_Bool (is_face_visited (run faces g faces (record w { bits = bits }) c) f)) [
        | inl t ↦ t
        | inr unseen ↦ absurd (true_not_false (is_face_visited (run faces g faces (record w { bits = bits }) c) c.face)
            (ap (λ (d : Side). is_face_visited (run faces g faces (record w { bits = bits }) c) d.face) (sym (begins faces refl).0) ∙ number_visited all (run faces g faces (record w { bits = bits }) c) x (length w.entries) (begins faces refl).1)
            (start.2 (is_face_visited (run faces g faces (record w { bits = bits }) c)) N.closed unseen))
      ]

  -- a run round an interior start face
  pub from_inside : (w : TraceWalk) → Between w → (f : ℕ) → ((x : ℕ) → is_inside (f ∷ w.interior) x ≡ true → is_inside insides x ≡ true) → f < faces → is_face_visited w f ≡ false → IsInside f → (c : Side) → g (side f second) ≡ Some c → (bits : List Bool) → bits ≡ true ∷ w.bits →
      Extends all (run faces g faces (record w { interior = f ∷ w.interior; bits = bits }) c).entries → Between (run faces g faces (record w { interior = f ∷ w.interior; bits = bits }) c) × (is_face_visited (run faces g faces (record w { interior = f ∷ w.interior; bits = bits }) c) f ≡ true)
  from_inside w B f known h u inside c across bits told x = (ended_between w v B N x inner bits_are, visits)
    where
      v : TraceWalk
      v = run faces g faces (record w { interior = f ∷ w.interior; bits = bits }) c

      visiting : IsVisiting (is_face_visited w) f (is_face_visited (record w { interior = f ∷ w.interior; bits = bits }))
      visiting = inside_visits w f bits

      free : (p : Place) (d : Side) → OtherInFan g (side f p) d → is_face_visited (record w { interior = f ∷ w.interior; bits = bits }) d.face ≡ false
      free p d o = not_yet visiting d.face (fan_unvisited (is_face_visited w) B.closed o.0 u) (other_face G F (side f p) d h o)

      ring : (p : Place) → Ring g (OtherInFan g (side f p)) (side f p)
      ring p = ring_of G (side f p) h (inside p).1

      cover : IsCovered g (is_face_visited (record w { interior = f ∷ w.interior; bits = bits })) (c ∷ w.kept)
      cover T part a b e t = elim (cases_Bool (is_face_visited (record w { interior = f ∷ w.interior; bits = bits }) b.face)) [
        | inr n ↦ n
        | inl s ↦ elim (visiting.only b.face s) [
          | inl z ↦ absurd (true_not_false (is_face_visited w b.face) z (B.closed a b e (still_unvisited visiting a.face (part.unvisited a.face t)).0))
          | inr z ↦ absurd (elim (three_sides (side f second) b z) [
            | inl q ↦ hit a (Some_injective _ _ (sym across ∙ ap g (sym q) ∙ G.paired a b e)) t
            | inr q ↦ elim q [ inl o ↦ at_third (ring first) a (ap g (sym o) ∙ G.paired a b e) t | inr o ↦ at_first (ring third) a (ap g (sym o) ∙ G.paired a b e) t ]
          ])
        ]
      ]
        where
          hit : (a : Side) → c ≡ a → T a.face ≡ true → ⊥
          hit a q t = true_not_false (T a.face) t (part.apart a.face (inl (ap (λ (z : Side). z.face) q)))

          at_third : Ring g (OtherInFan g (side f first)) (side f first) → (a : Side) → g (side f third) ≡ Some a → T a.face ≡ true → ⊥
          at_third r a e t =
              let to : next r.to ≡ a = Some_injective _ _ (sym (G.paired (next r.to) (side f third) (left_crosses g r.to (side f first) r.returns)) ∙ e) in
              let from : c ≡ prev r.from = Some_injective _ _ (sym across ∙ left_crosses g (side f first) r.from r.leaves) in
              hit (prev r.from) from (part_back G (is_face_visited (record w { interior = f ∷ w.interior; bits = bits })) (c ∷ w.kept) T part (OtherInFan g (side f first)) (free first) r.round (ap (λ (z : Side). T z.face) to ∙ t))

          at_first : Ring g (OtherInFan g (side f third)) (side f third) → (a : Side) → g (side f first) ≡ Some a → T a.face ≡ true → ⊥
          at_first r a e t =
              let from : prev r.from ≡ a = Some_injective _ _ (sym (left_crosses g (side f third) r.from r.leaves) ∙ e) in
              let to : c ≡ next r.to = Some_injective _ _ (sym across ∙ G.paired (next r.to) (side f second) (left_crosses g r.to (side f third) r.returns)) in
              hit (next r.to) to (part_forth (is_face_visited (record w { interior = f ∷ w.interior; bits = bits })) (c ∷ w.kept) T part (OtherInFan g (side f third)) (free third) r.round (ap (λ (z : Side). T z.face) from ∙ t))

      moment : Moments (length w.entries) (record w { interior = f ∷ w.interior; bits = bits }) c
      moment = record {
        logged = record {
          gates = B.logged.gates;
          raw = λ k a b. absurd (omega arith);
          apart = B.logged.apart;
          outside = λ j l. or_from (f == (at j).face) _ (ne_eqb f (at j).face (λ q. true_not_false (is_face_visited w f) (ap (is_face_visited w) q ∙ visited_before j l) u)) (B.logged.outside j l);
          bounded = B.logged.bounded;
          joined = λ k l q. absurd (omega arith);
        };
        within = G.within c (side f second) (G.paired (side f second) c across);
        fresh = not_yet visiting c.face (B.closed (side f second) c across u) (λ q. G.apart (side f second) c across (sym q));
        gated = λ y e. ap (is_face_visited (record w { interior = f ∷ w.interior; bits = bits })) (ap (λ (z : Side). z.face) (Some_injective _ _ (sym e ∙ G.paired (side f second) c across))) ∙ visiting.new;
        gate = at_inside f B.last (known f (or_left (f == f) _ (eq-eqb f f refl))) (G.paired (side f second) c across);
        covered = cover;
        kept = subst (KeptFrom g at word (length w.entries) c (length w.entries)) (sym B.kept) tt;
        known = known;
        joined = λ l. absurd (omega arith);
      }
        where
          visited_before : (j : ℕ) → j < length w.entries → is_face_visited w (at j).face ≡ true
          visited_before j l = number_visited all w (extends_trans all (run faces g faces (record w { interior = f ∷ w.interior; bits = bits }) c).entries w.entries x (run_extends faces g faces (record w { interior = f ∷ w.interior; bits = bits }) c)) j l

      N : Ends (length w.entries) (run faces g faces (record w { interior = f ∷ w.interior; bits = bits }) c)
      N = run_ok faces g G F all insides (length w.entries) faces (record w { interior = f ∷ w.interior; bits = bits }) c moment (omega arith) (enough (record w { interior = f ∷ w.interior; bits = bits })) x

      same : (run faces g faces (record w { interior = f ∷ w.interior; bits = bits }) c).interior ≡ f ∷ w.interior
      same = run_interior faces g faces (record w { interior = f ∷ w.interior; bits = bits }) c

      begins : (n : ℕ) → faces ≡ n → (at (length w.entries) ≡ c) × (length w.entries < length (run faces g faces (record w { interior = f ∷ w.interior; bits = bits }) c).entries)
      begins zero e = absurd (omega (arith, e))
      begins (suc n) e =
          subst (λ (m : ℕ). Extends all (run faces g m (record w { interior = f ∷ w.interior; bits = bits }) c).entries → (at (length w.entries) ≡ c) × (length w.entries < length (run faces g m (record w { interior = f ∷ w.interior; bits = bits }) c).entries)) (sym e)
          (λ y. run_first n (record w { interior = f ∷ w.interior; bits = bits }) c y) x

      visits : is_face_visited (run faces g faces (record w { interior = f ∷ w.interior; bits = bits }) c) f ≡ true
      visits = inside_visited (run faces g faces (record w { interior = f ∷ w.interior; bits = bits }) c) f (ap (λ (l : List ℕ). is_inside l f) same ∙ or_left (f == f) _ (eq-eqb f f refl))

      ringed : (p : Place) → InsideRing (side f p)
      ringed p = go (ring p)
        where
          numbered : (d : Side) → OtherInFan g (side f p) d → is_face_visited (run faces g faces (record w { interior = f ∷ w.interior; bits = bits }) c) d.face ≡ true → (j : ℕ) × (j < length all) × ((at j).face ≡ d.face)
          numbered d o s = elim (visited_tells all (run faces g faces (record w { interior = f ∷ w.interior; bits = bits }) c) x d.face s) [
            | inl t ↦ (let l = t.1 in let n = extends_length all (run faces g faces (record w { interior = f ∷ w.interior; bits = bits }) c).entries x in (t.0, omega arith, t.2))
            | inr i ↦ absurd (elim (or_cases (f == d.face) (is_inside w.interior d.face) (sym (ap (λ (l : List ℕ). is_inside l d.face) same) ∙ i)) [
              | inl q ↦ other_face G F (side f p) d h o (sym (eqb-true f d.face q))
              | inr q ↦ true_not_false (is_face_visited w d.face) (inside_visited w d.face q) (fan_unvisited (is_face_visited w) B.closed o.0 u)
            ])
          ]

          go : Ring g (OtherInFan g (side f p)) (side f p) → InsideRing (side f p)
          go r =
              let start : is_face_visited (run faces g faces (record w { interior = f ∷ w.interior; bits = bits }) c) r.from.face ≡ true = closed_visited G (is_face_visited (run faces g faces (record w { interior = f ∷ w.interior; bits = bits }) c)) N.closed (next (side f p)) (prev r.from) (left_crosses g (side f p) r.from r.leaves) visits in
              record {
                from = r.from;
                to = r.to;
                leaves = r.leaves;
                round = through_map (λ d. (j : ℕ) × (j < length all) × ((at j).face ≡ d.face)) (λ d q. numbered d q.0 q.1) (through_visited G (is_face_visited (run faces g faces (record w { interior = f ∷ w.interior; bits = bits }) c)) N.closed (OtherInFan g (side f p)) r.round start);
                returns = r.returns;
              }

      bits_are : AreOutside → (run faces g faces (record w { interior = f ∷ w.interior; bits = bits }) c).bits ≡ bits_to (length (run faces g faces (record w { interior = f ∷ w.interior; bits = bits }) c).entries)
      bits_are O =
          let b = begins faces refl in
          let l = extends_length all (run faces g faces (record w { interior = f ∷ w.interior; bits = bits }) c).entries x in
          run_bits faces g faces (record w { interior = f ∷ w.interior; bits = bits }) c ∙ told ∙ ap (λ (t : List Bool). true ∷ t) (B.bits O)
          ∙ sym (ap (λ (d : Side). bits_across (g d) ++ bits_to (length w.entries)) b.0
          ∙ ap (λ (o : Option Side). bits_across o ++ bits_to (length w.entries)) (G.paired (side f second) c across)
          ∙ ap (λ (t : Bool). cond t (true ∷ []) [] ++ bits_to (length w.entries)) (known f (or_left (f == f) _ (eq-eqb f f refl))))
          ∙ sym (bits_more (length w.entries))
          ∙ sym (bits_same (length w.entries) (length (run faces g faces (record w { interior = f ∷ w.interior; bits = bits }) c).entries) b.1 (λ k q. O k (omega arith)) N.logged.joined)

      inner : Insides (length (run faces g faces (record w { interior = f ∷ w.interior; bits = bits }) c).entries) (run faces g faces (record w { interior = f ∷ w.interior; bits = bits }) c).interior
      inner =
          let b = begins faces refl in
          subst (Insides (length (run faces g faces (record w { interior = f ∷ w.interior; bits = bits }) c).entries)) (sym same)
          (length w.entries, b.1, h, across ∙ ap {A = Side} Some (sym b.0), ringed, not_inside w f u, B.inner)
