-- One symbol of a run: what holds at a corner holds at the next, and at the end all that could be reached is visited.
use Rattle.std.proofs.Common.{◌≡◌, ◌≢◌, ℕ, zero, suc, ◌<◌, ◌≤◌, Bool, true, false, List, [], ◌∷◌, ◌++◌, length, Option, Some, None, option_map, ◌⊎◌, inl, inr, sym, refl, ap, ◌∙◌, subst, arith}
use Rattle.std.proofs.lemmas.Bool.{cases_Bool, cases_eq, cond-true, cond-false}
use Rattle.corner_table.specs.declared.symbols.Symbol.{Symbol}
use Rattle.corner_table.specs.declared.symbols.Symbol.TheVariants.{C, S, L, R, E}
use Rattle.corner_table.specs.declared.symbols.Event.{Event}
use Rattle.corner_table.specs.Sides.{Side, next, prev, Gluing, IsGluing}
use Rattle.corner_table.specs.Fans.{swing_left, InFan, here, leftwards, HasThreeFans}
use Rattle.corner_table.proofs.Places.{option_tells, Some_injective, next-prev}
use Rattle.corner_table.proofs.Walks.{left_crosses, fan_sym}
use Rattle.eb_machine.specs.Machine.{pushed}
use Rattle.eb_trace.specs.Trace.{TracedEntry, TraceWalk, is_face_visited, is_visited_across, is_new_vertex, symbol_at_corner, after_symbol, go_back, take_kept, entered_by, trace_visit, run, events_noted}
use Rattle.eb_trace.proofs.Rings.{Ring, GoesRound, OtherInFan, ring_of}
use Rattle.eb_trace.proofs.Covered.{IsClosed, IsFaceOf, IsCovered, IsVisiting, IsBlocked, blocked_visited, blocked_ahead, covered_step, covered_closed, not_yet, part_back, three_sides, unvisited_count, count_less, count_some}
use Rattle.eb_trace.proofs.Visited.{is_inside, entered_visits, entry_at, Extends, extends_rest, extends_top, extends_trans, same_visited, visited_tells, number_visited, not_inside, closed_tells, open_tells, SymbolTells, symbol_tells, new_tells, old_tells, take_none, take_some, after_entries, after_interior, run_ends, run_goes_on, run_extends}
use Rattle.eb_trace.proofs.Log.{AfterEnd, GoesRight, InOrder, Gate, after_right, after_left, after_kept, ComesAfter, KeptFrom, Seen, Unseen, SeenAcross, MetBefore, Raw}

pub true_not_false : (b : Bool) → b ≡ true → b ≡ false → ⊥
true_not_false b e f = (let no : true ≡ false = sym e ∙ f in cc)

glued_swings : (g : Gluing) (d : Side) → g (next d) ≢ None → (e : Side) × (swing_left g d ≡ Some e)
glued_swings g d n = elim (option_tells (g (next d))) [ inl e ↦ absurd (n e) | inr y ↦ (next y.0, ap (option_map next) y.1) ]

-- the other corners of a fan are of other faces
pub other_face : {faces : ℕ} {g : Gluing} → IsGluing faces g → HasThreeFans faces g → (c d : Side) → c.face < faces → OtherInFan g c d → d.face ≢ c.face
other_face {faces} {g} G F c d h o e = elim (three_sides c d e) [
  | inl q ↦ o.1 q
  | inr t ↦ elim t [
    | inl q ↦ F.at_next c h (subst (InFan g c) q o.0)
    | inr q ↦ F.at_next (prev c) h (subst (λ (x : Side). InFan g (prev c) x) (sym (next-prev c)) (fan_sym G (subst (InFan g c) q o.0)))
  ]
]

module _ (faces : ℕ) (g : Gluing) (G : IsGluing faces g) (F : HasThreeFans faces g) (all : List TracedEntry) (insides : List ℕ) where
  abbrev pub corner : ℕ → Side
  corner k = (entry_at all k).corner

  abbrev pub symbol : ℕ → Symbol
  symbol k = (entry_at all k).symbol

  -- a corner is entered_by from a face with a symbol before number k
  abbrev pub EnteredFrom : ℕ → Side → Type 0
  EnteredFrom k x = (j : ℕ) × (j < k) × (z : Side) × (g x ≡ Some z) × (z.face ≡ (corner j).face)

  -- what has been noted; a is the number of the first symbol of the run
  pub record Logged (a count : ℕ) (now : List ℕ) : Type 0 where
    pub gates : (k : ℕ) → k < count → Gate g corner symbol insides k (corner k)
    pub raw : (k : ℕ) → a ≤ k → k < count → Raw g corner insides now k (symbol k)
    pub apart : (i j : ℕ) → i < count → j < count → (corner i).face ≡ (corner j).face → i ≡ j
    pub outside : (j : ℕ) → j < count → is_inside now (corner j).face ≡ false
    pub bounded : (j : ℕ) → j < count → (corner j).face < faces
    pub joined : (k : ℕ) → a < k → k < count → EnteredFrom k (corner k)

  -- before a corner is visited
  pub record Moment (a : ℕ) (w : TraceWalk) (c : Side) : Type 0 where
    pub logged : Logged a (length w.entries) w.interior
    pub within : c.face < faces
    pub fresh : is_face_visited w c.face ≡ false
    pub gated : (y : Side) → g c ≡ Some y → is_face_visited w y.face ≡ true
    pub gate : Gate g corner symbol insides (length w.entries) c
    pub covered : IsCovered g (is_face_visited w) (c ∷ w.kept)
    pub kept : KeptFrom g corner symbol (length w.entries) c (length w.entries) w.kept
    pub known : (f : ℕ) → is_inside w.interior f ≡ true → is_inside insides f ≡ true
    pub joined : a < length w.entries → EnteredFrom (length w.entries) c

  -- after the last corner of a run
  pub record Ended (a : ℕ) (w : TraceWalk) : Type 0 where
    pub logged : Logged a (length w.entries) w.interior
    pub closed : IsClosed g (is_face_visited w)
    pub last : AfterEnd symbol (length w.entries)
    pub kept : w.kept ≡ []

  abbrev Outcome : ℕ → TraceWalk → Option Side → Type 0
  Outcome a w None = Ended a w
  Outcome a w (Some d) = Moment a w d

  -- one more corner in order
  order_on : (k : ℕ) (c : Side) → corner k ≡ c → (i : ℕ) → InOrder g corner i k → ComesAfter g corner i k c → InOrder g corner i (suc k)
  order_on k c e i order comes m a b = elim (cases_eq m k) [
    | inr n ↦ order m a (omega arith)
    | inl q ↦ (
        let t = comes (omega arith) in
        let u = t.2 in
        (t.0, t.1, omega arith, t.3, ap g (ap corner q ∙ e) ∙ t.4, t.5))
  ]

  -- kept corners after one more symbol
  kept_on : (k : ℕ) (c d : Side) → corner k ≡ c → (bound : ℕ) → bound ≤ k → (kept : List Side) → ((i : ℕ) → i < bound → ComesAfter g corner i (suc k) d) → KeptFrom g corner symbol k c bound kept → KeptFrom g corner symbol (suc k) d bound kept
  kept_on k c d e bound l [] after K = tt
  kept_on k c d e bound l (x ∷ kept) after (i, h, s, p, order, comes, rest) = (i, h, s, p, more, after i h, kept_on k c d e i (omega arith) kept (λ j m. after j (omega arith)) rest)
    where
      more : InOrder g corner i (suc k)
      more = order_on k c e i order comes

  kept_less : (k : ℕ) (c : Side) (b bound : ℕ) → b ≤ bound → (kept : List Side) → KeptFrom g corner symbol k c b kept → KeptFrom g corner symbol k c bound kept
  kept_less k c b bound l [] K = tt
  kept_less k c b bound l (x ∷ kept) (i, h, s, p, order, comes, rest) = (i, omega arith, s, p, order, comes, rest)

  -- kept corners of visited faces are passed over
  kept_tail : (k : ℕ) (c : Side) (bound : ℕ) (w : TraceWalk) (kept : List Side) (d : Side) (rest : List Side) → take_kept w kept ≡ Some (d, rest) → KeptFrom g corner symbol k c bound kept → KeptFrom g corner symbol k c bound (d ∷ rest)
  unfolding take_kept
  kept_tail k c bound w [] d rest e K = absurd (let no : None ≡ Some (d, rest) = e in cc)
  kept_tail k c bound w (x ∷ kept) d rest e K = elim (cases_Bool (is_face_visited w x.face)) [
    | inr u ↦ (
        let q : (x, kept) ≡ (d, rest) = Some_injective _ _ (sym (cond-false (is_face_visited w x.face) _ _ u) ∙ e) in
        subst (λ (p : Side × List Side). KeptFrom g corner symbol k c bound (p.0 ∷ p.1)) q K)
    | inl v ↦ (
        let h = K.1 in
        kept_less k c K.0 bound (omega arith) (d ∷ rest) (kept_tail k c K.0 w kept d rest (sym (cond-true (is_face_visited w x.face) _ _ v) ∙ e) K.6))
  ]

  -- one corner
  module _ (a : ℕ) (w : TraceWalk) (c : Side) (M : Moment a w c) (first : a ≤ length w.entries) where
    abbrev Logging : Symbol → Type 0
    Logging s = Extends all (record { corner = c; symbol = s } ∷ w.entries)

    corner_is : (s : Symbol) → Logging s → corner (length w.entries) ≡ c
    corner_is s x = ap (λ (e : TracedEntry). e.corner) (extends_top all (record { corner = c; symbol = s }) w.entries x)

    symbol_is : (s : Symbol) → Logging s → symbol (length w.entries) ≡ s
    symbol_is s x = ap (λ (e : TracedEntry). e.symbol) (extends_top all (record { corner = c; symbol = s }) w.entries x)

    before : (s : Symbol) → Logging s → Extends all w.entries
    before s x = extends_rest all (record { corner = c; symbol = s }) w.entries x

    seen : (s : Symbol) → Logging s → (f : ℕ) → is_face_visited w f ≡ true → Seen corner insides (length w.entries) f
    seen s x f h = elim (visited_tells all w (before s x) f h) [ inl t ↦ inl t | inr t ↦ inr (M.known f t) ]

    unseen : (s : Symbol) → Logging s → (f : ℕ) → is_face_visited w f ≡ false → Unseen corner w.interior (length w.entries) f
    unseen s x f h = (λ j l e. true_not_false (is_face_visited w f) (ap (is_face_visited w) (sym e) ∙ number_visited all w (before s x) j l) h, not_inside w f h)

    across : (s : Symbol) → Logging s → (x y : Side) → corner (length w.entries) ≡ c → ((z : Side) → g y ≡ Some z → is_face_visited w z.face ≡ true) → x ≡ y → SeenAcross g corner insides (length w.entries) x
    across s lo x y e h q z i = seen s lo z.face (h z (ap g (sym q) ∙ i))

    logged_more : (s : Symbol) → Logging s → Raw g corner insides w.interior (length w.entries) s → Logged a (suc (length w.entries)) w.interior
    logged_more s x raw = record {
      gates = λ k h. elim (cases_eq k (length w.entries)) [
        | inr n ↦ M.logged.gates k (omega arith)
        | inl e ↦ subst (λ (j : ℕ). Gate g corner symbol insides j (corner j)) (sym e) (subst (Gate g corner symbol insides (length w.entries)) (sym (corner_is s x)) M.gate)
      ];
      raw = λ k b h. elim (cases_eq k (length w.entries)) [
        | inr n ↦ M.logged.raw k b (omega arith)
        | inl e ↦ subst (λ (j : ℕ). Raw g corner insides w.interior j (symbol j)) (sym e) (subst (Raw g corner insides w.interior (length w.entries)) (sym (symbol_is s x)) raw)
      ];
      apart = λ i j h l e. elim (cases_eq i (length w.entries)) [
        | inl p ↦ elim (cases_eq j (length w.entries)) [
          | inl q ↦ p ∙ sym q
          | inr q ↦ absurd (new_face j (omega arith) (ap (λ (k : ℕ). (corner k).face) (sym p) ∙ e))
        ]
        | inr p ↦ elim (cases_eq j (length w.entries)) [
          | inl q ↦ absurd (new_face i (omega arith) (ap (λ (k : ℕ). (corner k).face) (sym q) ∙ sym e))
          | inr q ↦ M.logged.apart i j (omega arith) (omega arith) e
        ]
      ];
      outside = λ j h. elim (cases_eq j (length w.entries)) [
        | inr n ↦ M.logged.outside j (omega arith)
        | inl e ↦ ap (λ (k : ℕ). is_inside w.interior (corner k).face) e ∙ ap (λ (d : Side). is_inside w.interior d.face) (corner_is s x) ∙ not_inside w c.face M.fresh
      ];
      bounded = λ j h. elim (cases_eq j (length w.entries)) [
        | inr n ↦ M.logged.bounded j (omega arith)
        | inl e ↦ subst (λ (d : Side). d.face < faces) (sym (ap corner e ∙ corner_is s x)) M.within
      ];
      joined = λ k l h. elim (cases_eq k (length w.entries)) [
        | inr n ↦ M.logged.joined k l (omega arith)
        | inl e ↦ subst (λ (j : ℕ). EnteredFrom j (corner j)) (sym e) (subst (EnteredFrom (length w.entries)) (sym (corner_is s x)) (M.joined (omega arith)))
      ];
    }
      where
        new_face : (j : ℕ) → j < length w.entries → (corner (length w.entries)).face ≡ (corner j).face → ⊥
        new_face j l e = true_not_false (is_face_visited w c.face)
            (ap (is_face_visited w) (ap (λ (d : Side). d.face) (sym (corner_is s x)) ∙ e) ∙ number_visited all w (before s x) j l) M.fresh

    -- the corner itself is visited then
    visiting : (s : Symbol) → IsVisiting (is_face_visited w) c.face (is_face_visited (entered_by w c s))
    visiting s = entered_visits w c s

    gate_blocked : (s : Symbol) (ahead : List Side) → IsBlocked g (is_face_visited (entered_by w c s)) ahead c
    gate_blocked s ahead = blocked_visited g (is_face_visited (entered_by w c s)) ahead c (λ x e. (visiting s).old x.face (M.gated x e))

    closed_blocked : (s : Symbol) (ahead : List Side) (x : Side) → is_visited_across w (g x) ≡ true → IsBlocked g (is_face_visited (entered_by w c s)) ahead x
    closed_blocked s ahead x h = blocked_visited g (is_face_visited (entered_by w c s)) ahead x (λ y e. (visiting s).old y.face (closed_tells w (g x) h y e))

    ahead_blocked : (s : Symbol) (d : Side) (kept : List Side) (x : Side) → g x ≡ Some d → IsBlocked g (is_face_visited (entered_by w c s)) (d ∷ kept) x
    ahead_blocked s d kept x e = blocked_ahead g (is_face_visited (entered_by w c s)) (d ∷ kept) x (λ y i. inl (ap (λ (z : Side). z.face) (Some_injective _ _ (sym e ∙ i))))

    -- the next corner, across a side of the face
    next_fresh : (s : Symbol) (x d : Side) → x.face ≡ c.face → g x ≡ Some d → is_face_visited w d.face ≡ false → is_face_visited (entered_by w c s) d.face ≡ false
    next_fresh s x d f e h = not_yet (visiting s) d.face h (λ q. G.apart x d e (f ∙ sym q))

    next_within : (x d : Side) → g x ≡ Some d → d.face < faces
    next_within x d e = G.within d x (G.paired x d e)

    next_gated : (s : Symbol) (x d : Side) → x.face ≡ c.face → g x ≡ Some d → (y : Side) → g d ≡ Some y → is_face_visited (entered_by w c s) y.face ≡ true
    next_gated s x d f e y i = ap (is_face_visited (entered_by w c s)) (ap (λ (z : Side). z.face) (Some_injective _ _ (sym i ∙ G.paired x d e)) ∙ f) ∙ (visiting s).new

    next_comes : (s : Symbol) → Logging s → (x d : Side) → x.face ≡ c.face → g x ≡ Some d → (i : ℕ) → i < length w.entries → ComesAfter g corner i (suc (length w.entries)) d
    next_comes s lo x d f e i h l = (length w.entries, h, omega arith, x, G.paired x d e, f ∙ ap (λ (z : Side). z.face) (sym (corner_is s lo)))

    -- to the right or to the left
    goes : (s : Symbol) → Logging s → (x d : Side) → x.face ≡ c.face → g x ≡ Some d → is_face_visited w d.face ≡ false → Gate g corner symbol insides (suc (length w.entries)) d → Raw g corner insides w.interior (length w.entries) s →
        (kept : List Side) (events : List Event) → IsCovered g (is_face_visited (entered_by w c s)) (d ∷ kept) → KeptFrom g corner symbol (suc (length w.entries)) d (suc (length w.entries)) kept → Moment a (record (entered_by w c s) { kept = kept; events = events }) d
    goes s lo x d f e h gate raw kept events cover K = record {
      logged = logged_more s lo raw;
      within = next_within x d e;
      fresh = next_fresh s x d f e h;
      gated = next_gated s x d f e;
      gate = gate;
      covered = cover;
      kept = K;
      known = M.known;
      joined = λ l. (length w.entries, omega arith, x, G.paired x d e, f ∙ ap (λ (z : Side). z.face) (sym (corner_is s lo)));
    }

    same_kept : (s : Symbol) → Logging s → (x d : Side) → x.face ≡ c.face → g x ≡ Some d → KeptFrom g corner symbol (suc (length w.entries)) d (suc (length w.entries)) w.kept
    same_kept s lo x d f e = kept_less (suc (length w.entries)) d (length w.entries) (suc (length w.entries)) (omega arith) w.kept
        (kept_on (length w.entries) c d (corner_is s lo) (length w.entries) (omega arith) w.kept (next_comes s lo x d f e) M.kept)

    right_gate : (s : Symbol) → Logging s → GoesRight s → (d : Side) → g (next c) ≡ Some d → Gate g corner symbol insides (suc (length w.entries)) d
    right_gate s lo r d e = after_right (length w.entries) refl (subst GoesRight (sym (symbol_is s lo)) r) (G.paired (next c) d e ∙ ap (λ (z : Side). Some (next z)) (sym (corner_is s lo)))

    visit_left : Logging L → SymbolTells L (is_new_vertex faces g w c) (is_visited_across w (g (next c))) (is_visited_across w (g (prev c))) → Outcome a (after_symbol g w c L).0 (g (next c))
    visit_left lo t = go (open_tells w (g (next c)) t.1)
      where
        go : (y : Side) × (g (next c) ≡ Some y) × (is_face_visited w y.face ≡ false) → Outcome a (after_symbol g w c L).0 (g (next c))
        go (d, e, h) = subst (Outcome a (after_symbol g w c L).0) (sym e)
            (goes L lo (next c) d refl e h (right_gate L lo tt d e) (across L lo (prev (corner (length w.entries))) (prev c) (corner_is L lo) (closed_tells w (g (prev c)) t.2) (ap prev (corner_is L lo))) w.kept (events_noted g w.entries c ++ w.events)
            (covered_step G (is_face_visited w) (is_face_visited (entered_by w c L)) c w.kept (d ∷ w.kept) (visiting L) M.covered (λ f q. inl (inr q)) (gate_blocked L (d ∷ w.kept)) (ahead_blocked L d w.kept (next c) e) (closed_blocked L (d ∷ w.kept) (prev c) t.2))
            (same_kept L lo (next c) d refl e))

    visit_right : Logging R → SymbolTells R (is_new_vertex faces g w c) (is_visited_across w (g (next c))) (is_visited_across w (g (prev c))) → Outcome a (after_symbol g w c R).0 (g (prev c))
    visit_right lo t = go (open_tells w (g (prev c)) t.2)
      where
        go : (y : Side) × (g (prev c) ≡ Some y) × (is_face_visited w y.face ≡ false) → Outcome a (after_symbol g w c R).0 (g (prev c))
        go (d, e, h) = subst (Outcome a (after_symbol g w c R).0) (sym e)
            (goes R lo (prev c) d refl e h (after_left (length w.entries) refl (symbol_is R lo) (G.paired (prev c) d e ∙ ap (λ (z : Side). Some (prev z)) (sym (corner_is R lo))))
            (across R lo (next (corner (length w.entries))) (next c) (corner_is R lo) (closed_tells w (g (next c)) t.1) (ap next (corner_is R lo))) w.kept (events_noted g w.entries c ++ w.events)
            (covered_step G (is_face_visited w) (is_face_visited (entered_by w c R)) c w.kept (d ∷ w.kept) (visiting R) M.covered (λ f q. inl (inr q)) (gate_blocked R (d ∷ w.kept)) (closed_blocked R (d ∷ w.kept) (next c) t.1) (ahead_blocked R d w.kept (prev c) e))
            (same_kept R lo (prev c) d refl e))

    met_before : (s : Symbol) → Logging s → is_new_vertex faces g w c ≡ false → MetBefore g corner insides (length w.entries)
    met_before s lo h =
        let t = old_tells faces g w c h in
        (t.0, subst (λ (x : Side). InFan g x t.0) (sym (corner_is s lo)) t.1, elim t.2 [ inl e ↦ inl e | inr u ↦ elim u [ inl e ↦ inr (inl e) | inr v ↦ inr (inr (seen s lo t.0.face v)) ] ])

    visit_split : Logging S → SymbolTells S (is_new_vertex faces g w c) (is_visited_across w (g (next c))) (is_visited_across w (g (prev c))) → Outcome a (after_symbol g w c S).0 (g (next c))
    visit_split lo t = go (open_tells w (g (next c)) t.1) (open_tells w (g (prev c)) t.2)
      where
        go : (y : Side) × (g (next c) ≡ Some y) × (is_face_visited w y.face ≡ false) → (y : Side) × (g (prev c) ≡ Some y) × (is_face_visited w y.face ≡ false) → Outcome a (after_symbol g w c S).0 (g (next c))
        go (d, e, h) (l, i, m) =
            let moment : Moment a (record (entered_by w c S) { kept = l ∷ w.kept }) d =
            goes S lo (next c) d refl e h (right_gate S lo tt d e) (l, ap g (ap prev (corner_is S lo)) ∙ i, unseen S lo l.face m, met_before S lo t.0) (l ∷ w.kept) w.events
            (covered_step G (is_face_visited w) (is_face_visited (entered_by w c S)) c w.kept (d ∷ l ∷ w.kept) (visiting S) M.covered (λ f q. inl (inr (inr q))) (gate_blocked S (d ∷ l ∷ w.kept)) (ahead_blocked S d (l ∷ w.kept) (next c) e)
            (blocked_ahead g (is_face_visited (entered_by w c S)) (d ∷ l ∷ w.kept) (prev c) (λ y o. inr (inl (ap (λ (z : Side). z.face) (Some_injective _ _ (sym i ∙ o)))))))
            (length w.entries, omega arith, symbol_is S lo, ap g (ap prev (corner_is S lo)) ∙ i, (λ m u v. (absurd (omega arith))), (λ u. (absurd (omega arith))), kept_on (length w.entries) c d (corner_is S lo) (length w.entries) (omega arith) w.kept (next_comes S lo (next c) d refl e) M.kept)
            in
            subst (Outcome a (after_symbol g w c S).0) (sym e) (subst (λ (kept : List Side). Moment a (record (entered_by w c S) { kept = kept }) d) (sym (ap (λ (o : Option Side). pushed o w.kept) i)) moment)

    -- at a new vertex the ring round it is unvisited: the face to the left is come to over it
    visit_tip : Logging C → SymbolTells C (is_new_vertex faces g w c) (is_visited_across w (g (next c))) (is_visited_across w (g (prev c))) → Outcome a (after_symbol g w c C).0 (g (next c))
    visit_tip lo t = go (ring_of G c M.within round)
      where
        round : GoesRound g c
        round d p = glued_swings g d (new_tells G w c d M.within t p).0

        free : (x : Side) → OtherInFan g c x → is_face_visited (entered_by w c C) x.face ≡ false
        free x o = not_yet (visiting C) x.face (new_tells G w c x M.within t o.0).2 (other_face G F c x M.within o)

        raw : Raw g corner insides w.interior (length w.entries) C
        raw = subst (λ (z : Side). GoesRound g z × ((d : Side) → InFan g z d → Unseen corner w.interior (length w.entries) d.face)) (sym (corner_is C lo)) (round, λ d p. unseen C lo d.face (new_tells G w c d M.within t p).2)

        go : Ring g (OtherInFan g c) c → Outcome a (after_symbol g w c C).0 (g (next c))
        go r =
            let d : Side = prev r.from in
            let e : g (next c) ≡ Some (prev r.from) = left_crosses g c r.from r.leaves in
            let back : g (prev c) ≡ Some (next r.to) = G.paired (next r.to) (prev c) (left_crosses g r.to c r.returns) in
            let to_left : IsBlocked g (is_face_visited (entered_by w c C)) (prev r.from ∷ w.kept) (prev c) = λ T part x i u.
            true_not_false (T r.from.face)
            (part_back G (is_face_visited (entered_by w c C)) (prev r.from ∷ w.kept) T part (OtherInFan g c) free r.round (ap (λ (z : Side). T z.face) (Some_injective _ _ (sym back ∙ i)) ∙ u))
            (part.apart r.from.face (inl refl))
            in
            subst (Outcome a (after_symbol g w c C).0) (sym e)
            (goes C lo (next c) (prev r.from) refl e (new_tells G w c r.from M.within t (leftwards r.leaves here)).2 (right_gate C lo tt (prev r.from) e) raw w.kept w.events
            (covered_step G (is_face_visited w) (is_face_visited (entered_by w c C)) c w.kept (prev r.from ∷ w.kept) (visiting C) M.covered (λ f q. inl (inr q)) (gate_blocked C (prev r.from ∷ w.kept)) (ahead_blocked C (prev r.from) w.kept (next c) e) to_left)
            (same_kept C lo (next c) (prev r.from) refl e))

    -- at an end the last kept corner of an unvisited face is taken
    visit_end : Logging E → SymbolTells E (is_new_vertex faces g w c) (is_visited_across w (g (next c))) (is_visited_across w (g (prev c))) → Outcome a (after_symbol g w c E).0 (after_symbol g w c E).1
    visit_end lo t = elim (option_tells (take_kept (entered_by w c E) w.kept)) [
      | inl n ↦ subst (λ (o : Option (Side × List Side)). Outcome a (go_back noted o).0 (go_back noted o).1) (sym n) (ended n)
      | inr y ↦ subst (λ (o : Option (Side × List Side)). Outcome a (go_back noted o).0 (go_back noted o).1) (sym y.1) (taken y.0.0 y.0.1 y.1)
    ]
      where
        noted : TraceWalk
        noted = record (entered_by w c E) { events = events_noted g w.entries c ++ w.events }

        raw : Raw g corner insides w.interior (length w.entries) E
        raw = (
          across E lo (next (corner (length w.entries))) (next c) (corner_is E lo) (closed_tells w (g (next c)) t.1) (ap next (corner_is E lo)),
          across E lo (prev (corner (length w.entries))) (prev c) (corner_is E lo) (closed_tells w (g (prev c)) t.2) (ap prev (corner_is E lo)),
        )

        after : AfterEnd symbol (suc (length w.entries))
        after j q = ap symbol (let e : j ≡ length w.entries = omega (arith, q) in e) ∙ symbol_is E lo

        cover : (ahead : List Side) → ((f : ℕ) → IsFaceOf f w.kept → IsFaceOf f ahead ⊎ (is_face_visited (entered_by w c E) f ≡ true)) → IsCovered g (is_face_visited (entered_by w c E)) ahead
        cover ahead still = covered_step G (is_face_visited w) (is_face_visited (entered_by w c E)) c w.kept ahead (visiting E) M.covered still (gate_blocked E ahead) (closed_blocked E ahead (next c) t.1) (closed_blocked E ahead (prev c) t.2)

        ended : take_kept (entered_by w c E) w.kept ≡ None → Ended a (record noted { kept = [] })
        ended n = record {
          logged = logged_more E lo raw;
          closed = covered_closed g (is_face_visited (entered_by w c E)) (cover [] (λ f q. inr (take_none (entered_by w c E) w.kept n f q)));
          last = after;
          kept = refl;
        }

        taken : (d : Side) (rest : List Side) → take_kept (entered_by w c E) w.kept ≡ Some (d, rest) → Moment a (record noted { kept = rest }) d
        taken d rest e = go (kept_tail (length w.entries) c (length w.entries) (entered_by w c E) w.kept d rest e M.kept)
          where
            go : KeptFrom g corner symbol (length w.entries) c (length w.entries) (d ∷ rest) → Moment a (record noted { kept = rest }) d
            go (i, h, s, p, order, comes, others) =
                let some = take_some (entered_by w c E) w.kept d rest e in
                let back : g d ≡ Some (prev (corner i)) = G.paired (prev (corner i)) d p in
                record {
                  logged = logged_more E lo raw;
                  within = G.within d (prev (corner i)) back;
                  fresh = some.0;
                  gated = λ y q. ap (is_face_visited (entered_by w c E)) (ap (λ (z : Side). z.face) (Some_injective _ _ (sym q ∙ back))) ∙ (visiting E).old (corner i).face (number_visited all w (before E lo) i h);
                  gate = after_kept i after (omega arith) s back (order_on (length w.entries) c (corner_is E lo) i order comes);
                  covered = cover (d ∷ rest) some.1;
                  kept = kept_less (suc (length w.entries)) d i (suc (length w.entries)) (omega arith) rest
                      (kept_on (length w.entries) c d (corner_is E lo) i (omega arith) rest (λ j l u. (i, l, omega arith, prev (corner i), back, refl)) others);
                  known = M.known;
                  joined = λ l. (i, omega arith, prev (corner i), back, refl);
                }

    visit_ok : (s : Symbol) → symbol_at_corner faces g w c ≡ s → Logging s → SymbolTells s (is_new_vertex faces g w c) (is_visited_across w (g (next c))) (is_visited_across w (g (prev c))) → Outcome a (after_symbol g w c s).0 (after_symbol g w c s).1
    visit_ok C e lo t = visit_tip lo t
    visit_ok S e lo t = visit_split lo t
    visit_ok L e lo t = visit_left lo t
    visit_ok R e lo t = visit_right lo t
    visit_ok E e lo t = visit_end lo t

  -- a whole run
  pub run_ok : (a turns : ℕ) (w : TraceWalk) (c : Side) → Moment a w c → a ≤ length w.entries → unvisited_count (is_face_visited w) faces ≤ turns → Extends all (run faces g turns w c).entries → Ended a (run faces g turns w c)
  run_ok a zero w c M l h x = absurd (let s = count_some (is_face_visited w) faces c.face M.within M.fresh in omega arith)
  run_ok a (suc turns) w c M l h x = elim (option_tells (trace_visit faces g w c).1) [
    | inl n ↦ (
        let lo : Extends all (record { corner = c; symbol = symbol_at_corner faces g w c } ∷ w.entries) = (x.0, x.1 ∙ ap (λ (y : TraceWalk). x.0 ++ y.entries) (run_ends faces g turns w c n) ∙ ap (λ (y : List TracedEntry). x.0 ++ y) (after_entries g w c (symbol_at_corner faces g w c))) in
        subst (Ended a) (sym (run_ends faces g turns w c n)) (subst (Outcome a (trace_visit faces g w c).0) n (outcome lo)))
    | inr d ↦ (
        let y : Extends all (run faces g turns (trace_visit faces g w c).0 d.0).entries = (x.0, x.1 ∙ ap (λ (y : TraceWalk). x.0 ++ y.entries) (run_goes_on faces g turns w c d.0 d.1)) in
        let z = extends_trans all (run faces g turns (trace_visit faces g w c).0 d.0).entries (trace_visit faces g w c).0.entries y (run_extends faces g turns (trace_visit faces g w c).0 d.0) in
        let lo : Extends all (record { corner = c; symbol = symbol_at_corner faces g w c } ∷ w.entries) = (z.0, z.1 ∙ ap (λ (y : List TracedEntry). z.0 ++ y) (after_entries g w c (symbol_at_corner faces g w c))) in
        let fewer = count_less (is_face_visited w) (is_face_visited (trace_visit faces g w c).0) faces c.face (λ f q. same f ∙ (entered_visits w c (symbol_at_corner faces g w c)).old f q) M.within M.fresh (same c.face ∙ (entered_visits w c (symbol_at_corner faces g w c)).new) in
        let longer : length (trace_visit faces g w c).0.entries ≡ suc (length w.entries) = ap {A = List TracedEntry} length (after_entries g w c (symbol_at_corner faces g w c)) in
        subst (Ended a) (sym (run_goes_on faces g turns w c d.0 d.1))
        (run_ok a turns (trace_visit faces g w c).0 d.0 (subst (Outcome a (trace_visit faces g w c).0) d.1 (outcome lo)) (omega arith) (omega arith) y))
  ]
    where
      outcome : Extends all (record { corner = c; symbol = symbol_at_corner faces g w c } ∷ w.entries) → Outcome a (trace_visit faces g w c).0 (trace_visit faces g w c).1
      outcome lo = visit_ok a w c M l (symbol_at_corner faces g w c) refl lo (symbol_tells (is_new_vertex faces g w c) (is_visited_across w (g (next c))) (is_visited_across w (g (prev c))))

      same : (f : ℕ) → is_face_visited (trace_visit faces g w c).0 f ≡ is_face_visited (entered_by w c (symbol_at_corner faces g w c)) f
      same f = same_visited (trace_visit faces g w c).0 (entered_by w c (symbol_at_corner faces g w c)) (after_entries g w c (symbol_at_corner faces g w c)) (after_interior g w c (symbol_at_corner faces g w c)) f
