-- Each step of the rule, and the walk: where the two agree before it, they agree after it, and what the walk comes to stays the same.
use Rattle.std.proofs.Common.{◌≡◌, ◌≢◌, ℕ, zero, suc, ◌+◌, ◌<◌, ◌≤◌, Bool, true, false, min, List, [], ◌∷◌, length, set, Option, Some, None, ◌⊎◌, inl, inr, sym, refl, ap, ◌∙◌, subst, arith}
use Rattle.std.specs.List.{All, Contains}
use Rattle.std.proofs.lemmas.Bool.{cases_Bool, cond-true, cond-false, le-leb, lt-leb}
use Rattle.std.proofs.lemmas.List.{length-set}
use Rattle.std.proofs.lemmas.List.Elements.{All-nil, All-cons, All-head, All-tail, All-weaker}
use Rattle.corner_table.specs.Sides.{Side, first, second, third, side, next, prev, Gluing, IsGluing}
use Rattle.corner_table.specs.Labels.{IsLabelled}
use Rattle.corner_table.proofs.Places.{option_tells, Some_injective}
use Rattle.walk_order.specs.Visits.{Walk, is_visited, is_new, with_entry, entered, with_base}
use Rattle.walk_order.specs.PredictionDegree.{Ranked, rate, rated, ranked_pushed, ranked_taken, unvisited_across, turned_to, ranked_turned, ranked_visit, visits, ranked_from}
use Rattle.walk_order.specs.Laws.{last, on}
use Rattle.walk_order.proofs.Fuel.{unvisited_few}
use Rattle.walk_order.proofs.Covering.{entry_gives}
use Rattle.walk_order.proofs.Rating.{visit_is, visits_are_relation, goes_there, goes_elsewhere}
use Rattle.laws_order.specs.Degree.{Waiting, on_stack, Traversal, IsVisited, Enters, new, known, pushed_on, IsNext, off}
use Rattle.laws_order.proofs.Contained.{has_contains, has_not, contains_has, not_has}
use Rattle.laws_order.proofs.Stacks.{corners_on, last_on, last_all, none_on, left_on, IsFirst, first_dropped, first_taken, nothing_taken}
use Rattle.laws_order.proofs.Agreeing.{Agrees, other_best, stack_agrees, agrees_marked, with_entry_of, agrees_entered, Rated, agrees_pushed, pushed_best, pushed_walk, IsAbove, above_pushed, agrees_off, left_on_best, left_on_walk}

-- what all items have two of
both_all : (P Q S : Waiting → Type 0) → ((w : Waiting) → P w → Q w → S w) → (ws : List Waiting) → All P ws → All Q ws → All S ws
both_all P Q S f [] p q = All-nil S
both_all P Q S f (w ∷ ws) p q = All-cons S w ws (f w (All-head P w ws p) (All-head Q w ws q)) (both_all P Q S f ws (All-tail P w ws p) (All-tail Q w ws q))

above_none : (ws : List Waiting) → IsAbove 0 ws
above_none [] = All-nil (λ (w : Waiting). 0 ≤ w.stack)
above_none (w ∷ ws) = All-cons (λ (v : Waiting). 0 ≤ v.stack) w ws (omega arith) (above_none ws)

-- a new entry changes nothing else
pub record Keeps (s t : Traversal) : Type 0 where
  pub best : t.best ≡ s.best
  pub waiting : t.waiting ≡ s.waiting
  pub visited : t.visited ≡ s.visited

pub enters_keeps : (labels : List ℕ) (c : Side) {s t : Traversal} → Enters labels c s t → Keeps s t
enters_keeps labels c (new h) = record { best = refl; waiting = refl; visited = refl }
enters_keeps labels c (known h) = record { best = refl; waiting = refl; visited = refl }

-- a class that has become an entry becomes none again
enter_twice : (labels : List ℕ) (entries : List Side) (c : Side) → with_entry labels (with_entry labels entries c) c ≡ with_entry labels entries c
enter_twice labels entries c = cond-false (is_new labels (with_entry labels entries c) c) _ _ (entry_gives labels entries c)

module _ (faces : ℕ) (g : Gluing) (labels : List ℕ) (count : ℕ) (ends : List Bool) (G : IsGluing faces g) (L : IsLabelled faces g labels count ends) where
  abbrev pub Agree : Traversal → Ranked → Type 0
  Agree s r = Agrees faces count s r

  pub across_within : (c d : Side) → g c ≡ Some d → d.face < faces
  across_within c d e = G.within d c (G.paired c d e)

  -- the walks of so many faces from f on
  abbrev pub rest : ℕ → ℕ → Ranked → Ranked
  rest zero f r = r
  rest (suc n) f r = rest n (suc f) (ranked_from faces g labels f r)

  -- the visits from there on, if the walk goes on
  abbrev pub finished : Ranked × Option Side → Ranked
  finished t = elim t.1 [ None ↦ t.0 | Some d ↦ visits g labels faces t.0 d ]

  whole : (t : Ranked × Option Side) (o : Option Side) → t.1 ≡ o → t ≡ (t.0, o)
  whole t o e = ap (λ (x : Option Side). let y : Ranked × Option Side = (t.0, x) in y) e

  finished_at : (t : Ranked × Option Side) (o : Option Side) → t.1 ≡ o → finished t ≡ finished (t.0, o)
  finished_at t o e = ap finished (whole t o e)

  pub visits_finish : (r : Ranked) (c : Side) → length r.walk.visited ≡ faces → is_visited r.walk c.face ≡ false → visits g labels faces r c ≡ finished (ranked_visit g labels r c)
  visits_finish r c sized f =
      let few = unvisited_few r.walk.visited in
      let V = visit_is g labels r c in
      let q = (ranked_visit g labels r c).0 in
      elim (option_tells (ranked_visit g labels r c).1) [
        | inl e ↦ (visits_are_relation g labels faces r q c (omega arith) f).0 (last (whole (ranked_visit g labels r c) None e)) ∙ sym (finished_at (ranked_visit g labels r c) None e)
        | inr d ↦ (
            let there : is_visited q.walk d.0.face ≡ false = ap (λ (w : Walk). is_visited w d.0.face) V.walk ∙ (V.next_is d.0 d.1).1 in
            let long : length q.walk.visited ≡ faces = ap (λ (w : Walk). length w.visited) V.walk ∙ length-set r.walk.visited c.face true ∙ sized in
            let fewer = unvisited_few q.walk.visited in
            (visits_are_relation g labels faces r (visits g labels faces q d.0) c (omega arith) f).0
            (on (whole (ranked_visit g labels r c) (Some d.0) d.1) ((visits_are_relation g labels faces q (visits g labels faces q d.0) d.0 (omega arith) there).1 refl))
            ∙ sym (finished_at (ranked_visit g labels r c) (Some d.0) d.1))
      ]

  -- between two faces
  pub record Between (n f : ℕ) (s : Traversal) (r : Ranked) : Type 0 where
    pub turn : n + f ≡ faces
    pub agrees : Agree s r
    pub empty : s.waiting ≡ []

  -- in the turn of face f
  pub record Within (n f : ℕ) (s : Traversal) (r : Ranked) : Type 0 where
    pub turn : n + suc f ≡ faces
    pub agrees : Agree s r
    pub best : r.best ≡ s.best
    pub above : IsAbove s.best s.waiting

  -- with a corner in hand
  pub record InHand (n f : ℕ) (c : Side) (s : Traversal) (r : Ranked) : Type 0 where
    pub there : Within n f s r
    pub within : c.face < faces
    pub unmarked : is_visited r.walk c.face ≡ false

  -- what is visited
  pub marked_is : {s : Traversal} {r : Ranked} → Agree s r → (f : ℕ) → f < faces → Contains s.visited f → is_visited r.walk f ≡ true
  marked_is {s} {r} A f l h = A.visited f l ∙ contains_has f s.visited h

  pub unmarked_is : {s : Traversal} {r : Ranked} → Agree s r → (f : ℕ) → f < faces → (Contains s.visited f → ⊥) → is_visited r.walk f ≡ false
  unmarked_is {s} {r} A f l h = A.visited f l ∙ not_has f s.visited h

  pub is_marked : {s : Traversal} {r : Ranked} → Agree s r → (f : ℕ) → f < faces → is_visited r.walk f ≡ true → Contains s.visited f
  is_marked {s} {r} A f l e = has_contains f s.visited (sym (A.visited f l) ∙ e)

  pub is_unmarked : {s : Traversal} {r : Ranked} → Agree s r → (f : ℕ) → f < faces → is_visited r.walk f ≡ false → Contains s.visited f → ⊥
  is_unmarked {s} {r} A f l e = has_not f s.visited (sym (A.visited f l) ∙ e)

  -- step 1: a visited face is passed
  pub passed_meets : {n f : ℕ} {s : Traversal} {r : Ranked} → Between (suc n) f s r → Between n (suc f) s r
  passed_meets {n} {f} {s} {r} B = record { turn = (let t = B.turn in omega arith); agrees = B.agrees; empty = B.empty }

  pub passed_comes : (n f : ℕ) (r : Ranked) → is_visited r.walk f ≡ true → rest (suc n) f r ≡ rest n (suc f) r
  passed_comes n f r v = ap (rest n (suc f)) (cond-true (is_visited r.walk f) r _ v)

  -- an unvisited one is begun at its corner 0
  abbrev pub with_corners : ℕ → Ranked → Ranked
  with_corners f r = with_entry_of labels (side f first) (with_entry_of labels (side f third) (with_entry_of labels (side f second) r))

  abbrev pub from_corner : ℕ → Traversal → Traversal
  from_corner f v = record v { waiting = on_stack 0 (side f first) ∷ v.waiting; best = 0 }

  best_of : {s : Traversal} {r : Ranked} → Agree s r → (b : ℕ) → Agree (record s { best = b }) r
  best_of A b = record {
    sized = A.sized;
    visited = A.visited;
    entries = A.entries;
    classes = A.classes;
    rated = A.rated;
    stack0 = A.stack0;
    stack1 = A.stack1;
    stack2 = A.stack2;
    within = A.within;
    few = A.few;
  }

  pub begun_meets : {n f : ℕ} {s t u v : Traversal} {r : Ranked} → Between (suc n) f s r → Enters labels (side f second) s t → Enters labels (side f third) t u → Enters labels (side f first) u v →
      Within n f (from_corner f v) (ranked_pushed 0 (side f first) (with_corners f r))
  begun_meets {n} {f} {s} {t} {u} {v} {r} B D E F =
      let z = B.turn in
      let A = agrees_entered labels (side f first) (agrees_entered labels (side f third) (agrees_entered labels (side f second) B.agrees D) E) F in
      record {
        turn = omega arith;
        agrees = best_of (agrees_pushed 0 (side f first) A (omega arith) (omega arith)) 0;
        best = refl;
        above = above_none (on_stack 0 (side f first) ∷ v.waiting);
      }

  pub begun_comes : (n f : ℕ) (r : Ranked) → length r.walk.visited ≡ faces → is_visited r.walk f ≡ false →
      rest (suc n) f r ≡ rest n (suc f) (finished (ranked_taken (ranked_pushed 0 (side f first) (with_corners f r))))
  begun_comes n f r sized v =
      let c = side f first in
      let base : Ranked = record r { walk = with_base labels r.walk f; best = 0 } in
      let full : Ranked = record (with_corners f r) { best = 0 } in
      let same_walk : entered labels base.walk c ≡ entered labels full.walk c =
      ap (λ (es : List Side). let w : Walk = record { visited = set r.walk.visited f true; entries = es } in w) (sym (enter_twice labels base.walk.entries c)) in
      let same_visit : ranked_visit g labels base c ≡ ranked_visit g labels full c =
      ap (λ (w : Walk). ranked_turned labels (record r { walk = w; best = 0 }) (unvisited_across w (g (prev c))) (unvisited_across w (g (next c)))) same_walk in
      ap (rest n (suc f)) (
      cond-false (is_visited r.walk f) r (visits g labels faces base c) v
      ∙ visits_finish base c sized v
      ∙ ap finished same_visit
      ∙ sym (visits_finish full c sized v)
      ∙ ap finished (sym (first_taken (ranked_pushed 0 c (with_corners f r)) 0 c r.stack0 (record { from_best = omega arith; before = λ j a b d. absurd (omega arith); there = refl }) v)))

  -- step 2: all stacks are empty
  pub emptied_meets : {n f : ℕ} {s : Traversal} {r : Ranked} → Within n f s r → s.waiting ≡ [] → Between n (suc f) s (record r { best = 2 })
  emptied_meets W e = record { turn = W.turn; agrees = other_best W.agrees 2; empty = e }

  pub emptied_comes : (n f : ℕ) {s : Traversal} {r : Ranked} → Agree s r → s.waiting ≡ [] → rest n (suc f) (finished (ranked_taken r)) ≡ rest n (suc f) (record r { best = 2 })
  emptied_comes n f {s} {r} A e = ap (λ (t : Ranked × Option Side). rest n (suc f) (finished t)) (nothing_taken r (A.stack0 ∙ ap (corners_on 0) e) (A.stack1 ∙ ap (corners_on 1) e) (A.stack2 ∙ ap (corners_on 2) e))

  -- a corner is taken off the first stack that isn't empty
  pub next_few : {s : Traversal} {r : Ranked} {k : ℕ} {c : Side} {left : List Waiting} → Agree s r → IsNext s k c left → k ≤ 2
  next_few A N = (last_all (λ (w : Waiting). w.stack ≤ 2) N.last A.few).0

  pub next_within : {s : Traversal} {r : Ranked} {k : ℕ} {c : Side} {left : List Waiting} → Agree s r → IsNext s k c left → c.face < faces
  next_within A N = (last_all (λ (w : Waiting). w.corner.face < faces) N.last A.within).0

  next_first : {n f : ℕ} {s : Traversal} {r : Ranked} (k : ℕ) (c : Side) (left : List Waiting) → Within n f s r → IsNext s k c left → IsFirst r k c (corners_on k left)
  next_first {n} {f} {s} {r} k c left W N =
      let same_best = W.best in
      let from = N.from_best in
      record {
        from_best = omega arith;
        before = λ j a b d. stack_agrees W.agrees j d ∙ none_on j s.waiting (All-weaker (λ (w : Waiting). (w.stack < s.best) ⊎ (k ≤ w.stack)) (λ (w : Waiting). w.stack ≢ j) (apart j (omega arith) b) s.waiting N.before);
        there = stack_agrees W.agrees k (next_few W.agrees N) ∙ last_on N.last;
      }
    where
      apart : (j : ℕ) → s.best ≤ j → j < k → (w : Waiting) → (w.stack < s.best) ⊎ (k ≤ w.stack) → w.stack ≢ j
      apart j a b w (inl l) e = absurd (omega arith)
      apart j a b w (inr l) e = absurd (omega arith)

  pub off_meets : {n f : ℕ} {s : Traversal} {r : Ranked} (k : ℕ) (c : Side) (left : List Waiting) → Within n f s r → IsNext s k c left → Within n f (off k left s) (left_on k (corners_on k left) r)
  off_meets {n} {f} {s} {r} k c left W N = record {
    turn = W.turn;
    agrees = agrees_off k c left W.agrees N.last (next_few W.agrees N);
    best = left_on_best k (corners_on k left) r (next_few W.agrees N);
    above = (last_all (λ (w : Waiting). k ≤ w.stack) N.last (both_all (λ (w : Waiting). s.best ≤ w.stack) (λ (w : Waiting). (w.stack < s.best) ⊎ (k ≤ w.stack)) (λ (w : Waiting). k ≤ w.stack) from s.waiting W.above N.before)).1;
  }
    where
      from : (w : Waiting) → s.best ≤ w.stack → (w.stack < s.best) ⊎ (k ≤ w.stack) → k ≤ w.stack
      from w a (inl l) = absurd (omega arith)
      from w a (inr l) = l

  pub dropped_comes : {n f : ℕ} {s : Traversal} {r : Ranked} (k : ℕ) (c : Side) (left : List Waiting) → Within n f s r → IsNext s k c left → is_visited r.walk c.face ≡ true →
      rest n (suc f) (finished (ranked_taken r)) ≡ rest n (suc f) (finished (ranked_taken (left_on k (corners_on k left) r)))
  dropped_comes {n} {f} {s} {r} k c left W N v = ap (λ (t : Ranked × Option Side). rest n (suc f) (finished t)) (first_dropped r k c (corners_on k left) (next_first k c left W N) v)

  pub taken_meets : {n f : ℕ} {s : Traversal} {r : Ranked} (k : ℕ) (c : Side) (left : List Waiting) → Within n f s r → IsNext s k c left → is_visited r.walk c.face ≡ false → InHand n f c (off k left s) (left_on k (corners_on k left) r)
  taken_meets {n} {f} {s} {r} k c left W N v = record {
    there = off_meets k c left W N;
    within = next_within W.agrees N;
    unmarked = ap (λ (w : Walk). is_visited w c.face) (left_on_walk k (corners_on k left) r) ∙ v;
  }

  pub taken_comes : {n f : ℕ} {s : Traversal} {r : Ranked} (k : ℕ) (c : Side) (left : List Waiting) → Within n f s r → IsNext s k c left → is_visited r.walk c.face ≡ false →
      rest n (suc f) (finished (ranked_taken r)) ≡ rest n (suc f) (visits g labels faces (left_on k (corners_on k left) r) c)
  taken_comes {n} {f} {s} {r} k c left W N v = ap (λ (t : Ranked × Option Side). rest n (suc f) (finished t)) (first_taken r k c (corners_on k left) (next_first k c left W N) v)

  -- step 3
  pub marked_meets : {n f : ℕ} {s t : Traversal} {r : Ranked} (c : Side) → InHand n f c s r → Enters labels c (record s { visited = c.face ∷ s.visited }) t → Within n f t (record r { walk = entered labels r.walk c })
  marked_meets {n} {f} {s} {t} {r} c H E =
      let K = enters_keeps labels c E in
      record {
        turn = H.there.turn;
        agrees = agrees_entered labels c (agrees_marked H.there.agrees c.face H.within) E;
        best = H.there.best ∙ sym K.best;
        above = subst (λ (b : ℕ). IsAbove b t.waiting) (sym K.best) (subst (λ (ws : List Waiting). IsAbove s.best ws) (sym K.waiting) H.there.above);
      }

  -- steps 4 and 5: what is to the left or to the right
  pub across_none : {s : Traversal} {r : Ranked} (c : Side) → Agree s r → IsVisited s (g c) → unvisited_across r.walk (g c) ≡ None
  across_none {s} {r} c A v = of (g c) refl v
    where
      of : (o : Option Side) → g c ≡ o → IsVisited s o → unvisited_across r.walk o ≡ None
      of None e v = refl
      of (Some d) e v = cond-true (is_visited r.walk d.face) None (Some d) (marked_is A d.face (across_within c d e) v)

  pub none_across : {s : Traversal} {r : Ranked} (c : Side) → Agree s r → unvisited_across r.walk (g c) ≡ None → IsVisited s (g c)
  none_across {s} {r} c A v = of (g c) refl v
    where
      of : (o : Option Side) → g c ≡ o → unvisited_across r.walk o ≡ None → IsVisited s o
      of None e v = tt
      of (Some d) e v = elim (cases_Bool (is_visited r.walk d.face)) [
        | inl t ↦ is_marked A d.face (across_within c d e) t
        | inr u ↦ absurd (let no : Some d ≡ None = sym (cond-false (is_visited r.walk d.face) None (Some d) u) ∙ v in cc)
      ]

  pub across_some : {s : Traversal} {r : Ranked} (c d : Side) → Agree s r → g c ≡ Some d → (Contains s.visited d.face → ⊥) → unvisited_across r.walk (g c) ≡ Some d
  across_some {s} {r} c d A e h = ap (unvisited_across r.walk) e ∙ cond-false (is_visited r.walk d.face) None (Some d) (unmarked_is A d.face (across_within c d e) h)

  pub some_across : {s : Traversal} {r : Ranked} (c d : Side) → Agree s r → unvisited_across r.walk (g c) ≡ Some d → (g c ≡ Some d) × (Contains s.visited d.face → ⊥)
  some_across {s} {r} c d A v = of (g c) refl v
    where
      of : (o : Option Side) → g c ≡ o → unvisited_across r.walk o ≡ Some d → (g c ≡ Some d) × (Contains s.visited d.face → ⊥)
      of None e v = absurd (let no : None ≡ Some d = v in cc)
      of (Some x) e v = elim (cases_Bool (is_visited r.walk x.face)) [
        | inl t ↦ absurd (let no : None ≡ Some d = sym (cond-true (is_visited r.walk x.face) None (Some x) t) ∙ v in cc)
        | inr u ↦ (
            let same : x ≡ d = Some_injective x d (sym (cond-false (is_visited r.walk x.face) None (Some x) u) ∙ v) in
            (e ∙ ap {A = Side} Some same, is_unmarked A d.face (across_within c d (e ∙ ap {A = Side} Some same)) (ap (λ (y : Side). is_visited r.walk y.face) (sym same) ∙ u)))
      ]

  -- a corner across is gone on at
  pub goes_meets : {n f k : ℕ} {s t : Traversal} {r : Ranked} (c d : Side) → Within n f s r → g c ≡ Some d → (Contains s.visited d.face → ⊥) → Rated labels d faces count s r k t → InHand n f d t (rated labels r d)
  goes_meets {n} {f} {k} {s} {t} {r} c d W e h X = record {
    there = record {
      turn = W.turn;
      agrees = X.agrees;
      best = W.best ∙ sym X.best;
      above = subst (λ (b : ℕ). IsAbove b t.waiting) (sym X.best) (subst (λ (ws : List Waiting). IsAbove s.best ws) (sym X.waiting) W.above);
    };
    within = across_within c d e;
    unmarked = unmarked_is W.agrees d.face (across_within c d e) h;
  }

  pub goes_comes : {n f k : ℕ} {s t : Traversal} {r : Ranked} (d : Side) → Within n f s r → Rated labels d faces count s r k t → k ≤ t.best → turned_to labels r (Some d) ≡ (rated labels r d, Some d)
  goes_comes {n} {f} {k} {s} {t} {r} d W X l =
      goes_there (λ c. Unit {0}) labels r d (le-leb (rate labels r d) r.best (let a = X.is in let b = X.best in let e = W.best in omega arith))

  -- a corner across is pushed
  pub puts_meets : {n f k : ℕ} {s t : Traversal} {r : Ranked} (c d : Side) → Within n f s r → g c ≡ Some d → Rated labels d faces count s r k t → Within n f (pushed_on k d t) (ranked_pushed k d (rated labels r d))
  puts_meets {n} {f} {k} {s} {t} {r} c d W e X = record {
    turn = W.turn;
    agrees = agrees_pushed k d X.agrees X.few (across_within c d e);
    best = pushed_best k d (rated labels r d) X.few ∙ ap (λ (b : ℕ). min b k) (W.best ∙ sym X.best);
    above = above_pushed t.best k d t.waiting (subst (λ (b : ℕ). IsAbove b t.waiting) (sym X.best) (subst (λ (ws : List Waiting). IsAbove s.best ws) (sym X.waiting) W.above));
  }

  pub puts_comes : {n f k : ℕ} {s t : Traversal} {r : Ranked} (d : Side) → Within n f s r → Rated labels d faces count s r k t → t.best < k → turned_to labels r (Some d) ≡ ranked_taken (ranked_pushed k d (rated labels r d))
  puts_comes {n} {f} {k} {s} {t} {r} d W X l =
      goes_elsewhere (λ c. Unit {0}) labels r d (lt-leb (rate labels r d) r.best (let a = X.is in let b = X.best in let e = W.best in omega arith))
      ∙ ap (λ (j : ℕ). ranked_taken (ranked_pushed j d (rated labels r d))) (sym X.is)

  -- the corner to the left is pushed, and the one to the right is looked at
  pub puts_left_comes : {n f k : ℕ} {s t : Traversal} {r : Ranked} (d : Side) (o : Option Side) → Within n f s r → Rated labels d faces count s r k t → (unvisited_across r.walk o ≡ None → t.best < k) →
      ranked_turned labels r (Some d) (unvisited_across r.walk o) ≡ turned_to labels (ranked_pushed k d (rated labels r d)) (unvisited_across (ranked_pushed k d (rated labels r d)).walk o)
  puts_left_comes {n} {f} {k} {s} {t} {r} d o W X l =
      of (unvisited_across r.walk o) l ∙ ap (λ (w : Walk). turned_to labels (ranked_pushed k d (rated labels r d)) (unvisited_across w o)) (sym (pushed_walk k d (rated labels r d)))
    where
      of : (u : Option Side) → (u ≡ None → t.best < k) → ranked_turned labels r (Some d) u ≡ turned_to labels (ranked_pushed k d (rated labels r d)) u
      of None l = puts_comes d W X (l refl)
      of (Some e) l = ap (λ (j : ℕ). turned_to labels (ranked_pushed j d (rated labels r d)) (Some e)) (sym X.is)
