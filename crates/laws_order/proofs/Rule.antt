-- The rule leads to an end, and to the entries of the walk alone.
use Rattle.std.proofs.Common.{◌≡◌, ℕ, zero, suc, ◌+◌, ◌*◌, ◌<◌, ◌≤◌, Bool, List, ◌∷◌, length, Option, Some, None, ◌⊎◌, inl, inr, sym, refl, ap, ◌∙◌, arith}
use Rattle.std.proofs.lemmas.Bool.{cases_Bool, cases_lt}
use Rattle.std.proofs.lemmas.List.Elements.{All-weaker}
use Rattle.corner_table.specs.Sides.{Side, first, second, third, side, next, prev, Gluing, IsGluing}
use Rattle.corner_table.specs.Labels.{IsLabelled, label_at}
use Rattle.corner_table.proofs.Places.{option_tells}
use Rattle.walk_order.specs.Visits.{Walk, is_visited, unvisited, entered}
use Rattle.walk_order.specs.PredictionDegree.{Ranked, unranked, rated, ranked_pushed, ranked_taken, unvisited_across, turned_to, ranked_turned, visits, ranked}
use Rattle.walk_order.proofs.Fuel.{one_fewer}
use Rattle.walk_order.proofs.Ranking.{ranked_nothing, one_ranked}
use Rattle.laws_order.specs.Degree.{Waiting, Traversal, start_of_mesh, to_right, IsVisited, pushed_on, IsNext, off, Step, next_face, next_corner, in_hand, left, right, Leads, over, passed, begun, emptied, dropped, taken, marked, no_left, goes_left, puts_left, no_right, goes_right, puts_right}
use Rattle.laws_order.specs.Laws.{RuleLeadsToOrder, RuleLeadsToNoOther}
use Rattle.laws_order.proofs.Stacks.{corners_on, last_all, last_fewer, left_on, Least, least_of}
use Rattle.laws_order.proofs.Agreeing.{Agrees, agrees_start, agrees_marked, agrees_entered, enters_some, rates_agree, rates_some, pushed_walk, left_on_walk}
use Rattle.laws_order.proofs.Steps.{Keeps, enters_keeps, rest, finished, visits_finish, Between, Within, InHand, marked_is, unmarked_is, is_marked, is_unmarked, across_within, passed_meets, passed_comes, with_corners, from_corner, begun_meets, begun_comes, emptied_meets, emptied_comes, off_meets, dropped_comes, taken_meets, taken_comes, next_within, marked_meets, across_none, none_across, some_across, across_some, goes_meets, goes_comes, puts_meets, puts_comes, puts_left_comes}

module _ (faces : ℕ) (g : Gluing) (labels : List ℕ) (count : ℕ) (ends : List Bool) (G : IsGluing faces g) (L : IsLabelled faces g labels count ends) where
  abbrev Rest : ℕ → ℕ → Ranked → Ranked
  Rest n f r = rest faces g labels count ends G L n f r

  abbrev Finished : Ranked × Option Side → Ranked
  Finished t = finished faces g labels count ends G L t

  -- the walk and the traversal agree at a step, with n faces to come after that turn
  abbrev Meets : Step → ℕ → ℕ → Traversal → Ranked → Type 0
  Meets next_face n f s r = Between faces g labels count ends G L n f s r
  Meets next_corner n f s r = Within faces g labels count ends G L n f s r
  Meets (in_hand c) n f s r = InHand faces g labels count ends G L n f c s r
  Meets (left c) n f s r = Within faces g labels count ends G L n f s r
  Meets (right c) n f s r = Within faces g labels count ends G L n f s r

  -- what the walk comes to from a step on
  abbrev Comes : Step → ℕ → ℕ → Ranked → Ranked
  Comes next_face n f r = Rest n f r
  Comes next_corner n f r = Rest n (suc f) (Finished (ranked_taken r))
  Comes (in_hand c) n f r = Rest n (suc f) (visits g labels faces r c)
  Comes (left c) n f r = Rest n (suc f) (Finished (ranked_turned labels r (unvisited_across r.walk (g (prev c))) (unvisited_across r.walk (g (next c)))))
  Comes (right c) n f r = Rest n (suc f) (Finished (turned_to labels r (unvisited_across r.walk (g (next c)))))

  with_entries : (r q : Ranked) → r ≡ q → r.walk.entries ≡ q.walk.entries
  with_entries r q e = ap (λ (x : Ranked). x.walk.entries) e

  on_at : (n f : ℕ) (t u : Ranked × Option Side) → t ≡ u → (Rest n (suc f) (Finished t)).walk.entries ≡ (Rest n (suc f) (Finished u)).walk.entries
  on_at n f t u e = ap (λ (x : Ranked × Option Side). (Rest n (suc f) (Finished x)).walk.entries) e

  -- the class of a corner of the faces
  class_within : (d : Side) → d.face < faces → label_at labels d < count
  class_within d h = L.bounded d h

  over_is : (n f : ℕ) (s : Traversal) (r : Ranked) → Between faces g labels count ends G L n f s r → f ≡ faces → (Rest n f r).walk.entries ≡ s.entries
  over_is zero f s r B e = B.agrees.entries
  over_is (suc n) f s r B e = absurd (let t = B.turn in omega arith)

  follows : {f : ℕ} {p : Step} {s q : Traversal} → Leads faces g labels f p s q → (n : ℕ) (r : Ranked) → Meets p n f s r → (Comes p n f r).walk.entries ≡ q.entries
  follows (over {f} {s} e) n r M = over_is n f s r M e
  follows (passed {f} {s} {q} h v K) zero r M = absurd (let t = M.turn in omega arith)
  follows (passed {f} {s} {q} h v K) (suc n) r M =
      with_entries _ _ (passed_comes faces g labels count ends G L n f r (marked_is faces g labels count ends G L M.agrees f h v))
      ∙ follows K n r (passed_meets faces g labels count ends G L M)
  follows (begun {f} {s} {t} {u} {v} {q} h free D E F K) zero r M = absurd (let t = M.turn in omega arith)
  follows (begun {f} {s} {t} {u} {v} {q} h free D E F K) (suc n) r M =
      with_entries _ _ (begun_comes faces g labels count ends G L n f r M.agrees.sized (unmarked_is faces g labels count ends G L M.agrees f h free))
      ∙ follows K n (ranked_pushed 0 (side f first) (with_corners faces g labels count ends G L f r)) (begun_meets faces g labels count ends G L M D E F)
  follows (emptied {f} {s} {q} e K) n r M =
      with_entries _ _ (emptied_comes faces g labels count ends G L n f M.agrees e)
      ∙ follows K n (record r { best = 2 }) (emptied_meets faces g labels count ends G L M e)
  follows (dropped {f} {k} {c} {rest = ws} {s} {q} N v K) n r M =
      with_entries _ _ (dropped_comes faces g labels count ends G L k c ws M N (marked_is faces g labels count ends G L M.agrees c.face (next_within faces g labels count ends G L M.agrees N) v))
      ∙ follows K n (left_on k (corners_on k ws) r) (off_meets faces g labels count ends G L k c ws M N)
  follows (taken {f} {k} {c} {rest = ws} {s} {q} N free K) n r M =
      let u = unmarked_is faces g labels count ends G L M.agrees c.face (next_within faces g labels count ends G L M.agrees N) free in
      with_entries _ _ (taken_comes faces g labels count ends G L k c ws M N u)
      ∙ follows K n (left_on k (corners_on k ws) r) (taken_meets faces g labels count ends G L k c ws M N u)
  follows (marked {f} {c} {s} {t} {q} E K) n r M =
      ap (λ (x : Ranked). (Rest n (suc f) x).walk.entries) (visits_finish faces g labels count ends G L r c M.there.agrees.sized M.unmarked)
      ∙ follows K n (record r { walk = entered labels r.walk c }) (marked_meets faces g labels count ends G L c M E)
  follows (no_left {f} {c} {s} {q} v K) n r M =
      on_at n f _ _ (ap (λ (o : Option Side). ranked_turned labels r o (unvisited_across r.walk (g (next c)))) (across_none faces g labels count ends G L (prev c) M.agrees v))
      ∙ follows K n r M
  follows (goes_left {f} {k} {c} {d} {s} {t} {q} e free R v l K) n r M =
      let X = rates_agree labels d M.agrees (class_within d (across_within faces g labels count ends G L (prev c) d e)) R in
      on_at n f _ _ (
      ap (λ (o : Option Side). ranked_turned labels r o (unvisited_across r.walk (g (next c)))) (across_some faces g labels count ends G L (prev c) d M.agrees e free)
      ∙ ap (ranked_turned labels r (Some d)) (across_none faces g labels count ends G L (next c) M.agrees v)
      ∙ goes_comes faces g labels count ends G L d M X l)
      ∙ follows K n (rated labels r d) (goes_meets faces g labels count ends G L (prev c) d M e free X)
  follows (puts_left {f} {k} {c} {d} {s} {t} {q} e free R w K) n r M =
      let X = rates_agree labels d M.agrees (class_within d (across_within faces g labels count ends G L (prev c) d e)) R in
      on_at n f _ _ (
      ap (λ (o : Option Side). ranked_turned labels r o (unvisited_across r.walk (g (next c)))) (across_some faces g labels count ends G L (prev c) d M.agrees e free)
      ∙ puts_left_comes faces g labels count ends G L d (g (next c)) M X (λ z. elim w [ inl y ↦ absurd (y (none_across faces g labels count ends G L (next c) M.agrees z)) | inr y ↦ y ]))
      ∙ follows K n (ranked_pushed k d (rated labels r d)) (puts_meets faces g labels count ends G L (prev c) d M e X)
  follows (no_right {f} {c} {s} {q} v K) n r M =
      on_at n f _ _ (ap (turned_to labels r) (across_none faces g labels count ends G L (next c) M.agrees v))
      ∙ follows K n r M
  follows (goes_right {f} {k} {c} {d} {s} {t} {q} e free R l K) n r M =
      let X = rates_agree labels d M.agrees (class_within d (across_within faces g labels count ends G L (next c) d e)) R in
      on_at n f _ _ (
      ap (turned_to labels r) (across_some faces g labels count ends G L (next c) d M.agrees e free)
      ∙ goes_comes faces g labels count ends G L d M X l)
      ∙ follows K n (rated labels r d) (goes_meets faces g labels count ends G L (next c) d M e free X)
  follows (puts_right {f} {k} {c} {d} {s} {t} {q} e free R l K) n r M =
      let X = rates_agree labels d M.agrees (class_within d (across_within faces g labels count ends G L (next c) d e)) R in
      on_at n f _ _ (
      ap (turned_to labels r) (across_some faces g labels count ends G L (next c) d M.agrees e free)
      ∙ puts_comes faces g labels count ends G L d M X l)
      ∙ follows K n (ranked_pushed k d (rated labels r d)) (puts_meets faces g labels count ends G L (next c) d M e X)

  -- the walks of all faces
  rest_is : (n f : ℕ) (r : Ranked) → r ≡ ranked faces g labels count f → Rest n f r ≡ ranked faces g labels count (n + f)
  rest_is zero f r e = e ∙ ap (ranked faces g labels count) (let z : f ≡ zero + f = omega arith in z)
  rest_is (suc n) f r e =
      rest_is n (suc f) _ (one_ranked faces g labels count f r _ e refl ∙ ap (ranked faces g labels count) (let z : f + 1 ≡ suc f = omega arith in z))
      ∙ ap (ranked faces g labels count) (let z : n + suc f ≡ suc n + f = omega arith in z)

  all_walks : Rest faces 0 (unranked faces count) ≡ ranked faces g labels count faces
  all_walks = rest_is faces 0 (unranked faces count) (sym (ranked_nothing faces g labels count)) ∙ ap (ranked faces g labels count) (let z : faces + 0 ≡ faces = omega arith in z)

  at_start : Meets next_face faces 0 start_of_mesh (unranked faces count)
  at_start = record { turn = omega arith; agrees = agrees_start faces count; empty = refl }

  pub alone : (q : Traversal) → Leads faces g labels 0 next_face start_of_mesh q → q.entries ≡ (ranked faces g labels count faces).walk.entries
  alone q K = sym (follows K faces (unranked faces count) at_start) ∙ with_entries _ _ all_walks

  -- what is left to do: each step makes it less
  abbrev Extra : Step → ℕ
  Extra next_face = 0
  Extra next_corner = 1
  Extra (in_hand c) = 0
  Extra (left c) = 5
  Extra (right c) = 3

  abbrev Size : Step → ℕ → Traversal → Ranked → ℕ
  Size p n s r = 6 * unvisited r.walk.visited + length s.waiting + 3 * n + Extra p

  abbrev Reaches : ℕ → Step → Traversal → Type 0
  Reaches f p s = (q : Traversal) × Leads faces g labels f p s q

  unvisited_same : (w v : Walk) → w ≡ v → unvisited w.visited ≡ unvisited v.visited
  unvisited_same w v e = ap (λ (x : Walk). unvisited x.visited) e

  waiting_same : (s t : Traversal) → Keeps s t → length t.waiting ≡ length s.waiting
  waiting_same s t K = ap (λ (ws : List Waiting). length ws) K.waiting

  least_next : {n f : ℕ} {s : Traversal} {r : Ranked} → Within faces g labels count ends G L n f s r → (x : Least s.waiting) → IsNext s x.stack x.corner x.rest
  least_next {n} {f} {s} {r} M x = record {
    from_best = (last_all (λ (w : Waiting). s.best ≤ w.stack) x.last M.above).0;
    before = All-weaker (λ (w : Waiting). x.stack ≤ w.stack) (λ (w : Waiting). (w.stack < s.best) ⊎ (x.stack ≤ w.stack)) (λ w h. inr h) s.waiting x.least;
    last = x.last;
  }

  -- whether the walk goes on to the left
  left_way : (s : Traversal) (c : Side) (b k : ℕ) (r : Ranked) → Agrees faces count s r → (IsVisited s (to_right g c) × (k ≤ b)) ⊎ ((IsVisited s (to_right g c) → ⊥) ⊎ (b < k))
  left_way s c b k r A = elim (option_tells (unvisited_across r.walk (g (next c)))) [
    | inl e ↦ elim (cases_lt b k) [ inl l ↦ inr (inr l) | inr l ↦ inl (none_across faces g labels count ends G L (next c) A e, l) ]
    | inr d ↦ inr (inl (λ v. absurd (let no : None ≡ Some d.0 = sym (across_none faces g labels count ends G L (next c) A v) ∙ d.1 in cc)))
  ]

  same_size : (n : ℕ) (p : Step) (s t : Traversal) (r q : Ranked) → t.waiting ≡ s.waiting → q.walk ≡ r.walk → (m : ℕ) → Size p n s r < m → Size p n t q < m
  same_size n p s t r q e w m h = (let a = ap (λ (ws : List Waiting). length ws) e in let b = unvisited_same q.walk r.walk w in omega arith)

  more_size : (n : ℕ) (p : Step) (s t : Traversal) (r q : Ranked) (k : ℕ) (d : Side) → t.waiting ≡ s.waiting → q.walk ≡ r.walk → (m : ℕ) → suc (Size p n s r) < m → Size p n (pushed_on k d t) q < m
  more_size n p s t r q k d e w m h = (let a = ap (λ (ws : List Waiting). length ws) e in let b = unvisited_same q.walk r.walk w in omega arith)

  leads : (m : ℕ) (p : Step) (n f : ℕ) (s : Traversal) (r : Ranked) → Meets p n f s r → Size p n s r < m → Reaches f p s
  leads zero p n f s r M h = absurd (omega arith)
  leads (suc m) next_face zero f s r M h = (s, over (let t = M.turn in omega arith))
  leads (suc m) next_face (suc n) f s r M h =
      let t = M.turn in
      let below : f < faces = omega arith in
      elim (cases_Bool (is_visited r.walk f)) [
        | inl v ↦ (
            let x = leads m next_face n (suc f) s r (passed_meets faces g labels count ends G L M) (omega arith) in
            (x.0, passed below (is_marked faces g labels count ends G L M.agrees f below v) x.1))
        | inr v ↦ (
            let D = enters_some labels (side f second) M.agrees in
            let A = agrees_entered labels (side f second) M.agrees D.enters in
            let E = enters_some labels (side f third) A in
            let B = agrees_entered labels (side f third) A E.enters in
            let F = enters_some labels (side f first) B in
            let a = waiting_same s D.after (enters_keeps labels (side f second) D.enters) in
            let b = waiting_same D.after E.after (enters_keeps labels (side f third) E.enters) in
            let c = waiting_same E.after F.after (enters_keeps labels (side f first) F.enters) in
            let x = leads m next_corner n f (from_corner faces g labels count ends G L f F.after) (ranked_pushed 0 (side f first) (with_corners faces g labels count ends G L f r)) (begun_meets faces g labels count ends G L M D.enters E.enters F.enters) (omega arith) in
            (x.0, begun {q = x.0} below (is_unmarked faces g labels count ends G L M.agrees f below v) D.enters E.enters F.enters x.1))
      ]
  leads (suc m) next_corner n f s r M h = elim (least_of s.waiting) [
    | inl e ↦ (
        let x = leads m next_face n (suc f) s (record r { best = 2 }) (emptied_meets faces g labels count ends G L M e) (omega arith) in
        (x.0, emptied e x.1))
    | inr y ↦ (
        let N = least_next M y in
        let fewer = last_fewer y.last in
        let same_walk = unvisited_same (left_on y.stack (corners_on y.stack y.rest) r).walk r.walk (left_on_walk y.stack (corners_on y.stack y.rest) r) in
        let within = next_within faces g labels count ends G L M.agrees N in
        elim (cases_Bool (is_visited r.walk y.corner.face)) [
          | inl v ↦ (
              let x = leads m next_corner n f (off y.stack y.rest s) (left_on y.stack (corners_on y.stack y.rest) r) (off_meets faces g labels count ends G L y.stack y.corner y.rest M N) (omega arith) in
              (x.0, dropped N (is_marked faces g labels count ends G L M.agrees y.corner.face within v) x.1))
          | inr v ↦ (
              let x = leads m (in_hand y.corner) n f (off y.stack y.rest s) (left_on y.stack (corners_on y.stack y.rest) r) (taken_meets faces g labels count ends G L y.stack y.corner y.rest M N v) (omega arith) in
              (x.0, taken N (is_unmarked faces g labels count ends G L M.agrees y.corner.face within v) x.1))
        ])
  ]
  leads (suc m) (in_hand c) n f s r M h =
      let E = enters_some labels c (agrees_marked M.there.agrees c.face M.within) in
      let a = waiting_same (record s { visited = c.face ∷ s.visited }) E.after (enters_keeps labels c E.enters) in
      let b = one_fewer r.walk.visited c.face M.unmarked in
      let x = leads m (left c) n f E.after (record r { walk = entered labels r.walk c }) (marked_meets faces g labels count ends G L c M E.enters) (omega arith) in
      (x.0, marked E.enters x.1)
  leads (suc m) (left c) n f s r M h = elim (option_tells (unvisited_across r.walk (g (prev c)))) [
    | inl e ↦ (
        let x = leads m (right c) n f s r M (omega arith) in
        (x.0, no_left (none_across faces g labels count ends G L (prev c) M.agrees e) x.1))
    | inr y ↦ (
        let d = y.0 in
        let e = some_across faces g labels count ends G L (prev c) d M.agrees y.1 in
        let S = rates_some labels d M.agrees in
        let X = rates_agree labels d M.agrees (class_within d (across_within faces g labels count ends G L (prev c) d e.0)) S.rates in
        elim (left_way s c S.after.best S.rate r M.agrees) [
          | inl w ↦ (
              let x = leads m (in_hand d) n f S.after (rated labels r d) (goes_meets faces g labels count ends G L (prev c) d M e.0 e.1 X) (same_size n (in_hand d) s S.after r (rated labels r d) X.waiting refl m (omega arith)) in
              (x.0, goes_left e.0 e.1 S.rates w.0 w.1 x.1))
          | inr w ↦ (
              let x = leads m (right c) n f (pushed_on S.rate d S.after) (ranked_pushed S.rate d (rated labels r d)) (puts_meets faces g labels count ends G L (prev c) d M e.0 X)
              (more_size n (right c) s S.after r (ranked_pushed S.rate d (rated labels r d)) S.rate d X.waiting (pushed_walk S.rate d (rated labels r d)) m (omega arith)) in
              (x.0, puts_left e.0 e.1 S.rates w x.1))
        ])
  ]
  leads (suc m) (right c) n f s r M h = elim (option_tells (unvisited_across r.walk (g (next c)))) [
    | inl e ↦ (
        let x = leads m next_corner n f s r M (omega arith) in
        (x.0, no_right (none_across faces g labels count ends G L (next c) M.agrees e) x.1))
    | inr y ↦ (
        let d = y.0 in
        let e = some_across faces g labels count ends G L (next c) d M.agrees y.1 in
        let S = rates_some labels d M.agrees in
        let X = rates_agree labels d M.agrees (class_within d (across_within faces g labels count ends G L (next c) d e.0)) S.rates in
        elim (cases_lt S.after.best S.rate) [
          | inr l ↦ (
              let x = leads m (in_hand d) n f S.after (rated labels r d) (goes_meets faces g labels count ends G L (next c) d M e.0 e.1 X) (same_size n (in_hand d) s S.after r (rated labels r d) X.waiting refl m (omega arith)) in
              (x.0, goes_right e.0 e.1 S.rates l x.1))
          | inl l ↦ (
              let x = leads m next_corner n f (pushed_on S.rate d S.after) (ranked_pushed S.rate d (rated labels r d)) (puts_meets faces g labels count ends G L (next c) d M e.0 X)
              (more_size n next_corner s S.after r (ranked_pushed S.rate d (rated labels r d)) S.rate d X.waiting (pushed_walk S.rate d (rated labels r d)) m (omega arith)) in
              (x.0, puts_right e.0 e.1 S.rates l x.1))
        ])
  ]

  pub reaches : (q : Traversal) × Leads faces g labels 0 next_face start_of_mesh q × (q.entries ≡ (ranked faces g labels count faces).walk.entries)
  reaches = let x = leads (suc (Size next_face faces start_of_mesh (unranked faces count))) next_face faces 0 start_of_mesh (unranked faces count) at_start (omega arith) in (x.0, x.1, alone x.0 x.1)

pub rule_leads_to_order : RuleLeadsToOrder
rule_leads_to_order faces g labels count ends G L = reaches faces g labels count ends G L

pub rule_leads_to_no_other : RuleLeadsToNoOther
rule_leads_to_no_other faces g labels count ends G L q K = alone faces g labels count ends G L q K
