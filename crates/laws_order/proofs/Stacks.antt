-- The corners on one stack, and what the walk takes off its three stacks.
use Rattle.std.proofs.Common.{◌≡◌, ◌≢◌, ℕ, zero, suc, ◌<◌, ◌≤◌, true, false, ◌==◌, cond, List, [], ◌∷◌, length, Option, Some, None, ◌⊎◌, inl, inr, sym, refl, ap, ◌∙◌, subst, arith, eq-eqb, ne_eqb}
use Rattle.std.specs.List.{All}
use Rattle.std.proofs.lemmas.Bool.{cases_lt, cond-true, cond-false}
use Rattle.std.proofs.lemmas.List.Elements.{All-nil, All-cons, All-head, All-tail, All-weaker}
use Rattle.corner_table.specs.Sides.{Side}
use Rattle.walk_order.specs.Visits.{Walk, is_visited}
use Rattle.walk_order.specs.PredictionDegree.{Ranked, take_unvisited, taken0, taken1, taken2, taken_from, ranked_taken}
use Rattle.walk_order.proofs.Rating.{take_met, take_here, take_nothing}
use Rattle.laws_order.specs.Degree.{Waiting, on_stack, IsLast, top, under}

-- the corners on stack k, the last one first
abbrev pub corners_on : ℕ → List Waiting → List Side
corners_on k [] = []
corners_on k (w ∷ ws) = cond (w.stack == k) (w.corner ∷ corners_on k ws) (corners_on k ws)

on_here : (k : ℕ) (w : Waiting) (ws : List Waiting) → w.stack ≡ k → corners_on k (w ∷ ws) ≡ w.corner ∷ corners_on k ws
on_here k w ws e = cond-true (w.stack == k) _ _ (eq-eqb w.stack k e)

on_other : (k : ℕ) (w : Waiting) (ws : List Waiting) → w.stack ≢ k → corners_on k (w ∷ ws) ≡ corners_on k ws
on_other k w ws ne = cond-false (w.stack == k) _ _ (ne_eqb w.stack k ne)

-- the last corner on a stack is its first one here
pub last_on : {k : ℕ} {c : Side} {all rest : List Waiting} → IsLast k c all rest → corners_on k all ≡ c ∷ corners_on k rest
last_on {k} {c} (top {rest}) = on_here k (on_stack k c) rest refl
last_on {k} {c} (under {w} {all} {rest} ne I) = on_other k w all ne ∙ last_on I ∙ ap (λ (cs : List Side). c ∷ cs) (sym (on_other k w rest ne))

-- and the other stacks stay
pub last_others : {k : ℕ} {c : Side} {all rest : List Waiting} → IsLast k c all rest → (j : ℕ) → k ≢ j → corners_on j all ≡ corners_on j rest
last_others {k} {c} (top {rest}) j ne = on_other j (on_stack k c) rest ne
last_others {k} {c} (under {w} {all} {rest} _ I) j ne = ap (λ (cs : List Side). cond (w.stack == j) (w.corner ∷ cs) cs) (last_others I j ne)

pub last_all : (P : Waiting → Type 0) {k : ℕ} {c : Side} {all rest : List Waiting} → IsLast k c all rest → All P all → P (on_stack k c) × All P rest
last_all P {k} {c} (top {rest}) h = (All-head P (on_stack k c) rest h, All-tail P (on_stack k c) rest h)
last_all P {k} {c} (under {w} {all} {rest} _ I) h =
    let t = last_all P I (All-tail P w all h) in
    (t.0, All-cons P w rest (All-head P w all h) t.1)

pub last_fewer : {k : ℕ} {c : Side} {all rest : List Waiting} → IsLast k c all rest → length all ≡ suc (length rest)
last_fewer (top {rest}) = refl
last_fewer (under {w} {all} {rest} _ I) = ap suc (last_fewer I)

-- the last corner of the least stack that isn't empty
pub record Least (all : List Waiting) : Type 0 where
  pub stack : ℕ
  pub corner : Side
  pub rest : List Waiting
  pub last : IsLast stack corner all rest
  pub least : All (λ (w : Waiting). stack ≤ w.stack) all

pub least_of : (all : List Waiting) → (all ≡ []) ⊎ Least all
least_of [] = inl refl
least_of (w ∷ ws) = elim (least_of ws) [
  | inl e ↦ inr (record {
    stack = w.stack;
    corner = w.corner;
    rest = ws;
    last = top;
    least = All-cons (λ (v : Waiting). w.stack ≤ v.stack) w ws (omega arith) (subst (λ (vs : List Waiting). All (λ (v : Waiting). w.stack ≤ v.stack) vs) (sym e) (All-nil (λ (v : Waiting). w.stack ≤ v.stack)));
  })
  | inr x ↦ elim (cases_lt x.stack w.stack) [
    | inl l ↦ inr (record {
      stack = x.stack;
      corner = x.corner;
      rest = w ∷ x.rest;
      last = under (λ e. absurd (omega arith)) x.last;
      least = All-cons (λ (v : Waiting). x.stack ≤ v.stack) w ws (omega arith) x.least;
    })
    | inr l ↦ inr (record {
      stack = w.stack;
      corner = w.corner;
      rest = ws;
      last = top;
      least = All-cons (λ (v : Waiting). w.stack ≤ v.stack) w ws (omega arith) (All-weaker (λ (v : Waiting). x.stack ≤ v.stack) (λ (v : Waiting). w.stack ≤ v.stack) (λ v h. omega arith) ws x.least);
    })
  ]
]

-- a stack on which no corner waits
pub none_on : (j : ℕ) (ws : List Waiting) → All (λ (w : Waiting). w.stack ≢ j) ws → corners_on j ws ≡ []
none_on j [] h = refl
none_on j (w ∷ ws) h =
    on_other j w ws (All-head (λ (v : Waiting). v.stack ≢ j) w ws h)
    ∙ none_on j ws (All-tail (λ (v : Waiting). v.stack ≢ j) w ws h)

-- a stack of the walk
abbrev pub stack_of : ℕ → Ranked → List Side
stack_of zero r = r.stack0
stack_of (suc zero) r = r.stack1
stack_of (suc (suc k)) r = r.stack2

-- the walk with these corners left on a stack, which is the best one
abbrev pub left_on : ℕ → List Side → Ranked → Ranked
left_on zero cs r = record r { stack0 = cs; best = 0 }
left_on (suc zero) cs r = record r { stack1 = cs; best = 1 }
left_on (suc (suc k)) cs r = record r { stack2 = cs; best = 2 }

take_at_none : (w : Walk) (cs : List Side) → cs ≡ [] → take_unvisited w cs ≡ ([], None)
take_at_none w cs e = ap (take_unvisited w) e ∙ take_nothing w

-- what is taken, by what is taken off the stack
abbrev By0 : Ranked → List Side × Option Side → Ranked × Option Side
By0 r t = elim t.1 [ None ↦ taken1 (record r { stack0 = t.0 }) | Some c ↦ (record r { stack0 = t.0; best = 0 }, Some c) ]

abbrev By1 : Ranked → List Side × Option Side → Ranked × Option Side
By1 r t = elim t.1 [ None ↦ taken2 (record r { stack1 = t.0 }) | Some c ↦ (record r { stack1 = t.0; best = 1 }, Some c) ]

abbrev By2 : Ranked → List Side × Option Side → Ranked × Option Side
By2 r t = (record r { stack2 = t.0; best = 2 }, t.1)

by0 : (r : Ranked) → taken0 r ≡ By0 r (take_unvisited r.walk r.stack0)
by0 r = refl

by1 : (r : Ranked) → taken1 r ≡ By1 r (take_unvisited r.walk r.stack1)
by1 r = refl

by2 : (r : Ranked) → taken2 r ≡ By2 r (take_unvisited r.walk r.stack2)
by2 r = refl

skip0 : (r : Ranked) → r.stack0 ≡ [] → taken0 r ≡ taken1 r
skip0 r e = by0 r ∙ ap (By0 r) (take_at_none r.walk r.stack0 e) ∙ ap (λ (cs : List Side). taken1 (record r { stack0 = cs })) (sym e)

skip1 : (r : Ranked) → r.stack1 ≡ [] → taken1 r ≡ taken2 r
skip1 r e = by1 r ∙ ap (By1 r) (take_at_none r.walk r.stack1 e) ∙ ap (λ (cs : List Side). taken2 (record r { stack1 = cs })) (sym e)

-- where the stacks before stack k are empty, from the best one on, stack k is reached
reach : (r : Ranked) (b k : ℕ) → b ≤ k → ((j : ℕ) → b ≤ j → j < k → j ≤ 2 → stack_of j r ≡ []) → taken_from b r ≡ taken_from k r
reach r zero zero l h = refl
reach r zero (suc zero) l h = skip0 r (h 0 (omega arith) (omega arith) (omega arith))
reach r zero (suc (suc k)) l h = skip0 r (h 0 (omega arith) (omega arith) (omega arith)) ∙ skip1 r (h 1 (omega arith) (omega arith) (omega arith))
reach r (suc zero) zero l h = absurd (omega arith)
reach r (suc zero) (suc zero) l h = refl
reach r (suc zero) (suc (suc k)) l h = skip1 r (h 1 (omega arith) (omega arith) (omega arith))
reach r (suc (suc b)) zero l h = absurd (omega arith)
reach r (suc (suc b)) (suc zero) l h = absurd (omega arith)
reach r (suc (suc b)) (suc (suc k)) l h = refl

met_then : (w : Walk) (all cs : List Side) (c : Side) → all ≡ c ∷ cs → is_visited w c.face ≡ true → take_unvisited w all ≡ take_unvisited w cs
met_then w all cs c e v = ap (take_unvisited w) e ∙ take_met w c cs v

here_then : (w : Walk) (all cs : List Side) (c : Side) → all ≡ c ∷ cs → is_visited w c.face ≡ false → take_unvisited w all ≡ (cs, Some c)
here_then w all cs c e v = ap (take_unvisited w) e ∙ take_here w c cs v

-- a corner of a visited face is dropped
drop_at : (r : Ranked) (k : ℕ) (c : Side) (cs : List Side) → stack_of k r ≡ c ∷ cs → is_visited r.walk c.face ≡ true → taken_from k r ≡ ranked_taken (left_on k cs r)
drop_at r zero c cs e v = ap (By0 r) (met_then r.walk r.stack0 cs c e v)
drop_at r (suc zero) c cs e v = ap (By1 r) (met_then r.walk r.stack1 cs c e v)
drop_at r (suc (suc k)) c cs e v = ap (By2 r) (met_then r.walk r.stack2 cs c e v)

-- and one of an unvisited face is taken
take_at : (r : Ranked) (k : ℕ) (c : Side) (cs : List Side) → stack_of k r ≡ c ∷ cs → is_visited r.walk c.face ≡ false → taken_from k r ≡ (left_on k cs r, Some c)
take_at r zero c cs e v = ap (By0 r) (here_then r.walk r.stack0 cs c e v)
take_at r (suc zero) c cs e v = ap (By1 r) (here_then r.walk r.stack1 cs c e v)
take_at r (suc (suc k)) c cs e v = ap (By2 r) (here_then r.walk r.stack2 cs c e v)

-- where stack k is the first from the best one on that isn't empty
pub record IsFirst (r : Ranked) (k : ℕ) (c : Side) (cs : List Side) : Type 0 where
  pub from_best : r.best ≤ k
  pub before : (j : ℕ) → r.best ≤ j → j < k → j ≤ 2 → stack_of j r ≡ []
  pub there : stack_of k r ≡ c ∷ cs

pub first_dropped : (r : Ranked) (k : ℕ) (c : Side) (cs : List Side) → IsFirst r k c cs → is_visited r.walk c.face ≡ true → ranked_taken r ≡ ranked_taken (left_on k cs r)
first_dropped r k c cs F v = reach r r.best k F.from_best F.before ∙ drop_at r k c cs F.there v

pub first_taken : (r : Ranked) (k : ℕ) (c : Side) (cs : List Side) → IsFirst r k c cs → is_visited r.walk c.face ≡ false → ranked_taken r ≡ (left_on k cs r, Some c)
first_taken r k c cs F v = reach r r.best k F.from_best F.before ∙ take_at r k c cs F.there v

-- where all stacks are empty
pub nothing_taken : (r : Ranked) → r.stack0 ≡ [] → r.stack1 ≡ [] → r.stack2 ≡ [] → ranked_taken r ≡ (record r { best = 2 }, None)
nothing_taken r e f h = from r.best
  where
    at2 : taken2 r ≡ (record r { best = 2 }, None)
    at2 = by2 r ∙ ap (By2 r) (take_at_none r.walk r.stack2 h) ∙ ap (λ (cs : List Side). let x : Ranked × Option Side = (record r { stack2 = cs; best = 2 }, None) in x) (sym h)

    from : (b : ℕ) → taken_from b r ≡ (record r { best = 2 }, None)
    from zero = skip0 r e ∙ skip1 r f ∙ at2
    from (suc zero) = skip1 r f ∙ at2
    from (suc (suc b)) = at2
