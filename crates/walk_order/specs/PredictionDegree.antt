-- The order of entries by prediction degree (Draco Bitstream Specification 2.2, prediction degree traversal).
use Rattle.std.specs.Prelude.{ℕ, zero, suc, Bool, true, false, cond, min, nat_le, Option, Some, None}
use Rattle.std.specs.Prelude.{List, [], ◌∷◌, get_or, set, replicate}
use Rattle.corner_table.specs.Sides.{Side, first, side, next, prev, Gluing}
use Rattle.corner_table.specs.Labels.{label_at}
use Rattle.walk_order.specs.Visits.{Walk, unwalked, is_visited, is_new, entered, with_base}

-- a walk, a mark for each class that was rated, three stacks of corners with the top first, and the number of the best stack
pub record Ranked : Type 0 where
  pub walk : Walk
  pub rated : List Bool
  pub stack0 : List Side
  pub stack1 : List Side
  pub stack2 : List Side
  pub best : ℕ

-- before the first face
abbrev pub unranked : ℕ → ℕ → Ranked
unranked faces classes = record { walk = unwalked faces; rated = replicate classes false; stack0 = []; stack1 = []; stack2 = []; best = 0 }

-- the rate of a corner: 0 where its class has an entry, 1 where it was rated before, else 2
abbrev pub rate : List ℕ → Ranked → Side → ℕ
rate labels r c = cond (is_new labels r.walk.entries c) (cond (get_or r.rated (label_at labels c) false) 1 2) 0

-- the class of a corner, where it has no entry, is rated
abbrev pub rated : List ℕ → Ranked → Side → Ranked
rated labels r c = record r { rated = cond (is_new labels r.walk.entries c) (set r.rated (label_at labels c) true) r.rated }

-- a corner is put on the stack of its rate
abbrev pub ranked_pushed : ℕ → Side → Ranked → Ranked
ranked_pushed zero c r = record r { stack0 = c ∷ r.stack0; best = 0 }
ranked_pushed (suc zero) c r = record r { stack1 = c ∷ r.stack1; best = min r.best 1 }
ranked_pushed (suc (suc k)) c r = record r { stack2 = c ∷ r.stack2; best = min r.best 2 }

-- corners are taken off a stack, up to and with the first of an unvisited face
unfoldable pub take_unvisited : Walk → List Side → List Side × Option Side
take_unvisited w [] = ([], None)
take_unvisited w (c ∷ cs) = elim (is_visited w c.face) [ true ↦ take_unvisited w cs | false ↦ (cs, Some c) ]

-- the next corner off stack 2
abbrev pub taken2 : Ranked → Ranked × Option Side
taken2 r = let t = take_unvisited r.walk r.stack2 in (record r { stack2 = t.0; best = 2 }, t.1)

-- the next corner off stack 1, or off stack 2 where there is none
abbrev pub taken1 : Ranked → Ranked × Option Side
taken1 r = let t = take_unvisited r.walk r.stack1 in elim t.1 [
  | None ↦ taken2 (record r { stack1 = t.0 })
  | Some c ↦ (record r { stack1 = t.0; best = 1 }, Some c)
]

-- the next corner off stack 0, or off the stacks after it where there is none
abbrev pub taken0 : Ranked → Ranked × Option Side
taken0 r = let t = take_unvisited r.walk r.stack0 in elim t.1 [
  | None ↦ taken1 (record r { stack0 = t.0 })
  | Some c ↦ (record r { stack0 = t.0; best = 0 }, Some c)
]

-- the next corner of an unvisited face, off the first stack from the best on that has one
abbrev pub taken_from : ℕ → Ranked → Ranked × Option Side
taken_from zero r = taken0 r
taken_from (suc zero) r = taken1 r
taken_from (suc (suc k)) r = taken2 r

abbrev pub ranked_taken : Ranked → Ranked × Option Side
ranked_taken r = taken_from r.best r

-- the corner across a side, where its face is unvisited
abbrev pub unvisited_across : Walk → Option Side → Option Side
unvisited_across w None = None
unvisited_across w (Some d) = cond (is_visited w d.face) None (Some d)

-- where the walk goes on, with at most one corner across: there, where its rate is no more than the number of the best stack; else that
-- corner is put on its stack, and the next one is taken
abbrev pub turned_to : List ℕ → Ranked → Option Side → Ranked × Option Side
turned_to labels r None = ranked_taken r
turned_to labels r (Some d) = elim (nat_le (rate labels r d) r.best) [
  | true ↦ (rated labels r d, Some d)
  | false ↦ ranked_taken (ranked_pushed (rate labels r d) d (rated labels r d))
]

-- with the corners across to the left and to the right: where there are both, the left one is put on its stack first
abbrev pub ranked_turned : List ℕ → Ranked → Option Side → Option Side → Ranked × Option Side
ranked_turned labels r None right = turned_to labels r right
ranked_turned labels r (Some d) None = turned_to labels r (Some d)
ranked_turned labels r (Some d) (Some e) = turned_to labels (ranked_pushed (rate labels r d) d (rated labels r d)) (Some e)

-- the face of a corner is entered, and where the walk goes on
abbrev pub ranked_visit : Gluing → List ℕ → Ranked → Side → Ranked × Option Side
ranked_visit g labels r c =
    let w = entered labels r.walk c in
    ranked_turned labels (record r { walk = w }) (unvisited_across w (g (prev c))) (unvisited_across w (g (next c)))

-- visits from a corner on, as long as there is a next one; each is of another face, so as many as there are faces are enough
unfoldable pub visits : Gluing → List ℕ → ℕ → Ranked → Side → Ranked
visits g labels zero r c = r
visits g labels (suc n) r c = let t = ranked_visit g labels r c in elim t.1 [ None ↦ t.0 | Some d ↦ visits g labels n t.0 d ]

-- the walk of a face, unless it is visited: its corners 1 and 2 become entries, and it is walked from corner 0, with stack 0 the best
abbrev pub ranked_from : ℕ → Gluing → List ℕ → ℕ → Ranked → Ranked
ranked_from faces g labels f r =
    cond (is_visited r.walk f) r (visits g labels faces (record r { walk = with_base labels r.walk f; best = 0 }) (side f first))

-- walks of the first faces in turn
unfoldable pub ranked : ℕ → Gluing → List ℕ → ℕ → ℕ → Ranked
ranked faces g labels classes zero = unranked faces classes
ranked faces g labels classes (suc f) = ranked_from faces g labels f (ranked faces g labels classes f)

-- the corners of the entries, in order
abbrev pub prediction_degree_order : ℕ → Gluing → List ℕ → ℕ → List Side
prediction_degree_order faces g labels classes = (ranked faces g labels classes faces).walk.entries
