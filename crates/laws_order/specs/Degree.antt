-- The traversal by prediction degree as its rule says it, one sentence a case (Draco Bitstream Specification 2.2, prediction degree
-- traversal). There are three stacks of corners, 0 to 2, a number best, and a count for each class of corners, 0 at the start of the mesh.
use Rattle.std.specs.Prelude.{◌≡◌, ◌≢◌, ℕ, suc, ◌<◌, ◌≤◌, ◌⊎◌, ◌==◌, min, List, [], ◌∷◌, ◌++◌, map, count_by}
use Rattle.std.specs.Prelude.{Option, Some, None, All, Contains}
use Rattle.corner_table.specs.Sides.{Side, first, second, third, side, next, prev, Gluing}
use Rattle.corner_table.specs.Labels.{label_at}

-- a corner on a stack
pub record Waiting : Type 0 where
  pub stack : ℕ
  pub corner : Side

abbrev pub on_stack : ℕ → Side → Waiting
on_stack k c = record { stack = k; corner = c }

-- how far the traversal is: the visited faces; the corners of the entries, in their order; the classes that were rated, one item each
-- time; the corners that wait on the stacks, the last pushed first; and best
pub record Traversal : Type 0 where
  pub visited : List ℕ
  pub entries : List Side
  pub rated : List ℕ
  pub waiting : List Waiting
  pub best : ℕ

-- the start of the mesh
abbrev pub start_of_mesh : Traversal
start_of_mesh = record { visited = []; entries = []; rated = []; waiting = []; best = 0 }

-- the corner to the left: across the side before the corner
abbrev pub to_left : Gluing → Side → Option Side
to_left g c = g (prev c)

-- the corner to the right: across the side after it
abbrev pub to_right : Gluing → Side → Option Side
to_right g c = g (next c)

-- the face of a corner is visited; a missing face counts as visited
abbrev pub IsVisited : Traversal → Option Side → Type 0
IsVisited s None = Unit {0}
IsVisited s (Some c) = Contains s.visited c.face

-- the class of a corner has an entry
abbrev pub HasEntry : List ℕ → Traversal → Side → Type 0
HasEntry labels s c = Contains (map (label_at labels) s.entries) (label_at labels c)

-- the class of a corner, where it is new, becomes the next entry, with this corner
pub data Enters (labels : List ℕ) (c : Side) : Traversal → Traversal → Type 0 where
  new : {s : Traversal} → ¬ HasEntry labels s c → Enters labels c s (record s { entries = s.entries ++ (c ∷ []) })
  known : {s : Traversal} → HasEntry labels s c → Enters labels c s s

-- the count of a class: how often it was rated
abbrev pub times_rated : Traversal → ℕ → ℕ
times_rated s class = count_by (λ k. k == class) s.rated

-- the count of a corner's class goes up by one
abbrev pub with_rating : List ℕ → Side → Traversal → Traversal
with_rating labels c s = record s { rated = label_at labels c ∷ s.rated }

-- a corner is rated
pub data Rates (labels : List ℕ) (c : Side) : Traversal → ℕ → Traversal → Type 0 where
  -- its rate is 0 where its class has an entry
  entry : {s : Traversal} → HasEntry labels s c → Rates labels c s 0 s
  -- else its class's count goes up by one, and the rate is 1 where the count is then above 1
  again : {s : Traversal} → ¬ HasEntry labels s c → 1 < times_rated (with_rating labels c s) (label_at labels c) →
      Rates labels c s 1 (with_rating labels c s)
  -- and 2 otherwise
  once : {s : Traversal} → ¬ HasEntry labels s c → times_rated (with_rating labels c s) (label_at labels c) ≤ 1 →
      Rates labels c s 2 (with_rating labels c s)

-- a corner is pushed with a rate: it goes on the stack of this number, and best becomes the rate where that is less
abbrev pub pushed_on : ℕ → Side → Traversal → Traversal
pushed_on k c s = record s { waiting = on_stack k c ∷ s.waiting; best = min s.best k }

-- the last corner on stack k, and all that waits but it
pub data IsLast (k : ℕ) (c : Side) : List Waiting → List Waiting → Type 0 where
  top : {rest : List Waiting} → IsLast k c (on_stack k c ∷ rest) rest
  under : {w : Waiting} {all rest : List Waiting} → w.stack ≢ k → IsLast k c all rest → IsLast k c (w ∷ all) (w ∷ rest)

-- c is the last corner of stack k, the first stack from best on that isn't empty: no corner waits on a stack from best on before it
pub record IsNext (s : Traversal) (k : ℕ) (c : Side) (rest : List Waiting) : Type 0 where
  pub from_best : s.best ≤ k
  pub before : All (λ (w : Waiting). (w.stack < s.best) ⊎ (k ≤ w.stack)) s.waiting
  pub last : IsLast k c s.waiting rest

-- c is taken off stack k, and best becomes that stack's number
abbrev pub off : ℕ → List Waiting → Traversal → Traversal
off k rest s = record s { waiting = rest; best = k }

-- a step of the rule
pub data Step : Type 0 where
  -- step 1
  next_face : Step
  -- step 2
  next_corner : Step
  -- steps 3, 4 and 5, with the corner in hand
  in_hand : Side → Step
  left : Side → Step
  right : Side → Step

-- from a step on, in the turn of a face, the rule leads from one state of the traversal to the one at its end
pub data Leads (faces : ℕ) (g : Gluing) (labels : List ℕ) : ℕ → Step → Traversal → Traversal → Type 0 where
  -- 1. For each face in order
  over : {f : ℕ} {s : Traversal} → f ≡ faces → Leads faces g labels f next_face s s
  -- that isn't visited:
  passed : {f : ℕ} {s q : Traversal} → f < faces → Contains s.visited f → Leads faces g labels (suc f) next_face s q →
      Leads faces g labels f next_face s q
  -- the classes of corners 1, 2 and 0, in this order, where new, become entries; corner 0 is put on stack 0, and best is 0.
  begun : {f : ℕ} {s t u v q : Traversal} → f < faces → ¬ Contains s.visited f →
      Enters labels (side f second) s t → Enters labels (side f third) t u → Enters labels (side f first) u v →
      Leads faces g labels f next_corner (record v { waiting = on_stack 0 (side f first) ∷ v.waiting; best = 0 }) q →
      Leads faces g labels f next_face s q
  -- 2. Take the last corner of the first stack from best on that isn't empty; best becomes that stack's number. Where all are empty, go on
  -- with the next face.
  emptied : {f : ℕ} {s q : Traversal} → s.waiting ≡ [] → Leads faces g labels (suc f) next_face s q → Leads faces g labels f next_corner s q
  -- Where the corner's face is visited, do step 2 again.
  dropped : {f k : ℕ} {c : Side} {rest : List Waiting} {s q : Traversal} → IsNext s k c rest → Contains s.visited c.face →
      Leads faces g labels f next_corner (off k rest s) q → Leads faces g labels f next_corner s q
  taken : {f k : ℕ} {c : Side} {rest : List Waiting} {s q : Traversal} → IsNext s k c rest → ¬ Contains s.visited c.face →
      Leads faces g labels f (in_hand c) (off k rest s) q → Leads faces g labels f next_corner s q
  -- 3. Mark the face of the corner in hand. Where its class is new, it becomes the next entry, with this corner.
  marked : {f : ℕ} {c : Side} {s t q : Traversal} → Enters labels c (record s { visited = c.face ∷ s.visited }) t →
      Leads faces g labels f (left c) t q → Leads faces g labels f (in_hand c) s q
  -- 4. Where the left face is unvisited, rate the corner to the left.
  no_left : {f : ℕ} {c : Side} {s q : Traversal} → IsVisited s (to_left g c) → Leads faces g labels f (right c) s q →
      Leads faces g labels f (left c) s q
  -- If the right face is visited and the rate is at most best, go on with this corner at step 3.
  goes_left : {f k : ℕ} {c d : Side} {s t q : Traversal} → to_left g c ≡ Some d → ¬ Contains s.visited d.face → Rates labels d s k t →
      IsVisited s (to_right g c) → k ≤ t.best → Leads faces g labels f (in_hand d) t q → Leads faces g labels f (left c) s q
  -- Otherwise push it with its rate.
  puts_left : {f k : ℕ} {c d : Side} {s t q : Traversal} → to_left g c ≡ Some d → ¬ Contains s.visited d.face → Rates labels d s k t →
      (¬ IsVisited s (to_right g c)) ⊎ (t.best < k) → Leads faces g labels f (right c) (pushed_on k d t) q →
      Leads faces g labels f (left c) s q
  -- 5. Where the right face is unvisited, rate the corner to the right.
  no_right : {f : ℕ} {c : Side} {s q : Traversal} → IsVisited s (to_right g c) → Leads faces g labels f next_corner s q →
      Leads faces g labels f (right c) s q
  -- If the rate is at most best, go on with this corner at step 3.
  goes_right : {f k : ℕ} {c d : Side} {s t q : Traversal} → to_right g c ≡ Some d → ¬ Contains s.visited d.face → Rates labels d s k t →
      k ≤ t.best → Leads faces g labels f (in_hand d) t q → Leads faces g labels f (right c) s q
  -- Otherwise push it with its rate, and go on at step 2.
  puts_right : {f k : ℕ} {c d : Side} {s t q : Traversal} → to_right g c ≡ Some d → ¬ Contains s.visited d.face → Rates labels d s k t →
      t.best < k → Leads faces g labels f next_corner (pushed_on k d t) q → Leads faces g labels f (right c) s q
