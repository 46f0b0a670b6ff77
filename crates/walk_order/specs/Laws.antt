-- What holds of the walks: they are relations, one sentence of the rules each, and their entries are a list of the classes.
use Rattle.std.specs.Prelude.{◌≡◌, ℕ, ◌<◌, ◌≤◌, ◌↔◌, Bool, true, false, List, length, get_or, Option, Some, None}
use Rattle.corner_table.specs.Sides.{Side, next, prev, side_at, Gluing, IsGluing}
use Rattle.corner_table.specs.Labels.{IsLabelled, label_at}
use Rattle.walk_order.specs.Visits.{Walk, is_visited, unvisited, entered}
use Rattle.walk_order.specs.DepthFirst.{goes_right_alone, walk, depth_first_order}
use Rattle.walk_order.specs.PredictionDegree.{Ranked, ranked_visit, visits, prediction_degree_order}

-- the depth-first walk from a corner makes one state of another
pub data Walks (g : Gluing) (labels : List ℕ) (ends : List Bool) : Walk → Option Side → Walk → Type 0 where
  -- where the corner is missing, nothing happens
  missing : {w : Walk} → Walks g labels ends w None w
  -- where its face is visited, nothing happens
  met : {w : Walk} {c : Side} → is_visited w c.face ≡ true → Walks g labels ends w (Some c) w
  -- where its class is new and no free side meets it, the face is entered, and the walk to the right follows
  alone : {w v : Walk} {c : Side} → is_visited w c.face ≡ false → goes_right_alone labels ends w c ≡ true →
      Walks g labels ends (entered labels w c) (g (next c)) v → Walks g labels ends w (Some c) v
  -- else the face is entered, and the walk to the right follows, and then the one to the left
  both : {w u v : Walk} {c : Side} → is_visited w c.face ≡ false → goes_right_alone labels ends w c ≡ false →
      Walks g labels ends (entered labels w c) (g (next c)) u → Walks g labels ends u (g (prev c)) v → Walks g labels ends w (Some c) v

-- the recursion with fuel for the unvisited faces is the relation
abbrev pub WalkIsRelation : Type 0
WalkIsRelation = (g : Gluing) (labels : List ℕ) (ends : List Bool) (n : ℕ) (w v : Walk) (o : Option Side) → unvisited w.visited ≤ n →
    Walks g labels ends w o v ↔ (walk g labels ends n w o ≡ v)

-- the walk by prediction degree from a corner of an unvisited face makes one state of another
pub data Visits (g : Gluing) (labels : List ℕ) : Ranked → Side → Ranked → Type 0 where
  -- where no corner is left to go on at, the walk ends
  last : {r q : Ranked} {c : Side} → ranked_visit g labels r c ≡ (q, None) → Visits g labels r c q
  -- else it goes on at the next corner
  on : {r s q : Ranked} {c d : Side} → ranked_visit g labels r c ≡ (s, Some d) → Visits g labels s d q → Visits g labels r c q

-- the recursion with fuel for the unvisited faces is the relation
abbrev pub VisitsAreRelation : Type 0
VisitsAreRelation = (g : Gluing) (labels : List ℕ) (n : ℕ) (r q : Ranked) (c : Side) →
    unvisited r.walk.visited ≤ n → is_visited r.walk c.face ≡ false → Visits g labels r c q ↔ (visits g labels n r c ≡ q)

-- the entries are a list of the classes: each class is that of one entry, and of no other
pub record ListsClasses (labels : List ℕ) (count : ℕ) (entries : List Side) : Type 0 where
  pub all : (k : ℕ) → k < count → (i : ℕ) × (i < length entries) × (label_at labels (get_or entries i (side_at 0)) ≡ k)
  pub apart : (i j : ℕ) → i < length entries → j < length entries →
      label_at labels (get_or entries i (side_at 0)) ≡ label_at labels (get_or entries j (side_at 0)) → i ≡ j

-- depth first, for every labelled surface
abbrev pub DepthFirstListsClasses : Type 0
DepthFirstListsClasses = (faces : ℕ) (g : Gluing) (labels : List ℕ) (count : ℕ) (ends : List Bool) → IsGluing faces g →
    IsLabelled faces g labels count ends → ListsClasses labels count (depth_first_order faces g labels ends)

-- and by prediction degree
abbrev pub PredictionDegreeListsClasses : Type 0
PredictionDegreeListsClasses = (faces : ℕ) (g : Gluing) (labels : List ℕ) (count : ℕ) (ends : List Bool) → IsGluing faces g →
    IsLabelled faces g labels count ends → ListsClasses labels count (prediction_degree_order faces g labels count)
