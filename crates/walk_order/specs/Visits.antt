-- How far a walk over the faces of a surface has come: the visited faces, and the entries, of which each stands for a class of corners
-- (Draco Bitstream Specification 2.2, attribute traversal).
use Rattle.std.specs.Prelude.{ℕ, Bool, true, false, not, cond, ◌==◌, List, [], ◌∷◌, ◌++◌, get_or, set, replicate, count_by}
use Rattle.std.specs.List.{list_any}
use Rattle.corner_table.specs.Sides.{Side, side, second, third}
use Rattle.corner_table.specs.Labels.{label_at}

-- a mark for each face, and the corners of the entries in their order
pub record Walk : Type 0 where
  pub visited : List Bool
  pub entries : List Side

-- before the first face
abbrev pub unwalked : ℕ → Walk
unwalked faces = record { visited = replicate faces false; entries = [] }

-- a face is visited; what is no face counts as visited
abbrev pub is_visited : Walk → ℕ → Bool
is_visited w f = get_or w.visited f true

-- how many faces are unvisited
unfoldable pub unvisited : List Bool → ℕ
unvisited visited = count_by not visited

-- a class has no entry yet
unfoldable pub lacks : List ℕ → List Side → ℕ → Bool
lacks labels entries k = not (list_any (λ (e : Side). label_at labels e == k) entries)

-- the class of a corner is new: it has no entry yet
abbrev pub is_new : List ℕ → List Side → Side → Bool
is_new labels entries c = lacks labels entries (label_at labels c)

-- the class of a corner, where it is new, becomes the next entry, with this corner
abbrev pub with_entry : List ℕ → List Side → Side → List Side
with_entry labels entries c = cond (is_new labels entries c) (entries ++ (c ∷ [])) entries

-- the face of a corner is entered at it
abbrev pub entered : List ℕ → Walk → Side → Walk
entered labels w c = record { visited = set w.visited c.face true; entries = with_entry labels w.entries c }

-- corners 1 and 2 of a face become entries, where their classes are new
abbrev pub with_base : List ℕ → Walk → ℕ → Walk
with_base labels w f = record w { entries = with_entry labels (with_entry labels w.entries (side f second)) (side f third) }
