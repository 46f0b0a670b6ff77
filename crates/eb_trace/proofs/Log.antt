-- What is known of each symbol of a walk, by its number in the order of the walk.
use Rattle.std.proofs.Common.{◌≡◌, ℕ, suc, ◌<◌, false, true, List, [], ◌∷◌, Some, None, ◌⊎◌}
use Rattle.corner_table.specs.declared.symbols.Symbol.{Symbol}
use Rattle.corner_table.specs.declared.symbols.Symbol.TheVariants.{C, S, L, R, E}
use Rattle.corner_table.specs.Sides.{Side, second, side, next, prev, Gluing}
use Rattle.corner_table.specs.Fans.{InFan}
use Rattle.eb_trace.proofs.Rings.{Ring, GoesRound}
use Rattle.eb_trace.proofs.Visited.{is_inside}

-- a first symbol, or one after an E
abbrev pub AfterEnd : (ℕ → Symbol) → ℕ → Type 0
AfterEnd symbol k = (j : ℕ) → k ≡ suc j → symbol j ≡ E

abbrev pub GoesRight : Symbol → Type 0
GoesRight C = Unit {0}
GoesRight S = Unit {0}
GoesRight L = Unit {0}
GoesRight R = ⊥
GoesRight E = ⊥

-- the corners between an S and where its kept corner is taken were entered from faces after that of the S
abbrev pub InOrder : Gluing → (ℕ → Side) → ℕ → ℕ → Type 0
InOrder g corner i k = (l : ℕ) → suc i < l → l < k → (j : ℕ) × (i < j) × (j < l) × (z : Side) × (g (corner l) ≡ Some z) × (z.face ≡ (corner j).face)

-- how corner x, entered as number k, was come to
pub data Gate (g : Gluing) (corner : ℕ → Side) (symbol : ℕ → Symbol) (insides : List ℕ) (k : ℕ) (x : Side) : Type 0 where
  at_boundary : AfterEnd symbol k → g x ≡ None → Gate g corner symbol insides k x
  at_inside : (f : ℕ) → AfterEnd symbol k → is_inside insides f ≡ true → g x ≡ Some (side f second) → Gate g corner symbol insides k x
  after_right : (j : ℕ) → k ≡ suc j → GoesRight (symbol j) → g x ≡ Some (next (corner j)) → Gate g corner symbol insides k x
  after_left : (j : ℕ) → k ≡ suc j → symbol j ≡ R → g x ≡ Some (prev (corner j)) → Gate g corner symbol insides k x
  after_kept : (i : ℕ) → AfterEnd symbol k → suc i < k → symbol i ≡ S → g x ≡ Some (prev (corner i)) → InOrder g corner i k → Gate g corner symbol insides k x

-- corner x is entered from a face after number i
abbrev pub ComesAfter : Gluing → (ℕ → Side) → ℕ → ℕ → Side → Type 0
ComesAfter g corner i k x = suc i < k → (j : ℕ) × (i < j) × (j < k) × (z : Side) × (g x ≡ Some z) × (z.face ≡ (corner j).face)

-- the kept corners, before corner x is entered as number k: of numbers that fall from the top
abbrev pub KeptFrom : Gluing → (ℕ → Side) → (ℕ → Symbol) → ℕ → Side → ℕ → List Side → Type 0
KeptFrom g corner symbol k x bound [] = Unit {0}
KeptFrom g corner symbol k x bound (d ∷ kept) =
    (i : ℕ) × (i < bound) × (symbol i ≡ S) × (g (prev (corner i)) ≡ Some d) × InOrder g corner i k × ComesAfter g corner i k x × KeptFrom g corner symbol k x i kept

-- a face was visited before number k, and was not
abbrev pub Seen : (ℕ → Side) → List ℕ → ℕ → ℕ → Type 0
Seen corner insides k f = ((j : ℕ) × (j < k) × ((corner j).face ≡ f)) ⊎ (is_inside insides f ≡ true)

abbrev pub Unseen : (ℕ → Side) → List ℕ → ℕ → ℕ → Type 0
Unseen corner insides k f = ((j : ℕ) → j < k → (corner j).face ≡ f → ⊥) × (is_inside insides f ≡ false)

-- a face is visited after number k
abbrev pub Later : (ℕ → Side) → ℕ → ℕ → ℕ → Type 0
Later corner count k f = (j : ℕ) × (k < j) × (j < count) × ((corner j).face ≡ f)

abbrev pub SeenAcross : Gluing → (ℕ → Side) → List ℕ → ℕ → Side → Type 0
SeenAcross g corner insides k x = (y : Side) → g x ≡ Some y → Seen corner insides k y.face

-- a vertex that isn't new
abbrev pub MetBefore : Gluing → (ℕ → Side) → List ℕ → ℕ → Type 0
MetBefore g corner insides k = (d : Side) × InFan g (corner k) d × ((g (next d) ≡ None) ⊎ ((g (prev d) ≡ None) ⊎ Seen corner insides k d.face))

-- what symbol number k says while its run goes on; `now` are the interior start faces so far
abbrev pub Raw : Gluing → (ℕ → Side) → List ℕ → List ℕ → ℕ → Symbol → Type 0
Raw g corner insides now k C = GoesRound g (corner k) × ((d : Side) → InFan g (corner k) d → Unseen corner now k d.face)
Raw g corner insides now k S = (l : Side) × (g (prev (corner k)) ≡ Some l) × Unseen corner now k l.face × MetBefore g corner insides k
Raw g corner insides now k L = SeenAcross g corner insides k (prev (corner k))
Raw g corner insides now k R = SeenAcross g corner insides k (next (corner k))
Raw g corner insides now k E = SeenAcross g corner insides k (next (corner k)) × SeenAcross g corner insides k (prev (corner k))

-- and what it says once its run has ended
abbrev pub Settled : Gluing → (ℕ → Side) → List ℕ → ℕ → ℕ → Symbol → Type 0
Settled g corner insides count k C = Ring g (λ d. Later corner count k d.face) (corner k)
Settled g corner insides count k S = (l : Side) × (g (prev (corner k)) ≡ Some l) × Later corner count k l.face × MetBefore g corner insides k
Settled g corner insides count k L = SeenAcross g corner insides k (prev (corner k))
Settled g corner insides count k R = SeenAcross g corner insides k (next (corner k))
Settled g corner insides count k E = SeenAcross g corner insides k (next (corner k)) × SeenAcross g corner insides k (prev (corner k))
