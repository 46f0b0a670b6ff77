-- One entry after another: what a step of correcting does for every prediction that foretells it. These are the code's own
-- words.
use Rattle.std.specs.Prelude.{◌≡◌, ℕ, suc, ◌+◌, ◌-◌, ◌*◌, ◌<◌, ◌≤◌, ℤ, Bool, cond, nat_eq, List, [], ◌++◌, length, take}
use Rattle.std.specs.Prelude.{get_or, set}
use Rattle.predict.specs.Wrap.{Range}
use Rattle.predict.specs.Restored.{corrections}
use Rattle.corner_table.specs.Ordered.{Ordered}
use Rattle.predict.specs.Gathered.{gathered}
use Rattle.predict.specs.Multi.{wanted, by_many, kept, marks}

-- a prediction foretells the components of entry e as p does
abbrev pub Foretells : (List ℤ → ℤ) → ℕ → ℕ → (ℕ → List ℤ → ℤ) → Type 0
Foretells f comps e p = (j : ℕ) (before : List ℤ) → j < comps → length before ≡ e * comps + j → f before ≡ p j before

-- the first k corrections are there
abbrev pub Corrected : (List ℤ → ℤ) → Range → List ℤ → List ℤ → ℕ → Type 0
Corrected f r v out k = take k out ≡ take k (corrections f r v)

-- the flags of the entries before e are taken: so many of each list
pub record AreUsed (w : Ordered) (lists : List (List Bool)) (e : ℕ) (used : List ℕ) : Type 0 where
  pub count : (k : ℕ) → k < 4 → get_or used k 0 ≡ wanted w (suc k) e
  pub enough : (k : ℕ) → k < 4 → wanted w (suc k) e ≤ length (get_or lists k [])

-- entry e needs more flags of a list than it has
abbrev pub LacksNext : Ordered → List (List Bool) → ℕ → Type 0
LacksNext w lists e = (k : ℕ) × (k < 4) × (length (get_or lists k []) < wanted w (suc k) (suc e))

-- the flags of one entry, put behind those of their list
abbrev pub flags_put : List Bool → List (List Bool) → List (List Bool)
flags_put flags lists = cond (nat_eq (length flags) 0) lists (set lists (length flags - 1) (get_or lists (length flags - 1) [] ++ flags))

-- a prediction foretells each entry before e from the faces that its written flags keep
abbrev pub ForetellsAll : (List ℤ → ℤ) → Ordered → ℕ → List ℤ → ℕ → Type 0
ForetellsAll f w comps v n = (e : ℕ) → e < n → Foretells f comps e (by_many comps (kept (marks w comps v e) (gathered w e)))
