-- Items of classes, each class linked in the order of its items (this project's choice).
use Rattle.std.specs.Prelude.{◌≡◌, ℕ, ◌<◌, ◌≤◌, List, length, get_or}

-- each item is linked to the next one of its class; after the last one comes a number that is no item's
pub record AreLinked (classes nexts : List ℕ) (from : ℕ) : Type 0 where
  pub each : length nexts ≡ length classes
  pub later : (x : ℕ) → from ≤ x → x < length classes → x < get_or nexts x 0
  pub same : (x : ℕ) → from ≤ x → x < length classes → get_or nexts x 0 < length classes →
      get_or classes (get_or nexts x 0) 0 ≡ get_or classes x 0
  pub none_between : (x z : ℕ) → from ≤ x → x < z → z < length classes → get_or classes z 0 ≡ get_or classes x 0 → get_or nexts x 0 ≤ z

-- for each class its least item that isn't below `from`
pub record AreFirsts (classes firsts : List ℕ) (count from : ℕ) : Type 0 where
  pub each : length firsts ≡ count
  pub later : (c : ℕ) → c < count → from ≤ get_or firsts c 0
  pub same : (c : ℕ) → c < count → get_or firsts c 0 < length classes → get_or classes (get_or firsts c 0) 0 ≡ c
  pub least : (z : ℕ) → from ≤ z → z < length classes → get_or firsts (get_or classes z 0) 0 ≤ z
