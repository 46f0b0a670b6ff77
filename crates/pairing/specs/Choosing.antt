-- How the least free side of a class is found: two places in the class that only move forward
-- (this project's choice).
use Rattle.std.specs.Prelude.{◌≡◌, ◌≢◌, ℕ, ◌-◌, ◌^◌, ◌<◌, ◌≤◌, ◌⊎◌, Bool, true, false, List, length, get_or, Option, Some, None}
use Rattle.first_items.specs.Chains.{AreLinked}

-- side z is taken, or its third position is the one to skip
abbrev pub IsPassed : List ℕ → List Bool → ℕ → ℕ → Type 0
IsPassed thirds taken skip z = (get_or taken z false ≡ true) ⊎ (get_or thirds z 0 ≡ skip)

-- from a side on, the first side of its class that isn't passed
pub record IsFirstLeft (classes thirds : List ℕ) (taken : List Bool) (from skip found : ℕ) : Type 0 where
  pub later : from ≤ found
  pub same : from < length classes → found < length classes → get_or classes found 0 ≡ get_or classes from 0
  pub passed : (z : ℕ) → from ≤ z → z < found → z < length classes → get_or classes z 0 ≡ get_or classes from 0 →
      IsPassed thirds taken skip z
  pub left : found < length classes → (get_or taken found false ≡ false) × (get_or thirds found 0 ≢ skip)

-- the two places of each class: before the first all sides are taken; before the other those that are free have the third position
-- of the first
pub record ArePlaced (classes thirds : List ℕ) (taken : List Bool) (firsts others : List ℕ) (count : ℕ) : Type 0 where
  pub each_first : length firsts ≡ count
  pub each_other : length others ≡ count
  pub first_same : (c : ℕ) → c < count → get_or firsts c 0 < length classes → get_or classes (get_or firsts c 0) 0 ≡ c
  pub other_same : (c : ℕ) → c < count → get_or others c 0 < length classes → get_or classes (get_or others c 0) 0 ≡ c
  pub passed : (z : ℕ) → z < length classes → z < get_or firsts (get_or classes z 0) 0 → get_or taken z false ≡ true
  pub alike : (z : ℕ) → z < length classes → z < get_or others (get_or classes z 0) 0 → get_or taken z false ≡ false →
      get_or thirds z 0 ≡ get_or thirds (get_or firsts (get_or classes z 0) 0) 0

-- the least free side of a class
pub record IsFirstFree (classes : List ℕ) (taken : List Bool) (class found : ℕ) : Type 0 where
  pub same : found < length classes → get_or classes found 0 ≡ class
  pub free : found < length classes → get_or taken found false ≡ false
  pub taken_before : (z : ℕ) → z < found → z < length classes → get_or classes z 0 ≡ class → get_or taken z false ≡ true

-- the least free side of a class with another third position than one
pub record IsFirstOther (classes thirds : List ℕ) (taken : List Bool) (class third found : ℕ) : Type 0 where
  pub same : found < length classes → get_or classes found 0 ≡ class
  pub free : found < length classes → get_or taken found false ≡ false
  pub other : found < length classes → get_or thirds found 0 ≢ third
  pub alike_before : (z : ℕ) → z < found → z < length classes → get_or classes z 0 ≡ class → get_or taken z false ≡ false →
      get_or thirds z 0 ≡ third

-- a free side of a class with another third position
pub record IsFreeOther (classes thirds : List ℕ) (taken : List Bool) (class third z : ℕ) : Type 0 where
  pub same : get_or classes z 0 ≡ class
  pub free : get_or taken z false ≡ false
  pub other : get_or thirds z 0 ≢ third

-- the least such side below a number, or that there is none
abbrev pub IsChosen : List ℕ → List ℕ → List Bool → ℕ → ℕ → ℕ → Option ℕ → Type 0
IsChosen classes thirds taken class third before None = (z : ℕ) → z < before → IsFreeOther classes thirds taken class third z → ⊥
IsChosen classes thirds taken class third before (Some x) =
    (x < before) × IsFreeOther classes thirds taken class third x × ((z : ℕ) → z < x → IsFreeOther classes thirds taken class third z → ⊥)

-- what is known of the sides: the classes are below their count and linked, and third positions are numbers of corners
pub record AreKnown (classes thirds nexts : List ℕ) (count : ℕ) : Type 0 where
  pub each_third : length thirds ≡ length classes
  pub linked : AreLinked classes nexts 0
  pub below : (x : ℕ) → x < length classes → get_or classes x 0 < count
  pub few : length classes < 2 ^ 32 - 1
  pub third_below : (x : ℕ) → x < length classes → get_or thirds x 0 < 2 ^ 32 - 1
