-- Items that are distinguished by two entries have the first one with theirs as a number (this project's choice).
use Rattle.std.specs.Prelude.{◌≡◌, ℕ, ◌+◌, ◌<◌, ◌≤◌, List, length, get_or}

-- v is the first item with both entries of item x
pub record IsFirstWith (firsts seconds : List ℕ) (x v : ℕ) : Type 0 where
  pub no_later : v ≤ x
  pub first : get_or firsts v 0 ≡ get_or firsts x 0
  pub second : get_or seconds v 0 ≡ get_or seconds x 0
  pub none_before : (z : ℕ) → z < v → get_or firsts z 0 ≡ get_or firsts x 0 → get_or seconds z 0 ≡ get_or seconds x 0 → ⊥

-- each item has the first one like it
pub record AreFirstItems (firsts seconds numbers : List ℕ) : Type 0 where
  pub each : length numbers ≡ length firsts
  pub first_is : (x : ℕ) → x < length firsts → IsFirstWith firsts seconds x (get_or numbers x 0)

-- items have one number exactly where both lists have one entry each for them
pub record AreNumbered (firsts seconds numbers : List ℕ) (count : ℕ) : Type 0 where
  pub each : length numbers ≡ length firsts
  pub below : (i : ℕ) → i < length firsts → get_or numbers i 0 < count
  pub alike : (i j : ℕ) → i < length firsts → j < length firsts → get_or firsts i 0 ≡ get_or firsts j 0 →
      get_or seconds i 0 ≡ get_or seconds j 0 → get_or numbers i 0 ≡ get_or numbers j 0
  pub apart : (i j : ℕ) → i < length firsts → j < length firsts → get_or numbers i 0 ≡ get_or numbers j 0 →
      (get_or firsts i 0 ≡ get_or firsts j 0) × (get_or seconds i 0 ≡ get_or seconds j 0)

-- items whose first entry is below `list` have their numbers
abbrev pub AreNumberedBelow : List ℕ → List ℕ → List ℕ → ℕ → Type 0
AreNumberedBelow firsts seconds numbers list = (x : ℕ) → x < length firsts → get_or firsts x 0 < list →
    IsFirstWith firsts seconds x (get_or numbers x 0)

-- items whose first entry isn't below `list` still have their second entries
abbrev pub AreSecondsFrom : List ℕ → List ℕ → List ℕ → ℕ → Type 0
AreSecondsFrom firsts seconds numbers list = (x : ℕ) → x < length firsts → list ≤ get_or firsts x 0 →
    get_or numbers x 0 ≡ get_or seconds x 0

-- what is kept for each second entry is an item that has it, and whose first entry is below `list`, or no item
pub record AreKept (firsts seconds kept : List ℕ) (list : ℕ) : Type 0 where
  pub second : (b : ℕ) → b < length kept → get_or kept b 0 < length firsts → get_or seconds (get_or kept b 0) 0 ≡ b
  pub first : (b : ℕ) → b < length kept → get_or kept b 0 < length firsts → get_or firsts (get_or kept b 0) 0 < list

-- the same in the midst of the items whose first entry is `list`: what is kept of these are first items before `at`, one for each second
-- entry that they have
pub record AreKeptTo (firsts seconds kept : List ℕ) (list at : ℕ) : Type 0 where
  pub below : AreKept firsts seconds kept (list + 1)
  pub before : (b : ℕ) → b < length kept → get_or kept b 0 < length firsts → get_or firsts (get_or kept b 0) 0 ≡ list → get_or kept b 0 < at
  pub least : (b : ℕ) → b < length kept → get_or kept b 0 < length firsts → get_or firsts (get_or kept b 0) 0 ≡ list →
      IsFirstWith firsts seconds (get_or kept b 0) (get_or kept b 0)
  pub known : (x : ℕ) → x < length firsts → x < at → get_or firsts x 0 ≡ list →
      (get_or kept (get_or seconds x 0) 0 < length firsts) × (get_or firsts (get_or kept (get_or seconds x 0) 0) 0 ≡ list)
