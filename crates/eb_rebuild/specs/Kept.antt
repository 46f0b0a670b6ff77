-- The lists that a rebuilding keeps, as the machine reads them: the code's own, from no source.
use Rattle.std.specs.Prelude.{◌≡◌, ◌≢◌, ℕ, zero, suc, ◌-◌, ◌*◌, ◌<◌, false, List, [], ◌∷◌, length, get_or, set, replicate, All, Option}
use Rattle.std.specs.Prelude.{Some, None}
use Rattle.std.specs.List.{Contains}
use Rattle.std.specs.List.Sorted.{IsStrictlyIncreasing}
use Rattle.corner_table.specs.declared.symbols.Event.{Event}
use Rattle.corner_table.specs.Sides.{Side}
use Rattle.corner_table.specs.Table.{other_at, free_entry}

-- the first n items, the last first
abbrev pub counted_down : {A : Type 0} → A → ℕ → List A → List A
counted_down d zero xs = []
counted_down d (suc n) xs = get_or xs n d ∷ counted_down d n xs

-- an event that stands for none
abbrev pub no_event : Event
no_event = record { source = 0; split = 0; right = false }

-- a stack of side numbers, the top first, and how many it has room for
pub record StackValue : Type 0 where
  pub sides : List ℕ
  pub room : ℕ

-- the sides kept by symbol number, and the symbols for which there is room
pub record KeptValue : Type 0 where
  pub sides : List ℕ
  pub numbers : List ℕ

-- n entries: those of the numbers have the sides beside these, and the others have none
abbrev pub spread : ℕ → List ℕ → List ℕ → List ℕ
spread n [] sides = replicate n free_entry
spread n (k ∷ numbers) [] = replicate n free_entry
spread n (k ∷ numbers) (x ∷ sides) = set (spread n numbers sides) k x

-- numbers of n symbols, which rise, and an entry beside each
pub record AreBeside (n : ℕ) (numbers sides : List ℕ) : Type 0 where
  pub rise : IsStrictlyIncreasing numbers
  pub below : All (λ k. k < n) numbers
  pub long : length sides ≡ length numbers

-- a number that isn't in a list
abbrev pub Lacks : List ℕ → ℕ → Type 0
Lacks numbers k = (i : ℕ) → i < length numbers → get_or numbers i 0 ≢ k

-- of n symbols the one for which an event keeps a side, by its number in the order of decoding
abbrev pub split_number : ℕ → Event → ℕ
split_number n e = n - 1 - e.split

-- there is room for the side that an event keeps
abbrev pub HasRoomFor : List ℕ → ℕ → Event → Type 0
HasRoomFor numbers n e = Contains numbers (split_number n e)

-- the sides kept by symbol number, and the events left, the last first
pub record SplitsValue : Type 0 where
  pub kept : List ℕ
  pub events : List Event

-- the side kept for a symbol
abbrev pub kept_in : List ℕ → ℕ → Option Side
kept_in kept k = other_at (get_or kept k free_entry)

-- each number is one of a side of the faces below a number
abbrev pub AreSidesBelow : ℕ → List ℕ → Type 0
AreSidesBelow faces [] = Unit {0}
AreSidesBelow faces (x ∷ xs) = (x < 3 * faces) × AreSidesBelow faces xs

-- each side that is kept is one of the faces below a number
abbrev pub AreKeptBelow : ℕ → List ℕ → Type 0
AreKeptBelow faces kept = (k : ℕ) → get_or kept k free_entry ≢ free_entry → get_or kept k free_entry < 3 * faces

-- the first of a list of side numbers
abbrev pub first_side : List ℕ → Option ℕ
first_side [] = None
first_side (x ∷ xs) = Some x
