-- The walk of reading: the current box, and upper boxes that wait (this project's choice).
use Rattle.std.specs.Prelude.{◌≡◌, ℕ, ◌+◌, ◌-◌, ◌<◌, ◌≤◌, true, false, List, [], ◌∷◌, ◌++◌, length, take}
use Rattle.std.specs.Prelude.{Option, Some, None, Result, Ok, Err}
use Rattle.drc_base.specs.declared.faults.Fault.{Fault}
use Rattle.drc_base.specs.declared.faults.Refusal.{Refusal}
use Rattle.drc_base.specs.declared.faults.Refusal.TheVariants as refusal
use Rattle.drc_base.specs.Steps.{◌>>=◌}
use Rattle.drc_base.specs.Refusals.{Refuses}
use Rattle.rans_binary.specs.Blocks.{Block, behind, first_bits}
use Rattle.kd_tree.specs.Keys.{Key}
use Rattle.drc_bits.specs.Digits.{digits}
use Rattle.kd_tree.specs.Reading.{Streams, boxes_of, number_behind}
use Rattle.kd_tree.specs.Walk.{nodes}
use Rattle.kd_tree.specs.declared.reading.Pending.{Pending}

-- the keys so far, and those of the boxes that wait
abbrev pub waiting : Fault → ℕ → Key → List Pending → List Key → Streams → Result (List Key × Streams) Fault
waiting fault depth path [] keys s = Ok (keys, s)
waiting fault depth path (p ∷ rest) keys s =
    boxes_of fault (depth - (p.depth + 1)) p.count (take p.depth path ++ true ∷ []) s >>= λ x.
    waiting fault depth path rest (keys ++ x.0) x.1

-- the keys so far, those of the current box, and those of the boxes that wait
abbrev pub going : Fault → ℕ → ℕ → Key → List Pending → List Key → Streams → Result (List Key × Streams) Fault
going fault depth n path stack keys s =
    boxes_of fault (depth - length path) n path s >>= λ x. waiting fault depth path stack (keys ++ x.0) x.1

-- each box that waits is less deep than those above it
abbrev pub AreNested : ℕ → List Pending → Type 0
AreNested deep [] = Unit {0}
AreNested deep (p ∷ rest) = (p.depth < deep) × AreNested p.depth rest

-- what is due after a turn: that of the box that comes next, if there is one, or the keys
abbrev pub IsDueNext : Fault → ℕ → Result (List Key × Streams) Fault → Key → List Pending → List Key → Streams → Option ℕ → Type 0
IsDueNext fault depth due path stack keys s (Some n) =
    (due ≡ going fault depth n path stack keys s) × (length path ≤ depth) × AreNested (length path) stack
IsDueNext fault depth due path stack keys s None = due ≡ Ok (keys, s)

-- a turn keeps what is due, or gives the fault that is due
abbrev pub IsTurned : Fault → ℕ → Result (List Key × Streams) Fault → Key → List Pending → List Key → Streams
    → Result (Option ℕ) Refusal → Type 0
IsTurned fault depth due path stack keys s (Ok next) = IsDueNext fault depth due path stack keys s next
IsTurned fault depth due path stack keys s (Err e) = Refuses due e

-- the boxes that those that wait may fall into, and themselves
abbrev pub nodes_waiting : ℕ → List Pending → ℕ
nodes_waiting depth [] = 0
nodes_waiting depth (p ∷ rest) = nodes (depth - (p.depth + 1)) + nodes_waiting depth rest

-- at most so many turns are left
abbrev pub turns_left : ℕ → Key → List Pending → Option ℕ → ℕ
turns_left depth path stack None = 0
turns_left depth path stack (Some n) = nodes (depth - length path) + nodes_waiting depth stack

-- after a turn fewer are left
abbrev pub IsFewer : ℕ → ℕ → Key → List Pending → Result (Option ℕ) Refusal → Type 0
IsFewer before depth path stack (Ok next) = turns_left depth path stack next < before
IsFewer before depth path stack (Err e) = Unit {0}

-- the box that is taken from those that wait: its count, the path to it, and the others; none where none waits
abbrev pub IsTaken : Key → List Pending → Key → List Pending → Option ℕ → Type 0
IsTaken path [] after left next = next ≡ None
IsTaken path (p ∷ rest) after left next = (next ≡ Some p.count) × (after ≡ take p.depth path ++ true ∷ []) × (left ≡ rest)

-- a lower box is refused with this fault where it has more keys than the box
abbrev pub IsBoxRefused : Fault → ℕ → ℕ → Refusal → Type 0
IsBoxRefused fault n number (refusal.Fault f) = (f ≡ fault) × (n < number)
IsBoxRefused fault n number refusal.Memory = Unit {0}

-- the number of the next split bits of a box of n keys
abbrev pub low_count : ℕ → Block → ℕ
low_count n split = number_behind 0 (first_bits (digits n) split)

-- from a box of n keys down into its lower box, while its upper box waits; or it is refused
abbrev pub IsDescended : Fault → ℕ → Block → Key → List Pending → Block → Key → List Pending → Result (Option ℕ) Refusal → Type 0
IsDescended fault n split path stack split' path' stack' (Ok next) =
    (low_count n split ≤ n) × (next ≡ Some (low_count n split)) × (split' ≡ behind (digits n) split) × (path' ≡ path ++ false ∷ [])
    × (stack' ≡ record { count = n - low_count n split; depth = length path } ∷ stack)
IsDescended fault n split path stack split' path' stack' (Err e) = IsBoxRefused fault n (low_count n split) e
