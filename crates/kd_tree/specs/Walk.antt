-- The walk of writing: boxes that wait, one behind another.
use Rattle.std.specs.Prelude.{ℕ, zero, suc, ◌+◌, ◌-◌, ◌≤◌, Bool, List, [], ◌∷◌, ◌++◌, length, take, drop}
use Rattle.kd_tree.specs.Keys.{Key}
use Rattle.kd_tree.specs.Trees.{split_bits, rest_bits, IsSettled}
use Rattle.kd_tree.specs.declared.writing.Due.{Due}

-- the keys from `begin` up to `end`
abbrev pub part : ℕ → ℕ → List Key → List Key
part begin end keys = take (end - begin) (drop begin keys)

-- the split bits of boxes that are due, the first of which begins at `begin`, each other one where the one before it ends
abbrev pub splits_due : ℕ → List Key → ℕ → List Due → List Bool
splits_due depth keys begin [] = []
splits_due depth keys begin (due ∷ rest) =
    split_bits (depth - due.depth) due.depth (part begin due.end keys) ++ splits_due depth keys due.end rest

-- their rest bits
abbrev pub rests_due : ℕ → List Key → ℕ → List Due → List Bool
rests_due depth keys begin [] = []
rests_due depth keys begin (due ∷ rest) =
    rest_bits (depth - due.depth) due.depth (part begin due.end keys) ++ rests_due depth keys due.end rest

-- they are settled boxes of the keys, one behind another
abbrev pub AreDue : ℕ → List Key → ℕ → List Due → Type 0
AreDue depth keys begin [] = Unit {0}
AreDue depth keys begin (due ∷ rest) =
    (begin ≤ due.end) × (due.end ≤ length keys) × (due.depth ≤ depth)
    × IsSettled (depth - due.depth) due.depth (part begin due.end keys) × AreDue depth keys due.end rest

-- the boxes that a box with so many bits to come may fall into, and itself
unfoldable pub nodes : ℕ → ℕ
nodes zero = 1
nodes (suc n) = nodes n + nodes n + 1

-- the same of all boxes that are due
abbrev pub nodes_due : ℕ → List Due → ℕ
nodes_due depth [] = 0
nodes_due depth (due ∷ rest) = nodes (depth - due.depth) + nodes_due depth rest
