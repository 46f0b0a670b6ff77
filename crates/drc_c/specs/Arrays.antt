-- Arrays of the caller (this project's choice).
use Rattle.std.specs.Prelude.{List, [], ◌∷◌, ◌++◌, ◌<◌, take, drop, length}

-- an array whose front is these items; what lies behind them is as before
abbrev pub filled : {A : Type 0} → List A → List A → List A
filled items room = items ++ drop (length items) room

-- the same of an array that may be left out: one without room stays so
abbrev pub filled_unless_empty : {A : Type 0} → List A → List A → List A
filled_unless_empty items [] = []
filled_unless_empty items (first ∷ room) = filled items (first ∷ room)

-- an array that isn't left out is too short for these items
abbrev pub LacksRoomFor : {A : Type 0} → List A → List A → Type 0
LacksRoomFor items room = (0 < length room) × (length room < length items)

-- an array whose front is the first of these items, as many as it has room for
abbrev pub put_front : {A : Type 0} → List A → List A → List A
put_front items room = take (length room) items ++ drop (length items) room
