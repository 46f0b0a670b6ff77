-- Sources and sinks in memory whose every call is known (this project's choice).
use Rattle.std.specs.Prelude.{ℕ, ◌-◌, Bool, true, false, ◌==◌, min, List, ◌++◌, length, take, drop, if◌then◌else◌, ◌||◌}
use Rattle.std.specs.List.{list_any}
use Rattle.drc_base.specs.Counters.{counted}

-- a source in memory: the bytes left, how many a call gives at most, the numbers of the calls that fail,
-- and what came so far
pub record MemSourceState : Type 0 where
  pub rest : List ℕ
  pub piece : ℕ
  pub fails : List ℕ
  pub calls : ℕ
  pub ended : Bool
  pub given : ℕ
  pub faults : ℕ

-- a sink in memory: the bytes held, how many a call keeps at most, the room, the numbers of the calls that
-- fail, and what came so far
pub record MemSinkState : Type 0 where
  pub held : List ℕ
  pub piece : ℕ
  pub room : ℕ
  pub fails : List ℕ
  pub calls : ℕ
  pub finished : Bool
  pub faults : ℕ

-- whether the call of this number is one that fails
abbrev pub is_failing : List ℕ → ℕ → Bool
is_failing fails call = list_any (λ n. n == call) fails

-- how many bytes a `take` with this room gives
abbrev pub take_length : MemSourceState → ℕ → ℕ
take_length s room = min (min s.piece room) (length s.rest)

-- how many bytes of a piece of this length a `put` keeps
abbrev pub put_length : MemSinkState → ℕ → ℕ
put_length s len = min (min s.piece len) (s.room - length s.held)

-- a source after a `take` with this room
unfoldable pub after_take : MemSourceState → ℕ → MemSourceState
after_take s room =
    if is_failing s.fails s.calls
    then record s { calls = counted s.calls 1; ended = false; faults = counted s.faults 1 }
    else record s {
      rest = drop (take_length s room) s.rest;
      calls = counted s.calls 1;
      ended = take_length s room == 0;
      given = counted s.given (take_length s room);
    }

-- whether a `put` fails: by its number, or since no room is left
abbrev pub is_put_failing : MemSinkState → Bool
is_put_failing s = is_failing s.fails s.calls || (s.room - length s.held == 0)

-- a sink after a `put` of this piece
unfoldable pub after_put : MemSinkState → List ℕ → MemSinkState
after_put s piece =
    if is_put_failing s
    then record s { calls = counted s.calls 1; faults = counted s.faults 1 }
    else record s
    { held = s.held ++ take (put_length s (length piece)) piece; calls = counted s.calls 1; finished = false }

-- a sink after a `finish`
unfoldable pub after_finish : MemSinkState → MemSinkState
after_finish s =
    if is_failing s.fails s.calls
    then record s { calls = counted s.calls 1; faults = counted s.faults 1 }
    else record s { calls = counted s.calls 1; finished = true }
