-- Reading the text of a renumbering at the front of any bytes (this project's choice).
use Rattle.std.specs.Prelude.{ℕ, zero, suc, ◌≡◌, ◌+◌, ◌-◌, ◌≤◌, Bool, true, false, List, [], ◌∷◌, length, drop, codes, nat_eq, nat_le, if◌then◌else◌}
use Rattle.std.specs.Prelude.{Option, None, Some, option_map, option_and_then, Result, Ok, Err}
use Rattle.std.specs.List.{starts_with}
use Rattle.drc_base.specs.declared.faults.Fault.{Fault}
use Rattle.drc_base.specs.declared.faults.Refusal.{Refusal}
use Rattle.drc_base.specs.declared.kinds.Kind.{Kind}
use Rattle.drc_base.specs.declared.kinds.Kind.TheVariants.{FaceLimit, PointLimit, MapForm}
use Rattle.drc_base.specs.declared.limits.TheConstants.{MAX_FACES, MAX_POINTS}
use Rattle.drc_base.specs.Refusals.{Refuses}
use Rattle.drc_base.specs.Steps.{◌>>=◌}
use Rattle.mesh_model.specs.declared.map_reading.MapRead.{MapRead}
use Rattle.mesh_model.specs.NumberText.{number_then}
use Rattle.mesh_model.specs.Same.{Rows}

-- whether the words that begin the text are those of a cloud, and what stands behind them
unfoldable pub words_then : List ℕ → Option (Bool × List ℕ)
words_then text =
    if starts_with nat_eq text (codes "map mesh ") then Some (false, drop 9 text)
    else (if starts_with nat_eq text (codes "map cloud ") then Some (true, drop 10 text) else None)

-- the first line: the words, the number of rows and LF
abbrev pub map_head_at : List ℕ → Option ((Bool × ℕ) × List ℕ)
map_head_at text =
    option_and_then (λ words. option_map (λ count. ((words.0, count.0), count.1)) (number_then 10 words.1)) (words_then text)

-- the line of a row: the face or point, a space, the turn, at most 2, and LF
abbrev pub map_row_at : List ℕ → Option ((ℕ × ℕ) × List ℕ)
map_row_at text =
    option_and_then (λ face.
    option_and_then (λ turn. if nat_le turn.0 2 then Some ((face.0, turn.0), turn.1) else None) (number_then 10 face.1))
    (number_then 32 text)

-- what a line holds, or MapForm at its number
abbrev pub line_or_fault : {A : Type 0} → ℕ → Option A → Result A Fault
line_or_fault line None = Err (record { kind = MapForm; at = line })
line_or_fault line (Some x) = Ok x

-- so many rows, the first of which stands in this line, and what stands behind them; or the first line that is none
unfoldable pub rows_at : ℕ → ℕ → List ℕ → Result (Rows × List ℕ) Fault
rows_at zero line text = Ok ([], text)
rows_at (suc count) line text =
    line_or_fault line (map_row_at text) >>= λ row. rows_at count (line + 1) row.1 >>= λ rows. Ok (row.0 ∷ rows.0, rows.1)

-- the most rows of a renumbering of clouds, or of meshes, and the fault where there are more
abbrev pub most_rows : Bool → ℕ
most_rows cloud = if cloud then MAX_POINTS else MAX_FACES

abbrev pub limit_kind : Bool → Kind
limit_kind cloud = if cloud then PointLimit else FaceLimit

-- the first line, with a number of rows that is within the limit
abbrev pub limited : (Bool × ℕ) × List ℕ → Result ((Bool × ℕ) × List ℕ) Fault
limited head = if nat_le head.0.1 (most_rows head.0.0) then Ok head else Err (record { kind = limit_kind head.0.0; at = 1 })

unfoldable pub limited_head_at : List ℕ → Result ((Bool × ℕ) × List ℕ) Fault
limited_head_at text = line_or_fault 1 (map_head_at text) >>= limited

-- the renumbering at the front of a text: the first line, then the line of each row. Its end is the number of bytes up to
-- what stands behind the last line. The first line that isn't such a line, or that is missing, is MapForm at its number
-- from 1; too many rows are a fault of line 1
unfoldable pub map_read : List ℕ → Result MapRead Fault
map_read text =
    limited_head_at text >>= λ head. rows_at head.0.1 2 head.1 >>= λ rows.
    Ok (record { cloud = head.0.0; rows = record { rows = rows.0 }; end = length text - length rows.1 })

-- a call that reads an item at a place of a text answers it, as contracts see it, with the place behind it, or the fault
-- that is due; running out of memory is free
abbrev pub GivesAt : {A B : Type 0} → (A → B) → List ℕ → Result (B × List ℕ) Fault → Result (A × ℕ) Refusal → Type 0
GivesAt view text item (Ok found) = (item ≡ Ok (view found.0, drop found.1 text)) × (found.1 ≤ length text)
GivesAt view text item (Err e) = Refuses item e
