-- Rows that are looked at by counted calls alone (this project's choice).
use Rattle.std.specs.Prelude.{ℕ, ◌≡◌, ◌+◌, ◌*◌, ◌<◌, List, ℤ, [], length, slice_index_or}
use Rattle.mesh_model.specs.declared.counted_rows.TheConstants.{PAIRS_A_ROW, MORE_PAIRS}

-- rows of `width` integers each
pub record RowTable : Type 0 where
  pub rows : List (List ℤ)
  pub width : ℕ
  pub count : ℕ

-- such rows, and how they were looked at so far: pairs of them that were compared, no more of which may be compared than
-- `most`, and passes, each of which looks once at each row
pub record LookedAt : Type 0 where
  pub table : RowTable
  pub pairs : ℕ
  pub most : ℕ
  pub passes : ℕ

-- as many pairs more as `count` rows may take
abbrev pub pairs_allowed : ℕ → ℕ → ℕ
pairs_allowed pairs count = pairs + (PAIRS_A_ROW * count + MORE_PAIRS)

-- each row has as many integers
abbrev pub AreWide : RowTable → Type 0
AreWide table = (p : ℕ) → p < table.count → length (slice_index_or table.rows p []) ≡ table.width
