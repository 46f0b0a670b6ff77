-- Values from corrections, each by a prediction from the values before (Draco Bitstream Specification 2.2, section
-- "Prediction Decoder").
use Rattle.std.specs.Prelude.{ℕ, ◌-◌, ℤ, pos, List, [], ◌∷◌, ◌++◌, length, slice_index_or, nat_lt, if◌then◌else◌}
use Rattle.predict.specs.Wrap.{Range, restored_value, correction_of}

-- these values, and those that the corrections restore behind them
unfoldable pub restored_behind : (List ℤ → ℤ) → Range → List ℤ → List ℤ → List ℤ
restored_behind predicted r before [] = before
restored_behind predicted r before (c ∷ corrections) =
    restored_behind predicted r (before ++ restored_value r (predicted before) c ∷ []) corrections

-- the values that these corrections restore
abbrev pub restored : (List ℤ → ℤ) → Range → List ℤ → List ℤ
restored predicted r corrections = restored_behind predicted r [] corrections

-- the corrections of these values, behind the values before them
unfoldable pub corrections_behind : (List ℤ → ℤ) → Range → List ℤ → List ℤ → List ℤ
corrections_behind predicted r before [] = []
corrections_behind predicted r before (v ∷ values) =
    correction_of r (predicted before) v ∷ corrections_behind predicted r (before ++ v ∷ []) values

-- the corrections of these values
abbrev pub corrections : (List ℤ → ℤ) → Range → List ℤ → List ℤ
corrections predicted r values = corrections_behind predicted r [] values

-- the prediction by difference: the same component of the entry before, and 0 for the first entry
-- (Draco Bitstream Specification 2.2, section "Prediction Difference")
abbrev pub entry_before : ℕ → List ℤ → ℤ
entry_before comps before = if nat_lt (length before) comps then pos 0 else slice_index_or before (length before - comps) (pos 0)
