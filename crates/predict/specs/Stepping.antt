-- Values one after another, by a prediction that may take flags or fail at each (Draco Bitstream Specification 2.2, section
-- "Prediction Decoder").
use Rattle.std.specs.Prelude.{List, [], ◌∷◌, ◌++◌, Result, Ok}
use Rattle.drc_base.specs.Steps.{◌>>=◌}

-- a step of a prediction: from the values before and the flags that are left, what it predicts and the flags that are left then, or why
-- it predicts nothing
abbrev pub Step : Type 0 → Type 0 → Type 0 → Type 0
Step V F E = List V → F → Result (V × F) E

-- the step of a function of the values before, which takes no flags
abbrev pub step_by : {V F E : Type 0} → (List V → V) → Step V F E
step_by f before flags = Ok (f before, flags)

-- these values, and those that corrections restore behind them, where a move takes a prediction and a correction to the value
unfoldable pub restored_by : {V F E : Type 0} → Step V F E → (V → V → V) → List V → F → List V → Result (List V) E
restored_by step move before flags [] = Ok before
restored_by step move before flags (c ∷ corrections) =
    step before flags >>= λ x. restored_by step move (before ++ move x.0 c ∷ []) x.1 corrections

-- an item in front of others
abbrev pub in_front : {V E : Type 0} → V → List V → Result (List V) E
in_front x xs = Ok (x ∷ xs)

-- the corrections of values behind those before them, where the way back of a move takes a prediction and a value to the correction
unfoldable pub corrected_by : {V F E : Type 0} → Step V F E → (V → V → V) → List V → F → List V → Result (List V) E
corrected_by step back before flags [] = Ok []
corrected_by step back before flags (v ∷ values) =
    step before flags >>= λ x. corrected_by step back (before ++ v ∷ []) x.1 values >>= in_front (back x.0 v)
