-- What a sink keeps (this project's choice).
use Rattle.std.specs.Prelude.{◌≡◌, ℕ, Bool, true, false, List, ◌++◌, Option, Result, Ok, Err}
use Rattle.std.specs.Io.KnownBytes.{Appends}

-- whether a sink is finished, after a `put`
abbrev pub finished_after_put : {A E : Type 0} → Bool → Result A E → Bool
finished_after_put finished (Ok n) = false
finished_after_put finished (Err e) = finished

-- whether a sink is finished, after a `finish`
abbrev pub finished_after_finish : {A E : Type 0} → Bool → Result A E → Bool
finished_after_finish finished (Ok u) = true
finished_after_finish finished (Err e) = finished

-- a prefix of these bytes was appended
pub record AppendsPrefix (held held' : Option (List ℕ)) (bytes : List ℕ) : Type 0 where
  pub prefix : List ℕ
  pub rest : List ℕ
  pub split : bytes ≡ prefix ++ rest
  pub appended : Appends held held' prefix
