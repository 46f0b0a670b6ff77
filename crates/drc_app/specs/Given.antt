-- What a command gives from the bytes of its input (this project's choice).
use Rattle.std.specs.Prelude.{ℕ, List}
use Rattle.drc_verify.specs.declared.verdicts.Verdict.{Verdict}

-- an output and a note; or, of `verify`, a verdict that isn't yes, whose note is left alone
pub data Given : Type 0 where
  Written : List ℕ × List ℕ → Given
  Differs : Verdict → Given
