-- Reports of streams as C has them (this project's choice).
use Rattle.std.specs.Prelude.{ℕ, List, [], ◌∷◌, ◌++◌, Result, Ok}
use Rattle.drc_base.specs.declared.faults.Fault.{Fault}
use Rattle.drc_base.specs.Profile.{Profile}
use Rattle.drc_base.specs.Steps.{◌>>=◌}
use Rattle.drc_info.specs.InfoText.{report_in}

-- the report of a stream and a zero behind it, or the stream's first fault
abbrev pub ended_report : Profile → List ℕ → Result (List ℕ) Fault
ended_report p bytes = report_in p bytes >>= λ text. Ok (text ++ 0 ∷ [])
