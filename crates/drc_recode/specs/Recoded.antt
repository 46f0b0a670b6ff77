-- A stream written in another way (this project's choice).
use Rattle.std.specs.Prelude.{ℕ, List, Result}
use Rattle.drc_base.specs.declared.faults.Fault.{Fault}
use Rattle.drc_base.specs.Profile.{Profile, profile}
use Rattle.drc_base.specs.Steps.{◌>>=◌}
use Rattle.mesh_model.specs.Same.{Rows}
use Rattle.drc_container.specs.declared.choice.choices.Choice.{Choice}
use Rattle.drc_container.specs.writing.Encoded.{encoding_due}
use Rattle.drc_container.specs.reading.Stream.{meaning_in}

-- the bytes and rows that are due of the geometry that bytes mean in a profile; or the first fault of these bytes, or why it isn't
-- encoded as chosen
abbrev pub recoded_in : Profile → List ℕ → Choice → Result (List ℕ × Rows) Fault
recoded_in p bytes choice = meaning_in p bytes >>= λ g. encoding_due g choice

-- the same in the profile of decoding
abbrev pub recoded : List ℕ → Choice → Result (List ℕ × Rows) Fault
recoded bytes choice = recoded_in profile bytes choice
