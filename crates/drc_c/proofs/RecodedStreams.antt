-- What recoding a stream gives, by its steps.
use Rattle.std.proofs.Common.{◌≡◌, ℕ, List, map, Ok, refl}
use Rattle.std.specs.Prelude.{IsOkAnd}
use Rattle.drc_base.specs.Profile.{Profile}
use Rattle.mesh_model.specs.Same.{Rows}
use Rattle.drc_container.specs.declared.choice.choices.Choice.{Choice}
use Rattle.drc_container.specs.reading.Stream.{meaning_in}
use Rattle.drc_container.specs.writing.Encoded.{encoding_due, Means}
use Rattle.drc_container.specs.writing.Layout.{IsLaidOut}
use Rattle.drc_container.proofs.lemmas.reading.Parted.{parts}
use Rattle.drc_recode.specs.Recoded.{recoded_in}
use Rattle.drc_c.specs.declared.streams.DrcRow.{DrcRow}
use Rattle.drc_c.specs.Recoded.{recoded_told, IsRecoding}
use Rattle.drc_c.specs.Streams.{row_told}

-- bytes and rows that are due of a stream, the rows as C has them, are a recoding
pub recoding-is : (p : Profile) (bytes : List ℕ) (choice : Choice) (written : List ℕ) (rows : Rows) (told : List DrcRow) →
    recoded_in p bytes choice ≡ Ok (written, rows) → told ≡ map row_told rows →
    IsOkAnd (meaning_in p bytes) (λ g. Means g choice written rows) → IsOkAnd (meaning_in p bytes) (λ g. IsLaidOut g choice written) →
    IsRecoding p bytes choice written told
unfolding recoded_told
recoding-is p bytes choice written rows told due are means layout =
    let read = parts (meaning_in p bytes) (λ g. encoding_due g choice) (written, rows) due in
    let coded : encoding_due read.0 choice ≡ Ok (written, rows) = read.2 in
    record {
      exact = rw (read.1, coded, are) refl;
      geometry = read.0;
      read = read.1;
      rows = rows;
      rows_are = are;
      means = rw read.1 at means;
      layout = rw read.1 at layout;
    }
