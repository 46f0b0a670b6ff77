-- What a stream declares before its data (Draco Bitstream Specification 2.2, sections "Header", "Sequential Connectivity" and
-- "Edgebreaker Connectivity"; the stream of clouds is this project's choice).
use Rattle.std.specs.Prelude.{◌≡◌, ℕ, true, false, List, Result, Ok, Err}
use Rattle.drc_base.specs.declared.faults.Fault.{Fault}
use Rattle.drc_base.specs.Profile.{Profile}
use Rattle.drc_base.specs.Steps.{◌>>=◌}
use Rattle.drc_bits.specs.Reading.{Reading, Item, start_of}
use Rattle.seq_section.specs.Indices.{indices_opening_at}
use Rattle.eb_section.specs.Opening.{opening_at}
use Rattle.drc_container.specs.Header.{header_at, cloud_points_at}
use Rattle.drc_container.specs.declared.headers.Form.{Form}
use Rattle.drc_container.specs.declared.headers.Form.TheVariants as form
use Rattle.drc_container.specs.reading.Stream.{meaning_in}
use Rattle.stream_counts.specs.declared.counts.DeclaredCounts.{DeclaredCounts}

-- what a sequential mesh declares behind its header: the faces and points that open its indices
unfoldable pub sequential_counts_at : Profile → Reading → Item DeclaredCounts
sequential_counts_at p c = do
  o ← indices_opening_at p c
  Ok (record { mesh = true; faces = o.0.faces; points = o.0.points }, o.1)

-- what an Edgebreaker mesh declares behind its header: the faces and vertices that open its connectivity
unfoldable pub edgebreaker_counts_at : Profile → Reading → Item DeclaredCounts
edgebreaker_counts_at p c = do
  o ← opening_at p c
  Ok (record { mesh = true; faces = o.0.faces; points = o.0.vertices }, o.1)

-- what a cloud declares behind its header: its points
unfoldable pub cloud_counts_at : Profile → Reading → Item DeclaredCounts
cloud_counts_at p c = do
  points ← cloud_points_at p c
  Ok (record { mesh = false; faces = 0; points = points.0 }, points.1)

-- what is declared behind a header of this form
abbrev pub form_counts_at : Profile → Form → Reading → Item DeclaredCounts
form_counts_at p form.SequentialMesh c = sequential_counts_at p c
form_counts_at p form.EdgebreakerMesh c = edgebreaker_counts_at p c
form_counts_at p form.Cloud c = cloud_counts_at p c

-- what a stream declares in a profile before its data, or the first fault of its header and of what opens its connectivity
unfoldable pub counts_declared_in : Profile → List ℕ → Result DeclaredCounts Fault
counts_declared_in p bytes = do
  header ← header_at (start_of bytes)
  counts ← form_counts_at p header.0 header.1
  Ok counts.0

-- the first fault of what a stream declares is the first fault of the stream
abbrev pub DeclaredFaultsComeFirst : Type 0
DeclaredFaultsComeFirst = (p : Profile) (bytes : List ℕ) (f : Fault) → counts_declared_in p bytes ≡ Err f → meaning_in p bytes ≡ Err f
