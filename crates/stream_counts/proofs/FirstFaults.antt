-- The first fault of what a stream declares before its data is the first fault of the stream.
use Rattle.drc_base.specs.Profile.{Profile}
use Rattle.std.proofs.Common.{◌≡◌, ℕ, List, Result, Ok, Err, refl, sym, ap}
use Rattle.drc_base.specs.declared.faults.Fault.{Fault}
use Rattle.drc_base.specs.Steps.{◌>>=◌}
use Rattle.drc_bits.specs.Reading.{Reading, Item, start_of}
use Rattle.drc_bits.proofs.Results.{err≢ok, Err-injective}
use Rattle.seq_section.specs.Indices.{indices_opening_at, indices_at}
use Rattle.eb_section.specs.Opening.{opening_at}
use Rattle.eb_section.specs.Connectivity.{connectivity_at}
use Rattle.drc_container.specs.Header.{header_at, cloud_points_at}
use Rattle.drc_container.specs.declared.headers.Form.{Form}
use Rattle.drc_container.specs.declared.headers.Form.TheVariants as form
use Rattle.stream_counts.specs.Counts.{sequential_counts_at, edgebreaker_counts_at, cloud_counts_at, form_counts_at, counts_declared_in}
use Rattle.drc_container.specs.reading.Stream.{mesh_at, cloud_at, edgebreaker_at, body_at, stream_in, meaning_in}

-- what is made of a value has the fault that the value has
made-fault : {A B : Type 0} (r : Result A Fault) (g : A → B) (f : Fault) → (r >>= λ x. Ok (g x)) ≡ Err f → r ≡ Err f
made-fault (Ok x) g f is = absurd (err≢ok (sym is))
made-fault (Err e) g f is = ap Err (Err-injective is)

sequential-fault : (p : Profile) (c : Reading) (f : Fault) → sequential_counts_at p c ≡ Err f → mesh_at p c ≡ Err f
unfolding sequential_counts_at mesh_at indices_at
sequential-fault p c f is = rw (made-fault (indices_opening_at p c) _ f is) refl

edgebreaker-fault : (p : Profile) (c : Reading) (f : Fault) → edgebreaker_counts_at p c ≡ Err f → edgebreaker_at p c ≡ Err f
unfolding edgebreaker_counts_at edgebreaker_at connectivity_at
edgebreaker-fault p c f is = rw (made-fault (opening_at p c) _ f is) refl

cloud-fault : (p : Profile) (c : Reading) (f : Fault) → cloud_counts_at p c ≡ Err f → cloud_at p c ≡ Err f
unfolding cloud_counts_at cloud_at
cloud-fault p c f is = rw (made-fault (cloud_points_at p c) _ f is) refl

form-fault : (p : Profile) (said : Form) (c : Reading) (f : Fault) → form_counts_at p said c ≡ Err f → body_at p said c ≡ Err f
form-fault p form.SequentialMesh c f is = sequential-fault p c f is
form-fault p form.EdgebreakerMesh c f is = edgebreaker-fault p c f is
form-fault p form.Cloud c f is = cloud-fault p c f is

-- behind a header, read or not
behind-fault : (p : Profile) (header : Item Form) (f : Fault) → (header >>= λ h. form_counts_at p h.0 h.1 >>= λ n. Ok n.0) ≡ Err f
    → (header >>= λ h. body_at p h.0 h.1) ≡ Err f
behind-fault p (Ok h) f is = form-fault p h.0 h.1 f (made-fault (form_counts_at p h.0 h.1) _ f is)
behind-fault p (Err e) f is = ap Err (Err-injective is)

pub declared_fault : (p : Profile) (bytes : List ℕ) (f : Fault) → counts_declared_in p bytes ≡ Err f → meaning_in p bytes ≡ Err f
unfolding counts_declared_in stream_in
declared_fault p bytes f is = rw (behind-fault p (header_at (start_of bytes)) f is) refl
