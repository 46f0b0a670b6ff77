-- What is written of connectivity is read as what it was made of, whatever follows it (this project's choice of words).
use Rattle.std.specs.Prelude.{ℕ, ◌^◌, ◌<◌, ◌≤◌, Bool, List, All, length}
use Rattle.drc_base.specs.declared.limits.TheConstants.{MAX_FACES, MAX_POINTS, MAX_ATTRIBUTES}
use Rattle.drc_base.specs.Profile.{profile}
use Rattle.drc_bits.specs.Spells.{Spells}
use Rattle.eb_trace.specs.declared.tracing.Traced.{Traced}
use Rattle.eb_trace.specs.Writable.{IsWritable}
use Rattle.eb_section.specs.Written.{connectivity_bytes}
use Rattle.eb_section.specs.ReadAgain.{IsReadAgain}
use Rattle.seq_section.specs.Indices.{indices_at, indices_bytes, IsFaceBelow}

-- the indices of faces beside so many points, packed or each by itself: the faces, and how many points there are
abbrev pub IndicesAreRead : Type 0
IndicesAreRead = (packed : Bool) (faces : List (List ℕ)) (points : ℕ) → length faces ≤ MAX_FACES → points ≤ MAX_POINTS
    → All (IsFaceBelow points) faces → Spells (indices_at profile) (indices_bytes packed faces points) (record { faces = faces; points = points })

-- the section of a trace of so many faces, with lists of seam bits, by either traversal: what the machine builds of the trace, and blocks
-- that begin with these bits
abbrev pub ConnectivityIsRead : Type 0
ConnectivityIsRead = (valence : Bool) (faces : ℕ) (t : Traced) (seams : List (List Bool))
    → IsWritable faces t.vertices t.symbols t.events t.starts → faces ≤ MAX_FACES → t.vertices ≤ MAX_POINTS
    → length seams ≤ MAX_ATTRIBUTES → All (λ bits. length bits < 2 ^ 31) seams
    → IsReadAgain valence faces t seams (connectivity_bytes valence faces t seams)
