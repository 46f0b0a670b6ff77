-- What stands under the limits of a profile alone is the same in each profile of these limits.
use Rattle.std.proofs.Common.{◌≡◌, ℕ, refl}
use Rattle.drc_base.specs.Profile.{profile, profile_numbered}
use Rattle.drc_bits.specs.Reading.{Reading}
use Rattle.seq_section.specs.Indices.{indices_opening_at, indices_at}
use Rattle.eb_section.specs.Opening.{opening_at}
use Rattle.eb_section.specs.Connectivity.{connectivity_at}

pub indices_alike : (n : ℕ) (c : Reading) → indices_at (profile_numbered n) c ≡ indices_at profile c
unfolding indices_at indices_opening_at
indices_alike n c = refl

pub connectivity_alike : (n : ℕ) (c : Reading) → connectivity_at (profile_numbered n) c ≡ connectivity_at profile c
unfolding connectivity_at opening_at
connectivity_alike n c = refl
