-- What a stream means in a profile that accepts more (this project's choice).
use Rattle.std.specs.Prelude.{◌≡◌, ◌≤◌, List, ℕ, Ok}
use Rattle.drc_base.specs.Profile.{Profile, profile_one, profile_numbered}
use Rattle.drc_container.specs.reading.Meaning.{Meaning}
use Rattle.drc_container.specs.reading.Stream.{stream, stream_in}

-- the second profile accepts all that the first accepts
pub record IsWider (p q : Profile) : Type 0 where
  pub faces : p.faces ≤ q.faces
  pub points : p.points ≤ q.points
  pub values : p.values ≤ q.values
  pub number : p.number ≤ q.number

-- where a stream is a geometry in a profile, it is the same one in each wider profile, with the same end and with all that is
-- known beside it
abbrev pub WiderMeansTheSame : Type 0
WiderMeansTheSame = (p q : Profile) → IsWider p q → (bytes : List ℕ) (d : Meaning) → stream_in p bytes ≡ Ok d → stream_in q bytes ≡ Ok d

-- where a stream is a geometry in profile 1, it means the same one, with the same end
abbrev pub OldFilesMeanTheSame : Type 0
OldFilesMeanTheSame = (bytes : List ℕ) (d : Meaning) → stream_in profile_one bytes ≡ Ok d → stream bytes ≡ Ok d

-- where a stream is a geometry in a profile of the limits of decoding, it is the same one in each later profile: also one of profile 2
-- in profile 3, which has more codings and predictions
abbrev pub LaterProfilesMeanTheSame : Type 0
LaterProfilesMeanTheSame =
    (n m : ℕ) → n ≤ m → (bytes : List ℕ) (d : Meaning)
    → stream_in (profile_numbered n) bytes ≡ Ok d → stream_in (profile_numbered m) bytes ≡ Ok d
