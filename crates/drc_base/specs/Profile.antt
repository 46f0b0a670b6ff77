-- What a profile of the stream accepts (this project's choice). Its items test these limits, and a stream that one profile
-- accepts means the same in a wider one.
use Rattle.std.specs.Prelude.{ℕ, ◌^◌}
use Rattle.drc_base.specs.declared.limits.TheConstants.{MAX_FACES, MAX_POINTS, MAX_VALUES}

-- the most faces, points (also declared vertices) and coded values of a stream, and the number of the profile: it reads the
-- predictions that came with it and those that came before
pub record Profile : Type 0 where
  pub faces : ℕ
  pub points : ℕ
  pub values : ℕ
  pub number : ℕ

-- profile 1: the first files of this codec
abbrev pub profile_one : Profile
profile_one = record { faces = 2 ^ 20; points = 2 ^ 20; values = 2 ^ 24; number = 1 }

-- profile 2: more faces, points and values, and constrained multi-parallelogram prediction
abbrev pub profile_two : Profile
profile_two = record { faces = 2 ^ 22; points = 2 ^ 22; values = 2 ^ 26; number = 2 }

-- the profile of decoding: the limits of this program, and all predictions
abbrev pub profile : Profile
profile = record { faces = MAX_FACES; points = MAX_POINTS; values = MAX_VALUES; number = 2 }

-- a profile of these limits by its number
abbrev pub profile_numbered : ℕ → Profile
profile_numbered n = record profile { number = n }
