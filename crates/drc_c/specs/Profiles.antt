-- The profiles in which C has streams read and written (this project's choice).
use Rattle.std.specs.Prelude.{ℕ, ◌==◌, ◌||◌, Bool, nat_le, if◌then◌else◌}
use Rattle.drc_base.specs.declared.profiles.TheConstants.{PROFILE_THREE}

-- whether a number is a profile in which streams are read
abbrev pub is_profile : ℕ → Bool
is_profile n = n == 2 || n == 3

-- the number of the profile that options choose: 0 is 2
abbrev pub profile_chosen : ℕ → ℕ
profile_chosen n = if n == 0 then 2 else n

-- whether a profile has octahedral attributes and predictions from positions: they came with profile 3
abbrev pub has_shapes : ℕ → Bool
has_shapes n = nat_le PROFILE_THREE.number n
