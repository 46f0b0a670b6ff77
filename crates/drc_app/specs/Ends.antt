-- What one call did to a source and to a sink (this project's choice).
use Rattle.std.specs.Prelude.{◌≡◌, ℕ, ◌+◌, ◌≤◌, Bool, true, List, length, Option, ◌⊎◌}
use Rattle.std.specs.Io.KnownBytes.{Appends, Keeps, IsAtEnd}
use Rattle.drc_base.specs.Counters.{Rose}
use Rattle.drc_base.specs.Sources.{Gave}
use Rattle.drc_base.specs.Sinks.{AppendsPrefix}
use Rattle.drc_base.specs.declared.limits.TheConstants.{MAX_INPUT_BYTES}

-- a source before and after a call
pub record Taking : Type 0 where
  pub left : Option (List ℕ)
  pub left_after : Option (List ℕ)
  pub given : ℕ
  pub given_after : ℕ
  pub faults : ℕ
  pub faults_after : ℕ
  pub ended : Bool

-- a sink before and after a call
pub record Putting : Type 0 where
  pub held : Option (List ℕ)
  pub held_after : Option (List ℕ)
  pub faults : ℕ
  pub faults_after : ℕ
  pub finished : Bool

-- the source with these members, before and after
abbrev pub takes : {S : Type 0} → (S → Option (List ℕ)) → (S → ℕ) → (S → ℕ) → (S → Bool) → S → S → Taking
takes left given faults ended old new = record {
  left = left old;
  left_after = left new;
  given = given old;
  given_after = given new;
  faults = faults old;
  faults_after = faults new;
  ended = ended new;
}

-- the sink with these members, before and after
abbrev pub puts : {S : Type 0} → (S → Option (List ℕ)) → (S → ℕ) → (S → Bool) → S → S → Putting
puts held faults finished old new = record
    { held = held old; held_after = held new; faults = faults old; faults_after = faults new; finished = finished new }

-- the source failed in the call
abbrev pub HasReadFault : Taking → Type 0
HasReadFault t = Rose t.faults t.faults_after

-- the sink failed in the call
abbrev pub HasWriteFault : Putting → Type 0
HasWriteFault p = Rose p.faults p.faults_after

-- the source gave these bytes and no others: of those that are left, where it shows them; its count says how many they were
abbrev pub HasGiven : Taking → List ℕ → Type 0
HasGiven t taken = Gave t.left t.left_after t.given t.given_after taken

-- the source was read to its end, and gave no more bytes than a command reads
pub record IsReadWhole (t : Taking) : Type 0 where
  pub taken : List ℕ
  pub few : length taken ≤ MAX_INPUT_BYTES
  pub gave : HasGiven t taken
  pub ended : t.ended ≡ true
  pub none_left : IsAtEnd t.left_after

-- the source gave one byte more than a command reads, and none after it
pub record IsPastMost (t : Taking) : Type 0 where
  pub taken : List ℕ
  pub more : length taken ≡ MAX_INPUT_BYTES + 1
  pub gave : HasGiven t taken

-- nothing was taken, and the count stands
pub record IsUntaken (t : Taking) : Type 0 where
  pub kept : Keeps t.left t.left_after
  pub given : t.given_after ≡ t.given
  pub faults : t.faults_after ≡ t.faults

-- nothing was appended, and the count stands
pub record IsUntouched (p : Putting) : Type 0 where
  pub kept : Keeps p.held p.held_after
  pub faults : p.faults_after ≡ p.faults

-- the whole text was appended and the sink finished
pub record IsWritten (p : Putting) (text : List ℕ) : Type 0 where
  pub appended : Appends p.held p.held_after text
  pub finished : p.finished ≡ true

-- a prefix of the text was appended: all of it, and the sink finished, unless the sink failed
pub record IsTried (p : Putting) (text : List ℕ) : Type 0 where
  pub prefix : AppendsPrefix p.held p.held_after text
  pub whole : HasWriteFault p ⊎ IsWritten p text
