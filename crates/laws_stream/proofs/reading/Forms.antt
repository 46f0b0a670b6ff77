-- What holds of the meanings of each form holds of every meaning.
use Rattle.drc_base.specs.Profile.{profile_numbered}
use Rattle.std.proofs.Common.{◌≡◌, ℕ, ◌==◌, ◌&&◌, Bool, true, false, not, List, Result, Ok, subst}
use Rattle.std.specs.Prelude.{nat_le, nat_lt, if◌then◌else◌}
use Rattle.drc_base.specs.declared.faults.Fault.{Fault}
use Rattle.drc_bits.specs.Reading.{Reading, start_of}
use Rattle.drc_bits.specs.Numbers.{number_at}
use Rattle.drc_bits.proofs.Results.{Ok-injective}
use Rattle.drc_container.specs.Header.{metadata_flag, minor_of, greatest_method, form_of, form_said, magic_at, header_at}
use Rattle.drc_container.specs.reading.Meaning.{Meaning}
use Rattle.drc_container.specs.reading.Stream.{mesh_at, cloud_at, edgebreaker_at, body_at, stream_in}
use Rattle.drc_container.proofs.lemmas.reading.Parted.{given, parts, passed}

-- what a value has, what was read has; the values come first, so that they say the type
pub given-of : {A : Type 0} (x y : A) → ◌≡◌ {A = Result A Fault} (Ok x) (Ok y) → (P : A → Type 0) → P x → P y
given-of x y is P holds = given P x y is holds

-- what both of two have, the chosen one has
chosen : {A : Type 0} (P : A → Type 0) (b : Bool) (x y : A) → P x → P y → P (if b then x else y)
chosen P true x y one other = one
chosen P false x y one other = other

-- a form that the fields of a header say is the one that they choose
said-form : (major minor kind method flags : ℕ) (said : _) → form_said major minor kind method flags ≡ Ok said → form_of kind method ≡ said
unfolding form_said
said-form major minor kind method flags said is =
    let one = passed (nat_le kind 1) _ _ said is in
    let two = passed ((major == 2) && (minor == minor_of kind)) _ _ said one.1 in
    let three = passed (not ((kind == 0) && (method == 1))) _ _ said two.1 in
    let four = passed (nat_le method (greatest_method kind)) _ _ said three.1 in
    let five = passed (nat_lt flags metadata_flag) _ _ said four.1 in
    Ok-injective five.1

-- a header says the form that two of its fields choose
header-form : (c : Reading) (y : _ × Reading) → header_at c ≡ Ok y → (kind : ℕ) × (method : ℕ) × (form_of kind method ≡ y.0)
unfolding header_at
header-form c y is =
    let a = parts (magic_at c) _ y is in
    let major = parts (number_at 1 a.0.1) _ y a.2 in
    let minor = parts (number_at 1 major.0.1) _ y major.2 in
    let kind = parts (number_at 1 minor.0.1) _ y minor.2 in
    let method = parts (number_at 1 kind.0.1) _ y kind.2 in
    let flags = parts (number_at 2 method.0.1) _ y method.2 in
    let said = parts (form_said major.0.0 minor.0.0 kind.0.0 method.0.0 flags.0.0) _ y flags.2 in
    given-of (said.0, flags.0.1) y said.2 (λ z. (kind : ℕ) × (method : ℕ) × (form_of kind method ≡ z.0))
    (kind.0.0, method.0.0, said-form major.0.0 minor.0.0 kind.0.0 method.0.0 flags.0.0 said.0 said.1)

-- the start has what headers leave, and behind that the meanings of each form have something
pub of-each-form : (k : ℕ) (H : Reading → Type 0) (P : Meaning → Type 0)
    → ((c : Reading) → H c → (y : _ × Reading) → header_at c ≡ Ok y → H y.1)
    → ((c : Reading) → H c → (d : Meaning) → mesh_at (profile_numbered k) c ≡ Ok d → P d)
    → ((c : Reading) → H c → (d : Meaning) → edgebreaker_at (profile_numbered k) c ≡ Ok d → P d)
    → ((c : Reading) → H c → (d : Meaning) → cloud_at (profile_numbered k) c ≡ Ok d → P d)
    → (bytes : List ℕ) → H (start_of bytes) → (d : Meaning) → stream_in (profile_numbered k) bytes ≡ Ok d → P d
unfolding stream_in
of-each-form k H P header mesh edgebreaker cloud bytes here d is =
    let p = parts (header_at (start_of bytes)) _ d is in
    let f = header-form (start_of bytes) p.0 p.1 in
    subst (λ said. (c : Reading) → H c → (d : Meaning) → body_at (profile_numbered k) said c ≡ Ok d → P d) f.2
    (chosen (λ said. (c : Reading) → H c → (d : Meaning) → body_at (profile_numbered k) said c ≡ Ok d → P d) (f.0 == 0) _ _ cloud
    (chosen (λ said. (c : Reading) → H c → (d : Meaning) → body_at (profile_numbered k) said c ≡ Ok d → P d) (f.1 == 0) _ _ mesh edgebreaker))
    p.0.1 (header (start_of bytes) here p.0 p.1) d p.2
