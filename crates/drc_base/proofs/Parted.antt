-- Steps that went well, taken apart.
use Rattle.std.proofs.Common.{◌≡◌, Bool, true, false, Result, Ok, Err, refl, subst}
use Rattle.std.specs.Prelude.{if◌then◌else◌}
use Rattle.drc_base.specs.declared.faults.Fault.{Fault}
use Rattle.drc_base.specs.Steps.{◌>>=◌}

-- one value was answered
answer : {A : Type 0} (x y : A) → ◌≡◌ {A = Result A Fault} (Ok x) (Ok y) → x ≡ y
answer x y is = cc

-- a fault is no value
no_answer : {A : Type 0} (f : Fault) (y : A) → ◌≡◌ {A = Result A Fault} (Err f) (Ok y) → ⊥
no_answer f y is = cc

-- what a value has, what was answered has
pub given : {A : Type 0} (P : A → Type 0) (x y : A) → ◌≡◌ {A = Result A Fault} (Ok x) (Ok y) → P x → P y
given P x y is holds = subst P (answer x y is) holds

-- the first of two steps, and the other behind it
pub parts : {A B : Type 0} (first : Result A Fault) (next : A → Result B Fault) (y : B) → (first >>= next) ≡ Ok y
    → (x : A) × (first ≡ Ok x) × (next x ≡ Ok y)
parts (Ok x) next y is = (x, refl, is)
parts (Err f) next y is = absurd (no_answer f y is)

-- what was answered though a test could refuse it
pub passed : {A : Type 0} (b : Bool) (f : Fault) (r : Result A Fault) (y : A) → (if b then r else Err f) ≡ Ok y → (b ≡ true) × (r ≡ Ok y)
passed true f r y is = (refl, is)
passed false f r y is = absurd (no_answer f y is)

pub not_refused : {A : Type 0} (b : Bool) (f : Fault) (r : Result A Fault) (y : A) → (if b then Err f else r) ≡ Ok y → r ≡ Ok y
not_refused true f r y is = absurd (no_answer f y is)
not_refused false f r y is = is

-- what was answered in one of two forms
pub either : {A : Type 0} (P : Type 0) (b : Bool) (r s : Result A Fault) (y : A) → (if b then r else s) ≡ Ok y
    → (b ≡ true → r ≡ Ok y → P) → (b ≡ false → s ≡ Ok y → P) → P
either P true r s y is one other = one refl is
either P false r s y is one other = other refl is
