-- Tests that give no fault.
use Rattle.std.proofs.Common.{◌≡◌, ℕ, Bool, true, false, List, [], ◌∷◌, Option, None, Some, refl, ap}
use Rattle.drc_base.specs.declared.faults.Fault.{Fault}
use Rattle.drc_base.specs.declared.kinds.Kind.{Kind}
use Rattle.attr_heads.specs.FirstFault.{unless, first_fault, at_place}

-- a test that gives no fault holds, and back
pub unless-none : (b : Bool) (kind : Kind) (at : ℕ) → unless b kind at ≡ None → b ≡ true
unless-none true kind at e = refl
unless-none false kind at e = cc

pub unless-true : (b : Bool) (kind : Kind) (at : ℕ) → b ≡ true → unless b kind at ≡ None
unless-true b kind at e = ap (λ x. unless x kind at) e

-- no place, no fault
pub at_place-none : (kind : Kind) (place : Option ℕ) → at_place kind place ≡ None → place ≡ None
at_place-none kind None e = refl
at_place-none kind (Some at) e = cc

-- there is no first fault where no test has one, and back
pub first_fault-none : (t : Option Fault) (ts : List (Option Fault)) → first_fault (t ∷ ts) ≡ None → (t ≡ None) × (first_fault ts ≡ None)
first_fault-none None ts e = (refl, e)
first_fault-none (Some f) ts e = cc

pub first_fault-cons : (t : Option Fault) (ts : List (Option Fault)) → t ≡ None → first_fault ts ≡ None → first_fault (t ∷ ts) ≡ None
first_fault-cons None ts none rest = rest
first_fault-cons (Some f) ts none rest = cc

-- the first fault of two tests, and what follows them
pub faults_before : (a b : Option Fault) (ts : List (Option Fault)) (f : Fault) → first_fault (a ∷ b ∷ []) ≡ Some f → first_fault (a ∷ b ∷ ts) ≡ Some f
faults_before None None ts f e = cc
faults_before None (Some g) ts f e = e
faults_before (Some g) b ts f e = e

pub faults_behind : (a b : Option Fault) (ts : List (Option Fault)) → first_fault (a ∷ b ∷ []) ≡ None → first_fault (a ∷ b ∷ ts) ≡ first_fault ts
faults_behind None None ts e = refl
faults_behind None (Some g) ts e = cc
faults_behind (Some g) b ts e = cc

-- a test alone
pub faults_alone : (t : Option Fault) → first_fault (t ∷ []) ≡ t
faults_alone None = refl
faults_alone (Some f) = refl
