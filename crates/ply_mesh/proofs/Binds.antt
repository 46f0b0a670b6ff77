-- What a chain of steps that did not fail says of each step.
use Rattle.std.proofs.Common.{◌≡◌, ℕ, Bool, true, false, cond, Option, Some, None, Result, Ok, Err, refl, sym, ap, ◌∙◌}
use Rattle.std.specs.Prelude.{option_and_then}
use Rattle.std.proofs.lemmas.Option.{same_Some}
use Rattle.drc_base.specs.declared.faults.Fault.{Fault}
use Rattle.drc_base.specs.declared.kinds.Kind.{Kind}
use Rattle.drc_base.specs.Steps.{◌>>=◌}
use Rattle.ply_text.specs.Faults.{refuse, or_refuse}
use Rattle.ply_text.specs.Numbers.{only_if}

pub bind_ok : {A B : Type 0} (r : Result A Fault) (f : A → Result B Fault) (y : B) → (r >>= f) ≡ Ok y → (x : A) × (r ≡ Ok x) × (f x ≡ Ok y)
bind_ok (Ok x) f y e = (x, refl, e)
bind_ok (Err d) f y e = absurd cc

pub some_ok : {A : Type 0} (kind : Kind) (at : ℕ) (o : Option A) (x : A) → or_refuse kind at o ≡ Ok x → o ≡ Some x
some_ok kind at None x e = absurd cc
some_ok kind at (Some y) x e = cc

pub then_ok : {A : Type 0} (b : Bool) (r : Result A Fault) (kind : Kind) (at : ℕ) (x : A) → cond b r (refuse kind at) ≡ Ok x → (b ≡ true) × (r ≡ Ok x)
then_ok true r kind at x e = (refl, e)
then_ok false r kind at x e = absurd cc

pub then_some : {A B : Type 0} (o : Option A) (f : A → Option B) (y : B) → option_and_then f o ≡ Some y → (x : A) × (o ≡ Some x) × (f x ≡ Some y)
then_some None f y e = absurd cc
then_some (Some x) f y e = (x, refl, e)

pub only_test : {A : Type 0} (test : A → Bool) (o : Option A) (x : A) → only_if test o ≡ Some x → (test x ≡ true) × (o ≡ Some x)
only_test test None x e = absurd cc
only_test {A} test (Some y) x e = go (test y) refl e where
  go : (b : Bool) → test y ≡ b → cond b (Some y) None ≡ Some x → (test x ≡ true) × (Some y ≡ Some x)
  go true t e = let s : Some y ≡ Some x = e in (ap test (sym (same_Some y x s)) ∙ t, s)
  go false t e = absurd cc
