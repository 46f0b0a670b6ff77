-- The two variants of a `Result` are apart, and each gives its value back.
use Rattle.std.proofs.Common.{◌≡◌, ap, Result, Ok, Err, Bool, true, false}
use Rattle.std.proofs.lemmas.Bool.{false≢true}

value_or : {A E : Type 0} → A → Result A E → A
value_or d (Ok x) = x
value_or d (Err e) = d

pub Ok-injective : {A E : Type 0} {x y : A} → ◌≡◌ {A = Result A E} (Ok x) (Ok y) → x ≡ y
unfolding value_or
Ok-injective {A} {E} {x} {y} is = ap (λ r. value_or x r) is

error_or : {A E : Type 0} → E → Result A E → E
error_or d (Ok x) = d
error_or d (Err e) = e

pub Err-injective : {A E : Type 0} {x y : E} → ◌≡◌ {A = Result A E} (Err x) (Err y) → x ≡ y
unfolding error_or
Err-injective {A} {E} {x} {y} is = ap (λ r. error_or x r) is

is_value : {A E : Type 0} → Result A E → Bool
is_value (Ok x) = true
is_value (Err e) = false

pub err≢ok : {A E : Type 0} {x : A} {e : E} → ◌≡◌ {A = Result A E} (Err e) (Ok x) → ⊥
unfolding is_value
err≢ok is = false≢true (ap (λ r. is_value r) is)
