-- Words, numbers and steps that go on.
use Rattle.std.proofs.Common.{◌≡◌, ℕ, ◌≤◌, Bool, true, false, List, cond, eqb, leb, Option, Some, None, Result, Ok, Err, refl, sym, ap, ◌∙◌}
use Rattle.std.specs.Prelude.{option_and_then}
use Rattle.std.specs.Str.{bytes_eq}
use Rattle.std.proofs.lemmas.Bool.{and_parts, and_from, leb-true, le-leb, eqb-true, eq-eqb}
use Rattle.std.proofs.lemmas.Slice.Eq.{bytes_eq-Decides}
use Rattle.drc_base.specs.declared.faults.Fault.{Fault}
use Rattle.drc_base.specs.declared.kinds.Kind.{Kind}
use Rattle.drc_base.specs.Steps.{◌>>=◌}
use Rattle.ply_text.specs.Faults.{refuse, or_refuse}
use Rattle.ply_text.specs.Numbers.{is_digits, digits_value, natural_of, natural_within, only_if}
use Rattle.laws_text.specs.HeaderShape.{writes}

pub word_from : (a b : List ℕ) → bytes_eq a b ≡ true → a ≡ b
word_from a b e = (bytes_eq-Decides a b).0 e

pub word_is : (a : List ℕ) → bytes_eq a a ≡ true
word_is a = (bytes_eq-Decides a a).1 refl

-- a test that let something pass
pub passed : {A : Type 0} (b : Bool) (x z : A) (y : A) (P : Type 0) → cond b x z ≡ y → (b ≡ true → x ≡ y → P) → (b ≡ false → z ≡ y → P) → P
passed true x z y P e f g = f refl e
passed false x z y P e f g = g refl e

pub not_refused : {A : Type 0} (P : Type 0) (k : Kind) (at : ℕ) (y : A) → ◌≡◌ {A = Result A Fault} (refuse k at) (Ok y) → P
not_refused P k at y e = absurd (cc)

pub or_refuse_ok : {A B : Type 0} (k : Kind) (at : ℕ) (o : Option A) (f : A → Result B Fault) (y : B) → (or_refuse k at o >>= f) ≡ Ok y → (x : A) × (o ≡ Some x) × (f x ≡ Ok y)
or_refuse_ok k at None f y e = absurd (cc)
or_refuse_ok k at (Some x) f y e = (x, refl, e)

pub some_from : {A : Type 0} (k : Kind) (at : ℕ) (o : Option A) (y : A) → or_refuse k at o ≡ Ok y → o ≡ Some y
some_from k at None y e = absurd (cc)
some_from k at (Some x) y e = let s : x ≡ y = cc in ap Some s

pub step_ok : {A B E : Type 0} (r : Result A E) (f : A → Result B E) (y : B) → (r >>= f) ≡ Ok y → (x : A) × (r ≡ Ok x) × (f x ≡ Ok y)
step_ok (Ok x) f y e = (x, refl, e)
step_ok (Err x) f y e = absurd (cc)

pub bind_some : {A B : Type 0} (o : Option A) (f : A → Option B) (y : B) → option_and_then f o ≡ Some y → (x : A) × (o ≡ Some x) × (f x ≡ Some y)
bind_some None f y e = absurd (cc)
bind_some (Some x) f y e = (x, refl, e)

pub only_if_some : {A : Type 0} (t : A → Bool) (o : Option A) (y : A) → only_if t o ≡ Some y → (o ≡ Some y) × (t y ≡ true)
only_if_some t None y e = absurd (cc)
only_if_some t (Some x) y e =
    passed (t x) (Some x) None (Some y) _ e (λ yes' same. let s : x ≡ y = cc in (same, ap t (sym s) ∙ yes')) (λ no' none. absurd (cc))

pub only_if_passes : {A : Type 0} (t : A → Bool) (o : Option A) (y : A) → o ≡ Some y → t y ≡ true → only_if t o ≡ Some y
only_if_passes t o y e p = rw (e, p) refl

pub natural_writes : (token : List ℕ) (n : ℕ) → natural_of token ≡ Some n → writes n token ≡ true
unfolding natural_of
natural_writes token n e =
    passed (is_digits token) (Some (digits_value token)) None (Some n) _ e
    (λ yes' same. and_from _ _ yes' (eq-eqb (digits_value token) n (cc)))
    (λ no' none. absurd (cc))

pub writes_natural : (token : List ℕ) (n : ℕ) → writes n token ≡ true → natural_of token ≡ Some n
unfolding natural_of
writes_natural token n e =
    let p = and_parts (is_digits token) (eqb (digits_value token) n) e in
    rw (p.0) (ap Some (eqb-true (digits_value token) n p.1))

pub within_writes : (most : ℕ) (token : List ℕ) (n : ℕ) → natural_within most token ≡ Some n → (writes n token ≡ true) × (n ≤ most)
unfolding natural_within
within_writes most token n e =
    let p = only_if_some (λ n. leb n most) (natural_of token) n e in
    (natural_writes token n p.0, leb-true n most p.1)

pub writes_within : (most : ℕ) (token : List ℕ) (n : ℕ) → writes n token ≡ true → n ≤ most → natural_within most token ≡ Some n
unfolding natural_within
writes_within most token n e le = rw (writes_natural token n e, le-leb n most le) refl

-- a token writes one number
pub writes_one : (token : List ℕ) (n m : ℕ) → writes n token ≡ true → writes m token ≡ true → n ≡ m
writes_one token n m e f =
    let p = eqb-true (digits_value token) n (and_parts (is_digits token) (eqb (digits_value token) n) e).1 in
    let q = eqb-true (digits_value token) m (and_parts (is_digits token) (eqb (digits_value token) m) f).1 in
    sym p ∙ q
