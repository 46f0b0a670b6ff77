-- Words that are decimal texts name their numbers, and no other words name one.
use Rattle.std.proofs.Common.{◌≡◌, ℕ, ◌^◌, ◌<◌, Bool, true, false, List, Option, Some, None, Result, Ok, Err, refl, sym, ap, ◌∙◌, subst, arith}
use Rattle.std.specs.Prelude.{◌≢◌, ◌&&◌, nat_lt, nat_le, decimal, option_and_then, if◌then◌else◌}
use Rattle.std.specs.Str.{bytes_eq}
use Rattle.std.specs.Str.Parse.{digits_value, ParsesUnsigned}
use Rattle.std.proofs.lemmas.Bool.{ltb-true, leb-true, lt-ltb, le-leb}
use Rattle.std.proofs.lemmas.Fmt.{decimal_is_IsNumeral, parse-decimal}
use Rattle.std.proofs.lemmas.Option.{none-some}
use Rattle.std.proofs.lemmas.Slice.Eq.{bytes_eq-Decides}
use Rattle.drc_gen.specs.declared.sizes.TheConstants.{LEAST_SIZE, MOST_SIZE}
use Rattle.drc_gen.specs.GeneratedLaws.{IsSize}
use Rattle.drc_app.specs.Progress.{number_named, sized, size_named}

Some_is : {A : Type 0} (x y : A) → ◌≡◌ {A = Option A} (Some x) (Some y) → x ≡ y
Some_is x y e = cc

-- a value that passes two tests
tested : (a b : Bool) (v n : ℕ) → ◌≡◌ {A = Option ℕ} (if a && b then Some v else None) (Some n) → (a ≡ true) × (b ≡ true) × (v ≡ n)
tested true true v n e = (refl, refl, Some_is v n e)
tested true false v n e = absurd (none-some n e)
tested false b v n e = absurd (none-some n e)

passed : (a b : Bool) (v : ℕ) → a ≡ true → b ≡ true → ◌≡◌ {A = Option ℕ} (if a && b then Some v else None) (Some v)
passed a b v p q = rw (p, q) refl

-- the number of a word: the word is its decimal text
pub number_is : (w : List ℕ) (n : ℕ) → number_named w ≡ Some n → (w ≡ decimal n) × (n < 2 ^ 64)
number_is w n e =
    let v = digits_value 10 w in
    let t = tested (nat_lt v (2 ^ 64)) (bytes_eq w (decimal v)) v n e in (
      subst (λ m. w ≡ decimal m) t.2 ((bytes_eq-Decides w (decimal v)).0 t.1),
      subst (λ m. m < 2 ^ 64) t.2 (ltb-true v (2 ^ 64) t.0),
    )

pub number_back : (n : ℕ) → n < 2 ^ 64 → number_named (decimal n) ≡ Some n
number_back n small = of_value (digits_value 10 (decimal n)) (decimal_is_IsNumeral n small).1
  where
    of_value : (v : ℕ) → v ≡ n → ◌≡◌ {A = Option ℕ} (if nat_lt v (2 ^ 64) && bytes_eq (decimal n) (decimal v) then Some v else None) (Some n)
    of_value v e =
        subst (λ m. ◌≡◌ {A = Option ℕ} (if nat_lt m (2 ^ 64) && bytes_eq (decimal n) (decimal m) then Some m else None) (Some n)) (sym e)
        (passed (nat_lt n (2 ^ 64)) (bytes_eq (decimal n) (decimal n)) n (lt-ltb n (2 ^ 64) small) ((bytes_eq-Decides (decimal n) (decimal n)).1 refl))

-- the number of a word that was parsed, and is its decimal text
pub number_parsed : (w : List ℕ) (n : ℕ) → n < 2 ^ 64 → decimal n ≡ w → number_named w ≡ Some n
number_parsed w n small e = subst (λ v. number_named v ≡ Some n) e (number_back n small)

-- a word that isn't parsed, or as a number whose decimal text is another
number_parses : {E : Type 0} (w : List ℕ) (r : Result ℕ E) → ParsesUnsigned 64 10 w r → ((n : ℕ) → r ≡ Ok n → decimal n ≢ w) → number_named w ≡ None
number_parses {E} w r parses other = none (number_named w) refl
  where
    none : (o : Option ℕ) → number_named w ≡ o → o ≡ None
    none None e = refl
    none (Some n) e =
        let is = number_is w n e in
        absurd (other n (parse-decimal {E = E} 64 n w r is.1 is.1 is.0 parses) (sym is.0))

pub number_unparsed : {E : Type 0} (w : List ℕ) (e : E) → ParsesUnsigned 64 10 w (Err e) → number_named w ≡ None
number_unparsed {E} w e parses = number_parses w (Err e) parses (λ n same. err_ok e n same)
  where
    err_ok : (e : E) (n : ℕ) {P : Type 0} → ◌≡◌ {A = Result ℕ E} (Err e) (Ok n) → P
    err_ok e n same = cc

pub number_unlike : (w : List ℕ) (n : ℕ) → ParsesUnsigned {E = ℕ} 64 10 w (Ok n) → decimal n ≢ w → number_named w ≡ None
number_unlike w n parses other = number_parses {E = ℕ} w (Ok n) parses (λ m same text. other (ap decimal (ok_is n m same) ∙ text))
  where
    ok_is : (n m : ℕ) → ◌≡◌ {A = Result ℕ ℕ} (Ok n) (Ok m) → n ≡ m
    ok_is n m same = cc

-- a size: its word is its decimal text
sized_is : (m n : ℕ) → sized m ≡ Some n → (m ≡ n) × IsSize n
sized_is m n e =
    let t = tested (nat_le LEAST_SIZE m) (nat_le m MOST_SIZE) m n e in
    (t.2, subst IsSize t.2 (leb-true LEAST_SIZE m t.0, leb-true m MOST_SIZE t.1))

pub size_is : (w : List ℕ) (n : ℕ) → size_named w ≡ Some n → (w ≡ decimal n) × IsSize n
size_is w n e = behind (number_named w) refl e
  where
    behind : (o : Option ℕ) → number_named w ≡ o → option_and_then sized o ≡ Some n → (w ≡ decimal n) × IsSize n
    behind None is h = absurd (none-some n h)
    behind (Some m) is h =
        let s = sized_is m n h in
        (subst (λ k. w ≡ decimal k) s.0 (number_is w m is).0, s.1)

pub size_back : (n : ℕ) → IsSize n → size_named (decimal n) ≡ Some n
size_back n size =
    subst (λ o. option_and_then sized o ≡ Some n) (sym (number_back n (omega (arith, size.0, size.1))))
    (passed (nat_le LEAST_SIZE n) (nat_le n MOST_SIZE) n (le-leb LEAST_SIZE n size.0) (le-leb n MOST_SIZE size.1))
