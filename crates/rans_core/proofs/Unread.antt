-- The bytes below a place, the last one first, a step at a time.
use Rattle.std.proofs.Common.{◌≡◌, ℕ, zero, suc, ◌+◌, ◌*◌, ◌^◌, ◌<◌, ◌≤◌, List, [], ◌∷◌, reverse, length, take, get_or, None, refl, ap, ◌∙◌, arith, add-one, lt-ltb, pow-add}
use Rattle.std.proofs.lemmas.Bool.{cond-true}
use Rattle.std.proofs.lemmas.List.{reverse-append, take_more, take_all, length-reverse, length-take}
use Rattle.rans_core.specs.Coder.{refilled, joined_number, unread}

pub unread-more : (bytes : List ℕ) (left : ℕ) (d : ℕ) → left < length bytes → unread bytes (left + 1) ≡ get_or bytes left d ∷ unread bytes left
unread-more bytes left d h = ap reverse (take_more bytes left d h) ∙ reverse-append (take left bytes) (get_or bytes left d ∷ [])

pub unread-all : (bytes : List ℕ) → unread bytes (length bytes) ≡ reverse bytes
unread-all bytes = ap reverse (take_all (length bytes) bytes (omega arith))

pub length-unread : (bytes : List ℕ) (left : ℕ) → left ≤ length bytes → length (unread bytes left) ≡ left
length-unread bytes left h = length-reverse (take left bytes) ∙ length-take left bytes ∙ omega arith

pub joined-short : (more number : ℕ) (bytes : List ℕ) → length bytes < more → joined_number more number bytes ≡ None
joined-short zero number bytes h = absurd (omega arith)
joined-short (suc more) number [] h = refl
joined-short (suc more) number (b ∷ bytes) h = joined-short more (256 * number + b) bytes (omega arith)

-- one more byte is joined
pub joined-more : (bytes : List ℕ) (left more number d : ℕ) → left < length bytes →
    joined_number (more + 1) number (unread bytes (left + 1)) ≡ joined_number more (number * 256 + get_or bytes left d) (unread bytes left)
joined-more bytes left more number d h =
    rw (add-one more) (rw (unread-more bytes left d h) (ap (λ n. joined_number more n (unread bytes left)) (omega arith)))

-- one more byte is taken where the number is below the base
pub refilled-more : (bytes : List ℕ) (left base number d : ℕ) → left < length bytes → number < base →
    refilled base number (unread bytes (left + 1)) ≡ refilled base (number * 256 + get_or bytes left d) (unread bytes left)
refilled-more bytes left base number d h k =
    rw (unread-more bytes left d h) (cond-true _ _ _ (lt-ltb number base k) ∙ ap (λ n. refilled base n (unread bytes left)) (omega arith))

-- the same, where the counts are equal to those by arithmetic
pub joined-step : (bytes : List ℕ) (left at left' more more' number b : ℕ) → left < length bytes → at ≡ left → left' ≡ left + 1 → more' ≡ more + 1 → b ≡ get_or bytes at 0 →
    joined_number more' number (unread bytes left') ≡ joined_number more (number * 256 + b) (unread bytes left)
joined-step bytes left at left' more more' number b h a l m e =
    rw (l, m, e, a) (joined-more bytes left more number 0 h)

-- a further byte fits eight further bits
pub byte_fits : (n k m b : ℕ) → n < 2 ^ k → b < 256 → m ≡ k + 8 → n * 256 + b < 2 ^ m
byte_fits n k m b h g e =
    let p : 2 ^ m ≡ 2 ^ k * 2 ^ 8 = ap (λ i. 2 ^ i) e ∙ pow-add 2 k 8 in
    omega (arith, p)
