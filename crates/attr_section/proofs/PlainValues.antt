-- Plain values that are read from a slice of their bytes.
use Rattle.std.proofs.Common.{◌≡◌, ℕ, suc, ◌+◌, ◌-◌, ◌*◌, ◌<◌, ◌≤◌, false, ℤ, List, [], ◌∷◌, ◌++◌, length, take, drop, get_or, flat_map, nat_lt, Ok, sym, ◌∙◌, ap, append_assoc, append-nil, arith, le-ltb, add-one}
use Rattle.std.proofs.Math.Nat.{mul-suc, suc-mul}
use Rattle.std.proofs.lemmas.Grind.{flat_map-append}
use Rattle.std.proofs.lemmas.List.{length-drop, take_more}
use Rattle.drc_base.specs.Steps.{◌>>=◌}
use Rattle.drc_bits.specs.Bits.{low_bytes}
use Rattle.drc_bits.specs.Reading.{Reading, Item, advanced, many_at}
use Rattle.drc_bits.specs.Numbers.{number_at, little_endian}
use Rattle.drc_bits.proofs.Advancing.{advanced-advanced}
use Rattle.drc_bits.proofs.Many.{with_front, many_at-next, many_at-end}
use Rattle.attr_section.specs.Values.{signed_of, plain_value_at}

-- a number whose bytes are there
pub number-there : (width at n : ℕ) (bytes piece : List ℕ) → at + width ≤ length bytes → piece ≡ take width (drop at bytes) → n ≡ little_endian piece
    → (c : Reading) → c.rest ≡ bytes → number_at width (advanced at c) ≡ Ok (n, advanced (at + width) c)
number-there width at n bytes piece there piece_is is c here =
    let long : length (drop at c.rest) ≡ length bytes - at = length-drop at c.rest ∙ ap (λ l. length l - at) here in
    let enough : width ≤ length (drop at c.rest) = omega (arith, long, there) in
    let test : nat_lt (length (drop at c.rest)) width ≡ false = le-ltb (length (drop at c.rest)) width enough in
    let same : take width (drop at c.rest) ≡ piece = ap (λ l. take width (drop at l)) here ∙ sym piece_is in
    rw test (
    ap (λ (r : Reading). Ok (little_endian (take width (drop at c.rest)), r)) (advanced-advanced at width c)
    ∙ ap (λ (m : ℕ). Ok (m, advanced (at + width) c)) (ap little_endian same ∙ sym is)
    )

-- the values at the front of so many bytes were read, and others are still to come
abbrev pub AreRead : ℕ → ℕ → ℕ → List ℕ → List ℤ → Type 0
AreRead width n k bytes front =
    (c : Reading) → c.rest ≡ bytes → with_front front (many_at (plain_value_at width) (n - k) (advanced (k * width) c)) ≡ many_at (plain_value_at width) n c

-- one value more is read
pub values-more : (width n k at s : ℕ) (x : ℤ) (bytes : List ℕ) (front next : List ℤ) → k < n → at ≡ k * width
    → ((c : Reading) → c.rest ≡ bytes → number_at width (advanced at c) ≡ Ok (s, advanced (at + width) c))
    → x ≡ signed_of s → next ≡ front ++ x ∷ [] → AreRead width n k bytes front → AreRead width n (k + 1) bytes next
unfolding plain_value_at
values-more width n k at s x bytes front next fits at_is number x_is push so c here =
    let after : at + width ≡ (k + 1) * width = ap (λ p. p + width) at_is ∙ sym (suc-mul k width) ∙ ap (λ p. p * width) (sym (add-one k)) in
    let value : plain_value_at width (advanced (k * width) c) ≡ Ok (x, advanced ((k + 1) * width) c) =
    ap (λ p. plain_value_at width (advanced p c)) (sym at_is)
    ∙ ap (λ (r : Item ℕ). r >>= λ v. Ok (signed_of v.0, v.1)) (number c here)
    ∙ ap (λ (z : ℤ). Ok (z, advanced (at + width) c)) (sym x_is)
    ∙ ap (λ p. Ok (x, advanced p c)) after in
    rw push (many_at-next (plain_value_at width) n k (advanced (k * width) c) (advanced ((k + 1) * width) c) front x (many_at (plain_value_at width) n c) (so c here) fits value)

-- all values are read
pub values-end : (width n k : ℕ) (bytes : List ℕ) (front : List ℤ) → k ≡ n → AreRead width n k bytes front
    → (c : Reading) → c.rest ≡ bytes → many_at (plain_value_at width) n c ≡ Ok (front, advanced (n * width) c)
values-end width n k bytes front is so c here =
    many_at-end (plain_value_at width) n k (advanced (k * width) c) front (many_at (plain_value_at width) n c) (so c here) (omega (arith, is))
    ∙ ap (λ p. Ok (front, advanced (p * width) c)) is

-- where one number less of so many bytes is to come there is still room
pub room-more : (width n k a b room : ℕ) → k < n → b ≡ a + width → a + width * (n - k) ≤ room → b + width * (n - (k + 1)) ≤ room
room-more width n k a b room fits is so =
    let fewer : n - k ≡ suc (n - (k + 1)) = omega (arith, fits) in
    let less : width * (n - k) ≡ width * (n - (k + 1)) + width = ap (λ m. width * m) fewer ∙ mul-suc width (n - (k + 1)) in
    omega (arith, less, is, so)

-- the low bytes of one symbol more are pushed
pub bytes-more : (width k : ℕ) (symbols front out next : List ℕ) → k < length symbols
    → next ≡ out ++ low_bytes width (get_or symbols k 0) → out ≡ front ++ flat_map (low_bytes width) (take k symbols)
    → next ≡ front ++ flat_map (low_bytes width) (take (k + 1) symbols)
bytes-more width k symbols front out next has push so =
    let last = low_bytes width (get_or symbols k 0) in
    let before = flat_map (low_bytes width) (take k symbols) in
    push
    ∙ ap (λ l. l ++ last) so
    ∙ append_assoc front before last
    ∙ ap (λ l. front ++ (before ++ l)) (sym (append-nil last))
    ∙ ap (λ l. front ++ l) (sym (flat_map-append (low_bytes width) (take k symbols) (get_or symbols k 0 ∷ [])))
    ∙ ap (λ l. front ++ flat_map (low_bytes width) l) (sym (take_more symbols k 0 has))
