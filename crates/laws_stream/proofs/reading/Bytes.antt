-- Where a stream is bytes, what is left behind each of its items is bytes too.
use Rattle.std.proofs.Common.{◌≡◌, ℕ, zero, suc, ◌*◌, ◌^◌, ◌<◌, ◌≤◌, Bool, true, false, List, [], ◌∷◌, ◌++◌, length, length-take-le, take, Result, inl, inr, Ok, Err, refl, sym, ◌∙◌, ap, subst, arith}
use Rattle.std.specs.Prelude.{nat_lt, if◌then◌else◌}
use Rattle.std.specs.List.{All}
use Rattle.std.proofs.Math.Nat.{pow-succ'}
use Rattle.std.proofs.lemmas.Bool.{cases_Bool, ltb-false, ltb-true}
use Rattle.std.proofs.lemmas.List.Elements.{All-nil, All-cons, All-head, All-tail, All-append, All-drop, All-take}
use Rattle.drc_base.specs.declared.faults.Fault.{Fault}
use Rattle.drc_base.specs.declared.kinds.Kind.{Kind}
use Rattle.drc_base.specs.declared.kinds.Kind.TheVariants as kind
use Rattle.drc_base.specs.Steps.{◌>>=◌}
use Rattle.drc_bits.specs.Reading.{Reading, Item, advanced, must, many_at, chain_at, bytes_at, fault_at}
use Rattle.drc_bits.specs.Bits.{bits_at, bits_of, bytes_for}
use Rattle.drc_bits.specs.Numbers.{little_endian, number_at, signed_at}
use Rattle.drc_bits.specs.Varint.{value_of, varint_groups, fitting, as_item, varint, var32_at, var64_at}
use Rattle.drc_bits.proofs.Results.{Ok-injective, err≢ok}
use Rattle.attr_section.specs.Each.{each_at}
use Rattle.drc_container.proofs.lemmas.reading.Parted.{given, parts, must-passed}

-- what is left to read is bytes
pub record BytesAhead (c : Reading) : Type 0 where
  pub bytes : All (λ (b : ℕ). b < 256) c.rest

-- where an item is read, its value has what is said, and what is left behind it is bytes
abbrev pub Leaves : {A : Type 0} → (A → Type 0) → Item A → Type 0
Leaves {A} P r = (y : A × Reading) → r ≡ Ok y → P y.0 × BytesAhead y.1

-- the same, where nothing is said of the value
abbrev pub LeavesBytes : {A : Type 0} → Item A → Type 0
LeavesBytes {A} r = (y : A × Reading) → r ≡ Ok y → BytesAhead y.1

-- ---- items of items

pub ok-leaves : {A : Type 0} (x : A) (c : Reading) → BytesAhead c → LeavesBytes (Ok (x, c))
ok-leaves x c here y is = subst (λ z. BytesAhead z.1) (Ok-injective is) here

pub fault-leaves : {A : Type 0} (k : Kind) (c : Reading) → LeavesBytes (fault_at {A = A × Reading} k c)
fault-leaves k c y is = absurd (err≢ok is)

pub then-leaves : {A B : Type 0} (r : Item A) (f : A × Reading → Item B) → LeavesBytes r → ((x : A × Reading) → BytesAhead x.1 → LeavesBytes (f x)) → LeavesBytes (r >>= f)
then-leaves r f first next y is = let p = parts r f y is in next p.0 (first p.0 p.1) y p.2

-- behind a value that takes no bytes
pub value-leaves : {A B : Type 0} (r : Result A Fault) (f : A → Item B) → ((x : A) → LeavesBytes (f x)) → LeavesBytes (r >>= f)
value-leaves r f next y is = let p = parts r f y is in next p.0 y p.2

pub either-leaves : {A : Type 0} (b : Bool) (r s : Item A) → LeavesBytes r → LeavesBytes s → LeavesBytes (if b then r else s)
either-leaves true r s one other = one
either-leaves false r s one other = other

pub must-leaves : {A : Type 0} (k : Kind) (test : A → Bool) (item : Reading → Item A) (c : Reading) → LeavesBytes (item c) → LeavesBytes (must k test item c)
must-leaves k test item c here y is = here y (must-passed k test item c y is).1

-- n items
pub many-leaves : {A : Type 0} (P : A → Type 0) (item : Reading → Item A) → ((c : Reading) → BytesAhead c → Leaves P (item c))
    → (n : ℕ) (c : Reading) → BytesAhead c → Leaves (All P) (many_at item n c)
unfolding many_at
many-leaves P item each zero c here y is = subst (λ z. All P z.0 × BytesAhead z.1) (Ok-injective is) (All-nil P, here)
many-leaves P item each (suc n) c here y is =
    let p = parts (item c) _ y is in
    let q = parts (many_at item n p.0.1) _ y p.2 in
    let one = each c here p.0 p.1 in
    let rest = many-leaves P item each n p.0.1 one.1 q.0 q.1 in
    subst (λ z. All P z.0 × BytesAhead z.1) (Ok-injective q.2) (All-cons P p.0.0 q.0.0 one.0 rest.0, rest.1)

pub many-bytes : {A : Type 0} (item : Reading → Item A) → ((c : Reading) → BytesAhead c → LeavesBytes (item c))
    → (n : ℕ) (c : Reading) → BytesAhead c → LeavesBytes (many_at item n c)
many-bytes {A} item each n c here y is = (many-leaves (λ (_ : A). Unit {0}) item (λ c here y is. (tt, each c here y is)) n c here y is).1

-- items in a chain
pub chain-bytes : {A : Type 0} (item : A → Reading → Item A) → ((x : A) (c : Reading) → BytesAhead c → LeavesBytes (item x c))
    → (n : ℕ) (x : A) (c : Reading) → BytesAhead c → LeavesBytes (chain_at item n x c)
unfolding chain_at
chain-bytes item each zero x c here y is = subst (λ z. BytesAhead z.1) (Ok-injective is) here
chain-bytes item each (suc n) x c here y is =
    let p = parts (item x c) _ y is in
    let q = parts (chain_at item n p.0.0 p.0.1) _ y p.2 in
    let rest = chain-bytes item each n p.0.0 p.0.1 (each x c here p.0 p.1) q.0 q.1 in
    subst (λ z. BytesAhead z.1) (Ok-injective q.2) rest

-- items of which each may depend on those before it
pub each-leaves : {A B : Type 0} (P : A → Type 0) (Q : B → Type 0) (item : List A → B → Reading → Item A)
    → ((front : List A) (b : B) → Q b → (c : Reading) → BytesAhead c → Leaves P (item front b c))
    → (bs : List B) → All Q bs → (front : List A) → All P front → (c : Reading) → BytesAhead c → Leaves (All P) (each_at item front bs c)
unfolding each_at
each-leaves P Q item each [] from front are c here y is = subst (λ z. All P z.0 × BytesAhead z.1) (Ok-injective is) (are, here)
each-leaves P Q item each (b ∷ bs) from front are c here y is =
    let p = parts (item front b c) _ y is in
    let one = each front b (All-head Q b bs from) c here p.0 p.1 in
    each-leaves P Q item each bs (All-tail Q b bs from) (front ++ p.0.0 ∷ []) (All-append P front (p.0.0 ∷ []) are (All-cons P p.0.0 [] one.0 (All-nil P))) p.0.1 one.1 y p.2

pub each-bytes : {A B : Type 0} (item : List A → B → Reading → Item A) → ((front : List A) (b : B) (c : Reading) → BytesAhead c → LeavesBytes (item front b c))
    → (bs : List B) (front : List A) (c : Reading) → BytesAhead c → LeavesBytes (each_at item front bs c)
each-bytes {A} {B} item each bs front c here y is =
    (each-leaves (λ (_ : A). Unit {0}) (λ (_ : B). Unit {0}) item (λ front b _ c here y is. (tt, each front b c here y is)) bs (λ _ _ _. tt) front (λ _ _ _. tt) c here y is).1

-- ---- bytes, bits and numbers

pub further : (n : ℕ) (c : Reading) → BytesAhead c → BytesAhead (advanced n c)
further n c here = record { bytes = All-drop (λ (b : ℕ). b < 256) n c.rest here.bytes }

pub bytes-leave : (n : ℕ) (c : Reading) → BytesAhead c → LeavesBytes (bytes_at n c)
bytes-leave n c here = either-leaves (nat_lt (length c.rest) n) _ _ (fault-leaves kind.Short c) (ok-leaves (take n c.rest) (advanced n c) (further n c here))

pub bits-leave : (n : ℕ) (c : Reading) → BytesAhead c → LeavesBytes (bits_at n c)
bits-leave n c here =
    either-leaves (nat_lt (8 * length c.rest) n) _ _ (fault-leaves kind.Short c)
    (ok-leaves (take n (bits_of c.rest)) (advanced (bytes_for n) c) (further (bytes_for n) c here))

pub number-leaves : (n : ℕ) (c : Reading) → BytesAhead c → LeavesBytes (number_at n c)
number-leaves n c here = then-leaves (bytes_at n c) _ (bytes-leave n c here) (λ x behind. ok-leaves (little_endian x.0) x.1 behind)

pub signed-leaves : (c : Reading) → BytesAhead c → LeavesBytes (signed_at c)
signed-leaves c here = then-leaves (number_at 4 c) _ (number-leaves 4 c here) (λ x behind. ok-leaves _ x.1 behind)

as_item-leaves : (c : Reading) → BytesAhead c → (r : Result (ℕ × ℕ) Kind) → LeavesBytes (as_item c r)
as_item-leaves c here (Ok x) = ok-leaves x.0 (advanced x.1 c) (further x.1 c here)
as_item-leaves c here (Err k) = fault-leaves k c

pub var32-leaves : (c : Reading) → BytesAhead c → LeavesBytes (var32_at c)
var32-leaves c here = as_item-leaves c here (varint 5 (2 ^ 32) c.rest)

pub var64-leaves : (c : Reading) → BytesAhead c → LeavesBytes (var64_at c)
var64-leaves c here = as_item-leaves c here (varint 10 (2 ^ 64) c.rest)

-- bytes that were taken
bytes-taken : (n : ℕ) (c : Reading) (y : List ℕ × Reading) → bytes_at n c ≡ Ok y → (n ≤ length c.rest) × (take n c.rest ≡ y.0)
bytes-taken n c y is = elim (cases_Bool (nat_lt (length c.rest) n)) [
  | inl short ↦ absurd (err≢ok (sym (ap (λ (b : Bool). let r : Item (List ℕ) = if b then fault_at kind.Short c else Ok (take n c.rest, advanced n c) in r) short) ∙ is))
  | inr long ↦ (
    ltb-false (length c.rest) n long,
    ap (λ (z : List ℕ × Reading). z.0) (Ok-injective (sym (ap (λ (b : Bool). let r : Item (List ℕ) = if b then fault_at kind.Short c else Ok (take n c.rest, advanced n c) in r) long) ∙ is)),
  )
]

-- a number of bytes
little : (bytes : List ℕ) → All (λ (b : ℕ). b < 256) bytes → little_endian bytes < 256 ^ length bytes
little [] are = omega arith
little (b ∷ bytes) are =
    let byte : b < 256 = All-head (λ (b : ℕ). b < 256) b bytes are in
    let rest = little bytes (All-tail (λ (b : ℕ). b < 256) b bytes are) in
    let whole : 256 ^ length (b ∷ bytes) ≡ 256 * 256 ^ length bytes = pow-succ' 256 (length bytes) in
    omega (arith, byte, rest, whole)

pub number-below : (n : ℕ) (c : Reading) → BytesAhead c → Leaves (λ v. v < 256 ^ n) (number_at n c)
number-below n c here y is =
    let p = parts (bytes_at n c) _ y is in
    let t = bytes-taken n c p.0 p.1 in
    let fits : little_endian p.0.0 < 256 ^ n =
    subst (λ l. little_endian l < 256 ^ n) t.1
    (subst (λ m. little_endian (take n c.rest) < 256 ^ m) (length-take-le n c.rest t.0) (little (take n c.rest) (All-take (λ (b : ℕ). b < 256) n c.rest here.bytes))) in
    (given (λ (z : ℕ × Reading). z.0 < 256 ^ n) (little_endian p.0.0, p.0.1) y p.2 fits, number-leaves n c here y is)

-- a varint that fits
fitting-below : (limit : ℕ) (r : Result (List ℕ) Kind) (x : ℕ × ℕ) → fitting limit r ≡ Ok x → x.0 < limit
fitting-below limit (Err k) x is = absurd (err≢ok is)
fitting-below limit (Ok groups) x is = elim (cases_Bool (nat_lt (value_of groups) limit)) [
  | inl fits ↦ (
      let chosen : Bool → Result (ℕ × ℕ) Kind = λ b. if b then Ok (value_of groups, length groups) else Err kind.Long in
      subst (λ (z : ℕ × ℕ). z.0 < limit) (Ok-injective (sym (ap chosen fits) ∙ is)) (ltb-true (value_of groups) limit fits))
  | inr long ↦ (
      let chosen : Bool → Result (ℕ × ℕ) Kind = λ b. if b then Ok (value_of groups, length groups) else Err kind.Long in
      absurd (err≢ok (sym (ap chosen long) ∙ is)))
]

as_item-below : (limit : ℕ) (c : Reading) (r : Result (ℕ × ℕ) Kind) → ((x : ℕ × ℕ) → r ≡ Ok x → x.0 < limit) → (y : ℕ × Reading) → as_item c r ≡ Ok y → y.0 < limit
as_item-below limit c (Ok x) below y is = given (λ (z : ℕ × Reading). z.0 < limit) (x.0, advanced x.1 c) y is (below x refl)
as_item-below limit c (Err k) below y is = absurd (err≢ok is)

pub var32-below : (c : Reading) (y : ℕ × Reading) → var32_at c ≡ Ok y → y.0 < 2 ^ 32
unfolding varint
var32-below c y is = as_item-below (2 ^ 32) c (varint 5 (2 ^ 32) c.rest) (fitting-below (2 ^ 32) (varint_groups 5 c.rest)) y is
