-- Reading and writing varints a group at a time.
use Rattle.std.proofs.Common.{◌≡◌, ℕ, zero, suc, ◌+◌, ◌-◌, ◌*◌, ◌/◌, ◌%◌, ◌<◌, ◌≤◌, ◌^◌, List, [], ◌∷◌, ◌++◌, length, drop, get_or, Result, Ok, Err, nat_lt, if◌then◌else◌, refl, sym, ◌∙◌, ap, subst, inl, inr, append_assoc, arith, drop-cons, add-one}
use Rattle.std.proofs.lemmas.Bool.{cases_lt}
use Rattle.std.proofs.Math.Nat.{mul-le-mul_right}
use Rattle.std.proofs.lemmas.List.{drop_all}
use Rattle.std.specs.List.{All}
use Rattle.drc_bits.proofs.Results.{Ok-injective, err≢ok}
use Rattle.drc_base.specs.declared.kinds.Kind.{Kind}
use Rattle.drc_base.specs.declared.kinds.Kind.TheVariants as kind
use Rattle.drc_bits.specs.Varint.{with_group, varint_groups, value_of, fitting, varint, spelling}

-- what i groups are worth
abbrev pub weight_of : ℕ → ℕ
weight_of zero = 1
weight_of (suc i) = 128 * weight_of i

-- the value and length of groups, behind n groups of this value and weight
abbrev pub behind : ℕ → ℕ → ℕ → Result (List ℕ) Kind → Result (ℕ × ℕ) Kind
behind value weight n (Ok groups) = Ok (value + weight * value_of groups, n + length groups)
behind value weight n (Err k) = Err k

-- a value below the limit, or Long
abbrev pub limited : ℕ → Result (ℕ × ℕ) Kind → Result (ℕ × ℕ) Kind
limited limit (Ok x) = if nat_lt x.0 limit then Ok x else Err kind.Long
limited limit (Err k) = Err k

pub limited_start : (limit : ℕ) (groups : Result (List ℕ) Kind) → limited limit (behind 0 1 0 groups) ≡ fitting limit groups
limited_start limit (Ok groups) = grind arith
limited_start limit (Err k) = refl

behind_group : (value weight n group : ℕ) (groups : Result (List ℕ) Kind)
    → behind value weight n (with_group group groups) ≡ behind (value + group * weight) (weight * 128) (n + 1) groups
behind_group value weight n group (Ok groups) =
    let worth : value + weight * (group + 128 * value_of groups) ≡ value + group * weight + weight * 128 * value_of groups = omega arith in
    let count : n + suc (length groups) ≡ n + 1 + length groups = omega arith in
    rw (worth, count) refl
behind_group value weight n group (Err k) = refl

-- few groups are worth little
pub weight_below_5 : (i : ℕ) → i < 5 → weight_of i ≤ 2 ^ 28
weight_below_5 zero h = omega arith
weight_below_5 (suc zero) h = omega arith
weight_below_5 (suc (suc zero)) h = omega arith
weight_below_5 (suc (suc (suc zero))) h = omega arith
weight_below_5 (suc (suc (suc (suc zero)))) h = omega arith
weight_below_5 (suc (suc (suc (suc (suc i))))) h = absurd (omega arith)

pub weight_below_10 : (i : ℕ) → i < 10 → weight_of i ≤ 2 ^ 63
weight_below_10 zero h = omega arith
weight_below_10 (suc zero) h = omega arith
weight_below_10 (suc (suc zero)) h = omega arith
weight_below_10 (suc (suc (suc zero))) h = omega arith
weight_below_10 (suc (suc (suc (suc zero)))) h = omega arith
weight_below_10 (suc (suc (suc (suc (suc i))))) h =
    let w : weight_of i ≤ 2 ^ 28 = weight_below_5 i (omega arith) in omega arith

-- what was read so far
pub record ReadSoFar (most : ℕ) (bytes : List ℕ) (i value weight : ℕ) : Type 0 where
  pub same : behind value weight i (varint_groups (most - i) (drop i bytes)) ≡ behind 0 1 0 (varint_groups most bytes)
  pub small : value < weight
  pub weighs : weight ≡ weight_of i
  pub within : i ≤ length bytes

pub ReadSoFar-start : (most : ℕ) (bytes : List ℕ) → ReadSoFar most bytes 0 0 1
ReadSoFar-start most bytes = record { same = grind arith; small = omega arith; weighs = refl; within = omega arith }

-- the groups at a byte with the high bit
groups_of-high : (most b : ℕ) (bytes : List ℕ) → 128 ≤ b → varint_groups (suc most) (b ∷ bytes) ≡ with_group (b - 128) (varint_groups most bytes)
groups_of-high most b bytes high = grind arith

-- the groups at a byte without it
groups_of-low : (most b : ℕ) (bytes : List ℕ) → b < 128 → varint_groups (suc most) (b ∷ bytes) ≡ Ok (b ∷ [])
groups_of-low most b bytes low = grind arith

-- one group fewer may follow
one_fewer : (most i : ℕ) → i < most → most - i ≡ suc (most - (i + 1))
one_fewer most i fits = omega arith

-- the groups from a byte on
groups_from : (most : ℕ) (bytes : List ℕ) (i b : ℕ) → i < most → i < length bytes → b ≡ get_or bytes i 0
    → varint_groups (most - i) (drop i bytes) ≡ varint_groups (suc (most - (i + 1))) (b ∷ drop (i + 1) bytes)
groups_from most bytes i b fits has is = rw (one_fewer most i fits, drop-cons bytes i 0 has, is, add-one i) refl

pub ReadSoFar-high : (most : ℕ) (bytes : List ℕ) (i value weight b : ℕ) → ReadSoFar most bytes i value weight
    → i < most → i < length bytes → b ≡ get_or bytes i 0 → 128 ≤ b → b < 256
    → ReadSoFar most bytes (i + 1) (value + (b - 128) * weight) (weight * 128)
ReadSoFar-high most bytes i value weight b so fits has is high byte = record {
  same =
      sym (behind_group value weight i (b - 128) (varint_groups (most - (i + 1)) (drop (i + 1) bytes)))
      ∙ ap (λ gs. behind value weight i gs) (sym (groups_from most bytes i b fits has is ∙ groups_of-high (most - (i + 1)) b (drop (i + 1) bytes) high))
      ∙ so.same;
  small = grind (arith, so.small, grows);
  weighs = rw (so.weighs, add-one i) (omega arith);
  within = omega arith;
}
  where
    grows : (b - 128) * weight + weight ≤ weight * 128
    grows = let few : b - 128 + 1 ≤ 128 = omega arith in grind arith

pub ReadSoFar-low : (most limit : ℕ) (bytes : List ℕ) (i value weight b : ℕ) → ReadSoFar most bytes i value weight
    → i < most → i < length bytes → b ≡ get_or bytes i 0 → b < 128
    → varint most limit bytes ≡ limited limit (Ok (value + b * weight, i + 1))
unfolding varint
ReadSoFar-low most limit bytes i value weight b so fits has is low =
    sym (limited_start limit (varint_groups most bytes))
    ∙ ap (λ x. limited limit x) (sym so.same)
    ∙ ap (λ gs. limited limit (behind value weight i gs)) (groups_from most bytes i b fits has is ∙ groups_of-low (most - (i + 1)) b (drop (i + 1) bytes) low)
    ∙ (let worth : value + weight * (b + 128 * 0) ≡ value + b * weight = omega arith in rw worth refl)

pub ReadSoFar-short : (most limit : ℕ) (bytes : List ℕ) (i value weight : ℕ) → ReadSoFar most bytes i value weight
    → i < most → length bytes ≤ i → varint most limit bytes ≡ Err kind.Short
unfolding varint
ReadSoFar-short most limit bytes i value weight so fits ends =
    sym (limited_start limit (varint_groups most bytes))
    ∙ ap (λ x. limited limit x) (sym so.same)
    ∙ rw (one_fewer most i fits, drop_all i bytes ends) refl

pub ReadSoFar-long : (most limit : ℕ) (bytes : List ℕ) (value weight : ℕ) → ReadSoFar most bytes most value weight
    → varint most limit bytes ≡ Err kind.Long
unfolding varint
ReadSoFar-long most limit bytes value weight so =
    let none : most - most ≡ 0 = omega arith in
    sym (limited_start limit (varint_groups most bytes))
    ∙ ap (λ x. limited limit x) (sym so.same)
    ∙ rw none refl

-- one group more keeps a small value small
pub group_fits : (value weight b most : ℕ) → value < weight → weight ≤ most → b < 256 → value + b * weight < 257 * most
group_fits value weight b most small light byte =
    let product : b * weight ≤ 256 * weight = mul-le-mul_right weight (omega arith) in omega arith

-- so many groups of seven bits
abbrev pub digits : ℕ → ℕ → List ℕ
digits zero v = []
digits (suc most) v = if nat_lt v 128 then v ∷ [] else (v % 128) ∷ digits most (v / 128)

value_of-digits : (most v : ℕ) → v < weight_of most → value_of (digits most v) ≡ v
value_of-digits zero v fits = omega arith
value_of-digits (suc most) v fits = elim (cases_lt v 128) [
  | inl low ↦ grind arith
  | inr high ↦ let rest : value_of (digits most (v / 128)) ≡ v / 128 = value_of-digits most (v / 128) (omega arith) in grind (arith, rest)
]

length-digits : (most v : ℕ) → length (spelling most v) ≡ length (digits most v)
unfolding spelling
length-digits zero v = refl
length-digits (suc most) v = elim (cases_lt v 128) [ inl low ↦ grind arith | inr high ↦ grind (arith, length-digits most (v / 128)) ]

groups_of-spelling : (most v : ℕ) (rest : List ℕ) → v < weight_of (suc most) → varint_groups (suc most) (spelling (suc most) v ++ rest) ≡ Ok (digits (suc most) v)
unfolding spelling
groups_of-spelling zero v rest fits = let low : v < 128 = omega arith in grind arith
groups_of-spelling (suc most) v rest fits = elim (cases_lt v 128) [
  | inl low ↦ grind arith
  | inr high ↦
      let tail : varint_groups (suc most) (spelling (suc most) (v / 128) ++ rest) ≡ Ok (digits (suc most) (v / 128)) = groups_of-spelling most (v / 128) rest (omega arith) in
      let byte : v % 128 + 128 - 128 ≡ v % 128 = omega arith in
      grind (arith, tail, byte)
]

fitting-below : (limit : ℕ) (groups : List ℕ) (v : ℕ) → value_of groups ≡ v → v < limit → fitting limit (Ok groups) ≡ Ok (v, length groups)
fitting-below limit groups v is below = let small : value_of groups < limit = rw is below in grind (arith, is, small)

-- a written varint, whatever bytes follow, is its value
pub varint-spelling : (most limit v : ℕ) (rest : List ℕ) → v < weight_of (suc most) → v < limit
    → varint (suc most) limit (spelling (suc most) v ++ rest) ≡ Ok (v, length (spelling (suc most) v))
unfolding varint
varint-spelling most limit v rest fits below =
    rw (groups_of-spelling most v rest fits, length-digits (suc most) v) (fitting-below limit (digits (suc most) v) v (value_of-digits (suc most) v fits) below)

-- some groups, worth less than one group more
record AreGroups (groups : List ℕ) : Type 0 where
  pub some : 0 < length groups
  pub small : value_of groups < weight_of (length groups)

AreGroups-more : (group : ℕ) (r : Result (List ℕ) Kind) (groups : List ℕ) → group < 128
    → ((gs : List ℕ) → r ≡ Ok gs → AreGroups gs) → with_group group r ≡ Ok groups → AreGroups groups
AreGroups-more group (Ok gs) groups seven are is =
    let same : group ∷ gs ≡ groups = Ok-injective is in
    let rest : AreGroups gs = are gs refl in
    subst AreGroups same (record { some = omega arith; small = omega (arith, rest.small) })
AreGroups-more group (Err k) groups seven are is = absurd (err≢ok is)

groups_of-are : (most : ℕ) (bytes groups : List ℕ) → All (λ b. b < 256) bytes → varint_groups most bytes ≡ Ok groups → AreGroups groups
groups_of-are zero bytes groups are_bytes is = absurd (err≢ok is)
groups_of-are (suc most) [] groups are_bytes is = absurd (err≢ok is)
groups_of-are (suc most) (b ∷ bytes) groups are_bytes is = elim (cases_lt b 128) [
  | inl low ↦
      let same : b ∷ [] ≡ groups = Ok-injective (sym (groups_of-low most b bytes low) ∙ is) in
      subst AreGroups same (record { some = omega arith; small = omega arith })
  | inr high ↦
      let byte : b < 256 = are_bytes 0 0 (omega arith) in
      AreGroups-more (b - 128) (varint_groups most bytes) groups (omega arith)
      (λ gs. groups_of-are most bytes gs (λ k d h. are_bytes (suc k) d (omega (arith, h))))
      (sym (groups_of-high most b bytes high) ∙ is)
]

-- a number below so many groups is spelled with no more
length-spelling : (most n v : ℕ) → v < weight_of (suc n) → length (spelling most v) ≤ suc n
unfolding spelling
length-spelling zero n v fits = omega arith
length-spelling (suc most) zero v fits = let low : v < 128 = omega arith in grind arith
length-spelling (suc most) (suc n) v fits = elim (cases_lt v 128) [
  | inl low ↦ grind arith
  | inr high ↦ let rest : length (spelling most (v / 128)) ≤ suc n = length-spelling most n (v / 128) (omega arith) in grind (arith, rest)
]

length-spelling-groups : (most n v : ℕ) → 0 < n → v < weight_of n → length (spelling most v) ≤ n
length-spelling-groups most zero v some fits = absurd (omega arith)
length-spelling-groups most (suc n) v some fits = length-spelling most n v fits

shortest-of : (most limit v n : ℕ) (r : Result (List ℕ) Kind) → ((gs : List ℕ) → r ≡ Ok gs → AreGroups gs) → fitting limit r ≡ Ok (v, n)
    → length (spelling most v) ≤ n
shortest-of most limit v n (Err k) are is = absurd (err≢ok is)
shortest-of most limit v n (Ok gs) are is = elim (cases_lt (value_of gs) limit) [
  | inl below ↦
      let groups : AreGroups gs = are gs refl in
      let pair : ◌≡◌ {A = ℕ × ℕ} (value_of gs, length gs) (v, n) = Ok-injective (sym (fitting-below limit gs (value_of gs) refl below) ∙ is) in
      let value : value_of gs ≡ v = ap (λ x. x.0) pair in
      let count : length gs ≡ n = ap (λ x. x.1) pair in
      rw (← value, ← count) (length-spelling-groups most (length gs) (value_of gs) groups.some groups.small)
  | inr above ↦ let none : fitting limit (Ok gs) ≡ Err kind.Long = grind arith in absurd (err≢ok (sym none ∙ is))
]

-- no spelling is shorter
pub spelling-shortest : (most limit v n : ℕ) (bytes : List ℕ) → All (λ b. b < 256) bytes → varint most limit bytes ≡ Ok (v, n)
    → length (spelling most v) ≤ n
unfolding varint
spelling-shortest most limit v n bytes are_bytes is =
    shortest-of most limit v n (varint_groups most bytes) (λ gs. groups_of-are most bytes gs are_bytes) is

spelling-high : (most v : ℕ) → 128 ≤ v → spelling (suc most) v ≡ (v % 128 + 128) ∷ spelling most (v / 128)
unfolding spelling
spelling-high most v high = grind arith

spelling-low : (most v : ℕ) → v < 128 → spelling (suc most) v ≡ v ∷ []
unfolding spelling
spelling-low most v low = grind arith

-- one byte more is written
pub spelling-more : (most k v whole : ℕ) (items : List ℕ) → items ++ spelling (most - k) v ≡ spelling most whole → k < most → 128 ≤ v
    → (items ++ (v % 128 + 128) ∷ []) ++ spelling (most - (k + 1)) (v / 128) ≡ spelling most whole
spelling-more most k v whole items so fits high =
    append_assoc items ((v % 128 + 128) ∷ []) (spelling (most - (k + 1)) (v / 128))
    ∙ ap (λ xs. items ++ xs) (sym (ap (λ m. spelling m v) (one_fewer most k fits) ∙ spelling-high (most - (k + 1)) v high))
    ∙ so

-- the last byte is written
pub spelling-last : (most k v whole : ℕ) (items : List ℕ) → items ++ spelling (most - k) v ≡ spelling most whole → k < most → v < 128
    → items ++ v ∷ [] ≡ spelling most whole
spelling-last most k v whole items so fits low =
    ap (λ xs. items ++ xs) (sym (ap (λ m. spelling m v) (one_fewer most k fits) ∙ spelling-low (most - (k + 1)) v low)) ∙ so

some_left : (m v : ℕ) → v < weight_of (suc m) → 128 ≤ v → 0 < m
some_left zero v fits high = absurd (omega arith)
some_left (suc m) v fits high = omega arith

-- fewer groups hold what is left
pub weight-less : (most k v : ℕ) → v < weight_of (most - k) → k < most → 128 ≤ v → (v / 128 < weight_of (most - (k + 1))) × (k + 1 < most)
weight-less most k v fits room high =
    let more : v < weight_of (suc (most - (k + 1))) = subst (λ m. v < weight_of m) (one_fewer most k room) fits in
    let left : 0 < most - (k + 1) = some_left (most - (k + 1)) v more high in
    (omega (arith, more), omega (arith, left))
