-- The probabilities for counts sum to the slots.
use Rattle.std.proofs.Common.{◌≡◌, ℕ, ◌+◌, ◌-◌, ◌*◌, ◌/◌, ◌^◌, ◌<◌, ◌≤◌, ◌==◌, Bool, nat_lt, List, [], ◌∷◌, map, length, sum, position, Some, None, unwrap_or, set, get_or, if◌then◌else◌, sym, ap, ◌∙◌, subst, inl, inr, arith, ltb-true, div-mul-le_self, add-mul, le_of_mul-le-mul_right, mul_comm, ◌%◌, pow_mono}
use Rattle.std.proofs.lemmas.Nat.{one_shl}
use Rattle.std.proofs.lemmas.Bool.{cases_lt, cases_eq, cases_Bool, cond_both, lt-ltb}
use Rattle.std.proofs.lemmas.List.{length-set, length-map, get_or_past, get_or-map, get_or-set_other}
use Rattle.std.proofs.lemmas.Grind.{get_or-set_at}
use Rattle.std.proofs.lemmas.List.Sums.{sum_by-cons, sum_by-set, get_or-le-sum_by}
use Rattle.std.specs.List.{position_or_len}
use Rattle.symbol_tables.specs.Normal.{used_of, greatest_count, most_frequent, share_of, shares, normal, HasTable}
use Rattle.symbol_tables.proofs.Symbols.{sum-cons}

-- what a share takes of all slots but one for each used symbol, times all counts
pub share_of-part : (others all count : ℕ) → 0 < all → share_of others all count * all ≤ (if nat_lt 0 count then 1 else 0) * all + count * others
share_of-part others all count some =
    elim (cases_Bool (nat_lt 0 count)) [
      | inl t ↦ rw t (let h : count * others / all * all ≤ count * others = div-mul-le_self (count * others) all in
          let e : (1 + count * others / all) * all ≡ 1 * all + count * others / all * all = add-mul 1 (count * others / all) all in omega (arith, h, e))
      | inr f ↦ rw f (omega arith)
    ]

pub shares-part : (others all : ℕ) (counts : List ℕ) → 0 < all →
    sum (map (share_of others all) counts) * all ≤ used_of counts * all + sum counts * others
shares-part others all [] some = omega arith
shares-part others all (n ∷ counts) some =
    let f : ℕ → ℕ = share_of others all in
    let a : sum (map f (n ∷ counts)) ≡ f n + sum (map f counts) = sum-cons (f n) (map f counts) in
    let u : used_of (n ∷ counts) ≡ (if nat_lt 0 n then 1 else 0) + used_of counts = sum_by-cons (λ x. if nat_lt 0 x then 1 else 0) n counts in
    let t : sum (n ∷ counts) ≡ n + sum counts = sum-cons n counts in
    let first = share_of-part others all n some in
    let rest = shares-part others all counts some in
    let ae : (f n + sum (map f counts)) * all ≡ f n * all + sum (map f counts) * all = add-mul (f n) (sum (map f counts)) all in
    let ue : ((if nat_lt 0 n then 1 else 0) + used_of counts) * all ≡ (if nat_lt 0 n then 1 else 0) * all + used_of counts * all = add-mul (if nat_lt 0 n then 1 else 0) (used_of counts) all in
    let te : (n + sum counts) * others ≡ n * others + sum counts * others = add-mul n (sum counts) others in
    rw (a, u, t) (rw (ae, ue, te) (omega (arith, first, rest)))

-- a sum is positive where an item is
pub sum-positive : (xs : List ℕ) (k : ℕ) → 0 < get_or xs k 0 → 0 < sum xs
sum-positive xs k h = elim (cases_lt k (length xs)) [
  | inl inside ↦ omega (arith, get_or-le-sum_by (λ x. x) xs k 0 inside)
  | inr past ↦ absurd (omega (arith, get_or_past xs k 0 past))
]

-- the shares are no more than the slots
pub shares-sum : (counts : List ℕ) (total : ℕ) → 0 < sum counts → used_of counts ≤ total → sum (shares counts total) ≤ total
shares-sum counts total some used =
    let all : ℕ = sum counts in
    let others : ℕ = total - used_of counts in
    let h : sum (map (share_of others all) counts) * all ≤ used_of counts * all + all * others = shares-part others all counts some in
    let e : used_of counts * all + all * others ≡ total * all =
    ap (λ n. used_of counts * all + n) (mul_comm all others) ∙ sym (add-mul (used_of counts) others all) ∙ ap (λ n. n * all) (omega arith) in
    le_of_mul-le-mul_right (subst (λ n. sum (map (share_of others all) counts) * all ≤ n) e h) some

-- the most frequent symbol is a symbol
pub position-below : (p : ℕ → Bool) (xs : List ℕ) → 0 < length xs → unwrap_or (position p xs) 0 < length xs
position-below p xs some =
    let n : ℕ = position_or_len p xs in
    cond_both (nat_lt n (length xs)) (Some n) None (λ o. unwrap_or o 0 < length xs) (λ t. ltb-true n (length xs) t) (λ f. some)

-- what is left makes the sum whole
pub normal-sum : (counts : List ℕ) (bits : ℕ) → HasTable counts bits → sum (normal counts bits) ≡ 2 ^ bits
unfolding normal
normal-sum counts bits h =
    let given : List ℕ = shares counts (2 ^ bits) in
    let at : ℕ = most_frequent counts in
    let l : length given ≡ length counts = length-map counts (share_of (2 ^ bits - used_of counts) (sum counts)) in
    let inside : at < length given = subst (λ n. at < n) (sym l) (position-below (λ n. n == greatest_count counts) counts h.some) in
    let most : sum given ≤ 2 ^ bits = shares-sum counts (2 ^ bits) (sum-positive counts (length counts - 1) h.last) h.used in
    let e : sum (set given at (get_or given at 0 + (2 ^ bits - sum given))) + get_or given at 0 ≡ sum given + (get_or given at 0 + (2 ^ bits - sum given)) =
    sum_by-set (λ x. x) given at (get_or given at 0 + (2 ^ bits - sum given)) 0 inside in
    omega (arith, e, most)

pub normal-length : (counts : List ℕ) (bits : ℕ) → length (normal counts bits) ≡ length counts
unfolding normal
normal-length counts bits =
    let given : List ℕ = shares counts (2 ^ bits) in
    let at : ℕ = most_frequent counts in
    length-set given at (get_or given at 0 + (2 ^ bits - sum given)) ∙ length-map counts (share_of (2 ^ bits - used_of counts) (sum counts))

-- there are counts
pub HasTable-positive : (counts : List ℕ) (bits : ℕ) → HasTable counts bits → 0 < sum counts
HasTable-positive counts bits h = sum-positive counts (length counts - 1) h.last

pub most_frequent-below : (counts : List ℕ) (bits : ℕ) → HasTable counts bits → most_frequent counts < length counts
most_frequent-below counts bits h = position-below (λ n. n == greatest_count counts) counts h.some

pub shifted : (bits : ℕ) → bits ≤ 20 → (1 * 2 ^ bits % 2 ^ 32 ≡ 2 ^ bits) × (2 ^ bits ≤ 2 ^ 20)
shifted bits h = (one_shl bits 32 (omega arith), pow_mono {i = bits} {j = 20} h)

-- a used symbol has a slot
share_of-positive : (others all count : ℕ) → 0 < count → 0 < share_of others all count
share_of-positive others all count h = rw (lt-ltb 0 count h) (omega arith)

pub normal-positive : (counts : List ℕ) (bits s : ℕ) → 0 < get_or counts s 0 → 0 < get_or (normal counts bits) s 0
unfolding normal
normal-positive counts bits s h =
    let others : ℕ = 2 ^ bits - used_of counts in
    let all : ℕ = sum counts in
    let given : List ℕ = shares counts (2 ^ bits) in
    let at : ℕ = most_frequent counts in
    let l : length given ≡ length counts = length-map counts (share_of others all) in
    elim (cases_lt s (length counts)) [
      | inl inside ↦
          let e : get_or given s 0 ≡ share_of others all (get_or counts s 0) = get_or-map (share_of others all) counts s 0 0 inside in
          let some : 0 < get_or given s 0 = subst (λ n. 0 < n) (sym e) (share_of-positive others all (get_or counts s 0) h) in
          elim (cases_eq s at) [
            | inl same ↦ rw (get_or-set_at given at s (get_or given at 0 + (2 ^ bits - sum given)) 0 same (omega arith))
                (let t : 0 < get_or given at 0 = subst (λ n. 0 < get_or given n 0) same some in omega arith)
            | inr other ↦ subst (λ n. 0 < n) (sym (get_or-set_other given at s (get_or given at 0 + (2 ^ bits - sum given)) 0 other)) some
          ]
      | inr past ↦ absurd (omega (arith, get_or_past counts s 0 past))
    ]
