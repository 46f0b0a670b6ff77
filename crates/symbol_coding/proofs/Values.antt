-- Values of given widths from bits.
use Rattle.std.proofs.Common.{◌≡◌, ℕ, zero, suc, ◌+◌, ◌-◌, ◌*◌, ◌<◌, ◌≤◌, nat_le, Bool, true, false, List, [], ◌∷◌, ◌++◌, length, take, drop, replicate, sum, Result, Ok, Err, Option, Some, IsSome, if◌then◌else◌, None, sym, refl, ap, subst, ◌∙◌, arith, append_assoc, append-nil, inl, inr, lt-ltb, le-ltb, le-leb, leb-true, leb-false, length-drop, drop-drop, add-mul}
use Rattle.std.proofs.lemmas.Bool.{cond-true, cond-false, cases_lt, true≢false, false≢true}
use Rattle.std.proofs.lemmas.List.Sums.{sum_by-append}
use Rattle.std.proofs.lemmas.List.Folds.{sum_by-replicate}
use Rattle.drc_base.specs.declared.faults.Fault.{Fault}
use Rattle.drc_base.specs.declared.kinds.Kind.TheVariants as kind
use Rattle.drc_base.specs.Steps.{◌>>=◌}
use Rattle.drc_bits.specs.Bits.{BitPlace, after_bits, bits_left, bits_of, next_bits, number_of}
use Rattle.drc_bits.proofs.BitLists.{length-bits_of}
use Rattle.drc_bits.proofs.Many.{one_fewer}
use Rattle.rans_core.specs.Coder.{Coder}
use Rattle.symbol_coding.specs.Symbols.{state_behind_symbol, refilled_symbol, next_symbols}
use Rattle.symbol_coding.proofs.Slots.{symbols-step}
use Rattle.symbol_coding.specs.Block.{values_in_groups, widths, with_values}

-- ---- one value

-- w bits were taken: their number, and the reader after them
pub record IsTaken (w v : ℕ) (r t : BitPlace) : Type 0 where
  pub fits : w ≤ length (bits_left r)
  pub value : v ≡ number_of (take w (bits_left r))
  pub after : t ≡ record { bytes = r.bytes; taken = r.taken + w }

some_or : ℕ → Option ℕ → ℕ
some_or d (Some v) = v
some_or d None = d

has_some : Option ℕ → Bool
has_some (Some v) = true
has_some None = false

-- which branch gave this option
some_of : (b : Bool) (v x : ℕ) → Some v ≡ (if b then Some x else None) → (b ≡ true) × (v ≡ x)
unfolding some_or has_some
some_of true v x is = (refl, ap (some_or v) is)
some_of false v x is = absurd (true≢false (ap has_some is))

none_of : (b : Bool) (x : ℕ) → ◌≡◌ {A = Option ℕ} None (if b then Some x else None) → b ≡ false
unfolding has_some
none_of true x is = absurd (false≢true (ap has_some is))
none_of false x is = refl

pub bits-taken : (w v : ℕ) (r t : BitPlace) → Some v ≡ next_bits w r → t ≡ after_bits w r → IsTaken w v r t
bits-taken w v r t is after =
    let both = some_of (nat_le w (length (bits_left r))) v (number_of (take w (bits_left r))) is in record {
      fits = leb-true w (length (bits_left r)) both.0;
      value = both.1;
      after = after ∙ cond-true _ _ _ both.0;
    }

-- where so many bits are left there is a value
pub bits-there : (w : ℕ) (r : BitPlace) (x : Option ℕ) → x ≡ next_bits w r → w ≤ length (bits_left r) → IsSome x
bits-there w r x is there =
    subst (λ o. IsSome o) (sym (is ∙ cond-true _ _ _ (le-leb w (length (bits_left r)) there))) refl

pub bits-missing : (w : ℕ) (r : BitPlace) → ◌≡◌ {A = Option ℕ} None (next_bits w r) → length (bits_left r) < w
bits-missing w r is = leb-false w (length (bits_left r)) (none_of (nat_le w (length (bits_left r))) (number_of (take w (bits_left r))) is)

-- the bits that are left after that
pub left-taken : (w v : ℕ) (r t : BitPlace) → IsTaken w v r t → bits_left t ≡ drop w (bits_left r)
left-taken w v r t h = ap bits_left h.after ∙ sym (drop-drop w r.taken (bits_of r.bytes))

-- as many fewer as were taken
pub fewer-left : (w v : ℕ) (r t : BitPlace) → IsTaken w v r t → length (bits_left t) ≡ length (bits_left r) - w
fewer-left w v r t h = ap (λ xs. length xs) (left-taken w v r t h) ∙ length-drop w (bits_left r)

-- no more bits are taken than there are
pub taken-within : (w v : ℕ) (bytes : List ℕ) (r t : BitPlace) → IsTaken w v r t → r.bytes ≡ bytes → r.taken ≤ 8 * length bytes → t.taken ≤ 8 * length bytes
taken-within w v bytes r t h same within =
    let l : length (bits_left r) ≡ 8 * length bytes - r.taken =
    length-drop r.taken (bits_of r.bytes) ∙ ap (λ n. n - r.taken) (length-bits_of r.bytes) ∙ ap (λ xs. 8 * length xs - r.taken) same in
    let e : t.taken ≡ r.taken + w = ap (λ (p : BitPlace). p.taken) h.after in
    let f = h.fits in omega (arith, l, e, f, within)

-- how many were taken
pub taken-more : (w v k from : ℕ) (r t : BitPlace) → IsTaken w v r t → r.taken ≡ from + k * w → t.taken ≡ from + (k + 1) * w
taken-more w v k from r t h so =
    let e : t.taken ≡ r.taken + w = ap (λ (p : BitPlace). p.taken) h.after in
    let m : (k + 1) * w ≡ k * w + 1 * w = add-mul k 1 w in
    omega (arith, e, m, so)

-- ---- the values of widths

-- a value between the front and the others
in_front : (front : List ℕ) (v : ℕ) (rest : Result (List ℕ) Fault) → with_values front (rest >>= λ vs. Ok (v ∷ vs)) ≡ with_values (front ++ v ∷ []) rest
in_front front v (Ok vs) = ap (λ xs. Ok xs) (sym (append_assoc front (v ∷ []) vs))
in_front front v (Err f) = refl

pub values_in-next : (long short w : ℕ) (ws bits front : List ℕ) → w ≤ 32 → w ≤ length bits
    → with_values front (values_in_groups long short (w ∷ ws) bits) ≡ with_values (front ++ number_of (take w bits) ∷ []) (values_in_groups long short ws (drop w bits))
unfolding values_in_groups
values_in-next long short w ws bits front small fits =
    rw (cond-false _ _ _ (le-ltb 32 w small), cond-false _ _ _ (le-ltb (length bits) w fits)) (in_front front (number_of (take w bits)) (values_in_groups long short ws (drop w bits)))

pub values_in-short : (long short w : ℕ) (ws bits front : List ℕ) → w ≤ 32 → length bits < w
    → with_values front (values_in_groups long short (w ∷ ws) bits) ≡ Err (record { kind = kind.Short; at = short })
unfolding values_in_groups
values_in-short long short w ws bits front small fits =
    rw (cond-false _ _ _ (le-ltb 32 w small), cond-true _ _ _ (lt-ltb (length bits) w fits)) refl

pub values_in-long : (long short w : ℕ) (ws bits front : List ℕ) → 32 < w
    → with_values front (values_in_groups long short (w ∷ ws) bits) ≡ Err (record { kind = kind.Length; at = long })
unfolding values_in_groups
values_in-long long short w ws bits front large = rw (cond-true _ _ _ (lt-ltb 32 w large)) refl

-- where the bits of so many values of one width aren't all there, they run out
pub values_in-few : (long short w n : ℕ) (ws bits front : List ℕ) → w ≤ 32 → length bits < n * w
    → with_values front (values_in_groups long short (replicate n w ++ ws) bits) ≡ Err (record { kind = kind.Short; at = short })
values_in-few long short w zero ws bits front small few = absurd (omega (arith, few))
values_in-few long short w (suc n) ws bits front small few = elim (cases_lt (length bits) w) [
  | inl missing ↦ values_in-short long short w (replicate n w ++ ws) bits front small missing
  | inr fits ↦
      let l : length (drop w bits) ≡ length bits - w = length-drop w bits in
      let m : suc n * w ≡ n * w + 1 * w = ap (λ k. k * w) (let e : suc n ≡ n + 1 = omega arith in e) ∙ add-mul n 1 w in
      values_in-next long short w (replicate n w ++ ws) bits front small fits
      ∙ values_in-few long short w n ws (drop w bits) (front ++ number_of (take w bits) ∷ []) small (omega (arith, l, m, few, fits))
]

-- so many bits that are left can be taken
pub taken-there : (n taken : ℕ) (bytes : List ℕ) (r : BitPlace) → r.bytes ≡ bytes → n ≤ length (bits_left r) → r.taken ≤ 8 * length bytes → taken ≡ r.taken + n
    → taken ≤ 8 * length bytes
taken-there n taken bytes r same there within is =
    let l : length (bits_left r) ≡ 8 * length bytes - r.taken =
    length-drop r.taken (bits_of r.bytes) ∙ ap (λ k. k - r.taken) (length-bits_of r.bytes) ∙ ap (λ xs. 8 * length xs - r.taken) same in
    omega (arith, l, there, within, is)

-- where a test of what is left says no, less is left
pub less-left : (n left : ℕ) (b : Bool) → (n ≤ left → b ≡ true) → b ≡ false → left < n
less-left n left b holds says = elim (cases_lt left n) [ inl less ↦ less | inr enough ↦ absurd (true≢false (sym (holds enough) ∙ says)) ]

-- ---- one value of a group

-- the bits of the values that follow are there
pub there-more : (w v n k : ℕ) (r t : BitPlace) → IsTaken w v r t → k < n → (n - k) * w ≤ length (bits_left r) → (n - (k + 1)) * w ≤ length (bits_left t)
there-more w v n k r t h inside there =
    let l = fewer-left w v r t h in
    let m : (n - k) * w ≡ (n - (k + 1)) * w + 1 * w = ap (λ j. j * w) (let e : n - k ≡ n - (k + 1) + 1 = omega arith in e) ∙ add-mul (n - (k + 1)) 1 w in
    omega (arith, l, m, there)

-- so are those of the next one
pub there-next : (w n k : ℕ) (r : BitPlace) → k < n → (n - k) * w ≤ length (bits_left r) → w ≤ length (bits_left r)
there-next w n k r inside there =
    let m : (n - k) * w ≡ (n - (k + 1)) * w + 1 * w = ap (λ j. j * w) (let e : n - k ≡ n - (k + 1) + 1 = omega arith in e) ∙ add-mul (n - (k + 1)) 1 w in
    omega (arith, m, there)

pub group-next : (long short w n k v : ℕ) (ws front next : List ℕ) (r t : BitPlace) (whole : Result (List ℕ) Fault) → w ≤ 32 → k < n → IsTaken w v r t → next ≡ front ++ v ∷ []
    → whole ≡ with_values front (values_in_groups long short (replicate (n - k) w ++ ws) (bits_left r))
    → whole ≡ with_values next (values_in_groups long short (replicate (n - (k + 1)) w ++ ws) (bits_left t))
group-next long short w n k v ws front next r t whole small inside taken is so =
    so ∙ ap (λ m. with_values front (values_in_groups long short (replicate m w ++ ws) (bits_left r))) (one_fewer n k inside)
    ∙ values_in-next long short w (replicate (n - (k + 1)) w ++ ws) (bits_left r) front small taken.fits
    ∙ ap (λ x. with_values (front ++ x ∷ []) (values_in_groups long short (replicate (n - (k + 1)) w ++ ws) (drop w (bits_left r)))) (sym taken.value)
    ∙ ap (λ bits. with_values (front ++ v ∷ []) (values_in_groups long short (replicate (n - (k + 1)) w ++ ws) bits)) (sym (left-taken w v r t taken))
    ∙ ap (λ xs. with_values xs (values_in_groups long short (replicate (n - (k + 1)) w ++ ws) (bits_left t))) (sym is)

pub group-end : (long short w n : ℕ) (ws front : List ℕ) (r : BitPlace) (whole : Result (List ℕ) Fault)
    → whole ≡ with_values front (values_in_groups long short (replicate (n - n) w ++ ws) (bits_left r))
    → whole ≡ with_values front (values_in_groups long short ws (bits_left r))
group-end long short w n ws front r whole so = so ∙ ap (λ m. with_values front (values_in_groups long short (replicate m w ++ ws) (bits_left r))) (let e : n - n ≡ 0 = omega arith in e)

-- ---- one group

pub group-values : (long short comps groups g w : ℕ) (probs front next : List ℕ) (d e : Coder) (r t : BitPlace) (whole : Result (List ℕ) Fault) → g < groups
    → w ≡ refilled_symbol d.bits probs d.state → e ≡ record { bits = d.bits; state = state_behind_symbol d.bits probs d.state }
    → ((long short : ℕ) (ws : List ℕ) → with_values front (values_in_groups long short (replicate comps w ++ ws) (bits_left r)) ≡ with_values next (values_in_groups long short ws (bits_left t)))
    → whole ≡ with_values front (values_in_groups long short (widths comps (next_symbols (groups - g) d.bits probs d.state)) (bits_left r))
    → whole ≡ with_values next (values_in_groups long short (widths comps (next_symbols (groups - (g + 1)) e.bits probs e.state)) (bits_left t))
group-values long short comps groups g w probs front next d e r t whole inside symbol after turn so =
    so ∙ ap (λ ss. with_values front (values_in_groups long short (widths comps ss) (bits_left r)))
    (symbols-step groups g probs d e inside after ∙ ap (λ x. x ∷ next_symbols (groups - (g + 1)) e.bits probs e.state) (sym symbol))
    ∙ turn long short (widths comps (next_symbols (groups - (g + 1)) e.bits probs e.state))

pub group-missing : (long short comps groups g w : ℕ) (probs front : List ℕ) (d e : Coder) (r : BitPlace) (whole : Result (List ℕ) Fault) → g < groups
    → w ≡ refilled_symbol d.bits probs d.state → e ≡ record { bits = d.bits; state = state_behind_symbol d.bits probs d.state }
    → ((long short : ℕ) (ws : List ℕ) → with_values front (values_in_groups long short (replicate comps w ++ ws) (bits_left r)) ≡ Err (record { kind = kind.Short; at = short }))
    → whole ≡ with_values front (values_in_groups long short (widths comps (next_symbols (groups - g) d.bits probs d.state)) (bits_left r))
    → whole ≡ Err (record { kind = kind.Short; at = short })
group-missing long short comps groups g w probs front d e r whole inside symbol after turn so =
    so ∙ ap (λ ss. with_values front (values_in_groups long short (widths comps ss) (bits_left r)))
    (symbols-step groups g probs d e inside after ∙ ap (λ x. x ∷ next_symbols (groups - (g + 1)) e.bits probs e.state) (sym symbol))
    ∙ turn long short (widths comps (next_symbols (groups - (g + 1)) e.bits probs e.state))

pub group-long : (long short comps groups g w : ℕ) (probs front : List ℕ) (d e : Coder) (r : BitPlace) (whole : Result (List ℕ) Fault) → g < groups → 0 < comps
    → w ≡ refilled_symbol d.bits probs d.state → e ≡ record { bits = d.bits; state = state_behind_symbol d.bits probs d.state } → 32 < w
    → whole ≡ with_values front (values_in_groups long short (widths comps (next_symbols (groups - g) d.bits probs d.state)) (bits_left r))
    → whole ≡ Err (record { kind = kind.Length; at = long })
group-long long short comps groups g w probs front d e r whole inside some symbol after large so =
    let rest : List ℕ = widths comps (next_symbols (groups - (g + 1)) e.bits probs e.state) in
    so ∙ ap (λ ss. with_values front (values_in_groups long short (widths comps ss) (bits_left r)))
    (symbols-step groups g probs d e inside after ∙ ap (λ x. x ∷ next_symbols (groups - (g + 1)) e.bits probs e.state) (sym symbol))
    ∙ ap (λ m. with_values front (values_in_groups long short (replicate m w ++ rest) (bits_left r))) (let h : comps ≡ suc (comps - 1) = omega arith in h)
    ∙ values_in-long long short w (replicate (comps - 1) w ++ rest) (bits_left r) front large

-- the bits of a group, and those of the groups after it
pub group-taken : (comps groups g w taken taken' total : ℕ) (probs : List ℕ) (d e : Coder) → g < groups
    → w ≡ refilled_symbol d.bits probs d.state → e ≡ record { bits = d.bits; state = state_behind_symbol d.bits probs d.state } → taken' ≡ taken + comps * w
    → taken + sum (widths comps (next_symbols (groups - g) d.bits probs d.state)) ≡ total
    → taken' + sum (widths comps (next_symbols (groups - (g + 1)) e.bits probs e.state)) ≡ total
group-taken comps groups g w taken taken' total probs d e inside symbol after is so =
    let rest : List ℕ = widths comps (next_symbols (groups - (g + 1)) e.bits probs e.state) in
    let split : sum (widths comps (next_symbols (groups - g) d.bits probs d.state)) ≡ sum (replicate comps w ++ rest) =
    ap (λ ss. sum (widths comps ss)) (symbols-step groups g probs d e inside after ∙ ap (λ x. x ∷ next_symbols (groups - (g + 1)) e.bits probs e.state) (sym symbol)) in
    let two : sum (replicate comps w ++ rest) ≡ sum (replicate comps w) + sum rest = sum_by-append (λ x. x) (replicate comps w) rest in
    let one : sum (replicate comps w) ≡ comps * w = sum_by-replicate (λ x. x) comps w in
    omega (arith, split, two, one, is, so)

pub groups-end : (long short comps groups : ℕ) (probs front : List ℕ) (d : Coder) (r : BitPlace) (whole : Result (List ℕ) Fault)
    → whole ≡ with_values front (values_in_groups long short (widths comps (next_symbols (groups - groups) d.bits probs d.state)) (bits_left r)) → whole ≡ Ok front
unfolding next_symbols values_in_groups
groups-end long short comps groups probs front d r whole so =
    so ∙ ap (λ m. with_values front (values_in_groups long short (widths comps (next_symbols m d.bits probs d.state)) (bits_left r))) (let e : groups - groups ≡ 0 = omega arith in e)
    ∙ ap (λ xs. Ok xs) (append-nil front)

pub groups-taken : (comps groups taken total : ℕ) (probs : List ℕ) (d : Coder) → taken + sum (widths comps (next_symbols (groups - groups) d.bits probs d.state)) ≡ total → taken ≡ total
unfolding next_symbols
groups-taken comps groups taken total probs d so =
    let e : groups - groups ≡ 0 = omega arith in
    let z : sum (widths comps (next_symbols (groups - groups) d.bits probs d.state)) ≡ 0 = ap (λ m. sum (widths comps (next_symbols m d.bits probs d.state))) e in
    omega (arith, z, so)

-- a fault of a kind is that fault
pub long_of : (f : Fault) (whole : Result (List ℕ) Fault) → f.kind ≡ kind.Length → whole ≡ Err (record { kind = kind.Length; at = f.at }) → whole ≡ Err f
long_of f whole is so = so ∙ ap (λ k. Err (record { kind = k; at = f.at })) (sym is)

pub short_of : (f : Fault) (whole : Result (List ℕ) Fault) → f.kind ≡ kind.Short → whole ≡ Err (record { kind = kind.Short; at = f.at }) → whole ≡ Err f
short_of f whole is so = so ∙ ap (λ k. Err (record { kind = k; at = f.at })) (sym is)
