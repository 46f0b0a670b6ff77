-- The symbols of slots.
use Rattle.std.proofs.Common.{◌≡◌, ℕ, zero, suc, ◌+◌, ◌%◌, ◌^◌, ◌<◌, ◌≤◌, List, [], ◌∷◌, length, take, sum, get_or, arith, sym, ap, subst, ◌∙◌, mod-lt, pow_pos, ◌-◌, ◌++◌, append_assoc, append-nil, add-one, refl}
use Rattle.drc_bits.proofs.Many.{one_fewer}
use Rattle.rans_core.specs.Coder.{Coder, CoderState, pulled, refilled_coder}
use Rattle.symbol_tables.specs.Tables.{HasSymbol, cum_of, symbol_of}
use Rattle.symbol_tables.proofs.Symbols.{sum-cons, symbol_of-is}
use Rattle.symbol_coding.specs.Symbols.{state_behind_symbol, interval_of, refilled_symbol, next_symbols}

-- the slots of a symbol end at or below all slots
pub within : (probs : List ℕ) (s : ℕ) → s < length probs → cum_of probs s + get_or probs s 0 ≤ sum probs
within [] s h = absurd (omega (arith, h))
within (p ∷ probs) zero h = let e = sum-cons p probs in omega (arith, e)
within (p ∷ probs) (suc s) h =
    let c : sum (take (suc s) (p ∷ probs)) ≡ p + sum (take s probs) = sum-cons p (take s probs) in
    let e = sum-cons p probs in
    let r = within probs s (omega (arith, h)) in
    omega (arith, c, e, r)

-- the symbol of the next slot is the next symbol
pub next_symbol-is : (probs : List ℕ) (d e : Coder) (slot s : ℕ) → e ≡ refilled_coder d → slot ≡ e.state.number % 2 ^ d.bits → HasSymbol probs slot s
    → s ≡ refilled_symbol d.bits probs d.state
next_symbol-is probs d e slot s is shown has =
    let same : slot ≡ (refilled_coder d).state.number % 2 ^ d.bits = shown ∙ ap (λ (c : Coder). c.state.number % 2 ^ d.bits) is in
    sym (symbol_of-is probs slot s has) ∙ ap (symbol_of probs) same

-- the next slot is one of all slots
pub slot-within : (probs : List ℕ) (d e : Coder) (slot : ℕ) → slot ≡ e.state.number % 2 ^ d.bits → sum probs ≡ 2 ^ d.bits → slot < sum probs
slot-within probs d e slot shown whole =
    subst (λ n. n < sum probs) (sym shown) (subst (λ n. e.state.number % 2 ^ d.bits < n) (sym whole) (mod-lt e.state.number (pow_pos d.bits)))

-- what is pulled with the interval of that symbol
pub after_symbol-is : (probs : List ℕ) (d e f : Coder) (s cum prob : ℕ) → e ≡ refilled_coder d → s ≡ refilled_symbol d.bits probs d.state → cum ≡ cum_of probs s → prob ≡ get_or probs s 0
    → f ≡ record { bits = e.bits; state = pulled (2 ^ e.bits) (record { cum = cum; prob = prob }) e.state }
    → f ≡ record { bits = d.bits; state = state_behind_symbol d.bits probs d.state }
after_symbol-is probs d e f s cum prob is symbol c p after =
    after ∙ rw (c, p, symbol) (ap (λ (x : Coder). record { bits = x.bits; state = pulled (2 ^ x.bits) (interval_of probs (refilled_symbol d.bits probs d.state)) x.state }) is)

-- the first of the symbols that are left, and the others
pub symbols-step : (n k : ℕ) (probs : List ℕ) (d e : Coder) → k < n → e ≡ record { bits = d.bits; state = state_behind_symbol d.bits probs d.state }
    → next_symbols (n - k) d.bits probs d.state ≡ refilled_symbol d.bits probs d.state ∷ next_symbols (n - (k + 1)) e.bits probs e.state
unfolding next_symbols
symbols-step n k probs d e inside after =
    ap (λ m. next_symbols m d.bits probs d.state) (one_fewer n k inside)
    ∙ ap (λ (x : Coder). refilled_symbol d.bits probs d.state ∷ next_symbols (n - (k + 1)) x.bits probs x.state) (sym after)

-- there are as many symbols as are to come
pub next_count : (n bits : ℕ) (probs : List ℕ) (s : CoderState) → length (next_symbols n bits probs s) ≡ n
unfolding next_symbols
next_count zero bits probs s = refl
next_count (suc n) bits probs s = ap suc (next_count n bits probs (state_behind_symbol bits probs s))

-- the first of them is taken
pub symbols-taken : (n m s : ℕ) (probs : List ℕ) (d e : Coder) → n ≡ m + 1 → s ≡ refilled_symbol d.bits probs d.state
    → e ≡ record { bits = d.bits; state = state_behind_symbol d.bits probs d.state }
    → next_symbols n d.bits probs d.state ≡ s ∷ next_symbols m e.bits probs e.state
unfolding next_symbols
symbols-taken n m s probs d e count symbol after =
    ap (λ k. next_symbols k d.bits probs d.state) (count ∙ add-one m)
    ∙ ap (λ x. x ∷ next_symbols m d.bits probs (state_behind_symbol d.bits probs d.state)) (sym symbol)
    ∙ ap (λ (x : Coder). s ∷ next_symbols m x.bits probs x.state) (sym after)

-- one more is in the list, and one fewer to come
pub list-more : (front next left after whole : List ℕ) (s : ℕ) → next ≡ front ++ s ∷ [] → left ≡ s ∷ after → front ++ left ≡ whole → next ++ after ≡ whole
list-more front next left after whole s push took so =
    ap (λ xs. xs ++ after) push ∙ append_assoc front (s ∷ []) after ∙ ap (λ xs. front ++ xs) (sym took) ∙ so

-- none is to come
pub list-end : (front left whole : List ℕ) → length left ≡ 0 → front ++ left ≡ whole → front ≡ whole
list-end front [] whole none so = sym (append-nil front) ∙ so
list-end front (x ∷ left) whole none so = absurd (omega (arith, none))
