-- Reading back what was written, symbol by symbol.
use Rattle.std.proofs.Common.{◌≡◌, ℕ, zero, suc, ◌+◌, ◌*◌, ◌/◌, ◌<◌, ◌≤◌, Bool, true, false, cond, ◌==◌, nat_le, List, [], ◌∷◌, ◌++◌, length, take, drop, Option, Some, None, sym, refl, ap, ◌∙◌, subst, arith, le-leb, if◌then◌else◌, IfSome, inl, inr, length-drop}
use Rattle.std.proofs.lemmas.Bool.{cond-true, cond-false, lt-leb, cases_lt}
use Rattle.std.proofs.lemmas.List.{drop-drop}
use Rattle.drc_bits.specs.Bits.{BitPlace, next_bits, after_bits, bits_left, bits_of, low_bits, number_of}
use Rattle.corner_table.specs.declared.symbols.Symbol.{Symbol}
use Rattle.corner_table.specs.declared.symbols.Symbol.TheVariants.{C, S, L, R, E}
use Rattle.corner_table.proofs.Places.{Some_injective}
use Rattle.eb_standard.specs.SymbolBits.{SymbolPlace, symbol_bits, three_bit_symbol, next_symbol, place_behind_symbol, longer, after_longer}
use Rattle.eb_standard.specs.ReadBack.{ReadsBack, IsInBits}

-- the next bits are those at the front
next_is : (n : ℕ) (r : BitPlace) (ws : List ℕ) → bits_left r ≡ ws → n ≤ length ws → next_bits n r ≡ Some (number_of (take n ws))
next_is n r ws e h = ap (λ (l : List ℕ). if nat_le n (length l) then Some (number_of (take n l)) else None) e ∙ cond-true _ _ _ (le-leb n (length ws) h)

-- and they are gone afterwards
left_is : (n : ℕ) (r : BitPlace) (ws : List ℕ) → bits_left r ≡ ws → n ≤ length ws → bits_left (after_bits n r) ≡ drop n ws
left_is n r ws e h =
    let many : nat_le n (length (bits_left r)) ≡ true = ap (λ (l : List ℕ). nat_le n (length l)) e ∙ le-leb n (length ws) h in
    ap bits_left (cond-true (nat_le n (length (bits_left r))) (record { bytes = r.bytes; taken = r.taken + n }) r many)
    ∙ sym (drop-drop n r.taken (bits_of r.bytes)) ∙ ap (drop n) e

abbrev place_of : BitPlace → Bool → SymbolPlace
place_of r b = record { place = r; begun = b }

-- the other two bits of a longer symbol
longer_is : (r : BitPlace) (a b : ℕ) (rest : List ℕ) → bits_left r ≡ a ∷ b ∷ rest → (longer r ≡ Some (three_bit_symbol (a + 2 * (b + 2 * 0)))) × (bits_left (after_longer r).place ≡ rest) × ((after_longer r).begun ≡ false)
longer_is r a b rest e =
    let n : next_bits 2 r ≡ Some (a + 2 * (b + 2 * 0)) = next_is 2 r (a ∷ b ∷ rest) e (omega arith) in
    let f : Option ℕ → SymbolPlace = λ o. elim o [ None ↦ place_of r true | Some n ↦ place_of (after_bits 2 r) false ] in (
      ap (λ (o : Option ℕ). let x : Option Symbol = elim o [ None ↦ None | Some n ↦ Some (three_bit_symbol n) ] in x) n,
      ap (λ (o : Option ℕ). bits_left (f o).place) n ∙ left_is 2 r (a ∷ b ∷ rest) e (omega arith),
      ap (λ (o : Option ℕ). (f o).begun) n,
    )

-- a longer symbol, from its first bit on
whole_is : (r : BitPlace) (a b : ℕ) (rest : List ℕ) → bits_left r ≡ 1 ∷ a ∷ b ∷ rest →
    (next_symbol (place_of r false) ≡ Some (three_bit_symbol (a + 2 * (b + 2 * 0)))) × (bits_left (place_behind_symbol (place_of r false)).place ≡ rest) × ((place_behind_symbol (place_of r false)).begun ≡ false)
whole_is r a b rest e =
    let n : next_bits 1 r ≡ Some 1 = next_is 1 r (1 ∷ a ∷ b ∷ rest) e (omega arith) in
    let l = longer_is (after_bits 1 r) a b rest (left_is 1 r (1 ∷ a ∷ b ∷ rest) e (omega arith)) in
    let f : Option ℕ → Option Symbol = λ o. elim o [ None ↦ None | Some b ↦ cond (b == 0) (Some C) (longer (after_bits 1 r)) ] in
    let g : Option ℕ → SymbolPlace = λ o. elim o [ None ↦ place_of r false | Some b ↦ cond (b == 0) (place_of (after_bits 1 r) false) (after_longer (after_bits 1 r)) ] in
    (ap f n ∙ l.0, ap (λ (o : Option ℕ). bits_left (g o).place) n ∙ l.1, ap (λ (o : Option ℕ). (g o).begun) n ∙ l.2)

-- C
tip_is : (r : BitPlace) (rest : List ℕ) → bits_left r ≡ 0 ∷ rest → (next_symbol (place_of r false) ≡ Some C) × (bits_left (place_behind_symbol (place_of r false)).place ≡ rest) × ((place_behind_symbol (place_of r false)).begun ≡ false)
tip_is r rest e =
    let n : next_bits 1 r ≡ Some 0 = next_is 1 r (0 ∷ rest) e (omega arith) in
    let f : Option ℕ → Option Symbol = λ o. elim o [ None ↦ None | Some b ↦ cond (b == 0) (Some C) (longer (after_bits 1 r)) ] in
    let g : Option ℕ → SymbolPlace = λ o. elim o [ None ↦ place_of r false | Some b ↦ cond (b == 0) (place_of (after_bits 1 r) false) (after_longer (after_bits 1 r)) ] in
    (ap f n, ap (λ (o : Option ℕ). bits_left (g o).place) n ∙ left_is 1 r (0 ∷ rest) e (omega arith), ap (λ (o : Option ℕ). (g o).begun) n)

each_is : (x : Symbol) (r : BitPlace) (rest : List ℕ) → bits_left r ≡ symbol_bits x ++ rest → (next_symbol (place_of r false) ≡ Some x) × (bits_left (place_behind_symbol (place_of r false)).place ≡ rest) × ((place_behind_symbol (place_of r false)).begun ≡ false)
unfolding low_bits
each_is C r rest e = tip_is r rest e
each_is S r rest e = whole_is r 0 0 rest e
each_is L r rest e = whole_is r 1 0 rest e
each_is R r rest e = whole_is r 0 1 rest e
each_is E r rest e = whole_is r 1 1 rest e

pub reads_back : (s : SymbolPlace) → ReadsBack s (place_behind_symbol s) (next_symbol s)
reads_back s x rest b e =
    let same : place_of s.place false ≡ s = ap (place_of s.place) (sym b) in
    let P : SymbolPlace → Type 0 = λ t. (next_symbol t ≡ Some x) × (bits_left (place_behind_symbol t).place ≡ rest) × ((place_behind_symbol t).begun ≡ false) in
    subst P same (each_is x s.place rest e)

pub reads_back_as : (s t : SymbolPlace) (o : Option Symbol) → o ≡ next_symbol s → t ≡ place_behind_symbol s → ReadsBack s t o
reads_back_as s t o p q = subst (λ (u : SymbolPlace). ReadsBack s u o) (sym q) (subst (ReadsBack s (place_behind_symbol s)) (sym p) (reads_back s))

-- bits are 0 and 1
abbrev AreBits : List ℕ → Type 0
AreBits [] = Unit {0}
AreBits (b ∷ bs) = (b < 2) × AreBits bs

bits-append : (xs ys : List ℕ) → AreBits xs → AreBits ys → AreBits (xs ++ ys)
bits-append [] ys h k = k
bits-append (x ∷ xs) ys h k = (h.0, bits-append xs ys h.1 k)

bits-drop : (n : ℕ) (xs : List ℕ) → AreBits xs → AreBits (drop n xs)
bits-drop zero xs h = h
bits-drop (suc n) [] h = tt
bits-drop (suc n) (x ∷ xs) h = bits-drop n xs h.1

low_are_bits : (n v : ℕ) → AreBits (low_bits n v)
unfolding low_bits
low_are_bits zero v = tt
low_are_bits (suc n) v = (omega arith, low_are_bits n (v / 2))

all_are_bits : (bytes : List ℕ) → AreBits (bits_of bytes)
unfolding bits_of
all_are_bits [] = tt
all_are_bits (b ∷ bytes) = bits-append (low_bits 8 b) (bits_of bytes) (low_are_bits 8 b) (all_are_bits bytes)

-- no symbol where too few bits are left
next_none : (n : ℕ) (r : BitPlace) (ws : List ℕ) → bits_left r ≡ ws → length ws < n → next_bits n r ≡ None
next_none n r ws e h = ap (λ (l : List ℕ). if nat_le n (length l) then Some (number_of (take n l)) else None) e ∙ cond-false _ _ _ (lt-leb n (length ws) h)

short_none : (r : BitPlace) (ws : List ℕ) → bits_left r ≡ 1 ∷ ws → length ws < 2 → next_symbol (place_of r false) ≡ None
short_none r ws e h =
    let n : next_bits 1 r ≡ Some 1 = next_is 1 r (1 ∷ ws) e (omega arith) in
    let m : next_bits 2 (after_bits 1 r) ≡ None = next_none 2 (after_bits 1 r) ws (left_is 1 r (1 ∷ ws) e (omega arith)) h in
    let f : Option ℕ → Option Symbol = λ o. elim o [ None ↦ None | Some b ↦ cond (b == 0) (Some C) (longer (after_bits 1 r)) ] in
    ap f n ∙ ap (λ (o : Option ℕ). let x : Option Symbol = elim o [ None ↦ None | Some n ↦ Some (three_bit_symbol n) ] in x) m

none_left : (r : BitPlace) → bits_left r ≡ [] → next_symbol (place_of r false) ≡ None
none_left r e =
    let f : Option ℕ → Option Symbol = λ o. elim o [ None ↦ None | Some b ↦ cond (b == 0) (Some C) (longer (after_bits 1 r)) ] in
    ap f (next_none 1 r [] e (omega arith))

abbrev Begins : BitPlace → Symbol → Type 0
Begins r y = (rest : List ℕ) × (bits_left r ≡ symbol_bits y ++ rest)

not_none : (r : BitPlace) (y : Symbol) → next_symbol (place_of r false) ≡ None → next_symbol (place_of r false) ≡ Some y → Begins r y
not_none r y n q = absurd (let no = sym n ∙ q in cc)

-- the symbol that is answered is the one whose bits come next
one_symbol : (r : BitPlace) (x y : Symbol) (rest : List ℕ) → bits_left r ≡ symbol_bits x ++ rest → next_symbol (place_of r false) ≡ Some y → Begins r y
one_symbol r x y rest e q = (rest, subst (λ (z : Symbol). bits_left r ≡ symbol_bits z ++ rest) (Some_injective x y (sym (each_is x r rest e).0 ∙ q)) e)

bits_tell : (r : BitPlace) (ws : List ℕ) (y : Symbol) → bits_left r ≡ ws → AreBits ws → next_symbol (place_of r false) ≡ Some y → Begins r y
unfolding low_bits
bits_tell r [] y e h q = not_none r y (none_left r e) q
bits_tell r (zero ∷ ws) y e h q = one_symbol r C y ws e q
bits_tell r (suc zero ∷ []) y e h q = not_none r y (short_none r [] e (omega arith)) q
bits_tell r (suc zero ∷ a ∷ []) y e h q = not_none r y (short_none r (a ∷ []) e (omega arith)) q
bits_tell r (suc zero ∷ zero ∷ zero ∷ ws) y e h q = one_symbol r S y ws e q
bits_tell r (suc zero ∷ suc zero ∷ zero ∷ ws) y e h q = one_symbol r L y ws e q
bits_tell r (suc zero ∷ zero ∷ suc zero ∷ ws) y e h q = one_symbol r R y ws e q
bits_tell r (suc zero ∷ suc zero ∷ suc zero ∷ ws) y e h q = one_symbol r E y ws e q
bits_tell r (suc zero ∷ suc (suc n) ∷ b ∷ ws) y e h q = absurd (let l = h.1.0 in omega arith)
bits_tell r (suc zero ∷ zero ∷ suc (suc n) ∷ ws) y e h q = absurd (let l = h.1.1.0 in omega arith)
bits_tell r (suc zero ∷ suc zero ∷ suc (suc n) ∷ ws) y e h q = absurd (let l = h.1.1.0 in omega arith)
bits_tell r (suc (suc n) ∷ ws) y e h q = absurd (let l = h.0 in omega arith)

pub is_in_bits : (s : SymbolPlace) (o : Option Symbol) → o ≡ next_symbol s → IsInBits s o
is_in_bits s None p = tt
is_in_bits s (Some y) p = λ b.
    bits_tell s.place (bits_left s.place) y refl (bits-drop s.place.taken (bits_of s.place.bytes) (all_are_bits s.place.bytes))
    (ap next_symbol (ap (place_of s.place) (sym b)) ∙ sym p)

-- a symbol takes some of the bits
abbrev symbol_after : BitPlace → Option ℕ → Option Symbol
symbol_after r o = elim o [ None ↦ None | Some b ↦ cond (b == 0) (Some C) (longer (after_bits 1 r)) ]

abbrev place_after : BitPlace → Option ℕ → SymbolPlace
place_after r o = elim o [ None ↦ place_of r false | Some b ↦ cond (b == 0) (place_of (after_bits 1 r) false) (after_longer (after_bits 1 r)) ]

abbrev Takes : BitPlace → SymbolPlace → Option Symbol → Type 0
Takes r t o = IfSome o (λ x. length (bits_left t.place) < length (bits_left r))

-- two bits of a longer symbol
longer_takes : (r : BitPlace) → Takes r (after_longer r) (longer r)
longer_takes r =
    let f : Option ℕ → Option Symbol = λ o. elim o [ None ↦ None | Some n ↦ Some (three_bit_symbol n) ] in
    let g : Option ℕ → SymbolPlace = λ o. elim o [ None ↦ place_of r true | Some n ↦ place_of (after_bits 2 r) false ] in
    elim (cases_lt (length (bits_left r)) 2) [
      | inl few ↦ subst (Takes r (after_longer r)) (sym (ap f (next_none 2 r (bits_left r) refl few))) tt
      | inr many ↦
          let n = next_is 2 r (bits_left r) refl many in
          let p = ap (λ (o : Option ℕ). bits_left (g o).place) n ∙ left_is 2 r (bits_left r) refl many in
          let l = ap (λ (w : List ℕ). length w) p ∙ length-drop 2 (bits_left r) in
          subst (Takes r (after_longer r)) (sym (ap f n)) (omega arith)
    ]

-- the first bit, and what is behind it
first_takes : (r : BitPlace) (b : ℕ) (zero : Bool) → (b == 0) ≡ zero → length (bits_left (after_bits 1 r)) < length (bits_left r) → Takes r (place_after r (Some b)) (symbol_after r (Some b))
first_takes r b true e h =
    subst (Takes r (place_after r (Some b))) (sym (cond-true (b == 0) (Some C) (longer (after_bits 1 r)) e))
    (subst (λ (t : SymbolPlace). length (bits_left t.place) < length (bits_left r)) (sym (cond-true (b == 0) (place_of (after_bits 1 r) false) (after_longer (after_bits 1 r)) e)) h)
first_takes r b false e h =
    subst (Takes r (place_after r (Some b))) (sym (cond-false (b == 0) (Some C) (longer (after_bits 1 r)) e))
    (subst (λ (t : SymbolPlace). Takes r t (longer (after_bits 1 r))) (sym (cond-false (b == 0) (place_of (after_bits 1 r) false) (after_longer (after_bits 1 r)) e))
    (fewer_still (longer (after_bits 1 r)) (longer_takes (after_bits 1 r))))
  where
    fewer_still : (o : Option Symbol) → Takes (after_bits 1 r) (after_longer (after_bits 1 r)) o → Takes r (after_longer (after_bits 1 r)) o
    fewer_still None k = tt
    fewer_still (Some x) k = omega arith

next_takes : (r : BitPlace) (begun : Bool) → Takes r (place_behind_symbol (place_of r begun)) (next_symbol (place_of r begun))
next_takes r true = longer_takes r
next_takes r false = elim (cases_lt (length (bits_left r)) 1) [
  | inl none ↦ subst (Takes r (place_behind_symbol (place_of r false))) (sym (ap (symbol_after r) (next_none 1 r (bits_left r) refl none))) tt
  | inr some ↦
      let n = next_is 1 r (bits_left r) refl some in
      let b = number_of (take 1 (bits_left r)) in
      let l = ap (λ (w : List ℕ). length w) (left_is 1 r (bits_left r) refl some) ∙ length-drop 1 (bits_left r) in
      subst (λ (o : Option ℕ). Takes r (place_after r o) (symbol_after r o)) (sym n) (first_takes r b (b == 0) refl (omega arith))
]

pub takes_some : (s t : SymbolPlace) (o : Option Symbol) → o ≡ next_symbol s → t ≡ place_behind_symbol s → Takes s.place t o
takes_some s t o p q = subst (Takes s.place t) (sym p) (subst (λ (u : SymbolPlace). Takes s.place u (next_symbol s)) (sym q) (next_takes s.place s.begun))
