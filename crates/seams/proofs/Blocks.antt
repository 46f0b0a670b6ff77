-- Bits that were made of flags give these flags.
use Rattle.std.proofs.Common.{◌≡◌, ℕ, zero, suc, ◌+◌, ◌*◌, ◌<◌, Bool, true, false, cond, List, [], ◌∷◌, ◌++◌, map, length, get_or, set, take, inl, inr, refl, ap, sym, ◌∙◌, arith}
use Rattle.std.proofs.lemmas.Bool.{cases_Bool, cond-true, cond-false}
use Rattle.std.proofs.lemmas.List.{get_or-map, length-append, map-append, take-set, take_more_set}
use Rattle.rans_binary.specs.Blocks.{Block, next_bit, after_bit, behind, bit_of, first_bits}
use Rattle.rans_binary.proofs.BitNumbers.{bit_of-after}
use Rattle.corner_table.specs.Sides.{Side, side_at, Gluing}
use Rattle.corner_table.proofs.Numbers.{number-side_at}
use Rattle.corner_table.proofs.Places.{option_tells}
use Rattle.seams.specs.Seams.{flag_at}
use Rattle.corner_table.specs.Pairs.{has_bit, bit_sides}
use Rattle.seams.specs.SeamBits.{place_in, flag_of_bits}
use Rattle.seams.specs.Pairs.{bit_sides_below}
use Rattle.seams.specs.Laws.{BitsTellFlags, BlockTellsFlags}
use Rattle.seams.proofs.Listing.{listed-is}
use Rattle.seams.proofs.Bits.{one_has, side_stands, place_is, bits_are, below_more_yes, below_more_no}
use Rattle.seams.proofs.Telling.{of_one, of_other, of_free}

pub bits_tell_flags : BitsTellFlags
bits_tell_flags faces g flags bits G A same = sym (listed-is faces flags (flag_of_bits faces g bits) A.each_side each)
  where
    at_place : (x : Side) → x.face < faces → has_bit g x ≡ true → bits (place_in (bit_sides faces g) x) ≡ flag_at flags x
    at_place x h t =
        let s = side_stands faces g x x h t in
        same (place_in (bit_sides faces g) x) s.0 ∙ get_or-map (flag_at flags) (bit_sides faces g) (place_in (bit_sides faces g) x) x false s.0 ∙ ap (flag_at flags) s.1

    each : (x : Side) → x.face < faces → flag_at flags x ≡ flag_of_bits faces g bits x
    each x h = elim (option_tells (g x)) [
      | inl e ↦ A.boundary x h e ∙ sym (of_free (λ z. bits (place_in (bit_sides faces g) z)) g x e)
      | inr y ↦ elim (one_has G x y.0 y.1) [
        | inl b ↦ sym (at_place x h b.0) ∙ sym (of_one (λ z. bits (place_in (bit_sides faces g) z)) g x y.0 y.1 b.0)
        | inr b ↦ A.alike x y.0 y.1 ∙ sym (at_place y.0 (G.within y.0 x (G.paired x y.0 y.1)) b.1) ∙ sym (of_other (λ z. bits (place_in (bit_sides faces g) z)) g x y.0 y.1 b.0)
      ]
    ]

-- bit i of a block is item i of its first bits
pub first_bits-at : (n : ℕ) (b : Block) (i : ℕ) → i < n → get_or (first_bits n b) i false ≡ bit_of b i
first_bits-at zero b i h = absurd (omega arith)
first_bits-at (suc n) b zero h = refl
first_bits-at (suc n) b (suc i) h = first_bits-at n (after_bit b) i (omega arith) ∙ bit_of-after b i

pub block_tells_flags : BlockTellsFlags
block_tells_flags faces g flags b G A first =
    bits_tell_flags faces g flags (bit_of b) G A (λ i h. sym (first_bits-at (length (bit_sides faces g)) b i h) ∙ ap (λ bits. get_or bits i false) first)

-- the next bit is that of the next side
pub next_tells : (faces : ℕ) (g : Gluing) (n : ℕ) (b : Block) → n < 3 * faces → has_bit g (side_at n) ≡ true →
    next_bit (behind (length (bit_sides_below n g)) b) ≡ bit_of b (place_in (bit_sides faces g) (side_at n))
next_tells faces g n b h t = ap (bit_of b) (sym (place_is faces g n h t))

-- the bits of the sides so far
bits_longer : (g : Gluing) (n : ℕ) → has_bit g (side_at n) ≡ true → suc (length (bit_sides_below n g)) ≡ length (bit_sides_below (n + 1) g)
bits_longer g n t =
    let e = ap (λ (xs : List Side). length xs) (below_more_yes g n t) in
    let l = length-append (bit_sides_below n g) (side_at n ∷ []) in
    omega arith

pub flag_next : (faces : ℕ) (g : Gluing) (n : ℕ) (flag : Bool) (old b : Block) → n < 3 * faces → has_bit g (side_at n) ≡ true → old ≡ behind (length (bit_sides_below n g)) b → flag ≡ next_bit old →
    flag ≡ bit_of b (place_in (bit_sides faces g) (side_at n))
flag_next faces g n flag old b h t o e = e ∙ ap next_bit o ∙ next_tells faces g n b h t

pub block_more : (g : Gluing) (n : ℕ) (new old b : Block) → has_bit g (side_at n) ≡ true → old ≡ behind (length (bit_sides_below n g)) b → new ≡ after_bit old → new ≡ behind (length (bit_sides_below (n + 1) g)) b
block_more g n new old b t o e = e ∙ ap after_bit o ∙ ap (λ k. behind k b) (bits_longer g n t)

pub block_over : (g : Gluing) (n : ℕ) (old b : Block) → has_bit g (side_at n) ≡ false → old ≡ behind (length (bit_sides_below n g)) b → old ≡ behind (length (bit_sides_below (n + 1) g)) b
block_over g n old b t o = o ∙ ap (λ (xs : List Side). behind (length xs) b) (sym (below_more_no g n t))

pub bits_end : (faces n : ℕ) (g : Gluing) → n ≡ 3 * faces → bit_sides_below n g ≡ bit_sides faces g
bits_end faces n g e = ap (λ k. bit_sides_below k g) e ∙ sym (bits_are faces g)

-- the bits written so far
bits_more : (g : Gluing) (n : ℕ) (flags bits : List Bool) (flag : Bool) → has_bit g (side_at n) ≡ true → bits ≡ map (flag_at flags) (bit_sides_below n g) → flag ≡ get_or flags n true →
    bits ++ flag ∷ [] ≡ map (flag_at flags) (bit_sides_below (n + 1) g)
bits_more g n flags bits flag t b e =
    let v : flag ≡ flag_at flags (side_at n) = e ∙ ap (λ k. get_or flags k true) (sym (number-side_at n)) in
    ap (λ xs. xs ++ flag ∷ []) b ∙ ap (λ x. map (flag_at flags) (bit_sides_below n g) ++ x ∷ []) v
    ∙ sym (map-append (flag_at flags) (bit_sides_below n g) (side_at n ∷ [])) ∙ ap (map (flag_at flags)) (sym (below_more_yes g n t))

bits_over : (g : Gluing) (n : ℕ) (flags bits : List Bool) → has_bit g (side_at n) ≡ false → bits ≡ map (flag_at flags) (bit_sides_below n g) → bits ≡ map (flag_at flags) (bit_sides_below (n + 1) g)
bits_over g n flags bits t b = b ∙ ap (map (flag_at flags)) (sym (below_more_no g n t))

-- bits that are written where the next one belongs
pub bits_written : (g : Gluing) (n count more : ℕ) (flags bits : List Bool) (flag : Bool) → more ≡ cond (has_bit g (side_at n)) 1 0 → flag ≡ get_or flags n true → count < length bits →
    count ≡ length (bit_sides_below n g) → take count bits ≡ map (flag_at flags) (bit_sides_below n g) →
    (count + more ≡ length (bit_sides_below (n + 1) g)) × (take (count + more) (set bits count flag) ≡ map (flag_at flags) (bit_sides_below (n + 1) g))
bits_written g n count more flags bits flag m e inside long b = elim (cases_Bool (has_bit g (side_at n))) [
  | inl t ↦ (
      let one : more ≡ 1 = m ∙ cond-true (has_bit g (side_at n)) 1 0 t in
      let l = bits_longer g n t in (
        omega arith,
        ap (λ k. take (count + k) (set bits count flag)) one ∙ take_more_set bits count flag inside ∙ bits_more g n flags (take count bits) flag t b e,
      ))
  | inr f ↦ (
      let none : more ≡ 0 = m ∙ cond-false (has_bit g (side_at n)) 1 0 f in
      let same : count + more ≡ count = omega arith in
      let l = ap (λ (xs : List Side). length xs) (below_more_no g n f) in (
        omega arith,
        ap (λ k. take k (set bits count flag)) same ∙ take-set bits count flag ∙ bits_over g n flags (take count bits) f b,
      ))
]
