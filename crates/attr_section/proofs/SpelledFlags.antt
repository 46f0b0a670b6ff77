-- Flags of predictions that are read back from their bytes, and how many there are.
use Rattle.std.proofs.Common.{◌≡◌, ◌≢◌, ℕ, ◌*◌, ◌^◌, ◌<◌, ◌≤◌, ◌==◌, nat_le, Bool, true, false, ℤ, List, [], ◌∷◌, length, flat_map, get_or, if◌then◌else◌, Option, None, Some, Ok, refl, sym, ◌∙◌, ap, subst, arith}
use Rattle.std.specs.List.{All}
use Rattle.std.proofs.Math.Nat.{mul-le-mul_left}
use Rattle.std.proofs.lemmas.List.{get_or_default, map-id}
use Rattle.drc_base.specs.declared.kinds.Kind.TheVariants as kind
use Rattle.drc_base.specs.declared.limits.TheConstants.{MAX_VALUES}
use Rattle.drc_base.specs.Steps.{◌>>=◌}
use Rattle.drc_bits.specs.Reading.{Reading, many_at}
use Rattle.drc_bits.specs.Spells.{Spells}
use Rattle.drc_bits.specs.Varint.{var32_at, spelling}
use Rattle.drc_bits.proofs.Spelled.{Spells-none, Spells-then, Spells-same, Spells-must, Spells-var32}
use Rattle.rans_binary.specs.Blocks.{first_bits, block, IsBlockOf, bit_block_at}
use Rattle.predict.specs.declared.schemes.Prediction.{Prediction}
use Rattle.predict.specs.declared.schemes.Behind.{Behind}
use Rattle.predict.specs.declared.schemes.Behind.TheVariants as behind
use Rattle.predict.specs.Schemes.{facts, flag_lists}
use Rattle.predict.specs.Wrap.{Range}
use Rattle.corner_table.specs.Ordered.{Ordered, IsOver}
use Rattle.predict.specs.Surfaces.{surface_or, CanStand}
use Rattle.predict.specs.Multi.{wanted}
use Rattle.predict.specs.Foretold.{marks_of, wanted_of}
use Rattle.predict.proofs.Foretold.{length-marks, length-mark, wanted_most, wanted_in, wanted_nowhere, flags_stand}
use Rattle.attr_section.specs.Values.{range_at, flag_bits_at, flag_count_at, flags_at, flag_lists_at, behind_at}
use Rattle.attr_section.specs.WrittenParts.{flag_bits_bytes, flags_bytes, range_bytes, HasFewFlags, MayHaveFewFlags, FlagsSpelled, BehindSpelled}
use Rattle.attr_section.proofs.Spelling.{Spells-map}
use Rattle.attr_section.proofs.SpelledIntegers.{Spells-all}

-- where there are no flags, nothing is read
pub Spells-no_flags : (flags : List Bool) → length flags ≡ 0 → Spells (flag_bits_at (length flags)) (flag_bits_bytes flags) flags
unfolding flag_bits_at
Spells-no_flags [] none = Spells-none []
Spells-no_flags (f ∷ flags) none = absurd (omega (arith, none))

-- a test that doesn't hold
refuted : {A : Type 0} (test : Bool) (x y : A) → test ≡ false → (if test then x else y) ≡ y
refuted test x y fails = rw fails refl

-- the first bits of a block of flags are those
pub Spells-flag_bits : (flags : List Bool) → length flags ≢ 0 → IsBlockOf flags (block flags) → Spells (flag_bits_at (length flags)) (flag_bits_bytes flags) flags
unfolding flag_bits_at
Spells-flag_bits flags some is =
    let none : (length flags == 0) ≡ false = grind (arith, some) in
    let item = λ (c : Reading). bit_block_at c >>= λ b. Ok (first_bits (length flags) b.0, b.1) in
    subst (λ bytes. Spells (flag_bits_at (length flags)) bytes flags) (sym (refuted (length flags == 0) [] (block flags) none))
    (Spells-same item (flag_bits_at (length flags)) (block flags) flags (λ c. refuted (length flags == 0) (Ok ([], c)) (item c) none)
    (subst (λ bits. Spells item (block flags) bits) is.first
    (Spells-map (λ b. first_bits (length flags) b) bit_block_at (block flags) is.start is.spells)))

-- a list of flags
pub Spells-flags : (flags : List Bool) → length flags < 2 ^ 31 → Spells (flag_bits_at (length flags)) (flag_bits_bytes flags) flags → FlagsSpelled flags
unfolding flags_at flags_bytes
Spells-flags flags short bits = record {
  over = λ corners few.
      let within : nat_le (length flags) corners ≡ true = grind (arith, few) in
      Spells-then (flag_count_at corners) (λ n c. flag_bits_at n c) (spelling 5 (length flags)) (flag_bits_bytes flags) (length flags) flags
      (Spells-must kind.FlagCount (λ n. nat_le n corners) var32_at (spelling 5 (length flags)) (length flags) within (Spells-var32 (length flags) (omega arith))) bits;
}

-- so many lists of flags over a surface
pub Spells-flag_lists : (count : ℕ) (w : Ordered) (lists : List (List Bool)) → length lists ≡ count → All FlagsSpelled lists
    → All (λ flags. length flags ≤ length w.entries) lists → Spells (flag_lists_at count w) (flat_map flags_bytes lists) lists
unfolding flag_lists_at
Spells-flag_lists count w lists same spelled few =
    subst (λ n. Spells (many_at (flags_at (length w.entries)) n) (flat_map flags_bytes lists) lists) same
    (subst (λ l. Spells (many_at (flags_at (length w.entries)) (length lists)) (flat_map flags_bytes lists) l) (map-id lists)
    (Spells-all (flags_at (length w.entries)) flags_bytes (λ flags. flags) lists (λ k d h. (spelled k d h).over (length w.entries) (few k d h))))

-- what stands behind corrections: the range alone, and behind lists of flags
pub Spells-range_alone : (lists : List (List Bool)) (r : Range) → Spells range_at (range_bytes r) r → BehindSpelled behind.Nothing lists r
unfolding behind_at
Spells-range_alone [] r range = record { over = λ w none few. Spells-map (λ x. ([], x)) range_at (range_bytes r) r range }
Spells-range_alone (flags ∷ lists) r range = record { over = λ w none few. absurd (omega (arith, none)) }

pub Spells-range_behind : (count : ℕ) (lists : List (List Bool)) (r : Range) → All FlagsSpelled lists → Spells range_at (range_bytes r) r → BehindSpelled (behind.FlagLists count) lists r
unfolding behind_at
Spells-range_behind count lists r spelled range = record {
  over = λ w same few.
      Spells-then (flag_lists_at count w) (λ l c. range_at c >>= λ x. Ok ((l, x.0), x.1)) (flat_map flags_bytes lists) (range_bytes r) lists (lists, r)
      (Spells-flag_lists count w lists same spelled few)
      (Spells-map (λ x. (lists, x)) range_at (range_bytes r) r range);
}

pub Spells-behind : (b : Behind) (lists : List (List Bool)) (r : Range) → All FlagsSpelled lists → Spells range_at (range_bytes r) r → BehindSpelled b lists r
Spells-behind behind.Nothing lists r spelled range = Spells-range_alone lists r range
Spells-behind (behind.FlagLists count) lists r spelled range = Spells-range_behind count lists r spelled range

-- entries of which each has a component at least are no more than values
fewer_entries : (comps entries n : ℕ) → 0 < comps → n ≡ entries * comps → n ≤ MAX_VALUES → entries ≤ MAX_VALUES
fewer_entries comps entries n some count few =
    let least : entries * 1 ≤ entries * comps = mul-le-mul_left entries (omega arith) in
    omega arith

-- where a prediction needs a surface, its entries are no more than values
corners_few : (q : Prediction) (w : Option Ordered) (comps n : ℕ) → 0 < comps → n ≤ MAX_VALUES → CanStand q w comps n → (facts q).needs_surface ≡ true
    → length (surface_or w).corners ≤ MAX_VALUES
corners_few q None comps n some few stand needs = absurd (stand.stand needs)
corners_few q (Some w) comps n some few stand needs = fewer_entries comps (length w.corners) n some (stand.stand needs) few

-- a written list, and how many flags it has
mark_is : (q : Prediction) (w : Ordered) (comps : ℕ) (v : List ℤ) (k : ℕ) (d : List Bool) → k < length (marks_of q w comps v)
    → (k < flag_lists q) × (length (get_or (marks_of q w comps v) k d) ≡ wanted_of q w k)
mark_is q w comps v k d low =
    let here : k < flag_lists q = omega (arith, length-marks q w comps v) in
    (here, ap (λ (l : List Bool). length l) (get_or_default (marks_of q w comps v) k d [] low) ∙ length-mark q w comps v k here)

-- the written lists have fewer than 2^31 flags
pub lists_short : (q : Prediction) (w : Option Ordered) (comps : ℕ) (v : List ℤ) → 0 < comps → length v ≤ MAX_VALUES → CanStand q w comps (length v)
    → All (λ flags. length flags < 2 ^ 31) (marks_of q (surface_or w) comps v)
lists_short q w comps v some few stand = λ k d low.
    let is = mark_is q (surface_or w) comps v k d low in
    let first : 0 < flag_lists q = omega (arith, is.0) in
    let corners = corners_few q w comps (length v) some few stand (flags_stand q first) in
    let most = wanted_most q (surface_or w) k is.0 in
    omega (arith, is.1)

-- and, where few flags are wanted, no more than there are corners
pub lists_few : (q : Prediction) (w : Ordered) (comps : ℕ) (v : List ℤ) → HasFewFlags w → All (λ flags. length flags ≤ length w.entries) (marks_of q w comps v)
lists_few q w comps v few = λ k d low.
    let is = mark_is q w comps v k d low in
    let wants = few.few q k is.0 in
    omega (arith, is.1)

-- no more flags are wanted than there are corners of faces
pub few_in : (faces : ℕ) (w : Ordered) → IsOver faces w → ((k : ℕ) → wanted w k (length w.corners) ≤ 3 * faces) → HasFewFlags w
few_in faces w over few = record {
  few = λ q k low.
      let wants = wanted_in faces q w few k in
      let corners = over.each_corner in
      omega arith;
}

-- none are wanted where there is no surface
pub few_or : (w : Option Ordered) → MayHaveFewFlags w → HasFewFlags (surface_or w)
few_or None few = record { few = λ q k low. let none = wanted_nowhere q k in omega arith }
few_or (Some w) few = few
