-- Octahedral values that are read back from their bytes.
use Rattle.std.proofs.Common.{◌≡◌, ℕ, zero, suc, ◌+◌, ◌-◌, ◌*◌, ◌/◌, ◌%◌, ◌^◌, ◌<◌, ◌≤◌, ◌==◌, ◌&&◌, ◌||◌, to_z, of_z, w8, nat_le, Bool, true, false, if◌then◌else◌, ℤ, pos, negsuc, ◌+ℤ◌, ◌≤ℤ◌, int_le, unsigned_abs, List, [], ◌∷◌, ◌++◌, length, map, Option, None, Some, option_map, is_some, is_none, Result, Ok, inl, inr, refl, sym, ◌∙◌, ap, subst, arith, pow-suc, pow_pos}
use Rattle.std.specs.Bool.{Decides}
use Rattle.std.specs.Borrow.{Bor}
use Rattle.std.specs.List.{All, list_all}
use Rattle.std.specs.Option.{IsSome}
use Rattle.std.specs.Ordering.{int_eq}
use Rattle.std.proofs.Math.Nat.{pow-le-pow_right}
use Rattle.std.proofs.lemmas.Bool.{cases_Bool, cases_lt, cond-true, and_parts, false≢true, leb-true}
use Rattle.std.proofs.lemmas.Bool.Decides.{Decides-int_eq}
use Rattle.std.proofs.lemmas.Int.{ints}
use Rattle.std.proofs.lemmas.List.FromFn.{length-map-range_with_len}
use Rattle.std.proofs.lemmas.List.Elements.{All-nil, All-cons, All-head, All-tail}
use Rattle.drc_base.specs.declared.kinds.Kind.TheVariants as kind
use Rattle.drc_base.specs.Profile.{Profile, profile_numbered}
use Rattle.drc_base.specs.declared.limits.TheConstants.{MAX_VALUES}
use Rattle.drc_base.specs.Steps.{◌>>=◌}
use Rattle.drc_bits.specs.Reading.{Reading, must}
use Rattle.drc_bits.specs.Numbers.{number_at}
use Rattle.drc_bits.specs.Bits.{low_bytes}
use Rattle.drc_bits.specs.Digits.{digits}
use Rattle.drc_bits.specs.Spells.{Spells}
use Rattle.drc_bits.proofs.Digits.{digits-is}
use Rattle.drc_bits.proofs.Spelled.{Spells-none, Spells-then, Spells-must, Spells-byte}
use Rattle.rans_binary.specs.Blocks.{first_bits, block, bit_block_at, IsBlockOf}
use Rattle.attr_heads.specs.declared.heads.Head.{Head}
use Rattle.attr_heads.specs.declared.codings.Coding.TheVariants.{Octahedral}
use Rattle.attr_heads.specs.Codings.{coding_facts}
use Rattle.attr_heads.specs.HeadItems.{bare_head}
use Rattle.attr_heads.specs.Octahedra.{are_octahedral_bits, square_bounds}
use Rattle.attr_heads.specs.Bounds.{in_bounds}
use Rattle.attr_heads.specs.declared.octahedra.TheConstants.{OCTAHEDRAL_SINCE}
use Rattle.octahedron.specs.declared.points.Point.{Point}
use Rattle.octahedron.specs.Square.{centred, canonical, IsCanonicalValue}
use Rattle.octahedron.specs.Pairs.{pairs_of, IsCoordinate, AreCoordinates, AreValues, AreCanonical}
use Rattle.octahedron.proofs.Listed.{AreValues-coordinates, length-pairs}
use Rattle.octahedral_values.specs.Steps.{normals_round, is_flipped, point_in, flips_of, restored_integers}
use Rattle.normal_prediction.specs.NormalSums.{vector_in}
use Rattle.predict.specs.Symbols.{zigzag_of}
use Rattle.corner_table.specs.Ordered.{Ordered}
use Rattle.predict.specs.declared.orders.Ordered.{Ordered as OrderedTable}
use Rattle.predict.specs.Surfaces.{surface_of}
use Rattle.attr_section.specs.declared.positions.Positions.{Positions as KeptPositions}
use Rattle.attr_section.specs.TablePositions.{positions_in}
use Rattle.attr_section.specs.declared.values.Values.{Values}
use Rattle.attr_section.specs.declared.square_predictions.SquarePrediction.{SquarePrediction}
use Rattle.attr_section.specs.declared.square_predictions.SquarePrediction.TheVariants as prediction
use Rattle.attr_section.specs.Positions.{Positions, PositionsRead, usable, places_on}
use Rattle.attr_section.specs.Values.{signed_of, integers_at, restored_at}
use Rattle.attr_section.specs.Squared.{square_facts, square_prediction_of, is_square_prediction, tested_square_prediction, square_prediction_at, is_square, square_at, flips_at, square_transform_at, greatest_coordinate, centre_of, square_step, is_correction, correction_of, squared, square_corrected_at, square_predicted_at}
use Rattle.attr_section.specs.Attributes.{typed_values_at, squared_typed_at}
use Rattle.attr_section.specs.WrittenParts.{symbols_bytes, integers_bytes}
use Rattle.attr_section.specs.WrittenSquares.{square_code, square_code_or, square_prediction_coded, same_point, are_canonical, square_prediction_on, settled_square, square_flips, square_corrections, square_prediction_bytes, square_bytes, flips_bytes, square_corrected_bytes, square_flipped_bytes, square_predicted_bytes, SquareSpelled}
use Rattle.attr_section.specs.Written.{settled_under, settled, values_bytes_under, values_bytes, came_later, ValuesSpelled}
use Rattle.attr_section.specs.WrittenTexture.{is_texture}
use Rattle.attr_section.proofs.Corrections.{twice_centre}
use Rattle.attr_section.proofs.Spelling.{Spells-map}
use Rattle.attr_section.proofs.SpelledIntegers.{Spells-low_bytes}
use Rattle.attr_section.proofs.SpelledValues.{typed_spelled}

-- how many bits a square has
pub bits_within : (bits : ℕ) → are_octahedral_bits bits ≡ true → (2 ≤ bits) × (bits ≤ 30)
bits_within bits passes = let both = and_parts (nat_le 2 bits) (nat_le bits 30) passes in (leb-true 2 bits both.0, leb-true bits 30 both.1)

-- a surface and positions that are there as the code keeps them, and as they are told
pub there-both : (on : Option (Bor OrderedTable)) (positions : Option (Bor KeptPositions)) → IsSome on × IsSome positions
    → (is_some (surface_of (option_map (λ t. t.now) on)) ≡ true) × (is_some (option_map (λ p. positions_in p.now) positions) ≡ true)
there-both (Some t) (Some p) there = (refl, refl)
there-both None positions (w, p) = absurd (false≢true w)
there-both (Some t) None (w, p) = absurd (false≢true p)

pub both-there : (on : Option (Bor OrderedTable)) (positions : Option (Bor KeptPositions)) → is_some (surface_of (option_map (λ t. t.now) on)) ≡ true
    → is_some (option_map (λ p. positions_in p.now) positions) ≡ true → IsSome on × IsSome positions
both-there (Some t) (Some p) w q = (refl, refl)
both-there None positions w q = absurd (false≢true w)
both-there (Some t) None w q = absurd (false≢true q)

-- the test of canonical spelling
same-points : (p q : Point) → Decides (same_point p q) (p ≡ q)
same-points p q = (λ is. joined p q (and_parts (int_eq p.s q.s) (int_eq p.t q.t) is), λ is. rw (is, (Decides-int_eq q.s q.s).1 refl, (Decides-int_eq q.t q.t).1 refl) refl)
  where
    joined : (p q : Point) → (int_eq p.s q.s ≡ true) × (int_eq p.t q.t ≡ true) → p ≡ q
    joined p q (s, t) =
        ap (λ (x : ℤ). record p { s = x }) ((Decides-int_eq p.s q.s).0 s) ∙ ap (λ (x : ℤ). record q { t = x }) ((Decides-int_eq p.t q.t).0 t)

each-canonical : (c : ℤ) (points : List Point) → Decides (list_all (λ v. same_point (canonical c (centred c v)) (centred c v)) points) (All (IsCanonicalValue c) points)
each-canonical c [] = (λ is. All-nil (IsCanonicalValue c), λ all. refl)
each-canonical c (v ∷ points) =
    let test : Point → Bool = λ v. same_point (canonical c (centred c v)) (centred c v) in
    let here = same-points (canonical c (centred c v)) (centred c v) in
    let others = each-canonical c points in (
      λ is. let both = and_parts (test v) (list_all test points) is in All-cons (IsCanonicalValue c) v points (here.0 both.0) (others.0 both.1),
      λ all. rw (here.1 (All-head (IsCanonicalValue c) v points all), others.1 (All-tail (IsCanonicalValue c) v points all)) refl,
    )

pub canonical-tested : (c : ℤ) (values : List ℤ) → Decides (are_canonical c values) (AreCanonical c values)
unfolding are_canonical
canonical-tested c values = each-canonical c (pairs_of values)

-- the symbol of the integer that a symbol stands for is that symbol
zigzag-signed : (n : ℕ) → zigzag_of (signed_of n) ≡ n
zigzag-signed n = elim (cases_lt (n % 2) 1) [
  | inl less ↦ let even : n % 2 ≡ 0 = omega (arith, less) in rw even (omega (arith, even))
  | inr more ↦ let odd : n % 2 ≡ 1 = omega (arith, more) in rw odd (omega (arith, odd))
]

-- corrections in a square are their own symbols
own-symbol : (greatest : ℕ) (c x : ℤ) → pos greatest ≡ c +ℤ c → IsCoordinate c x → (unsigned_abs x ≤ greatest) × (pos (unsigned_abs x) ≡ x)
own-symbol greatest c (pos n) twice h = (omega (arith, ints, h.1, twice), refl)
own-symbol greatest c (negsuc n) twice h = absurd (omega (arith, ints, h.0))

own-symbols : (greatest : ℕ) (c : ℤ) (corrections : List ℤ) → pos greatest ≡ c +ℤ c → AreCoordinates c corrections
    → (list_all (is_correction greatest) (map signed_of (map unsigned_abs corrections)) ≡ true) × (map correction_of (map signed_of (map unsigned_abs corrections)) ≡ corrections)
own-symbols greatest c [] twice all = (refl, refl)
own-symbols greatest c (x ∷ corrections) twice all =
    let own = own-symbol greatest c x twice (All-head (IsCoordinate c) x corrections all) in
    let others = own-symbols greatest c corrections twice (All-tail (IsCoordinate c) x corrections all) in
    let within : nat_le (unsigned_abs x) greatest ≡ true = grind (arith, own.0) in
    rw (zigzag-signed (unsigned_abs x)) (rw (within, others.0) refl, rw (own.1, others.1) refl)

-- so they restore values as they are
pub squared-is : (q : SquarePrediction) (w : Option Ordered) (ps : Option Positions) (bits : ℕ) (flips : List Bool) (corrections values : List ℤ) → 2 ≤ bits
    → AreCoordinates (centre_of bits) corrections → restored_integers (square_step q w ps (centre_of bits)) (centre_of bits) flips corrections ≡ Ok values
    → squared q w ps bits flips (map signed_of (map unsigned_abs corrections)) ≡ Ok values
unfolding squared
squared-is q w ps bits flips corrections values some coordinates back =
    let own = own-symbols (greatest_coordinate bits) (centre_of bits) corrections (twice_centre bits some) coordinates in
    cond-true _ _ _ own.0 ∙ ap (λ (xs : List ℤ). restored_integers (square_step q w ps (centre_of bits)) (centre_of bits) flips xs) own.1 ∙ back

-- the greatest number of so many digits is odd, and has that many
full : (bits : ℕ) → 2 ≤ bits → bits ≤ 30 → ((2 ^ bits - 1) % 2 ≡ 1) × (digits (2 ^ bits - 1) ≡ bits)
full zero some few = absurd (omega (arith, some))
full (suc k) some few =
    let double : 2 ^ suc k ≡ 2 ^ k * 2 = pow-suc 2 k in
    let least : 1 ≤ 2 ^ k = pow_pos k in
    rw double (
      omega (arith, least),
      digits-is 32 k (2 ^ k * 2 - 1) (omega (arith, few)) (omega (arith, least)) (omega (arith, least)) ∙ (let last : k + 1 ≡ suc k = omega arith in last),
    )

small-power : (k : ℕ) → k ≤ 30 → 2 ^ k - 1 < 256 ^ 4
small-power k few = let most : 2 ^ k ≤ 2 ^ 30 = pow-le-pow_right {n = 2} (omega arith) {i = k} {j = 30} few in omega (arith, most)

-- a square
pub Spells-square : (bits : ℕ) → 2 ≤ bits → bits ≤ 30 → Spells square_at (square_bytes bits) bits
unfolding square_at square_bytes
Spells-square bits some few =
    let most = 2 ^ bits - 1 in
    let centre = 2 ^ (bits - 1) - 1 in
    let is = full bits some few in
    let passes : are_octahedral_bits bits ≡ true = grind (arith, some, few) in
    let square : is_square most ≡ true = rw (is.0, is.1, passes) refl in
    Spells-then (must kind.QuantBits is_square (number_at 4)) (λ m c. number_at 4 c >>= λ x. Ok (digits m, x.1)) (low_bytes 4 most) (low_bytes 4 centre) most bits
    (Spells-must kind.QuantBits is_square (number_at 4) (low_bytes 4 most) most square (Spells-low_bytes 4 most (small-power bits few)))
    (subst (λ (b : ℕ). Spells (λ c. number_at 4 c >>= λ x. Ok (digits most, x.1)) (low_bytes 4 centre) b) is.1
    (Spells-map (λ _. digits most) (number_at 4) (low_bytes 4 centre) centre (Spells-low_bytes 4 centre (small-power (bits - 1) (omega (arith, few))))))

-- the flips of a prediction
pub Spells-flips : (q : SquarePrediction) (n : ℕ) (flips : List Bool) → ((square_facts q).takes_positions ≡ true → length flips ≡ n)
    → ((square_facts q).takes_positions ≡ false → flips ≡ []) → ((square_facts q).takes_positions ≡ true → IsBlockOf flips (block flips))
    → Spells (flips_at q n) (flips_bytes q flips) flips
unfolding flips_at
Spells-flips prediction.Off n flips each none is = subst (λ (l : List Bool). Spells (λ c. Ok ([], c)) [] l) (sym (none refl)) (Spells-none [])
Spells-flips prediction.Difference n flips each none is = subst (λ (l : List Bool). Spells (λ c. Ok ([], c)) [] l) (sym (none refl)) (Spells-none [])
Spells-flips prediction.Normals n flips each none is =
    let b = is refl in
    let first : first_bits n b.start ≡ flips = ap (λ (m : ℕ). first_bits m b.start) (sym (each refl)) ∙ b.first in
    subst (λ (bits : List Bool). Spells (λ c. bit_block_at c >>= λ x. Ok (first_bits n x.0, x.1)) (block flips) bits) first
    (Spells-map (λ x. first_bits n x) bit_block_at (block flips) b.start b.spells)

-- the transform
Spells-square_transform : Spells square_transform_at ((coding_facts Octahedral).transform ∷ []) 3
unfolding square_transform_at
Spells-square_transform = Spells-must kind.Transform (λ b. b == (coding_facts Octahedral).transform) (number_at 1) (3 ∷ []) 3 refl (Spells-byte 3)

-- values that are restored from corrections in a square
pub Spells-square_corrected : (plain : Bool) (at : ℕ) (q : SquarePrediction) (w : Option Ordered) (ps : Option Positions) (bits n : ℕ) (flips : List Bool) (corrections values : List ℤ)
    → Spells (integers_at 2 n) (symbols_bytes plain 2 (map unsigned_abs corrections)) (map signed_of (map unsigned_abs corrections))
    → Spells square_at (square_bytes bits) bits → Spells (flips_at q (n / 2)) (flips_bytes q flips) flips
    → squared q w ps bits flips (map signed_of (map unsigned_abs corrections)) ≡ Ok values
    → Spells (square_corrected_at at q w ps n) (square_corrected_bytes plain q bits flips corrections) values
unfolding square_corrected_at square_corrected_bytes
Spells-square_corrected plain at q w ps bits n flips corrections values integers square flipped back =
    let xs = map signed_of (map unsigned_abs corrections) in
    let symbols = symbols_bytes plain 2 (map unsigned_abs corrections) in
    Spells-then square_transform_at (λ t c. integers_at 2 n c >>= λ x. square_at x.1 >>= λ b. flips_at q (n / 2) b.1 >>= λ f. restored_at at (squared q w ps b.0 f.0 x.0) f.1)
    ((coding_facts Octahedral).transform ∷ []) (symbols ++ (square_bytes bits ++ flips_bytes q flips)) 3 values
    Spells-square_transform
    (Spells-then (integers_at 2 n) (λ x c. square_at c >>= λ b. flips_at q (n / 2) b.1 >>= λ f. restored_at at (squared q w ps b.0 f.0 x) f.1)
    symbols (square_bytes bits ++ flips_bytes q flips) xs values integers
    (Spells-then square_at (λ b c. flips_at q (n / 2) c >>= λ f. restored_at at (squared q w ps b f.0 xs) f.1)
    (square_bytes bits) (flips_bytes q flips) bits values square
    (record {
      reads = λ place rest.
          let after : Reading = record { place = place + length (flips_bytes q flips); rest = rest } in
          ap (λ y. y >>= λ f. restored_at at (squared q w ps bits f.0 xs) f.1) (flipped.reads place rest) ∙ ap (λ y. restored_at at y after) back;
    })))

-- values of a prediction that corrects, and of one that doesn't, behind positions of which those can be used
positions-there : (q : SquarePrediction) (ps : Option Positions) → ((square_facts q).takes_positions ≡ true → is_some ps ≡ true) → ((square_facts q).takes_positions && is_none ps) ≡ false
positions-there prediction.Off ps there = refl
positions-there prediction.Difference ps there = refl
positions-there prediction.Normals None there = absurd (false≢true (there refl))
positions-there prediction.Normals (Some ps) there = refl

pub square-corrected_spelled : (plain : Bool) (q : SquarePrediction) (w : Option Ordered) (ps : Option Positions) (bits : ℕ) (values : List ℤ)
    → ((square_facts q).takes_positions ≡ true → is_some ps ≡ true) → (square_facts q).corrects ≡ true
    → ((at : ℕ) → Spells (square_corrected_at at q w ps (length values)) (square_flipped_bytes plain q w ps bits (square_flips q w ps (centre_of bits) values) values) values)
    → SquareSpelled plain q w ps bits values
unfolding square_predicted_at square_predicted_bytes
square-corrected_spelled plain q w ps bits values there corrects spells = record {
  again = λ found is at. record { reads = λ place rest. rw (is, positions-there q ps there, corrects) ((spells at).reads place rest) };
}

pub square-uncorrected_spelled : (plain : Bool) (q : SquarePrediction) (w : Option Ordered) (ps : Option Positions) (bits : ℕ) (values : List ℤ)
    → ((square_facts q).takes_positions ≡ true → is_some ps ≡ true) → (square_facts q).corrects ≡ false
    → Spells (integers_at 2 (length values)) (integers_bytes plain 2 values) values → SquareSpelled plain q w ps bits values
unfolding square_predicted_at square_predicted_bytes
square-uncorrected_spelled plain q w ps bits values there none spells = record {
  again = λ found is at. record { reads = λ place rest. rw (is, positions-there q ps there, none) (spells.reads place rest) };
}

-- a prediction that values on a surface can have in a profile
accepted : (n : ℕ) (w : Option Ordered) (q : SquarePrediction) → OCTAHEDRAL_SINCE ≤ n → ((square_facts q).takes_positions ≡ true → is_some w ≡ true)
    → is_square_prediction (profile_numbered n) w q ≡ true
accepted n None prediction.Off since there = let least : nat_le OCTAHEDRAL_SINCE n ≡ true = grind (arith, since) in rw least refl
accepted n None prediction.Difference since there = let least : nat_le OCTAHEDRAL_SINCE n ≡ true = grind (arith, since) in rw least refl
accepted n None prediction.Normals since there = absurd (false≢true (there refl))
accepted n (Some w) prediction.Off since there = let least : nat_le OCTAHEDRAL_SINCE n ≡ true = grind (arith, since) in rw least refl
accepted n (Some w) prediction.Difference since there = let least : nat_le OCTAHEDRAL_SINCE n ≡ true = grind (arith, since) in rw least refl
accepted n (Some w) prediction.Normals since there = let least : nat_le OCTAHEDRAL_SINCE n ≡ true = grind (arith, since) in rw least refl

by_square_byte : (q : SquarePrediction) → square_prediction_of (square_facts q).byte ≡ Some q
by_square_byte prediction.Off = refl
by_square_byte prediction.Difference = refl
by_square_byte prediction.Normals = refl

Spells-square_prediction : (n : ℕ) (w : Option Ordered) (q : SquarePrediction) → is_square_prediction (profile_numbered n) w q ≡ true
    → Spells (square_prediction_at (profile_numbered n) w) ((square_facts q).byte ∷ []) q
unfolding square_prediction_at
Spells-square_prediction n w q passes = record {
  reads = λ place rest.
      ap (λ (r : Result (ℕ × Reading) _). r >>= λ b. tested_square_prediction (profile_numbered n) w (record { place = place; rest = (square_facts q).byte ∷ rest }) (square_prediction_of b.0) b.1) ((Spells-byte (square_facts q).byte).reads place rest)
      ∙ rw (by_square_byte q, passes) refl;
}

-- values of a prediction, behind its byte
typed_square : (n : ℕ) (w : Option Ordered) (found : PositionsRead) (m : ℕ) (q : SquarePrediction) (bytes : List ℕ) (values : List ℤ) → is_square_prediction (profile_numbered n) w q ≡ true
    → ((at : ℕ) → Spells (square_predicted_at at q w found m) bytes values) → (place : ℕ) (rest : List ℕ)
    → squared_typed_at (profile_numbered n) w found m (record { place = place; rest = ((square_facts q).byte ∷ bytes) ++ rest })
    ≡ Ok (record { values = values; predict = square_code q; at = place }, record { place = place + length ((square_facts q).byte ∷ bytes); rest = rest })
unfolding squared_typed_at
typed_square n w found m q bytes values passes spells place rest =
    let first = (Spells-square_prediction n w q passes).reads place (bytes ++ rest) in
    let second = (spells place).reads (place + 1) rest in
    let after : place + 1 + length bytes ≡ place + length ((square_facts q).byte ∷ bytes) = omega arith in
    rw (first, second, after) refl

squared_values : (p : Profile) (w : Option Ordered) (found : PositionsRead) (h : Head) (n : ℕ) (c : Reading) → is_some h.octa ≡ true → typed_values_at p w found h n c ≡ squared_typed_at p w found n c
unfolding typed_values_at
squared_values p w found h n c squared = cond-true _ _ _ squared

-- the values of an octahedral attribute
pub squared_spelled : (plain : Bool) (w : Option Ordered) (found : PositionsRead) (h : Head) (v : Values) (bits : ℕ) (q : SquarePrediction) → h.octa ≡ Some bits
    → settled w found h v ≡ square_code q → values_bytes plain w found h v ≡ (square_facts q).byte ∷ square_predicted_bytes plain q w (usable found) bits v.values
    → ((square_facts q).takes_positions ≡ true → is_some w ≡ true) → SquareSpelled plain q w (usable found) bits v.values → ValuesSpelled plain w found h v
squared_spelled plain w found h v bits q octa code bytes there spelled =
    let later : came_later h v ≡ true = ap (λ (o : Option ℕ). is_some o || is_texture h.comps v.predict) octa in
    let bare : is_some (bare_head h).octa ≡ true = ap (λ (o : Option ℕ). is_some {T = ℕ} (option_map (λ (_ : ℕ). 0) o)) octa in
    typed_spelled plain w found h v
    (λ flags n before by place rest. rw (code, bytes)
    (squared_values (profile_numbered n) w before (bare_head h) (length v.values) _ bare
    ∙ typed_square n w before (length v.values) q (square_predicted_bytes plain q w (usable found) bits v.values) v.values (accepted n w q (by.since later) there)
    (spelled.again before (ap usable (by.same later))) place rest))

-- a prediction by normals has a flip for each pair, and any other none
flips-count : (q : SquarePrediction) (w : Option Ordered) (ps : Option Positions) (c : ℤ) (values : List ℤ) (flips : List Bool) → flips ≡ square_flips q w ps c values
    → ((square_facts q).takes_positions ≡ true → (is_some w ≡ true) × (is_some ps ≡ true)) → (square_facts q).takes_positions ≡ true → length flips ≡ length values / 2
unfolding flips_of
flips-count prediction.Off w ps c values flips is there takes = absurd (false≢true takes)
flips-count prediction.Difference w ps c values flips is there takes = absurd (false≢true takes)
flips-count prediction.Normals None ps c values flips is there takes = absurd (false≢true (there refl).0)
flips-count prediction.Normals (Some w) None c values flips is there takes = absurd (false≢true (there refl).1)
flips-count prediction.Normals (Some w) (Some ps) c values flips is there takes =
    ap length is
    ∙ length-map-range_with_len (λ (e : ℕ). is_flipped c (vector_in (normals_round w.entries (places_on ps w)) e) (point_in (pairs_of values) e)) 0 (length (pairs_of values))
    ∙ length-pairs values

flips-none : (q : SquarePrediction) (w : Option Ordered) (ps : Option Positions) (c : ℤ) (values : List ℤ) → (square_facts q).takes_positions ≡ false → square_flips q w ps c values ≡ []
flips-none prediction.Off w ps c values none = refl
flips-none prediction.Difference w ps c values none = refl
flips-none prediction.Normals w ps c values none = absurd (false≢true (sym none))

pub flips-few : (q : SquarePrediction) (w : Option Ordered) (ps : Option Positions) (c : ℤ) (values : List ℤ) → length values ≤ MAX_VALUES
    → ((square_facts q).takes_positions ≡ true → (is_some w ≡ true) × (is_some ps ≡ true)) → length (square_flips q w ps c values) < 2 ^ 31
flips-few q w ps c values few there = elim (cases_Bool (square_facts q).takes_positions) [
  | inl takes ↦ let count = flips-count q w ps c values (square_flips q w ps c values) refl there takes in omega (arith, count, few)
  | inr none ↦ let nothing : length (square_flips q w ps c values) ≡ 0 = ap length (flips-none q w ps c values none) in omega (arith, nothing)
]

-- what was written of corrected values is read back
pub square-put : (plain : Bool) (at : ℕ) (q : SquarePrediction) (w : Option Ordered) (ps : Option Positions) (bits : ℕ) (values : List ℤ) (symbols : List ℕ) (flips : List Bool)
    → symbols ≡ map unsigned_abs (square_corrections q w ps (centre_of bits) flips values) → flips ≡ square_flips q w ps (centre_of bits) values → length symbols ≡ length values
    → Spells (integers_at 2 (length symbols)) (symbols_bytes plain 2 symbols) (map signed_of symbols) → Spells square_at (square_bytes bits) bits
    → ((square_facts q).takes_positions ≡ true → IsBlockOf flips (block flips)) → ((square_facts q).takes_positions ≡ true → (is_some w ≡ true) × (is_some ps ≡ true))
    → squared q w ps bits flips (map signed_of symbols) ≡ Ok values
    → Spells (square_corrected_at at q w ps (length values)) (square_flipped_bytes plain q w ps bits (square_flips q w ps (centre_of bits) values) values) values
square-put plain at q w ps bits values symbols flips made chosen each integers square blocked there back =
    let cs = square_corrections q w ps (centre_of bits) flips values in
    let own : Spells (integers_at 2 (length symbols)) (symbols_bytes plain 2 (map unsigned_abs cs)) (map signed_of (map unsigned_abs cs)) =
    subst (λ (s : List ℕ). Spells (integers_at 2 (length symbols)) (symbols_bytes plain 2 s) (map signed_of s)) made integers in
    subst (λ (f : List Bool). Spells (square_corrected_at at q w ps (length values)) (square_flipped_bytes plain q w ps bits f values) values) chosen
    (Spells-square_corrected plain at q w ps bits (length values) flips cs values
    (subst (λ (n : ℕ). Spells (integers_at 2 n) (symbols_bytes plain 2 (map unsigned_abs cs)) (map signed_of (map unsigned_abs cs))) each own)
    square (Spells-flips q (length values / 2) flips (λ takes. flips-count q w ps (centre_of bits) values flips chosen there takes) (λ none. chosen ∙ flips-none q w ps (centre_of bits) values none) blocked)
    (subst (λ (s : List ℕ). squared q w ps bits flips (map signed_of s) ≡ Ok values) made back))

-- values in the bounds of a square are pairs of it
bounded_coordinates : (bits : ℕ) (values : List ℤ) → pos (greatest_coordinate bits) ≡ centre_of bits +ℤ centre_of bits
    → list_all (in_bounds (square_bounds bits)) values ≡ true → AreCoordinates (centre_of bits) values
unfolding in_bounds
bounded_coordinates bits [] twice all = All-nil (IsCoordinate (centre_of bits))
bounded_coordinates bits (x ∷ values) twice all =
    let both = and_parts (in_bounds (square_bounds bits) x) (list_all (in_bounds (square_bounds bits)) values) all in
    let ends = and_parts (int_le (pos 0) x) (int_le x (pos (2 ^ bits - 2))) both.0 in
    let low : pos 0 ≤ℤ x = grind (arith, ints, ends.0) in
    let high : x ≤ℤ pos (greatest_coordinate bits) = grind (arith, ints, ends.1) in
    All-cons (IsCoordinate (centre_of bits)) x values (low, subst (λ (m : ℤ). x ≤ℤ m) twice high) (bounded_coordinates bits values twice both.1)

pub bounded_values : (bits : ℕ) (values : List ℤ) → 2 ≤ bits → list_all (in_bounds (square_bounds bits)) values ≡ true → AreValues (centre_of bits) values
bounded_values bits values some all = AreValues-coordinates (centre_of bits) values (bounded_coordinates bits values (twice_centre bits some) all)

-- a prediction that is settled has what it needs, and values of one that corrects are in canonical spelling
settled-cases : (canonical : Bool) (w : Option Ordered) (ps : Option Positions) (asked q : SquarePrediction) → q ≡ (if canonical then square_prediction_on w ps asked else prediction.Off)
    → ((square_facts q).takes_positions ≡ true → (is_some w ≡ true) × (is_some ps ≡ true) × ((square_facts asked).takes_positions ≡ true)) × ((square_facts q).corrects ≡ true → canonical ≡ true)
settled-cases false w ps asked q is = rw is (λ takes. absurd (false≢true takes), λ corrects. absurd (false≢true corrects))
settled-cases true w ps prediction.Off q is = rw is (λ takes. absurd (false≢true takes), λ corrects. refl)
settled-cases true w ps prediction.Difference q is = rw is (λ takes. absurd (false≢true takes), λ corrects. refl)
settled-cases true None ps prediction.Normals q is = rw is (λ takes. absurd (false≢true takes), λ corrects. refl)
settled-cases true (Some w) None prediction.Normals q is = rw is (λ takes. absurd (false≢true takes), λ corrects. refl)
settled-cases true (Some w) (Some ps) prediction.Normals q is = rw is (λ takes. (refl, refl, refl), λ corrects. refl)

pub settled-needs : (w : Option Ordered) (ps : Option Positions) (bits : ℕ) (values : List ℤ) (asked q : SquarePrediction) → q ≡ settled_square w ps bits values asked
    → (square_facts q).takes_positions ≡ true → (is_some w ≡ true) × (is_some ps ≡ true) × ((square_facts asked).takes_positions ≡ true)
unfolding settled_square
settled-needs w ps bits values asked q is = (settled-cases (are_canonical (centre_of bits) values) w ps asked q is).0

pub settled-canonical : (w : Option Ordered) (ps : Option Positions) (bits : ℕ) (values : List ℤ) (asked q : SquarePrediction) → q ≡ settled_square w ps bits values asked
    → (square_facts q).corrects ≡ true → AreCanonical (centre_of bits) values
unfolding settled_square
settled-canonical w ps bits values asked q is corrects =
    (canonical-tested (centre_of bits) values).0 ((settled-cases (are_canonical (centre_of bits) values) w ps asked q is).1 corrects)

-- the square prediction of a number is the one that has it
pub square-coded : (q : SquarePrediction) (code : ℤ) → code ≡ square_code q → square_prediction_coded code ≡ Some q
square-coded q code is = ap square_prediction_coded is ∙ by_code q
  where
    by_code : (q : SquarePrediction) → square_prediction_coded (square_code q) ≡ Some q
    by_code prediction.Off = refl
    by_code prediction.Difference = refl
    by_code prediction.Normals = refl

pub same-square_code : (q r : SquarePrediction) → square_code q ≡ square_code r → q ≡ r
same-square_code q r is = given (sym (square-coded q (square_code q) refl) ∙ square-coded r (square_code q) is)
  where
    given : {x y : SquarePrediction} → ◌≡◌ {A = Option SquarePrediction} (Some x) (Some y) → x ≡ y
    given is = cc

-- what is written of an octahedral attribute, and the number of its prediction
pub square_bytes_are : (plain : Bool) (w : Option Ordered) (ps : Option Positions) (bits comps : ℕ) (octa : Option ℕ) (v : Values) (asked : SquarePrediction) → octa ≡ Some bits → v.predict ≡ square_code asked
    → values_bytes_under plain w ps octa comps v ≡ square_prediction_bytes plain (Some (settled_square w ps bits v.values asked)) w ps bits v.values
square_bytes_are plain w ps bits comps octa v asked squared code =
    ap (λ (o : Option ℕ). values_bytes_under plain w ps o comps v) squared
    ∙ ap (λ (p : Option SquarePrediction). square_prediction_bytes plain (option_map (settled_square w ps bits v.values) p) w ps bits v.values) (square-coded asked v.predict code)

pub square_code_is : (w : Option Ordered) (found : PositionsRead) (h : Head) (bits : ℕ) (v : Values) (asked : SquarePrediction) → h.octa ≡ Some bits → v.predict ≡ square_code asked
    → settled w found h v ≡ square_code (settled_square w (usable found) bits v.values asked)
unfolding settled
square_code_is w found h bits v asked squared code =
    ap (λ (o : Option ℕ). settled_under w (usable found) o h.comps v) squared
    ∙ ap (λ (p : Option SquarePrediction). square_code_or v.predict (option_map (settled_square w (usable found) bits v.values) p)) (square-coded asked v.predict code)

-- what was corrected restores the values
pub squared-made : (q : SquarePrediction) (w : Option Ordered) (ps : Option Positions) (bits : ℕ) (c : ℤ) (flips : List Bool) (corrections given values : List ℤ) (symbols : List ℕ) → 2 ≤ bits
    → c ≡ centre_of bits → given ≡ corrections → symbols ≡ map unsigned_abs given → AreCoordinates c corrections
    → (AreCanonical c values → restored_integers (square_step q w ps c) c flips corrections ≡ Ok values) → AreCanonical (centre_of bits) values
    → squared q w ps bits flips (map signed_of symbols) ≡ Ok values
squared-made q w ps bits c flips corrections given values symbols some centre same made within restores canonical =
    let there : AreCanonical (centre_of bits) values → restored_integers (square_step q w ps (centre_of bits)) (centre_of bits) flips corrections ≡ Ok values =
    subst (λ (m : ℤ). AreCanonical m values → restored_integers (square_step q w ps m) m flips corrections ≡ Ok values) centre restores in
    subst (λ (s : List ℕ). squared q w ps bits flips (map signed_of s) ≡ Ok values) (sym (made ∙ ap (λ (l : List ℤ). map unsigned_abs l) same))
    (squared-is q w ps bits flips corrections values some (subst (λ (m : ℤ). AreCoordinates m corrections) centre within) (there canonical))

-- the number of a prediction has eight bits, so it is what eight bits give
pub square_told : (q : SquarePrediction) (code told : ℤ) → told ≡ to_z w8 (of_z w8 code) → code ≡ square_code q → told ≡ code
square_told q code told is of = is ∙ ap (λ (x : ℤ). to_z w8 (of_z w8 x)) of ∙ fits q ∙ sym of
  where
    fits : (q : SquarePrediction) → to_z w8 (of_z w8 (square_code q)) ≡ square_code q
    fits prediction.Off = refl
    fits prediction.Difference = refl
    fits prediction.Normals = refl

-- the values of an octahedral attribute for which a prediction is asked
pub square_values_spelled : (plain : Bool) (w : Option Ordered) (ps : Option Positions) (found : PositionsRead) (h : Head) (v : Values) (bits : ℕ) (asked : SquarePrediction) → usable found ≡ ps
    → h.octa ≡ Some bits → v.predict ≡ square_code asked → SquareSpelled plain (settled_square w ps bits v.values asked) w ps bits v.values → ValuesSpelled plain w found h v
unfolding values_bytes
square_values_spelled plain w ps found h v bits asked is octa code spelled =
    squared_spelled plain w found h v bits (settled_square w (usable found) bits v.values asked) octa
    (square_code_is w found h bits v asked octa code) (square_bytes_are plain w (usable found) bits h.comps h.octa v asked octa code)
    (λ takes. (settled-needs w (usable found) bits v.values asked (settled_square w (usable found) bits v.values asked) refl takes).0)
    (subst (λ (p : Option Positions). SquareSpelled plain (settled_square w p bits v.values asked) w p bits v.values) (sym is) spelled)
