-- Corrections in a square, and the entries of corners.
use Rattle.std.proofs.Common.{◌≡◌, ℕ, zero, suc, ◌-◌, ◌*◌, ◌^◌, ◌<◌, ◌≤◌, true, ℤ, pos, ◌+ℤ◌, List, [], ◌∷◌, length, map, get_or, arith, pow-suc, pow_pos}
use Rattle.std.proofs.lemmas.Int.{ints}
use Rattle.std.specs.List.{All, list_all}
use Rattle.std.proofs.lemmas.Bool.{and_parts, leb-true}
use Rattle.std.proofs.lemmas.List.Elements.{All-nil, All-cons, All-head, All-tail}
use Rattle.std.proofs.lemmas.List.FromFn.{length-map-range_with_len}
use Rattle.wrapped_vectors.specs.declared.places.Place.{Place}
use Rattle.wrapped_vectors.specs.Vectors.{reduced}
use Rattle.normal_prediction.specs.NormalSums.{fan_sum}
use Rattle.octahedral_values.specs.Steps.{normals_round}
use Rattle.predict.specs.Symbols.{zigzag_of}
use Rattle.octahedron.specs.Pairs.{IsCoordinate, AreCoordinates, AreValues}
use Rattle.octahedron.proofs.Listed.{AreValues-coordinates}
use Rattle.attr_section.specs.Squared.{is_correction, correction_of, greatest_coordinate, centre_of}

coordinates : (greatest : ℕ) (c : ℤ) (integers : List ℤ) → pos greatest ≡ c +ℤ c → list_all (is_correction greatest) integers ≡ true
    → AreCoordinates c (map correction_of integers)
coordinates greatest c [] twice all = All-nil (IsCoordinate c)
coordinates greatest c (x ∷ integers) twice all =
    let p = and_parts (is_correction greatest x) (list_all (is_correction greatest) integers) all in
    let most : zigzag_of x ≤ greatest = leb-true (zigzag_of x) greatest p.0 in
    All-cons (IsCoordinate c) (correction_of x) (map correction_of integers)
    (omega (arith, ints), omega (arith, ints, most, twice)) (coordinates greatest c integers twice p.1)

-- the symbols of integers that are coordinates of a square are pairs of it
pub corrections_are : (greatest : ℕ) (c : ℤ) (integers : List ℤ) → pos greatest ≡ c +ℤ c → list_all (is_correction greatest) integers ≡ true
    → AreValues c (map correction_of integers)
corrections_are greatest c integers twice all = AreValues-coordinates c (map correction_of integers) (coordinates greatest c integers twice all)

-- the entries of corners are below a number, where those of classes are
pub entries_below : (n : ℕ) (labels entry_of_class : List ℕ) → All (λ (k : ℕ). k < length entry_of_class) labels → All (λ (e : ℕ). e < n) entry_of_class
    → All (λ (e : ℕ). e < n) (map (λ (k : ℕ). get_or entry_of_class k 0) labels)
entries_below n [] entry_of_class classes entries = All-nil (λ (e : ℕ). e < n)
entries_below n (k ∷ labels) entry_of_class classes entries =
    All-cons (λ (e : ℕ). e < n) (get_or entry_of_class k 0) (map (λ (k : ℕ). get_or entry_of_class k 0) labels)
    (entries k 0 (All-head (λ (k : ℕ). k < length entry_of_class) k labels classes))
    (entries_below n labels entry_of_class (All-tail (λ (k : ℕ). k < length entry_of_class) k labels classes) entries)

-- there is a sum of normals for each place
pub length-normals : (entries : List ℕ) (places : List Place) → length (normals_round entries places) ≡ length places
unfolding normals_round
length-normals entries places =
    length-map-range_with_len (λ (e : ℕ). reduced (fan_sum entries places e (length entries))) 0 (length places)

-- the greatest coordinate of a square is twice its centre
pub twice_centre : (bits : ℕ) → 2 ≤ bits → pos (greatest_coordinate bits) ≡ centre_of bits +ℤ centre_of bits
twice_centre zero some = absurd (omega (arith, some))
twice_centre (suc m) some =
    let double : 2 ^ suc m ≡ 2 ^ m * 2 = pow-suc 2 m in
    let least : 1 ≤ 2 ^ m = pow_pos m in
    let before : suc m - 1 ≡ m = omega arith in
    rw (before, double) (omega (arith, ints, least))
