-- Which integers have 32 bits: the values of a data type, the ends of their range, and their corrections; and their symbols.
use Rattle.std.proofs.Common.{◌≡◌, ℕ, ◌-◌, ◌/◌, ◌^◌, ◌<◌, Bool, true, false, ℤ, pos, negsuc, ◌+ℤ◌, ◌-ℤ◌, ◌<ℤ◌, ◌≤ℤ◌, neg_ℤ, cond, int_lt, int_le, FitsSigned, List, [], ◌∷◌, map, arith}
use Rattle.std.specs.Int.{w32, int_min, int_max}
use Rattle.std.specs.List.{All, fold, list_all}
use Rattle.std.proofs.lemmas.Bool.{and_parts}
use Rattle.std.proofs.lemmas.Int.{ints}
use Rattle.std.proofs.lemmas.List.Elements.{All-head, All-tail, All-map, All-weaker}
use Rattle.std.proofs.lemmas.List.Sums.{AllPass-from_list_all}
use Rattle.attr_heads.specs.Bounds.{in_bounds, type_bounds}
use Rattle.attr_heads.specs.DataTypes.{least_of, greatest_of}
use Rattle.attr_heads.proofs.Types.{least_low, greatest_high}
use Rattle.predict.specs.Wrap.{Range, CanWrap, HasEnds, span_of}
use Rattle.predict.specs.Symbols.{zigzag_of}
use Rattle.predict.specs.Restored.{corrections}
use Rattle.predict.proofs.Wrapping.{span_is}
use Rattle.predict.proofs.Restoring.{InRange, IsSmall, small-corrections}
use Rattle.attr_section.specs.WrittenParts.{range_of}

-- so has a number between
fits-between : (low high x : ℤ) → negsuc 2147483647 ≤ℤ low → high ≤ℤ pos 2147483647 → int_le low x ≡ true → int_le x high ≡ true → FitsSigned w32 x
fits-between low high x least greatest above below =
    let from : low ≤ℤ x = grind (arith, ints, above) in
    let to : x ≤ℤ high = grind (arith, ints, below) in
    search (arith, ints)

fits-typed : (dtype : ℕ) (x : ℤ) → in_bounds (type_bounds dtype) x ≡ true → FitsSigned w32 x
unfolding in_bounds
fits-typed dtype x typed =
    let both = and_parts (int_le (least_of dtype) x) (int_le x (greatest_of dtype)) typed in
    fits-between (least_of dtype) (greatest_of dtype) x (least_low dtype) (greatest_high dtype) both.0 both.1

-- values of a data type have 32 bits
pub fit_typed : (dtype : ℕ) (values : List ℤ) → list_all (in_bounds (type_bounds dtype)) values ≡ true → All (FitsSigned w32) values
fit_typed dtype values typed = λ k d below. fits-typed dtype _ (AllPass-from_list_all (in_bounds (type_bounds dtype)) values typed k d below)

-- one of two
fits-one : (b : Bool) (x y : ℤ) → FitsSigned w32 x → FitsSigned w32 y → FitsSigned w32 (cond b x y)
fits-one true x y first second = first
fits-one false x y first second = second

fits-least : (a : ℤ) (xs : List ℤ) → FitsSigned w32 a → All (FitsSigned w32) xs → FitsSigned w32 (fold int_min a xs)
fits-least a [] first fit = first
fits-least a (x ∷ xs) first fit =
    fits-least (int_min a x) xs (fits-one (int_lt x a) x a (All-head (FitsSigned w32) x xs fit) first) (All-tail (FitsSigned w32) x xs fit)

fits-greatest : (a : ℤ) (xs : List ℤ) → FitsSigned w32 a → All (FitsSigned w32) xs → FitsSigned w32 (fold int_max a xs)
fits-greatest a [] first fit = first
fits-greatest a (x ∷ xs) first fit =
    fits-greatest (int_max a x) xs (fits-one (int_lt x a) a x first (All-head (FitsSigned w32) x xs fit)) (All-tail (FitsSigned w32) x xs fit)

-- the ends of the range of values that have 32 bits
pub fit_ends : (values : List ℤ) → All (FitsSigned w32) values → HasEnds (range_of values)
fit_ends [] fit = record { low = search arith; high = search arith }
fit_ends (v ∷ values) fit =
    let first : FitsSigned w32 v = All-head (FitsSigned w32) v values fit in
    let others : All (FitsSigned w32) values = All-tail (FitsSigned w32) v values fit in
    record { low = fits-least v values first others; high = fits-greatest v values first others }

-- a number of at most half a span
fits-half : (d : ℕ) (c : ℤ) → d < 2 ^ 31 → neg_ℤ (pos (d / 2)) ≤ℤ c → c ≤ℤ pos ((d - 1) / 2) → FitsSigned w32 c
fits-half d c small low high = search (arith, ints)

span-small : (r : Range) → CanWrap r → span_of r < 2 ^ 31
span-small r can =
    let span : pos (span_of r) ≡ (r.high -ℤ r.low) +ℤ pos 1 = span_is r can in
    let narrow : (r.high -ℤ r.low) <ℤ pos (2 ^ 31 - 1) = can.narrow in
    omega (arith, ints)

-- small corrections have 32 bits, and so have those of values of a range
pub fit_small : (r : Range) (cs : List ℤ) → CanWrap r → All (IsSmall r) cs → All (FitsSigned w32) cs
fit_small r cs can all =
    All-weaker (IsSmall r) (FitsSigned w32) (λ c small. fits-half (span_of r) c (span-small r can) small.0 small.1) cs all

pub fit_corrections : (f : List ℤ → ℤ) (r : Range) (values : List ℤ) → CanWrap r → All (InRange r) values → All (FitsSigned w32) (corrections f r values)
fit_corrections f r values can within = fit_small r (corrections f r values) can (small-corrections f r values can within)

-- the symbols of integers of 32 bits have 32 bits
symbol-fits : (x : ℤ) → FitsSigned w32 x → zigzag_of x < 2 ^ 32
symbol-fits (pos n) fits = omega (arith, fits.sfits)
symbol-fits (negsuc n) fits = omega (arith, fits.sfits)

pub fit_symbols : (values : List ℤ) → All (FitsSigned w32) values → All (λ s. s < 2 ^ 32) (map zigzag_of values)
fit_symbols values fit = All-map (λ (s : ℕ). s < 2 ^ 32) zigzag_of values (All-weaker (FitsSigned w32) (λ x. zigzag_of x < 2 ^ 32) symbol-fits values fit)
