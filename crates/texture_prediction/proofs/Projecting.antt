-- The steps of a projection, to 64 bits on the way.
use Rattle.std.proofs.Common.{◌≡◌, ℕ, ◌-◌, ◌%◌, ◌^◌, ◌<◌, ◌≢◌, ℤ, pos, negsuc, ◌+ℤ◌, ◌-ℤ◌, ◌*ℤ◌, neg_ℤ, int_div, unsigned_abs, sym, ◌∙◌, ap, refl, arith, true, false, inl, inr, ◌≤◌}
use Rattle.std.specs.Int.{w32, w64, cast_unsigned, cast_signed, int_wrap, int_rem_euclid}
use Rattle.std.proofs.lemmas.Bool.{cases_lt}
use Rattle.std.proofs.lemmas.Bool.Decides.{nat_tests}
use Rattle.std.proofs.lemmas.Int.{ints, int_wrap-add_left, int_wrap-mul_right}
use Rattle.std.proofs.lemmas.Nat.{and_mask}
use Rattle.wrapped_vectors.specs.Wrapped.{signed, unsigned}
use Rattle.wrapped_vectors.specs.Vectors.{dot, squared, apart, reduced}
use Rattle.wrapped_vectors.specs.declared.vectors.Vector.{Vector}
use Rattle.wrapped_vectors.proofs.Reducing.{signed-sum, signed-product, unsigned-same, unsigned-signed, unsigned-small}
use Rattle.wrapped_vectors.proofs.Squares.{squares-not_last, square-is}
use Rattle.wrapped_vectors.specs.Roots.{root}
use Rattle.wrapped_vectors.specs.declared.places.Place.{Place}
use Rattle.texture_prediction.specs.declared.pairs.Pair.{Pair}
use Rattle.texture_prediction.specs.declared.projections.Candidates.{Candidates}
use Rattle.texture_prediction.specs.Projection.{Divides, foot_at, along_at, greatest, height, from_foot, candidates, known, projection, is_wide, is_far}
use Rattle.std.specs.Prelude.{nat_eq, FitsSigned, bit_and}
use Rattle.texture_prediction.specs.declared.projections.Projected.TheVariants as projected

pub component-is : (tip n along d square q p way r : ℤ) → p ≡ signed (along *ℤ d) → q ≡ int_div p square → way ≡ tip -ℤ n → r ≡ signed (way -ℤ q)
    → r ≡ signed (tip -ℤ foot_at n along d square)
component-is tip n along d square q p way r ep eq ew er =
    let same : (tip -ℤ n) -ℤ q ≡ tip -ℤ (n +ℤ q) = omega (arith, ints) in
    rw (er, ew, same, eq, ep) refl

pub along-is : (a b along square from step across r : ℤ) → from ≡ signed (a *ℤ square) → step ≡ b -ℤ a → across ≡ signed (along *ℤ step)
    → r ≡ signed (from +ℤ across) → r ≡ along_at a b along square
along-is a b along square from step across r ef es ea er = rw (er, ef, ea, es) (signed-sum (a *ℤ square) (along *ℤ (b -ℤ a)))

-- the square of a side to 64 bits serves as well
pub along-signed : (a b along square : ℤ) → along_at a b along (signed square) ≡ along_at a b along square
along-signed a b along square =
    sym (int_wrap-add_left w64 (a *ℤ signed square) (along *ℤ (b -ℤ a)))
    ∙ ap (λ x. signed (x +ℤ along *ℤ (b -ℤ a))) (int_wrap-mul_right w64 a square)
    ∙ int_wrap-add_left w64 (a *ℤ square) (along *ℤ (b -ℤ a))

-- the square of a reduced vector
pub squared-reduced : (f : Vector) → squared (reduced f) ≡ squared f
squared-reduced f =
    let x = signed-product f.x f.x in
    let y = signed-product f.y f.y in
    let z = signed-product f.z f.z in
    let xy : signed (signed f.x *ℤ signed f.x +ℤ signed f.y *ℤ signed f.y) ≡ signed (f.x *ℤ f.x +ℤ f.y *ℤ f.y)
    = sym (signed-sum (signed f.x *ℤ signed f.x) (signed f.y *ℤ signed f.y)) ∙ rw (x, y) (signed-sum (f.x *ℤ f.x) (f.y *ℤ f.y)) in
    unsigned-same (dot (reduced f) (reduced f)) (dot f f)
    (sym (signed-sum (signed f.x *ℤ signed f.x +ℤ signed f.y *ℤ signed f.y) (signed f.z *ℤ signed f.z))
    ∙ rw (xy, z) (signed-sum (f.x *ℤ f.x +ℤ f.y *ℤ f.y) (f.z *ℤ f.z)))

none-squared : (d : Vector) → greatest d ≤ 0 → squared d ≡ 0
none-squared d h =
    let x : unsigned_abs d.x ≡ 0 = omega arith in
    let y : unsigned_abs d.y ≡ 0 = omega arith in
    let z : unsigned_abs d.z ≡ 0 = omega arith in
    rw (square-is d.x, square-is d.y, square-is d.z, x, y, z) refl

-- a side of some square has some length
pub greatest-some : (d : Vector) → 0 < squared d → 0 < greatest d
greatest-some d h =
    elim (cases_lt 0 (greatest d)) [
      | inl some ↦ some
      | inr none ↦ (let is : squared d ≡ 0 = none-squared d none in absurd (omega arith))
    ]

-- no quotient leaves 64 bits
pub square-some : (d : Vector) (square : ℕ) → square ≡ squared d → 0 < square → signed (pos square) ≢ pos 0
square-some d square is h none =
    let small : square < 2 ^ 64 = rw is (unsigned-small (dot d d)) in
    let same : cast_unsigned w64 (signed (pos square)) ≡ square % 2 ^ 64 = unsigned-signed (pos square) in
    let zero_bits : cast_unsigned w64 (signed (pos square)) ≡ 0 = ap (cast_unsigned w64) none in
    absurd (omega arith)

pub square-more : (d : Vector) (square : ℕ) → square ≡ squared d → signed (pos square) ≢ neg_ℤ (pos 1)
square-more d square is h =
    let small : square < 2 ^ 64 = rw is (unsigned-small (dot d d)) in
    let same : cast_unsigned w64 (signed (pos square)) ≡ square % 2 ^ 64 = unsigned-signed (pos square) in
    let bits : cast_unsigned w64 (signed (pos square)) ≡ 2 ^ 64 - 1 = ap (cast_unsigned w64) h in
    let last : square ≡ 2 ^ 64 - 1 = omega arith in
    squares-not_last d (sym is ∙ last)

-- the code's candidates
pub height-is : (f g : Vector) (square rise : ℕ) → f ≡ reduced g → rise ≡ height f square → rise ≡ height g square
height-is f g square rise ef er = rw (er, ef) (ap (λ s. root (unsigned (pos s *ℤ pos square))) (squared-reduced g))

pub candidates-is : (tip n : Place) (d : Vector) (along : ℤ) (square : ℕ) (a b : Pair) (divisor : ℤ) (f : Vector) (rise : ℕ) (au av xu xv : ℤ)
    → divisor ≡ signed (pos square) → f ≡ reduced (from_foot tip n d along divisor) → rise ≡ height f square
    → au ≡ along_at a.u b.u along divisor → av ≡ along_at a.v b.v along divisor
    → xu ≡ signed ((b.v -ℤ a.v) *ℤ pos rise) → xv ≡ signed ((a.u -ℤ b.u) *ℤ pos rise)
    → record { along_u = au; along_v = av; across_u = xu; across_v = xv; square = divisor } ≡ candidates tip n d along square a b
unfolding candidates
candidates-is tip n d along square a b divisor f rise au av xu xv ed ef er eau eav exu exv =
    let high : rise ≡ height (from_foot tip n d along divisor) square = height-is f (from_foot tip n d along divisor) square rise ef er in
    rw (eau, eav, exu, exv, high, ed, along-signed a.u b.u along (pos square), along-signed a.v b.v along (pos square)) refl

projection-by : (tip n p : Place) (a b : Pair) (d e : Vector) (square : ℕ) (along : ℤ) → d ≡ apart p n → e ≡ apart tip n → square ≡ squared d
    → along ≡ signed (dot d e) → known tip n d along square a b ≡ projection tip n p a b
projection-by tip n p a b d e square along ed ee ew ea = rw (ea, ew, ee, ed) refl

known-short : (tip n : Place) (d : Vector) (along : ℤ) (square : ℕ) (a b : Pair) → square ≡ 0 → known tip n d along square a b ≡ projected.Short
unfolding known
known-short tip n d along square a b none = let is : nat_eq square 0 ≡ true = grind (arith, nat_tests) in rw is refl

known-wide : (tip n : Place) (d : Vector) (along : ℤ) (square : ℕ) (a b : Pair) → square ≢ 0 → is_wide a square ≡ true
    → known tip n d along square a b ≡ projected.Great
unfolding known
known-wide tip n d along square a b some wide =
    let more : nat_eq square 0 ≡ false = grind (arith, nat_tests) in
    rw (more, wide) refl

known-far : (tip n : Place) (d : Vector) (along : ℤ) (square : ℕ) (a b : Pair) → square ≢ 0 → is_wide a square ≡ false → is_far d along ≡ true
    → known tip n d along square a b ≡ projected.Great
unfolding known
known-far tip n d along square a b some wide far =
    let more : nat_eq square 0 ≡ false = grind (arith, nat_tests) in
    rw (more, wide, far) refl

known-at : (tip n : Place) (d : Vector) (along : ℤ) (square : ℕ) (a b : Pair) → square ≢ 0 → is_wide a square ≡ false → is_far d along ≡ false
    → known tip n d along square a b ≡ projected.At (candidates tip n d along square a b)
unfolding known
known-at tip n d along square a b some wide far =
    let more : nat_eq square 0 ≡ false = grind (arith, nat_tests) in
    rw (more, wide, far) refl

pub projection-at : (tip n p : Place) (a b : Pair) (d e : Vector) (square : ℕ) (along : ℤ) (x : Candidates)
    → d ≡ apart p n → e ≡ apart tip n → square ≡ squared d → along ≡ signed (dot d e)
    → square ≢ 0 → is_wide a square ≡ false → is_far d along ≡ false → x ≡ candidates tip n d along square a b
    → projected.At x ≡ projection tip n p a b
projection-at tip n p a b d e square along x ed ee ew ea some wide far ex =
    ap projected.At ex ∙ sym (known-at tip n d along square a b some wide far) ∙ projection-by tip n p a b d e square along ed ee ew ea

pub projection-short : (tip n p : Place) (a b : Pair) (d : Vector) (square : ℕ) → d ≡ apart p n → square ≡ squared d → square ≡ 0
    → projected.Short ≡ projection tip n p a b
projection-short tip n p a b d square ed ew none =
    sym (known-short tip n d (signed (dot d (apart tip n))) square a b none) ∙ projection-by tip n p a b d (apart tip n) square (signed (dot d (apart tip n))) ed refl ew refl

pub projection-wide : (tip n p : Place) (a b : Pair) (d e : Vector) (square : ℕ) (along : ℤ)
    → d ≡ apart p n → e ≡ apart tip n → square ≡ squared d → along ≡ signed (dot d e)
    → square ≢ 0 → is_wide a square ≡ true → projected.Great ≡ projection tip n p a b
projection-wide tip n p a b d e square along ed ee ew ea some wide =
    sym (known-wide tip n d along square a b some wide) ∙ projection-by tip n p a b d e square along ed ee ew ea

pub projection-far : (tip n p : Place) (a b : Pair) (d e : Vector) (square : ℕ) (along : ℤ)
    → d ≡ apart p n → e ≡ apart tip n → square ≡ squared d → along ≡ signed (dot d e)
    → square ≢ 0 → is_wide a square ≡ false → is_far d along ≡ true → projected.Great ≡ projection tip n p a b
projection-far tip n p a b d e square along ed ee ew ea some wide far =
    sym (known-far tip n d along square a b some wide far) ∙ projection-by tip n p a b d e square along ed ee ew ea

-- the low bits of a number of 64 bits
low-of : (z : ℤ) → FitsSigned w64 z → cast_unsigned w64 z % 2 ^ 32 ≡ unsigned_abs (int_rem_euclid z (pos (2 ^ 32)))
low-of (pos n) fits = refl
low-of (negsuc n) fits = let small : n < 2 ^ 63 = fits.sfits in omega arith

pub low_bits-is : (z : ℤ) (bits : ℕ) (w : ℤ) → FitsSigned w64 z → bits ≡ cast_unsigned w64 z → w ≡ cast_signed w32 (bit_and bits (2 ^ 32 - 1)) → w ≡ int_wrap w32 z
unfolding int_wrap
low_bits-is z bits w fits eb ew =
    ew ∙ ap (cast_signed w32) (and_mask bits 32 ∙ ap (λ n. n % 2 ^ 32) eb ∙ low-of z fits)

candidates-square : (tip n : Place) (d : Vector) (along : ℤ) (square : ℕ) (a b : Pair) → (candidates tip n d along square a b).square ≡ signed (pos square)
unfolding candidates
candidates-square tip n d along square a b = refl

-- candidates over a side of some length
pub divides : (tip n : Place) (d : Vector) (along : ℤ) (square : ℕ) (a b : Pair) (x : Candidates) → square ≡ squared d → square ≢ 0
    → x ≡ candidates tip n d along square a b → Divides (projected.At x)
divides tip n d along square a b x es some ex =
    let is : x.square ≡ signed (pos square) = ap (λ (c : Candidates). c.square) ex ∙ candidates-square tip n d along square a b in
    ((λ none. square-some d square es (omega arith) (sym is ∙ none)), (λ less. square-more d square es (sym is ∙ less)))
