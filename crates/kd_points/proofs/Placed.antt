-- How far reading moves over extents.
use Rattle.std.proofs.Common.{◌≡◌, ℕ, zero, suc, ◌+◌, ◌*◌, List, [], ◌∷◌, length, take, nat_lt, Ok, refl, arith, ℤ}
use Rattle.std.specs.Prelude.{nat_le}
use Rattle.std.specs.Int.{w32, cast_signed}
use Rattle.drc_base.specs.declared.kinds.Kind.TheVariants as kind
use Rattle.drc_base.proofs.Parted.{given, parts, not_refused}
use Rattle.drc_bits.specs.Reading.{Reading, advanced, bytes_at, must, many_at}
use Rattle.drc_bits.specs.Numbers.{number_at, signed_at, little_endian}
use Rattle.drc_bits.proofs.Parted.{must-passed}
use Rattle.kd_points.specs.declared.extents.Extent.{Extent}
use Rattle.kd_points.specs.Header.{extent_at}

bytes-place : (n : ℕ) (c : Reading) (y : List ℕ × Reading) → bytes_at n c ≡ Ok y → y.1.place ≡ c.place + n
bytes-place n c y is =
    given (λ (z : List ℕ × Reading). z.1.place ≡ c.place + n) (take n c.rest, advanced n c) y
    (not_refused (nat_lt (length c.rest) n) (record { kind = kind.Short; at = c.place }) (Ok (take n c.rest, advanced n c)) y is) refl

number-place : (n : ℕ) (c : Reading) (y : ℕ × Reading) → number_at n c ≡ Ok y → y.1.place ≡ c.place + n
number-place n c y is =
    let p = parts (bytes_at n c) (λ x. Ok (little_endian x.0, x.1)) y is in
    given (λ (z : ℕ × Reading). z.1.place ≡ c.place + n) (little_endian p.0.0, p.0.1) y p.2 (bytes-place n c p.0 p.1)

signed-place : (c : Reading) (y : ℤ × Reading) → signed_at c ≡ Ok y → y.1.place ≡ c.place + 4
signed-place c y is =
    let p = parts (number_at 4 c) (λ x. Ok (cast_signed w32 x.0, x.1)) y is in
    given (λ (z : ℤ × Reading). z.1.place ≡ c.place + 4) (cast_signed w32 p.0.0, p.0.1) y p.2 (number-place 4 c p.0 p.1)

extent-place : (c : Reading) (y : Extent × Reading) → extent_at c ≡ Ok y → y.1.place ≡ c.place + 5
unfolding extent_at
extent-place c y is =
    let p = parts (signed_at c) _ y is in
    let q = parts (must kind.KdBits (λ n. nat_le n 32) (number_at 1) p.0.1) _ y p.2 in
    let least = signed-place c p.0 p.1 in
    let bits = number-place 1 p.0.1 q.0 (must-passed kind.KdBits (λ n. nat_le n 32) (number_at 1) p.0.1 q.0 q.1).1 in
    let e : Extent = record { least = p.0.0; bits = q.0.0 } in
    given (λ (z : Extent × Reading). z.1.place ≡ c.place + 5) (e, q.0.1) y q.2 (omega (arith, least, bits))

pub extents-place : (n : ℕ) (c : Reading) (y : List Extent × Reading) → many_at extent_at n c ≡ Ok y → y.1.place ≡ c.place + 5 * n
unfolding many_at
extents-place zero c y is =
    let none : c.place ≡ c.place + 5 * 0 = omega arith in
    given (λ (z : List Extent × Reading). z.1.place ≡ c.place + 5 * 0) ([], c) y is none
extents-place (suc n) c y is =
    let p = parts (extent_at c) _ y is in
    let q = parts (many_at extent_at n p.0.1) _ y p.2 in
    let here = extent-place c p.0 p.1 in
    let rest = extents-place n p.0.1 q.0 q.1 in
    given (λ (z : List Extent × Reading). z.1.place ≡ c.place + 5 * suc n) (p.0.0 ∷ q.0.0, q.0.1) y q.2 (omega (arith, here, rest))
