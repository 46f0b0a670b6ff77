-- Dividing by multiplying with a reciprocal of 32 bits.
use Rattle.std.proofs.Common.{◌≡◌, ℕ, ◌+◌, ◌-◌, ◌*◌, ◌/◌, ◌%◌, ◌<◌, ◌≤◌, arith, sym, subst, ap, ◌∙◌, mod-lt, add-mul, mul-add, mul_assoc, mul_comm, one-mul, mul-le-mul_right, mul-le-mul_left}
use Rattle.std.proofs.lemmas.Nat.{div-add-mod', div-mul-add}

-- a product of a number in two parts with a factor that is whole in one of them
parts-times : (q p r f m e : ℕ) → f * p ≡ m + e → (q * p + r) * f ≡ q * m + (q * e + r * f)
parts-times q p r f m e whole =
    let first : (q * p + r) * f ≡ q * p * f + r * f = add-mul (q * p) r f in
    let second : q * p * f ≡ q * (p * f) = mul_assoc q p f in
    let third : q * (p * f) ≡ q * (m + e) = ap (λ x. q * x) (mul_comm p f ∙ whole) in
    let fourth : q * (m + e) ≡ q * m + q * e = mul-add q m e in
    omega (arith, first, second ∙ third ∙ fourth)

-- a number of 20 bits times the reciprocal, without its low 32 bits, is the quotient
pub quotient_is : (n p f : ℕ) → 0 < p → p ≤ 256 → n < 1048576 → f ≡ (4294967296 + p - 1) / p → n * f / 4294967296 ≡ n / p
quotient_is n p f some few below is =
    let q = n / p in
    let r = n % p in
    let n_is : q * p + r ≡ n = div-add-mod' n p in
    let f_is : (4294967296 + p - 1) / p * p + (4294967296 + p - 1) % p ≡ 4294967296 + p - 1 = div-add-mod' (4294967296 + p - 1) p in
    let f_fits : f * p + (4294967296 + p - 1) % p ≡ 4294967296 + p - 1 = subst (λ x. x * p + (4294967296 + p - 1) % p ≡ 4294967296 + p - 1) (sym is) f_is in
    let low : (4294967296 + p - 1) % p < p = mod-lt (4294967296 + p - 1) some in
    let e = f * p - 4294967296 in
    let wide : f * p ≡ 4294967296 + e = omega arith in
    let few_e : e < p = omega arith in
    let r_low : r < p = mod-lt n some in
    let rf : (r + 1) * f ≤ p * f = mul-le-mul_right f (omega arith) in
    let qe : (q + 1) * e ≤ (q + 1) * p = mul-le-mul_left (q + 1) (omega arith) in
    let qe_is : (q + 1) * e ≡ q * e + e = add-mul q 1 e ∙ ap (λ x. q * e + x) (one-mul e) in
    let qp_is : (q + 1) * p ≡ q * p + p = add-mul q 1 p ∙ ap (λ x. q * p + x) (one-mul p) in
    let rf_is : (r + 1) * f ≡ r * f + f = add-mul r 1 f ∙ ap (λ x. r * f + x) (one-mul f) in
    let fp_is : p * f ≡ f * p = mul_comm p f in
    let pf : p * f ≤ 256 * f = mul-le-mul_right f few in
    let split : n * f ≡ q * 4294967296 + (q * e + r * f) = subst (λ x. x * f ≡ q * 4294967296 + (q * e + r * f)) n_is (parts-times q p r f 4294967296 e wide) in
    let rest : q * e + r * f < 4294967296 = omega (arith, rf, qe, pf, wide, few_e, r_low, n_is, below, qe_is, qp_is, rf_is, fp_is) in
    rw split (div-mul-add q 4294967296 (q * e + r * f) rest)
