-- Numbers with a sign, up to bounds.
use Rattle.std.proofs.Common.{◌≡◌, ℕ, zero, suc, ◌<◌, Bool, true, false, cond, leb, List, [], ◌∷◌, length, drop, get_or, Option, Some, None, refl, sym, ap, ◌∙◌, inl, inr, arith}
use Rattle.std.specs.Prelude.{ℤ, pos, neg_ℤ, option_map, ◌&&◌}
use Rattle.std.proofs.lemmas.Bool.{eq-eqb, ne_eqb, cases_lt, le-leb, lt-leb}
use Rattle.ply_text.specs.Numbers.{natural_of, integer_of, only_if, natural_within, is_between}

pub plus_between : (below most n : ℕ) → is_between below most (pos n) ≡ leb n most
plus_between zero most n = rw (le-leb 0 n (omega arith)) refl
plus_between (suc b) most n = refl

and_yes : (b : Bool) → (b && true) ≡ b
and_yes true = refl
and_yes false = refl

leb-suc : (n b : ℕ) → leb n b ≡ leb (suc n) (suc b)
leb-suc n b = elim (cases_lt b n) [
  | inl lt ↦ lt-leb n b lt ∙ sym (lt-leb (suc n) (suc b) (omega arith))
  | inr le ↦ le-leb n b le ∙ sym (le-leb (suc n) (suc b) (omega arith))
]

pub minus_between : (below most n : ℕ) → is_between below most (neg_ℤ (pos n)) ≡ leb n below
minus_between zero most zero = le-leb 0 most (omega arith)
minus_between (suc b) most zero = le-leb 0 most (omega arith) ∙ sym (le-leb 0 (suc b) (omega arith))
minus_between zero most (suc n) = sym (lt-leb (suc n) 0 (omega arith))
minus_between (suc b) most (suc n) = and_yes (leb n b) ∙ leb-suc n b

minus_each : (below most : ℕ) (o : Option ℕ) → only_if (is_between below most) (option_map (λ n. neg_ℤ (pos n)) o) ≡ option_map (λ n. neg_ℤ (pos n)) (only_if (λ n. leb n below) o)
minus_each below most None = refl
minus_each below most (Some n) = rw (minus_between below most n) (chosen (leb n below) (neg_ℤ (pos n)) n refl) where
  chosen : (b : Bool) (z : ℤ) (m : ℕ) → z ≡ neg_ℤ (pos m) → cond b (Some z) None ≡ option_map (λ n. neg_ℤ (pos n)) (cond b (Some m) None)
  chosen true z m e = ap Some e
  chosen false z m e = refl

plus_each : (below most : ℕ) (o : Option ℕ) → only_if (is_between below most) (option_map pos o) ≡ option_map pos (only_if (λ n. leb n most) o)
plus_each below most None = refl
plus_each below most (Some n) = rw (plus_between below most n) (chosen (leb n most) n) where
  chosen : (b : Bool) (m : ℕ) → cond b (Some (pos m)) None ≡ option_map pos (cond b (Some m) None)
  chosen true m = refl
  chosen false m = refl

-- a token with a - in front
pub minus_is : (below most : ℕ) (token : List ℕ) → get_or token 0 0 ≡ 45 → option_map (λ n. neg_ℤ (pos n)) (natural_within below (drop 1 token)) ≡ only_if (is_between below most) (integer_of token)
unfolding integer_of natural_within
minus_is below most [] e = absurd (omega arith)
minus_is below most (c ∷ cs) e = rw (eq-eqb c 45 e) (sym (minus_each below most (natural_of cs)))

-- any other token
pub plus_is : (below most : ℕ) (token : List ℕ) → 0 < length token → (get_or token 0 0 ≡ 45 → ⊥) → option_map pos (natural_within most token) ≡ only_if (is_between below most) (integer_of token)
unfolding integer_of natural_within
plus_is below most [] long e = absurd (omega arith)
plus_is below most (c ∷ cs) long e = rw (ne_eqb c 45 e) (sym (plus_each below most (natural_of (c ∷ cs))))

pub no_integer : (below most : ℕ) (token : List ℕ) → length token ≡ 0 → None ≡ only_if (is_between below most) (integer_of token)
unfolding integer_of
no_integer below most [] e = refl
no_integer below most (c ∷ cs) e = absurd (omega arith)
