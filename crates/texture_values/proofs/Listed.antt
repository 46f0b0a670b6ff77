-- Pairs in flat lists.
use Rattle.std.proofs.Common.{◌≡◌, ℕ, zero, suc, ◌+◌, ◌*◌, ◌/◌, ◌<◌, ℤ, pos, List, [], ◌∷◌, length, set, get_or, ◌∙◌, ap, refl, arith, ◌++◌}
use Rattle.std.specs.List.{All}
use Rattle.std.proofs.lemmas.List.Elements.{All-nil, All-cons, All-head, All-tail}
use Rattle.texture_prediction.specs.declared.pairs.Pair.{Pair}
use Rattle.texture_prediction.specs.Projection.{pair}
use Rattle.texture_values.specs.Pairs.{pair_of, pairs_of, flat_of}

two-more : (e : ℕ) → 2 * suc e ≡ suc (suc (2 * e))
two-more e = omega arith

one-more : (e : ℕ) → suc (suc (2 * e)) + 1 ≡ suc (suc (2 * e + 1))
one-more e = omega arith

-- the pair of an entry that is there
pub pair-is : (xs : List ℤ) (e : ℕ) → 2 * e + 1 < length xs → pair (get_or xs (2 * e) (pos 0)) (get_or xs (2 * e + 1) (pos 0)) ≡ pair_of (pairs_of xs) e
unfolding pairs_of
pair-is [] e h = absurd (omega arith)
pair-is (u ∷ []) e h = absurd (omega arith)
pair-is (u ∷ v ∷ xs) zero h = refl
pair-is (u ∷ v ∷ xs) (suc e) h = rw (two-more e, one-more e) (pair-is xs e (omega arith))

-- a pair that is put
pub pairs-set : (xs : List ℤ) (e : ℕ) (x : Pair) → 2 * e + 1 < length xs → pairs_of (set (set xs (2 * e) x.u) (2 * e + 1) x.v) ≡ set (pairs_of xs) e x
unfolding pairs_of
pairs-set [] e x h = absurd (omega arith)
pairs-set (u ∷ []) e x h = absurd (omega arith)
pairs-set (u ∷ v ∷ xs) zero x h = refl
pairs-set (u ∷ v ∷ xs) (suc e) x h = rw (two-more e, one-more e) (ap (λ (ps : List Pair). pair u v ∷ ps) (pairs-set xs e x (omega arith)))

-- there are half as many
pub length-pairs : (xs : List ℤ) → length (pairs_of xs) ≡ length xs / 2
unfolding pairs_of
length-pairs [] = refl
length-pairs (u ∷ []) = refl
length-pairs (u ∷ v ∷ xs) = ap suc (length-pairs xs) ∙ omega arith

-- where no number is alone, the pairs are the list
pub flat-pairs : (xs : List ℤ) (n : ℕ) → length xs ≡ n * 2 → flat_of (pairs_of xs) ≡ xs
unfolding pairs_of flat_of
flat-pairs [] n h = refl
flat-pairs (u ∷ []) n h = absurd (omega arith)
flat-pairs (u ∷ v ∷ xs) zero h = absurd (omega arith)
flat-pairs (u ∷ v ∷ xs) (suc n) h = ap (λ (l : List ℤ). u ∷ v ∷ l) (flat-pairs xs n (omega arith))

pub pairs-same : (u v x y : ℤ) → u ≡ x → v ≡ y → pair u v ≡ pair x y
pairs-same u v x y eu ev = cc

-- a pair behind others
pub pairs-push : (xs : List ℤ) (u v : ℤ) (n : ℕ) → length xs ≡ n * 2 → pairs_of (xs ++ u ∷ v ∷ []) ≡ pairs_of xs ++ pair u v ∷ []
unfolding pairs_of
pairs-push [] u v n h = refl
pairs-push (x ∷ []) u v n h = absurd (omega arith)
pairs-push (x ∷ y ∷ xs) u v zero h = absurd (omega arith)
pairs-push (x ∷ y ∷ xs) u v (suc n) h = ap (λ (ps : List Pair). pair x y ∷ ps) (pairs-push xs u v n (omega arith))

-- what holds of all numbers holds of both of each pair
pub pairs-all : (P : ℤ → Type 0) (xs : List ℤ) → All P xs → All (λ (x : Pair). P x.u × P x.v) (pairs_of xs)
unfolding pairs_of
pairs-all P [] all = All-nil (λ (x : Pair). P x.u × P x.v)
pairs-all P (u ∷ []) all = All-nil (λ (x : Pair). P x.u × P x.v)
pairs-all P (u ∷ v ∷ xs) all =
    let behind : All P (v ∷ xs) = All-tail P u (v ∷ xs) all in
    All-cons (λ (x : Pair). P x.u × P x.v) (pair u v) (pairs_of xs) (All-head P u (v ∷ xs) all, All-head P v xs behind) (pairs-all P xs (All-tail P v xs behind))
