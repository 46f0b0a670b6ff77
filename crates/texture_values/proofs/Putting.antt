-- Corrections that are put behind others, and the values that they are of.
use Rattle.std.proofs.Common.{◌≡◌, ℕ, ◌<◌, ℤ, pos, List, [], ◌∷◌, ◌++◌, length, subst, append_assoc}
use Rattle.std.specs.List.{All}
use Rattle.std.proofs.lemmas.List.Elements.{All-nil, All-cons, All-append}
use Rattle.texture_prediction.specs.declared.pairs.Pair.{Pair}
use Rattle.texture_prediction.specs.Projection.{pair}
use Rattle.predict.specs.Wrap.{Range}
use Rattle.predict.proofs.Restoring.{InRange, IsSmall}
use Rattle.texture_values.specs.Pairs.{pair_of, pairs_of}
use Rattle.texture_values.proofs.Listed.{pairs-all}

pub two-put : (old mid new : List ℤ) (u v u' v' : ℤ) → mid ≡ old ++ u ∷ [] → new ≡ mid ++ v ∷ [] → u ≡ u' → v ≡ v' → new ≡ old ++ u' ∷ v' ∷ []
two-put old mid new u v u' v' em en eu ev = rw (en, em, eu, ev) (append_assoc old (u' ∷ []) (v' ∷ []))

-- both are small
pub small-put : (r : Range) (old new : List ℤ) (u v : ℤ) → new ≡ old ++ u ∷ v ∷ [] → All (IsSmall r) old → IsSmall r u → IsSmall r v → All (IsSmall r) new
small-put r old new u v en all su sv =
    rw en (All-append (IsSmall r) old (u ∷ v ∷ []) all (All-cons (IsSmall r) u (v ∷ []) su (All-cons (IsSmall r) v [] sv (All-nil (IsSmall r)))))

pub small-none : (r : Range) (xs : List ℤ) → xs ≡ [] → All (IsSmall r) xs
small-none r xs none = rw none (All-nil (IsSmall r))

-- the same of an equal range
pub small-by : (r r' : Range) (old new : List ℤ) → r' ≡ r → (All (IsSmall r') old → All (IsSmall r') new) → All (IsSmall r) old → All (IsSmall r) new
small-by r r' old new same kept = subst (λ (q : Range). All (IsSmall q) old → All (IsSmall q) new) same kept

-- the pair of an entry whose numbers lie in the range
pub within-pair : (r r' : Range) (values : List ℤ) (e : ℕ) (x : Pair) → r' ≡ r → x ≡ pair_of (pairs_of values) e → All (InRange r) values
    → e < length (pairs_of values) → InRange r' x.u × InRange r' x.v
within-pair r r' values e x same ex within below = rw (same, ex) (pairs-all (InRange r) values within e (pair (pos 0) (pos 0)) below)
