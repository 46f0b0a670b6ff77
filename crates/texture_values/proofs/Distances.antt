-- Distances from candidates, to 64 bits on the way.
use Rattle.std.proofs.Common.{◌≡◌, ℤ, Bool, ◌+ℤ◌, ◌-ℤ◌, ◌*ℤ◌, sym, ◌∙◌}
use Rattle.wrapped_vectors.specs.Wrapped.{signed}
use Rattle.wrapped_vectors.proofs.Reducing.{signed-sum, signed-product}
use Rattle.texture_prediction.specs.declared.pairs.Pair.{Pair}
use Rattle.texture_prediction.specs.declared.projections.Candidates.{Candidates}
use Rattle.texture_values.specs.Chosen.{whole_candidate, squares, off_by}

pub squares-are : (a b p q r : ℤ) → p ≡ signed (a *ℤ a) → q ≡ signed (b *ℤ b) → r ≡ signed (p +ℤ q) → r ≡ squares a b
squares-are a b p q r ep eq er = rw (er, ep, eq) (signed-sum (a *ℤ a) (b *ℤ b))

squares-signed : (a b : ℤ) → squares (signed a) (signed b) ≡ squares a b
squares-signed a b =
    sym (signed-sum (signed a *ℤ signed a) (signed b *ℤ signed b)) ∙ rw (signed-product a a, signed-product b b) (signed-sum (a *ℤ a) (b *ℤ b))

pub off-is : (c : Candidates) (x : Pair) (plus : Bool) (u v a b r : ℤ) → u ≡ whole_candidate c.along_u c.across_u c.square plus
    → v ≡ whole_candidate c.along_v c.across_v c.square plus → a ≡ signed (x.u -ℤ u) → b ≡ signed (x.v -ℤ v) → r ≡ squares a b → r ≡ off_by c x plus
unfolding off_by
off-is c x plus u v a b r eu ev ea eb er =
    rw (er, ea, eb, eu, ev) (squares-signed (x.u -ℤ whole_candidate c.along_u c.across_u c.square plus) (x.v -ℤ whole_candidate c.along_v c.across_v c.square plus))
