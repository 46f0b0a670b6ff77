-- A head that is given a quantisation, or a square.
use Rattle.std.proofs.Common.{◌≡◌, ℕ, zero, suc, ◌<◌, List, [], ◌∷◌, length, get_or, refl, ap, arith}
use Rattle.std.specs.Prelude.{Some, slice_set}
use Rattle.attr_heads.specs.declared.heads.Head.{Head}
use Rattle.attr_heads.specs.declared.quants.Quant.{Quant}
use Rattle.ply_text.specs.Comments.{with_quant, with_octa}

pub with_quant_is : (n : ℕ) (q : Quant) (heads : List Head) (d : Head) → n < length heads → slice_set heads n (record (get_or heads n d) { quant = Some q }) ≡ with_quant n q heads
with_quant_is n q [] d lt = absurd (omega arith)
with_quant_is zero q (head ∷ heads) d lt = refl
with_quant_is (suc n) q (head ∷ heads) d lt = ap (λ (hs : List Head). head ∷ hs) (with_quant_is n q heads d (omega arith))

pub with_octa_is : (n bits : ℕ) (heads : List Head) (d : Head) → n < length heads → slice_set heads n (record (get_or heads n d) { octa = Some bits }) ≡ with_octa n bits heads
with_octa_is n bits [] d lt = absurd (omega arith)
with_octa_is zero bits (head ∷ heads) d lt = refl
with_octa_is (suc n) bits (head ∷ heads) d lt = ap (λ (hs : List Head). head ∷ hs) (with_octa_is n bits heads d (omega arith))
