-- What has been read of the positions, one attribute after another.
use Rattle.std.proofs.Common.{◌≡◌, ℕ, zero, suc, ◌+◌, ◌<◌, List, [], ◌∷◌, length, take, get_or, Option, refl, ap, ◌∙◌, arith}
use Rattle.attr_heads.specs.declared.heads.Head.{Head}
use Rattle.corner_table.specs.Ordered.{Ordered}
use Rattle.attr_section.specs.declared.values.Values.{Values}
use Rattle.attr_section.specs.Positions.{PositionsRead, with_attribute, entries_on, with_attributes}

-- with one attribute more
with_next : (w : Option Ordered) (found : PositionsRead) (heads : List Head) (read : List Values) (k : ℕ) (h : Head) (v : Values) → k < length heads → k < length read
    → with_attributes w found heads (take (suc k) read)
    ≡ with_attribute (with_attributes w found heads (take k read)) (get_or heads k h) (get_or read k v).values (entries_on w)
with_next w found [] read k h v inside within = absurd (omega (arith, inside))
with_next w found (g ∷ heads) [] k h v inside within = absurd (omega (arith, within))
with_next w found (g ∷ []) (x ∷ read) zero h v inside within = refl
with_next w found (g ∷ f ∷ heads) (x ∷ read) zero h v inside within = refl
with_next w found (g ∷ heads) (x ∷ read) (suc k) h v inside within =
    with_next w (with_attribute found g x.values (entries_on w)) heads read k h v (omega (arith, inside)) (omega (arith, within))

pub one_more : (w : Option Ordered) (found : PositionsRead) (heads : List Head) (read : List Values) (k : ℕ) (h : Head) (v : Values) → k < length heads → k < length read
    → with_attributes w found heads (take (k + 1) read)
    ≡ with_attribute (with_attributes w found heads (take k read)) (get_or heads k h) (get_or read k v).values (entries_on w)
one_more w found heads read k h v inside within =
    let next : k + 1 ≡ suc k = omega arith in
    ap (λ n. with_attributes w found heads (take n read)) next ∙ with_next w found heads read k h v inside within

-- with none
pub none_more : (w : Option Ordered) (found : PositionsRead) (heads : List Head) → with_attributes w found heads [] ≡ found
none_more w found [] = refl
none_more w found (h ∷ heads) = refl
