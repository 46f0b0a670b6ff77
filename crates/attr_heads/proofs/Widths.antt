-- The bounds and the width of the heads so far.
use Rattle.std.proofs.Common.{◌≡◌, ℕ, ◌+◌, ◌<◌, ◌≤◌, ◌*◌, leb, None, List, [], ◌∷◌, ◌++◌, length, get_or, take, replicate, ap, ◌∙◌, sym, subst, arith}
use Rattle.std.proofs.lemmas.List.{take_more, append-nil}
use Rattle.std.proofs.lemmas.List.Sums.{sum_by_more, sum_by-take-le, sum_by-cons}
use Rattle.std.proofs.lemmas.List.Concat.{flat_map-append}
use Rattle.attr_heads.specs.declared.heads.Head.{Head}
use Rattle.std.proofs.lemmas.Bool.{and_parts, leb-true}
use Rattle.drc_base.specs.declared.kinds.Kind.TheVariants.{NoAttribute, AttrLimit, AttrType, DataType, Components}
use Rattle.attr_heads.specs.Bounds.{bounds_of}
use Rattle.attr_heads.specs.FirstFault.{unless}
use Rattle.attr_heads.specs.Head.{row_bounds, width_of, has_type, head_fault, each_fault, heads_fault}
use Rattle.attr_heads.proofs.FirstFaults.{unless-none, first_fault-none}

-- one more head has its bounds once for each component
pub row_bounds-more : (heads : List Head) (i : ℕ) (h : Head) → i < length heads → h ≡ get_or heads i h → row_bounds (take (i + 1) heads) ≡ row_bounds (take i heads) ++ replicate h.comps (bounds_of h)
row_bounds-more heads i h inside is =
    ap row_bounds (take_more heads i h inside)
    ∙ flat_map-append (λ (g : Head). replicate g.comps (bounds_of g)) (take i heads) (get_or heads i h ∷ [])
    ∙ ap (λ xs. row_bounds (take i heads) ++ xs) (append-nil (replicate (get_or heads i h).comps (bounds_of (get_or heads i h))))
    ∙ ap (λ (g : Head). row_bounds (take i heads) ++ replicate g.comps (bounds_of g)) (sym is)

-- one more head adds its components to the width
pub width_of-more : (heads : List Head) (i : ℕ) (h : Head) → i < length heads → h ≡ get_or heads i h → width_of (take (i + 1) heads) ≡ width_of (take i heads) + h.comps
width_of-more heads i h inside is =
    sum_by_more (λ (g : Head). g.comps) heads i h inside ∙ ap (λ (g : Head). width_of (take i heads) + g.comps) (sym is)

-- the heads so far are no wider than all of them
pub width_of-take_le : (heads : List Head) (i : ℕ) → width_of (take i heads) ≤ width_of heads
width_of-take_le heads i = sum_by-take-le (λ (g : Head). g.comps) heads i

-- a head without a fault has 1 to 8 components
head_fault-comps : (k : ℕ) (h : Head) → head_fault k h ≡ None → (1 ≤ h.comps) × (h.comps ≤ 8)
head_fault-comps k h e =
    let usage = first_fault-none (unless (leb h.usage 4) AttrType k) _ e in
    let types = first_fault-none (unless (has_type h.dtype h.quant h.octa) DataType k) _ usage.1 in
    let comps = and_parts _ _ (unless-none _ Components k (first_fault-none _ _ types.1).0) in
    let bounds = and_parts _ _ comps.0 in
    (leb-true 1 h.comps bounds.0, leb-true h.comps 8 bounds.1)

-- heads without a fault are at least as wide as they are many, and at most eight times as wide
each_fault-width : (k : ℕ) (heads : List Head) → each_fault k heads ≡ None → (length heads ≤ width_of heads) × (width_of heads ≤ 8 * length heads)
each_fault-width k [] e = (omega arith, omega arith)
each_fault-width k (h ∷ heads) e =
    let parts = first_fault-none (head_fault k h) _ e in
    let here = head_fault-comps k h parts.0 in
    let rest = each_fault-width (k + 1) heads parts.1 in
    let sum = sum_by-cons (λ (g : Head). g.comps) h heads in
    (omega (arith, here.0, rest.0, sum), omega (arith, here.1, rest.1, sum))

-- the width of heads that pass is 1 to 128
pub width_of-bounds : (heads : List Head) → heads_fault heads ≡ None → (0 < width_of heads) × (width_of heads ≤ 128)
unfolding heads_fault
width_of-bounds heads e =
    let some = first_fault-none (unless (leb 1 (length heads)) NoAttribute (length heads)) _ e in
    let few = first_fault-none (unless (leb (length heads) 16) AttrLimit (length heads)) _ some.1 in
    let each = each_fault-width 0 heads (first_fault-none _ _ few.1).0 in
    let one = leb-true 1 (length heads) (unless-none _ NoAttribute (length heads) some.0) in
    let most = leb-true (length heads) 16 (unless-none _ AttrLimit (length heads) few.0) in
    (omega (arith, one, each.0), omega (arith, most, each.1))

-- heads that pass are some
pub heads_some : (heads : List Head) → heads_fault heads ≡ None → 0 < length heads
unfolding heads_fault
heads_some heads e =
    omega (arith, leb-true 1 (length heads) (unless-none _ NoAttribute (length heads) (first_fault-none (unless (leb 1 (length heads)) NoAttribute (length heads)) _ e).0))

-- the first of heads that pass has components
pub first_comps : (heads : List Head) (h : Head) → heads_fault heads ≡ None → h ≡ get_or heads 0 h → 0 < h.comps
unfolding heads_fault
first_comps [] h e is = absurd (omega (arith, heads_some [] e))
first_comps (g ∷ heads) h e is =
    let some = first_fault-none (unless (leb 1 (length (g ∷ heads))) NoAttribute (length (g ∷ heads))) _ e in
    let few = first_fault-none (unless (leb (length (g ∷ heads)) 16) AttrLimit (length (g ∷ heads))) _ some.1 in
    let each = (first_fault-none _ _ few.1).0 in
    let here = head_fault-comps 0 g (first_fault-none (head_fault 0 g) _ each).0 in
    subst (λ (k : Head). 0 < k.comps) (sym is) (omega (arith, here.0))
