-- Heads as C has them mean the heads that they were.
use Rattle.std.proofs.Common.{◌≡◌, ◌≤◌, ◌+◌, ℕ, true, false, cond, leb, List, [], ◌∷◌, ◌++◌, length, map, take, drop, ◌&&◌, ◌==◌, min, replicate, Option, None, Some, refl, ap, ◌∙◌, subst, arith, ne_eqb}
use Rattle.std.proofs.lemmas.Bool.{and_parts, eqb-true, leb-true, false≢true}
use Rattle.std.proofs.lemmas.List.{take_all, length-map}
use Rattle.std.proofs.Math.Seq.{take-append_seam}
use Rattle.drc_base.specs.declared.kinds.Kind.TheVariants.{NoAttribute, AttrLimit}
use Rattle.attr_heads.specs.declared.quants.Quant.{Quant}
use Rattle.attr_heads.specs.declared.heads.Head.{Head}
use Rattle.attr_heads.specs.FirstFault.{unless}
use Rattle.attr_heads.specs.Quants.{has_minima}
use Rattle.attr_heads.specs.Octahedra.{are_octahedral_bits, has_square_bits}
use Rattle.attr_heads.specs.Head.{has_type, head_fault, each_fault, heads_fault}
use Rattle.attr_heads.proofs.FirstFaults.{first_fault-none}
use Rattle.attr_heads.proofs.Passing.{head_says}
use Rattle.drc_c.specs.Arrays.{put_front}
use Rattle.drc_c.specs.Heads.{blank_head, bits_told, octahedral_bits_told, range_told, minima_told, head_told, heads_told, head_meant, octa_meant}
use Rattle.attr_heads.specs.DataTypes.{is_float}
use Rattle.attr_heads.proofs.Types.{integer_no_float}
use Rattle.drc_c.specs.HeadLaws.{ToldHeadsMean}

-- of so many minima as there are components, up to eight, the first so many are these
minima_again : (comps : ℕ) (minima zeros : List ℕ) → length minima ≡ comps → comps ≤ 8 → length zeros ≡ 8 → take (min comps 8) (put_front minima zeros) ≡ minima
minima_again comps minima zeros are few eight =
    let eq : min comps 8 ≡ length minima = omega arith in
    let all : take (length zeros) minima ≡ minima = take_all (length zeros) minima (omega arith) in
    rw (eq, all) (take-append_seam minima (drop (length minima) zeros))

-- the bits of a square aren't 0
octahedral_some : (bits : ℕ) → are_octahedral_bits bits ≡ true → (bits == 0) ≡ false
octahedral_some bits square = ne_eqb bits 0 (λ none. absurd (omega (arith, leb-true 2 bits (and_parts (leb 2 bits) (leb bits 30) square).0, none)))

-- the quantisation of a head of this data type and so many components, with this square
quant_again : (dtype comps : ℕ) (q : Option Quant) (octa : Option ℕ) → has_type dtype q octa ≡ true → has_minima comps q ≡ true → comps ≤ 8 →
    has_square_bits octa ≡ true →
    cond (is_float dtype && octahedral_bits_told octa == 0) (Some (record { bits = bits_told q; range = range_told q; min = take (min comps 8) (minima_told q) })) None ≡ q
unfolding minima_told
quant_again dtype comps None None type minima few square =
    rw (integer_no_float dtype type) refl
quant_again dtype comps None (Some bits) type minima few square =
    rw (type, octahedral_some bits square) refl
quant_again dtype comps (Some q) None type minima few square =
    rw type (ap (λ (m : List ℕ). Some (record { bits = q.bits; range = q.range; min = m }))
    (minima_again comps q.min (replicate 8 0) (eqb-true (length q.min) comps minima) few refl))
quant_again dtype comps (Some q) (Some bits) type minima few square = absurd (false≢true type)

-- the square of a head
octa_again : (octa : Option ℕ) → has_square_bits octa ≡ true → octa_meant (octahedral_bits_told octa) ≡ octa
octa_again None square = refl
octa_again (Some bits) square = rw (octahedral_some bits square) refl

-- a head that passes
head_again : (k : ℕ) (h : Head) → head_fault k h ≡ None → head_meant (head_told h) ≡ h
head_again k h e =
    let says = head_says k h e in
    ap (λ (q : Option Quant). record h { quant = q; octa = octa_meant (octahedral_bits_told h.octa) })
    (quant_again h.dtype h.comps h.quant h.octa says.typed says.minima says.few says.square)
    ∙ ap (λ (o : Option ℕ). record h { octa = o }) (octa_again h.octa says.square)

-- heads each of which passes
each_again : (k : ℕ) (heads : List Head) → each_fault k heads ≡ None → map head_meant (map head_told heads) ≡ heads
each_again k [] e = refl
each_again k (h ∷ heads) e =
    let parts = first_fault-none (head_fault k h) _ e in
    let here = head_again k h parts.0 in
    let rest = each_again (k + 1) heads parts.1 in
    ap (λ (g : Head). g ∷ map head_meant (map head_told heads)) here ∙ ap (λ (hs : List Head). h ∷ hs) rest

-- heads that pass
pub told_again : ToldHeadsMean
unfolding heads_told heads_fault
told_again heads e =
    let some = first_fault-none (unless (leb 1 (length heads)) NoAttribute (length heads)) _ e in
    let few = first_fault-none (unless (leb (length heads) 16) AttrLimit (length heads)) _ some.1 in
    let each = (first_fault-none _ _ few.1).0 in
    let front : take (length heads) (heads_told heads) ≡ map head_told heads =
    subst (λ (n : ℕ). take n (map head_told heads ++ drop (length heads) (replicate 16 blank_head)) ≡ map head_told heads) (length-map heads head_told)
    (take-append_seam (map head_told heads) (drop (length heads) (replicate 16 blank_head))) in
    ap (λ hs. map head_meant hs) front ∙ each_again 0 heads each
