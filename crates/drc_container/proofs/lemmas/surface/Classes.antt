-- The entry of a corner has the corner's value: in a fan of the surface on which an attribute is written all corners have one value of it.
use Rattle.std.proofs.Common.{◌≡◌, ℕ, zero, suc, ◌+◌, ◌*◌, ◌<◌, Bool, true, false, not, ◌&&◌, ◌||◌, ltb, ℤ, List, [], ◌∷◌, ◌++◌, length, map, take, drop, get_or, Some, inl, inr, refl, sym, ap, ◌∙◌, subst, arith}
use Rattle.std.specs.Prelude.{if◌then◌else◌}
use Rattle.std.specs.List.{All, flat_map, list_any}
use Rattle.std.proofs.lemmas.Bool.{cases_Bool, cases_eq, false≢true, and_parts, lt-ltb}
use Rattle.std.proofs.lemmas.List.{length-map, get_or-map, take_at}
use Rattle.std.proofs.lemmas.List.Elements.{All-head, All-tail}
use Rattle.std.proofs.lemmas.List.Folds.{list_any_at}
use Rattle.std.proofs.Math.Seq.{drop-append-add}
use Rattle.attr_heads.specs.declared.heads.Head.{Head}
use Rattle.mesh_model.specs.Parts.{MeshParts, IsMesh}
use Rattle.mesh_model.specs.Assembled.{entry}
use Rattle.mesh_model.proofs.DistinctRows.{same_row-decides, same_row-refl}
use Rattle.corner_table.specs.Sides.{Side, next, prev, number, side_at, Gluing, IsGluing}
use Rattle.corner_table.specs.Fans.{InFan, here, leftwards, rightwards}
use Rattle.corner_table.specs.Pairs.{has_bit, bit_sides}
use Rattle.corner_table.proofs.PairLaws.{one_bit_each, bit_sides_are_listed}
use Rattle.corner_table.proofs.Walks.{left_crosses, right_crosses}
use Rattle.pairing.specs.Pairing.{first_width, corner_position, same_position, PairsFit}
use Rattle.seams.specs.Seams.{unseamed}
use Rattle.seams.specs.SeamBits.{seam_bits}
use Rattle.seams.specs.Values.{piece, differ, is_seam}
use Rattle.seams.specs.Classes.{InClass, itself, over_next, over_prev}
use Rattle.seams.specs.Laws.{AreAlike}
use Rattle.seams.proofs.Chains.{class_is_fan}
use Rattle.seams.proofs.Values.{seams_are_alike, seam_glued, class_has_one_value}
use Rattle.drc_container.specs.declared.choice.codings.Coding.{Coding}
use Rattle.drc_container.specs.writing.WrittenOnSurface.{GluedMesh, seam_bits_of, is_cornered, cut_of, is_by_degree, surface_order, coded_by}
use Rattle.walk_order.specs.OfSurface.{entries_of}
use Rattle.drc_container.proofs.lemmas.surface.Walks.{AreOf, HasEntry, has_entry}
use Rattle.drc_container.proofs.lemmas.surface.Decoded.{row_of}
use Rattle.drc_container.proofs.lemmas.surface.Pieces.{part, part-first, piece-is}
use Rattle.drc_container.proofs.lemmas.writing.SurfaceColumns.{order_for, walk-corners, walk-entries, walk-on, cut-gluing}

-- ---- surfaces without seams

-- no glued side is a seam
abbrev HasNone : (Side → Bool) → Gluing → Type 0
HasNone flags g = (x y : Side) → g x ≡ Some y → flags x ≡ false

-- where none is, a fan is a class
fan-class : (flags : Side → Bool) (g : Gluing) → HasNone flags g → {c d : Side} → InFan g c d → InClass flags g c d
fan-class flags g none here = itself
fan-class flags g none (leftwards {c = c} {d = d} s p) = over_next (none (next c) (prev d) (left_crosses g c d s)) s (fan-class flags g none p)
fan-class flags g none (rightwards {c = c} {d = d} s p) = over_prev (none (prev c) (next d) (right_crosses g c d s)) s (fan-class flags g none p)

-- a side with a bit is no seam, where no bit is set
bit-unset : (faces : ℕ) (g : Gluing) (flags : Side → Bool) → IsGluing faces g → list_any (λ bit. bit) (seam_bits faces g flags) ≡ false
    → (x : Side) → has_bit g x ≡ true → flags x ≡ false
bit-unset faces g flags G none x has = elim (cases_Bool (flags x)) [
  | inr f ↦ f
  | inl t ↦ (
      let sides = bit_sides faces g in
      let at = (bit_sides_are_listed faces g G x).1 has in
      let inside : at.0 < length (map flags sides) = omega (arith, at.1, length-map sides flags) in
      let set : get_or (map flags sides) at.0 false ≡ true = get_or-map flags sides at.0 x false at.1 ∙ ap flags at.2 ∙ t in
      absurd (false≢true (sym none ∙ list_any_at (λ bit. bit) (map flags sides) at.0 false inside set)))
]

-- and so no glued side is
bits-unset : (faces : ℕ) (g : Gluing) (flags : Side → Bool) → IsGluing faces g → AreAlike g flags → list_any (λ bit. bit) (seam_bits faces g flags) ≡ false
    → HasNone flags g
bits-unset faces g flags G alike none x y e = elim (cases_Bool (has_bit g x)) [
  | inl t ↦ bit-unset faces g flags G none x t
  | inr f ↦ alike x y e ∙ bit-unset faces g flags G none y (one_bit_each faces g G x y e ∙ ap not f)
]

-- ---- positions

-- the first attribute of a row is its position
part-position : (heads : List Head) (row : List ℤ) → 0 < length heads → part heads 0 row ≡ take (first_width heads) row
part-position [] row some = absurd (omega arith)
part-position (h ∷ heads) row some = part-first h heads row

-- corners at one position don't differ in it
position-agrees : (m : MeshParts) (c d : Side) → 0 < length m.heads → same_position m c d ≡ true → differ m 0 c d ≡ false
position-agrees m c d some one =
    let p : piece m 0 c ≡ corner_position m c = part-position m.heads (row_of m c) some in
    let q : piece m 0 d ≡ corner_position m d = part-position m.heads (row_of m d) some in
    let e : corner_position m c ≡ corner_position m d = (same_row-decides (corner_position m c) (corner_position m d)).0 one in
    ap not (same_row-refl (piece m 0 c) (piece m 0 d) (p ∙ e ∙ sym q))

or-none : (a b : Bool) → a ≡ false → b ≡ false → (a || b) ≡ false
or-none a b e f = rw (e, f) refl

-- so where pairs fit, none is a seam of positions
position-seams : (m : MeshParts) (g : Gluing) → 0 < length m.heads → PairsFit (same_position m) g → HasNone (is_seam m 0 g) g
position-seams m g some fits x y e =
    let s = same_position m in
    let both = and_parts (s (next x) (prev y) && s (prev x) (next y)) (not (s x y)) (fits x y e) in
    let ends = and_parts (s (next x) (prev y)) (s (prev x) (next y)) both.0 in
    seam_glued m 0 g x y e
    ∙ or-none (differ m 0 (next x) (prev y)) (differ m 0 (prev x) (next y)) (position-agrees m (next x) (prev y) some ends.0) (position-agrees m (prev x) (next y) some ends.1)

-- ---- one value

and-false : (a b : Bool) → (a && b) ≡ false → a ≡ true → b ≡ false
and-false true b e t = e
and-false false b e t = absurd (false≢true t)

-- where the values of an attribute don't belong to corners, it has no seams
uncornered : (d : GluedMesh) (k : ℕ) → k < length d.mesh.heads → IsGluing (length d.mesh.faces) d.pairs → PairsFit (same_position d.mesh) d.pairs
    → is_cornered d k ≡ false → HasNone (is_seam d.mesh k d.pairs) d.pairs
unfolding is_cornered
uncornered d k has G fits none = elim (cases_eq k 0) [
  | inl e ↦
      let some : 0 < length d.mesh.heads = omega (arith, has) in
      subst (λ (i : ℕ). HasNone (is_seam d.mesh i d.pairs) d.pairs) (sym e) (position-seams d.mesh d.pairs some fits)
  | inr ne ↦
      let faces = length d.mesh.faces in
      let flags = is_seam d.mesh k d.pairs in
      let later : 0 < k = omega arith in
      bits-unset faces d.pairs flags G (seams_are_alike faces d.pairs d.mesh k G)
      (and-false (ltb 0 k) (list_any (λ bit. bit) (seam_bits_of d k)) none (lt-ltb 0 k later))
]

-- all corners of a fan of the surface that attribute k is written on have one value of it
fan-value : (d : GluedMesh) (k : ℕ) → k < length d.mesh.heads → IsGluing (length d.mesh.faces) d.pairs → PairsFit (same_position d.mesh) d.pairs
    → (c e : Side) → InFan (cut_of d k) c e → piece d.mesh k c ≡ piece d.mesh k e
fan-value d k has G fits c e fan =
    let flags = is_seam d.mesh k d.pairs in
    let chosen : Bool → Gluing = λ (b : Bool). if b then unseamed flags d.pairs else d.pairs in
    class_has_one_value d.mesh k d.pairs c e (elim (cases_Bool (is_cornered d k)) [
      | inl t ↦ (class_is_fan flags d.pairs c e).1 (subst (λ (b : Bool). InFan (chosen b) c e) t fan)
      | inr f ↦ fan-class flags d.pairs (uncornered d k has G fits f) (subst (λ (b : Bool). InFan (chosen b) c e) f fan)
    ])

-- ---- entries

-- item i of items of one length, which stand one after another
entry-of : {X : Type 0} (f : X → List ℤ) (n : ℕ) (xs : List X) (i : ℕ) (x : X) → i < length xs → All (λ (y : X). length (f y) ≡ n) xs
    → entry n (flat_map f xs) i ≡ f (get_or xs i x)
entry-of f n [] i x has long = absurd (omega arith)
entry-of {X} f n (y ∷ xs) zero x has long =
    let none : 0 * n ≡ 0 = omega arith in
    ap (λ (j : ℕ). take n (drop j (f y ++ flat_map f xs))) none ∙ take_at (f y) (flat_map f xs) n (All-head (λ (z : X). length (f z) ≡ n) y xs long)
entry-of {X} f n (y ∷ xs) (suc i) x has long =
    let first : suc i * n ≡ length (f y) + i * n = omega (arith, All-head (λ (z : X). length (f z) ≡ n) y xs long) in
    ap (λ (j : ℕ). take n (drop j (f y ++ flat_map f xs))) first
    ∙ ap (take n) (drop-append-add (f y) (flat_map f xs) (i * n))
    ∙ entry-of f n xs i x (omega arith) (All-tail (λ (z : X). length (f z) ≡ n) y xs long)

-- the entry of a corner in the values of attribute k is its value
pub corner-entry : (coding : Coding) (d : GluedMesh) (k : ℕ) (h : Head) → k < length d.mesh.heads → IsMesh d.mesh → IsGluing (length d.mesh.faces) d.pairs
    → PairsFit (same_position d.mesh) d.pairs → (c : Side) → c.face < length d.mesh.faces
    → entry (get_or d.mesh.heads k h).comps (coded_by coding d k).values (get_or (surface_order coding d k).entries (number c) 0) ≡ piece d.mesh k c
corner-entry coding d k h has is G fits c within =
    let faces = length d.mesh.faces in
    let order = order_for coding d k in
    let n = (get_or d.mesh.heads k h).comps in
    let e = get_or (entries_of faces (cut_of d k) order) (number c) 0 in
    let at : HasEntry faces (cut_of d k) order c e = has_entry (is_by_degree coding d k) faces (cut_of d k) (cut-gluing d k G) c within in
    let on : AreOf faces order = subst (AreOf faces) (walk-corners coding d k) (walk-on coding d k) in
    let long : All (λ (x : Side). length (piece d.mesh k x) ≡ n) order = λ i y l. (piece-is d.mesh is k h has (get_or order i y) (on i y l)).long in
    ap (λ (corners : List Side). entry n (flat_map (piece d.mesh k) corners) (get_or (surface_order coding d k).entries (number c) 0)) (walk-corners coding d k)
    ∙ ap (λ (entries : List ℕ). entry n (flat_map (piece d.mesh k) order) (get_or entries (number c) 0)) (walk-entries coding d k)
    ∙ entry-of (piece d.mesh k) n order e (side_at 0) at.within long
    ∙ sym (fan-value d k has G fits c (get_or order e (side_at 0)) at.fan)
