-- The seams of a mesh are alike on both sides of each pair, and the corners of one class have one value.
use Rattle.std.proofs.Common.{◌≡◌, ℕ, ◌||◌, Bool, true, false, not, ℤ, List, [], get_or, take, drop, ◌+◌, ◌-◌, ◌%◌, ◌≤◌, arith, Option, Some, None, inl, inr, refl, ap, sym, ◌∙◌}
use Rattle.std.proofs.lemmas.Bool.{cases_Bool, or_parts}
use Rattle.std.proofs.lemmas.List.{take-append-drop}
use Rattle.std.proofs.lemmas.List.Sums.{sum_by-append, sum_by-take-le}
use Rattle.attr_heads.specs.declared.heads.Head.{Head}
use Rattle.attr_heads.specs.Head.{width_of}
use Rattle.mesh_model.specs.Parts.{MeshParts, corner}
use Rattle.mesh_model.specs.Assembled.{same_row}
use Rattle.mesh_model.proofs.DistinctRows.{same_row-decides, same_row-refl, same_row-apart}
use Rattle.corner_table.specs.Sides.{Side, Place, first, second, third, next, prev, place_number, Gluing, IsGluing}
use Rattle.corner_table.proofs.Places.{option_tells, next-prev, prev-next}
use Rattle.corner_table.proofs.Walks.{left_crosses, right_crosses}
use Rattle.seams.specs.Seams.{AreFlags, flags_listed}
use Rattle.corner_table.specs.Pairs.{bit_sides}
use Rattle.seams.specs.SeamBits.{place_in, of_pairs, flag_of_bits}
use Rattle.seams.specs.Values.{piece, part_of, point_at, differ, is_seam}
use Rattle.seams.specs.Classes.{itself, over_next, over_prev}
use Rattle.seams.specs.Laws.{AreAlike, SeamsAreAlike, SeamsAreFlags, ClassHasOneValue, ToldAreFlags}
use Rattle.seams.proofs.Listing.{length-listed, flag_at-listed}
use Rattle.seams.proofs.Bits.{one_has}
use Rattle.seams.proofs.Telling.{of_one, of_other, of_free}

same_row-sym : (a b : List ℤ) → same_row a b ≡ same_row b a
same_row-sym a b = elim (cases_Bool (same_row a b)) [
  | inl t ↦ t ∙ sym (same_row-refl b a (sym ((same_row-decides a b).0 t)))
  | inr f ↦ f ∙ sym (same_row-apart b a (λ e. (let t : true ≡ false = sym (same_row-refl a b (sym e)) ∙ f in cc)))
]

differ-sym : (m : MeshParts) (k : ℕ) (c d : Side) → differ m k c d ≡ differ m k d c
differ-sym m k c d = ap not (same_row-sym (piece m k c) (piece m k d))

pub seam_glued : (m : MeshParts) (k : ℕ) (g : Gluing) (x y : Side) → g x ≡ Some y → is_seam m k g x ≡ (differ m k (next x) (prev y) || differ m k (prev x) (next y))
seam_glued m k g x y e = ap (λ (o : Option Side). elim o [ None ↦ true | Some z ↦ differ m k (next x) (prev z) || differ m k (prev x) (next z) ]) e

pub seam_free : (m : MeshParts) (k : ℕ) (g : Gluing) (x : Side) → g x ≡ None → is_seam m k g x ≡ true
seam_free m k g x e = ap (λ (o : Option Side). elim o [ None ↦ true | Some z ↦ differ m k (next x) (prev z) || differ m k (prev x) (next z) ]) e

or-comm : (a b : Bool) → (a || b) ≡ (b || a)
or-comm true true = refl
or-comm true false = refl
or-comm false true = refl
or-comm false false = refl

pub seams_are_alike : SeamsAreAlike
seams_are_alike faces g m k G x y e =
    seam_glued m k g x y e
    ∙ or-comm (differ m k (next x) (prev y)) (differ m k (prev x) (next y))
    ∙ ap (λ b. b || differ m k (next x) (prev y)) (differ-sym m k (prev x) (next y))
    ∙ ap (λ b. differ m k (next y) (prev x) || b) (differ-sym m k (next x) (prev y))
    ∙ sym (seam_glued m k g y x (G.paired x y e))

-- so they are given by the sides that have a bit
pub seams_of_pairs : (faces : ℕ) (g : Gluing) (m : MeshParts) (k : ℕ) → IsGluing faces g → (x : Side) → of_pairs (is_seam m k g) g x ≡ is_seam m k g x
seams_of_pairs faces g m k G x = elim (option_tells (g x)) [
  | inl e ↦ of_free (is_seam m k g) g x e ∙ sym (seam_free m k g x e)
  | inr y ↦ elim (one_has G x y.0 y.1) [
    | inl b ↦ of_one (is_seam m k g) g x y.0 y.1 b.0
    | inr b ↦ of_other (is_seam m k g) g x y.0 y.1 b.0 ∙ sym (seams_are_alike faces g m k G x y.0 y.1)
  ]
]

-- flags that are alike make a list of flags
pub listed_flags : (faces : ℕ) (g : Gluing) (flags : Side → Bool) → IsGluing faces g → AreAlike g flags → ((x : Side) → g x ≡ None → flags x ≡ true) → AreFlags faces g (flags_listed faces flags)
listed_flags faces g flags G alike free = record {
  each_side = length-listed faces flags;
  alike = λ x y e. flag_at-listed faces flags x (G.within x y e) ∙ alike x y e ∙ sym (flag_at-listed faces flags y (G.within y x (G.paired x y e)));
  boundary = λ x h e. flag_at-listed faces flags x h ∙ free x e;
}

pub seams_are_flags : SeamsAreFlags
seams_are_flags faces g m k G = listed_flags faces g (is_seam m k g) G (seams_are_alike faces g m k G) (seam_free m k g)

-- what is given for the sides that have a bit is alike
pub of_pairs_alike : (faces : ℕ) (g : Gluing) (F : Side → Bool) → IsGluing faces g → AreAlike g (of_pairs F g)
of_pairs_alike faces g F G x y e =
    let back = G.paired x y e in
    elim (one_has G x y e) [
      | inl b ↦ of_one F g x y e b.0 ∙ sym (of_other F g y x back b.1)
      | inr b ↦ of_other F g x y e b.0 ∙ sym (of_one F g y x back b.1)
    ]

pub told_are_flags : ToldAreFlags
told_are_flags faces g bits G = listed_flags faces g (flag_of_bits faces g bits) G (of_pairs_alike faces g (λ x. bits (place_in (bit_sides faces g) x)) G) (of_free (λ x. bits (place_in (bit_sides faces g) x)) g)

-- what doesn't differ is one value
agree : (m : MeshParts) (k : ℕ) (c d : Side) → differ m k c d ≡ false → piece m k c ≡ piece m k d
agree m k c d h = elim (cases_Bool (same_row (piece m k c) (piece m k d))) [
  | inl t ↦ (same_row-decides (piece m k c) (piece m k d)).0 t
  | inr f ↦ (let n : true ≡ false = sym (ap not f) ∙ h in absurd (cc))
]

pub class_has_one_value : ClassHasOneValue
class_has_one_value m k g c d itself = refl
class_has_one_value m k g c e (over_next {d = d} h s p) =
    let x = left_crosses g c d s in
    let both = or_parts (differ m k (next (next c)) (prev (prev d))) (differ m k (prev (next c)) (next (prev d))) (sym (seam_glued m k g (next c) (prev d) x) ∙ h) in
    sym (ap (piece m k) (prev-next c)) ∙ agree m k (prev (next c)) (next (prev d)) both.1 ∙ ap (piece m k) (next-prev d) ∙ class_has_one_value m k g d e p
class_has_one_value m k g c e (over_prev {d = d} h s p) =
    let x = right_crosses g c d s in
    let both = or_parts (differ m k (next (prev c)) (prev (next d))) (differ m k (prev (prev c)) (next (next d))) (sym (seam_glued m k g (prev c) (next d) x) ∙ h) in
    sym (ap (piece m k) (next-prev c)) ∙ agree m k (next (prev c)) (prev (next d)) both.0 ∙ ap (piece m k) (prev-next d) ∙ class_has_one_value m k g d e p

-- one row has no difference
pub same_part : (points : List (List ℤ)) (start long p q : ℕ) → p ≡ q → false ≡ not (same_row (take long (drop start (get_or points p []))) (take long (drop start (get_or points q []))))
same_part points start long p q e = ap not (sym (same_row-refl (take long (drop start (get_or points p []))) (take long (drop start (get_or points q []))) (ap (λ i. take long (drop start (get_or points i []))) e)))

-- the width of one head among others
pub width_part : (heads : List Head) (k : ℕ) → width_of (take k heads) + width_of (take 1 (drop k heads)) ≤ width_of heads
width_part heads k =
    let whole = sum_by-append (λ (h : Head). h.comps) (take k heads) (drop k heads) in
    let e = ap (λ (xs : List Head). width_of xs) (take-append-drop k heads) in
    let l = sum_by-take-le (λ (h : Head). h.comps) (drop k heads) 1 in
    omega arith

place_mod : (k : Place) → place_number k % 3 ≡ place_number k
place_mod first = refl
place_mod second = refl
place_mod third = refl

-- a part of the row of a corner's point is the corner's value
part_is : (m : MeshParts) (k start end p : ℕ) (c : Side) → start ≡ width_of (take k m.heads) → end ≡ start + width_of (take 1 (drop k m.heads)) → p ≡ point_at m c → take (end - start) (drop start (get_or m.points p [])) ≡ piece m k c
part_is m k start end p c a b e =
    let wide : ℕ = width_of (take 1 (drop k m.heads)) in
    let l : end - start ≡ wide = omega arith in
    let r : get_or m.points p [] ≡ corner m c.face (place_number c.place) =
    ap (λ i. get_or m.points i []) (e ∙ ap (λ j. get_or (get_or m.faces c.face []) j 0) (sym (place_mod c.place))) in
    ap (λ n. take n (drop start (get_or m.points p []))) l ∙ ap (λ n. take wide (drop n (get_or m.points p []))) a ∙ ap (part_of m k) r

pub differ_is : (m : MeshParts) (k start end p q : ℕ) (c d : Side) (found : Bool) → start ≡ width_of (take k m.heads) → end ≡ start + width_of (take 1 (drop k m.heads)) → p ≡ point_at m c → q ≡ point_at m d →
    found ≡ not (same_row (take (end - start) (drop start (get_or m.points p []))) (take (end - start) (drop start (get_or m.points q [])))) → found ≡ differ m k c d
differ_is m k start end p q c d found a b e f h =
    h ∙ ap (λ row. not (same_row row (take (end - start) (drop start (get_or m.points q []))))) (part_is m k start end p c a b e) ∙ ap (λ row. not (same_row (piece m k c) row)) (part_is m k start end q d a b f)

pub either_is : (one other found : Bool) → one ≡ false → found ≡ other → found ≡ (one || other)
either_is one other found e h = h ∙ ap (λ b. b || other) (sym e)
