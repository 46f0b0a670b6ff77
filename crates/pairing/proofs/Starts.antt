-- The sides of a mesh at the beginning, and the surface at the end.
use Rattle.std.proofs.Common.{◌≡◌, ◌≢◌, ℕ, ◌-◌, ◌*◌, ◌^◌, ◌<◌, ◌≤◌, Bool, true, false, not, ◌&&◌, ◌||◌, List, length, get_or, replicate, Some, None, inl, inr, sym, refl, ap, ◌∙◌, subst, arith}
use Rattle.std.proofs.lemmas.Bool.{cases_eq, eq-eqb, ne_eqb, cases_lt}
use Rattle.std.proofs.lemmas.List.{get_or-replicate, get_or_past, length-replicate}
use Rattle.drc_base.specs.declared.kinds.Kind.TheVariants.{Degenerate}
use Rattle.attr_heads.specs.FirstFault.{at_place}
use Rattle.mesh_model.specs.Parts.{MeshParts, IsMesh}
use Rattle.mesh_model.proofs.DistinctRows.{same_row-refl, same_row-apart}
use Rattle.corner_table.specs.Sides.{Side, Place, first, second, third, side, next, prev, side_at, Gluing, unglued}
use Rattle.corner_table.specs.Fans.{IsProper}
use Rattle.corner_table.proofs.Numbers.{face-lt, number-side_at}
use Rattle.pairing.specs.Pairing.{corner_position, same_position, may_pair, paired, pairing, PairsFit, NoneIsLeft}
use Rattle.pairing.specs.Degenerate.{is_degenerate_face, degenerate_fault}
use Rattle.pairing.specs.Positions.{position_in, same_in, AreCornerNumbers, AreTriangles}
use Rattle.pairing.specs.Classes.{AreClasses}
use Rattle.first_items.specs.Chains.{AreLinked, AreFirsts}
use Rattle.pairing.specs.Turns.{AreSides, IsUpTo}
use Rattle.pairing.proofs.Least.{found, missing, least_tells}
use Rattle.pairing.proofs.Turns.{ArePairs, paired-congr, pairs_are, tells-may_pair}
use Rattle.pairing.proofs.Proper.{pairs_proper}
use Rattle.pairing.proofs.Left.{none_left}

or_false : (a b : Bool) → (a || b) ≡ false → (a ≡ false) × (b ≡ false)
or_false true b e = absurd (cc)
or_false false b e = (refl, e)

-- without a degenerate face each face has three positions
none_degenerate : (m : MeshParts) → degenerate_fault m ≡ None → (f : ℕ) → f < length m.faces → is_degenerate_face m f ≡ false
none_degenerate m e f h = elim (least_tells (is_degenerate_face m) (length m.faces)) [
  | found i q I ↦ absurd (let no : Some (record { kind = Degenerate; at = i }) ≡ None = sym (ap (at_place Degenerate) q) ∙ e in cc)
  | missing q k ↦ k f h
]

pub triangles_are : (m : MeshParts) (numbers : List ℕ) → degenerate_fault m ≡ None → AreCornerNumbers m numbers → AreTriangles (length m.faces) numbers
triangles_are m numbers e N = record { each = N.each; apart = λ c h. at c.face c.place h }
  where
    differ : (c d : Side) → c.face < length m.faces → d.face < length m.faces → same_position m c d ≡ false → position_in numbers c ≢ position_in numbers d
    differ c d h k f q =
        let no : true ≡ false = sym (same_row-refl (corner_position m c) (corner_position m d) (N.apart c d h k q)) ∙ f in cc

    at : (f : ℕ) (p : Place) → f < length m.faces → position_in numbers (side f p) ≢ position_in numbers (next (side f p))
    at f first h =
        let t = or_false (same_position m (side f first) (side f second) || same_position m (side f second) (side f third)) (same_position m (side f third) (side f first)) (none_degenerate m e f h) in
        differ (side f first) (side f second) h h (or_false (same_position m (side f first) (side f second)) (same_position m (side f second) (side f third)) t.0).0
    at f second h =
        let t = or_false (same_position m (side f first) (side f second) || same_position m (side f second) (side f third)) (same_position m (side f third) (side f first)) (none_degenerate m e f h) in
        differ (side f second) (side f third) h h (or_false (same_position m (side f first) (side f second)) (same_position m (side f second) (side f third)) t.0).1
    at f third h =
        let t = or_false (same_position m (side f first) (side f second) || same_position m (side f second) (side f third)) (same_position m (side f third) (side f first)) (none_degenerate m e f h) in
        differ (side f third) (side f first) h h t.1

-- numbers of corners are below that of the points
pub numbers_below : (m : MeshParts) (numbers : List ℕ) → AreCornerNumbers m numbers → (x : ℕ) → x < length numbers → get_or numbers x 0 < length m.points
numbers_below m numbers N x h =
    let k = N.each in
    let b = N.below (side_at x) (face-lt x (length m.faces) (omega arith)) in
    let q : position_in numbers (side_at x) ≡ get_or numbers x 0 = ap (λ (i : ℕ). get_or numbers i 0) (number-side_at x) in
    omega arith

-- what is known of the sides
pub sides_are : (m : MeshParts) (numbers classes nexts : List ℕ) (count : ℕ) → IsMesh m → degenerate_fault m ≡ None → AreCornerNumbers m numbers → AreClasses numbers classes count → count ≤ 6 * length m.faces → AreLinked classes nexts 0 → AreSides (length m.faces) numbers classes nexts count
sides_are m numbers classes nexts count M e N C n L = record {
  few = M.few_faces;
  narrow = (let f = M.few_faces in omega arith);
  triangles = triangles_are m numbers e N;
  classes_are = C;
  known = record {
    each_third = sym C.each;
    linked = L;
    below = λ x h. C.below x (let l = C.each in omega arith);
    few = (let l = C.each in let k = N.each in let f = M.few_faces in omega arith);
    third_below = third_below;
  };
}
  where
    third_below : (x : ℕ) → x < length classes → get_or numbers x 0 < 2 ^ 32 - 1
    third_below x h =
        let l = C.each in
        let k = N.each in
        let b = numbers_below m numbers N x (omega arith) in
        let p = M.points.few_points in
        omega arith

-- no side is taken, and the places are the first sides
none_taken : (n z : ℕ) → get_or (replicate n false) z false ≡ false
none_taken n z = elim (cases_lt z n) [
  | inl h ↦ get_or-replicate n z false false h
  | inr h ↦ get_or_past (replicate n false) z false (let l = length-replicate n false in omega arith)
]

pub up_to_begins : (thirds classes firsts : List ℕ) (count n : ℕ) → n ≡ length classes → AreFirsts classes firsts count 0 → IsUpTo thirds classes count unglued (replicate n false) firsts firsts
up_to_begins thirds classes firsts count n e F = record {
  long = length-replicate n false ∙ e;
  taken_are = λ z h. none_taken n z;
  placed = record {
    each_first = F.each;
    each_other = F.each;
    first_same = F.same;
    other_same = F.same;
    passed = λ z h k. absurd (let l = F.least z (omega arith) h in omega arith);
    alike = λ z h k f. absurd (let l = F.least z (omega arith) h in omega arith);
  };
}

-- positions are distinguished by their numbers
same_by_numbers : (m : MeshParts) (numbers : List ℕ) → AreCornerNumbers m numbers → (c d : Side) → c.face < length m.faces → d.face < length m.faces → same_in numbers c d ≡ same_position m c d
same_by_numbers m numbers N c d h k = elim (cases_eq (position_in numbers c) (position_in numbers d)) [
  | inl e ↦ eq-eqb (position_in numbers c) (position_in numbers d) e ∙ sym (same_row-refl (corner_position m c) (corner_position m d) (N.apart c d h k e))
  | inr n ↦ ne_eqb (position_in numbers c) (position_in numbers d) n ∙ sym (same_row-apart (corner_position m c) (corner_position m d) (λ e. n (N.alike c d h k e)))
]

-- and so are the sides that may be paired
may_pair_by_numbers : (m : MeshParts) (numbers : List ℕ) → AreCornerNumbers m numbers → (x y : Side) → x.face < length m.faces → y.face < length m.faces → may_pair (same_in numbers) x y ≡ may_pair (same_position m) x y
may_pair_by_numbers m numbers N x y h k =
    ap (λ (b : Bool). b && same_in numbers (prev x) (next y) && not (same_in numbers x y)) (same_by_numbers m numbers N (next x) (prev y) h k)
    ∙ ap (λ (b : Bool). same_position m (next x) (prev y) && b && not (same_in numbers x y)) (same_by_numbers m numbers N (prev x) (next y) h k)
    ∙ ap (λ (b : Bool). same_position m (next x) (prev y) && same_position m (prev x) (next y) && not b) (same_by_numbers m numbers N x y h k)

-- the pairs by numbers are the mesh's
pub pairing_is : (m : MeshParts) (numbers : List ℕ) → AreCornerNumbers m numbers → paired (same_in numbers) (3 * length m.faces) ≡ pairing m
pairing_is m numbers N = paired-congr (same_by_numbers m numbers N) (3 * length m.faces) (omega arith)

-- each pair may be one, and no two sides that may be paired are left free
pub pairs_fit : (m : MeshParts) (numbers : List ℕ) (faces : ℕ) (g : Gluing) → AreTriangles (length m.faces) numbers → AreCornerNumbers m numbers → faces ≡ length m.faces → g ≡ paired (same_in numbers) (3 * faces) → PairsFit (same_position m) g
pairs_fit m numbers faces g T N f p = subst (PairsFit (same_position m)) (sym (p ∙ ap (λ (n : ℕ). paired (same_in numbers) (3 * n)) f)) fits
  where
    P : ArePairs (length m.faces) numbers (3 * length m.faces) (paired (same_in numbers) (3 * length m.faces))
    P = pairs_are T (3 * length m.faces) (omega arith)

    fits : PairsFit (same_position m) (paired (same_in numbers) (3 * length m.faces))
    fits x y e =
        sym (may_pair_by_numbers m numbers N x y (P.gluing.within x y e) (P.gluing.within y x (P.gluing.paired x y e)))
        ∙ tells-may_pair numbers x y (P.reversed x y e)

pub none_is_left : (m : MeshParts) (numbers : List ℕ) (faces : ℕ) (g : Gluing) → AreTriangles (length m.faces) numbers → AreCornerNumbers m numbers → faces ≡ length m.faces → g ≡ paired (same_in numbers) (3 * faces) → NoneIsLeft faces (same_position m) g
none_is_left m numbers faces g T N f p =
    rw (p, f) (λ x y F G. sym (may_pair_by_numbers m numbers N x y F.within G.within) ∙ none_left T x y F G)

pub surface_proper : (faces : ℕ) (numbers : List ℕ) → AreTriangles faces numbers → IsProper faces (paired (same_in numbers) (3 * faces))
surface_proper faces numbers T = pairs_proper T (pairs_are T (3 * faces) (omega arith))
