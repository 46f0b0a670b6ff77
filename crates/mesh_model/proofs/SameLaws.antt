-- Being the same up to a renumbering is an equivalence.
use Rattle.std.proofs.Common.{◌≡◌, ℕ, zero, suc, ◌+◌, ◌-◌, ◌%◌, ◌<◌, ◌≤◌, true, cond, eqb, ltb, [], length, get_or, refl, sym, ap, ◌∙◌, subst, inl, inr, zero-add, arith}
use Rattle.std.specs.List.{count_by, range_with_len, position_or_len}
use Rattle.std.proofs.lemmas.Bool.{cases_eq, eq-eqb, ne_eqb, eqb-true, lt-ltb, le-ltb}
use Rattle.std.proofs.lemmas.Bool.Decides.{nat_tests}
use Rattle.std.proofs.lemmas.List.{length-map, get_or-map}
use Rattle.std.proofs.lemmas.List.Elements.{All-map, All-from_get_or, All-weaker}
use Rattle.std.proofs.lemmas.List.FromFn.{length-map-range_with_len, get_or-map-range_with_len, get_or-range_with_len, length-range_with_len}
use Rattle.mesh_model.specs.declared.geometries.Geometry.TheVariants.{Mesh, Cloud}
use Rattle.mesh_model.specs.Parts.{MeshParts, CloudParts, corner}
use Rattle.mesh_model.specs.Same.{Rows, named, turn, NamesEachOnce, SameFace, SameMesh, SameCloudPoint, SameCloud}
use Rattle.mesh_model.specs.Renumbering.{plain, composed, inverted}
use Rattle.mesh_model.specs.SameLaws.{SameIsReflexive, SameIsSymmetric, SameIsTransitive}
use Rattle.mesh_model.proofs.Counts.{count-map, count-same, count-sum, count-all, count-never, OnePlace, one_place, first-one_place, count-range}

-- ---- the names of a renumbering

-- the place of a named number
names_at : (count : ℕ) (rows : Rows) (f : ℕ) → NamesEachOnce count rows → f < count → (j : ℕ) × OnePlace (λ row. eqb row.0 f) rows (0, 0) j
names_at count rows f names below = one_place (λ row. eqb row.0 f) rows (0, 0) (names.once f below)

-- as many numbers below n are named as there are
names-below : (count : ℕ) (rows : Rows) (n : ℕ) → NamesEachOnce count rows → n ≤ count → count_by (λ row. ltb row.0 n) rows ≡ n
names-below count rows zero names few = count-never (λ row. ltb row.0 0) rows (λ row. le-ltb row.0 0 (omega arith))
names-below count rows (suc n) names few =
    let parts = count-sum (λ row. ltb row.0 n) (λ row. eqb row.0 n) (λ row. ltb row.0 (suc n)) rows (λ row. one_more row.0 n) in
    omega (arith, parts, names-below count rows n names (omega arith), names.once n (omega arith))
  where
    one_more : (v m : ℕ) → cond (ltb v (suc m)) 1 0 ≡ cond (ltb v m) 1 0 + cond (eqb v m) 1 0
    one_more v m = grind (arith, nat_tests)

-- there are as many rows as numbers
names-length : (count : ℕ) (rows : Rows) → NamesEachOnce count rows → length rows ≡ count
names-length count rows names =
    sym (count-all (λ row. ltb row.0 count) rows (λ k d below. lt-ltb _ _ (names.within k d below)))
    ∙ names-below count rows count names (omega arith)

-- ---- the plain rows

abbrev unturned : ℕ → ℕ × ℕ
unturned k = (k, 0)

named-plain : (n i : ℕ) → i < n → get_or (plain n) i (0, 0) ≡ (i, 0)
named-plain n i below = get_or-map-range_with_len unturned 0 n i i (0, 0) below (omega arith)

plain-names : (n : ℕ) → NamesEachOnce n (plain n)
plain-names n = record {
  within = All-from_get_or (λ (row : ℕ × ℕ). row.0 < n) (plain n) (0, 0) (λ i below.
      let inside : i < n = omega (arith, length-map-range_with_len unturned 0 n) in
      subst (λ (row : ℕ × ℕ). row.0 < n) (sym (named-plain n i inside)) inside);
  once = λ f below. count-map (λ (row : ℕ × ℕ). eqb row.0 f) unturned (range_with_len 0 n) ∙ count-range 0 n f (omega arith) (omega arith);
}

-- ---- one renumbering after another

composed-names : (count middle : ℕ) (a b : Rows) → NamesEachOnce count a → length a ≡ middle → NamesEachOnce middle b → NamesEachOnce count (composed a b)
composed-names count middle a b first long second = record {
  within = All-map (λ (row : ℕ × ℕ). row.0 < count) then b
      (All-weaker (λ (row : ℕ × ℕ). row.0 < middle) (λ (row : ℕ × ℕ). named a row.0 < count)
      (λ row below. first.within row.0 (0, 0) (omega arith)) b second.within);
  once = λ f below.
      let at = names_at count a f first below in
      let j = at.0 in
      count-map (λ (row : ℕ × ℕ). eqb row.0 f) then b
      ∙ count-same (λ (row : ℕ × ℕ). eqb (named a row.0) f) (λ (row : ℕ × ℕ). eqb row.0 j) b
      (All-weaker (λ (row : ℕ × ℕ). row.0 < middle) (λ (row : ℕ × ℕ). eqb (named a row.0) f ≡ eqb row.0 j)
      (λ row inside. same_test f j at.1 row.0 (omega arith)) b second.within)
      ∙ second.once j (omega (arith, at.1.inside));
}
  where
    then : ℕ × ℕ → ℕ × ℕ
    then row = (named a row.0, (turn a row.0 + row.1) % 3)

    same_test : (f j : ℕ) → OnePlace (λ row. eqb row.0 f) a (0, 0) j → (k : ℕ) → k < length a → eqb (named a k) f ≡ eqb k j
    same_test f j at k inside = elim (cases_eq k j) [
      | inl same ↦ subst (λ m. eqb (named a m) f ≡ true) (sym same) at.passes ∙ sym (eq-eqb k j same)
      | inr other ↦ ne_eqb (named a k) f (λ e. other (at.alone k inside (eq-eqb (named a k) f e))) ∙ sym (ne_eqb k j other)
    ]

-- ---- the way back

-- the row of number f on the way back, where row j names f
inverted-row : (c : Rows) (f j : ℕ) → f < length c → OnePlace (λ row. eqb row.0 f) c (0, 0) j → get_or (inverted c) f (0, 0) ≡ (j, (3 - turn c j) % 3)
inverted-row c f j below at =
    get_or-map-range_with_len back 0 (length c) f f (0, 0) below (omega arith)
    ∙ ap (λ (i : ℕ). (i, (3 - turn c i) % 3)) (first-one_place (λ (row : ℕ × ℕ). eqb row.0 f) c (0, 0) j at)
  where
    back : ℕ → ℕ × ℕ
    back g = let i = position_or_len (λ (row : ℕ × ℕ). eqb row.0 g) c in (i, (3 - turn c i) % 3)

length-inverted : (c : Rows) → length (inverted c) ≡ length c
length-inverted c = length-map-range_with_len back 0 (length c)
  where
    back : ℕ → ℕ × ℕ
    back g = let i = position_or_len (λ (row : ℕ × ℕ). eqb row.0 g) c in (i, (3 - turn c i) % 3)

-- row i names the number of row i alone
own_place : (count : ℕ) (c : Rows) (i : ℕ) → NamesEachOnce count c → i < length c → OnePlace (λ row. eqb row.0 (named c i)) c (0, 0) i
own_place count c i names below =
    let at = names_at count c (named c i) names (names.within i (0, 0) below) in
    let same : i ≡ at.0 = at.1.alone i below (eq-eqb (named c i) (named c i) refl) in
    subst (OnePlace (λ row. eqb row.0 (named c i)) c (0, 0)) (sym same) at.1

inverted-names : (count : ℕ) (c : Rows) → NamesEachOnce count c → NamesEachOnce (length c) (inverted c)
inverted-names count c names = record {
  within = All-from_get_or (λ (row : ℕ × ℕ). row.0 < length c) (inverted c) (0, 0) (λ f below.
      let under : f < length c = omega (arith, length-inverted c) in
      let at = names_at count c f names (omega (arith, many)) in
      subst (λ (row : ℕ × ℕ). row.0 < length c) (sym (inverted-row c f at.0 under at.1)) at.1.inside);
  once = λ i below.
      let f = named c i in
      let own = own_place count c i names below in
      count-map (λ (row : ℕ × ℕ). eqb row.0 i) back (range_with_len 0 (length c))
      ∙ count-same (λ g. eqb (back g).0 i) (λ g. eqb g f) (range_with_len 0 (length c))
      (All-from_get_or (λ g. eqb (back g).0 i ≡ eqb g f) (range_with_len 0 (length c)) 0 (λ g inside.
      let under : g < length c = omega (arith, length-range_with_len 0 (length c)) in
      subst (λ h. eqb (back h).0 i ≡ eqb h f) (sym (get_or-range_with_len 0 (length c) g 0 under ∙ zero-add g)) (same_test g i under own)))
      ∙ count-range 0 (length c) f (omega arith) (omega (arith, names.within i (0, 0) below, many));
}
  where
    many : length c ≡ count
    many = names-length count c names

    back : ℕ → ℕ × ℕ
    back g = let i = position_or_len (λ (row : ℕ × ℕ). eqb row.0 g) c in (i, (3 - turn c i) % 3)

    same_test : (g i : ℕ) → g < length c → OnePlace (λ row. eqb row.0 (named c i)) c (0, 0) i → eqb (position_or_len (λ (row : ℕ × ℕ). eqb row.0 g) c) i ≡ eqb g (named c i)
    same_test g i under own = elim (cases_eq g (named c i)) [
      | inl same ↦
          let at : position_or_len (λ (row : ℕ × ℕ). eqb row.0 g) c ≡ i =
          first-one_place (λ (row : ℕ × ℕ). eqb row.0 g) c (0, 0) i (subst (λ h. OnePlace (λ row. eqb row.0 h) c (0, 0) i) (sym same) own) in
          eq-eqb _ i at ∙ sym (eq-eqb g (named c i) same)
      | inr other ↦
          let at = names_at count c g names (omega (arith, many)) in
          let first = first-one_place (λ (row : ℕ × ℕ). eqb row.0 g) c (0, 0) at.0 at.1 in
          let named_g : named c at.0 ≡ g = eqb-true (named c at.0) g at.1.passes in
          ne_eqb _ i (λ e. other (sym named_g ∙ ap (named c) (sym first ∙ e))) ∙ sym (ne_eqb g (named c i) other)
    ]

-- ---- corners

-- a corner's place counts modulo 3
corner-mod : (m : MeshParts) (f k l : ℕ) → k % 3 ≡ l % 3 → corner m f k ≡ corner m f l
corner-mod m f k l same = ap (λ j. get_or m.points (get_or (get_or m.faces f []) j 0) []) same

-- the same face at a place beyond 2
SameFace-any : (m n : MeshParts) (i f t k : ℕ) → SameFace m n i f t → corner n i k ≡ corner m f (k + t)
SameFace-any m n i f t k same =
    corner-mod n i k (k % 3) (omega arith) ∙ same.1 (k % 3) (omega arith) ∙ corner-mod m f (k % 3 + t) (k + t) (omega arith)

-- ---- the laws of meshes and clouds

SameMesh-refl : (m : MeshParts) → SameMesh m m (plain (length m.faces))
SameMesh-refl m = record {
  heads = refl;
  each_row = length-map-range_with_len unturned 0 (length m.faces);
  each_face = plain-names (length m.faces);
  faces = λ i below.
      let same : SameFace m m i i 0 = (omega arith, λ k _. corner-mod m i k (k + 0) (omega arith)) in
      subst (λ (row : ℕ × ℕ). SameFace m m i row.0 row.1) (sym (named-plain (length m.faces) i below)) same;
}

SameCloud-refl : (m : CloudParts) → SameCloud m m (plain (length m.points))
SameCloud-refl m = record {
  heads = refl;
  each_row = length-map-range_with_len unturned 0 (length m.points);
  each_point = plain-names (length m.points);
  points = λ i below.
      let same : SameCloudPoint m m i i 0 = (refl, refl) in
      subst (λ (row : ℕ × ℕ). SameCloudPoint m m i row.0 row.1) (sym (named-plain (length m.points) i below)) same;
}

SameMesh-trans : (m n o : MeshParts) (a b : Rows) → SameMesh m n a → SameMesh n o b → SameMesh m o (composed a b)
SameMesh-trans m n o a b first second = record {
  heads = first.heads ∙ second.heads;
  each_row = length-map b then ∙ second.each_row;
  each_face = composed-names (length m.faces) (length n.faces) a b first.each_face first.each_row second.each_face;
  faces = λ i below.
      let under : i < length b = omega (arith, second.each_row) in
      let j = named b i in
      let inner = second.faces i below in
      let outer = first.faces j (second.each_face.within i (0, 0) under) in
      let same : SameFace m o i (named a j) ((turn a j + turn b i) % 3) = (
        omega arith,
        λ k place. inner.1 k place ∙ SameFace-any m n j (named a j) (turn a j) (k + turn b i) outer
            ∙ corner-mod m (named a j) (k + turn b i + turn a j) (k + (turn a j + turn b i) % 3) (omega arith),
      ) in
      subst (λ (row : ℕ × ℕ). SameFace m o i row.0 row.1) (sym (get_or-map then b i (0, 0) (0, 0) under)) same;
}
  where
    then : ℕ × ℕ → ℕ × ℕ
    then row = (named a row.0, (turn a row.0 + row.1) % 3)

SameCloud-trans : (m n o : CloudParts) (a b : Rows) → SameCloud m n a → SameCloud n o b → SameCloud m o (composed a b)
SameCloud-trans m n o a b first second = record {
  heads = first.heads ∙ second.heads;
  each_row = length-map b then ∙ second.each_row;
  each_point = composed-names (length m.points) (length n.points) a b first.each_point first.each_row second.each_point;
  points = λ i below.
      let under : i < length b = omega (arith, second.each_row) in
      let j = named b i in
      let inner = second.points i below in
      let outer = first.points j (second.each_point.within i (0, 0) under) in
      let none : (turn a j + turn b i) % 3 ≡ 0 = ap (λ t. (turn a j + t) % 3) inner.0 ∙ ap (λ t. (t + 0) % 3) outer.0 in
      let same : SameCloudPoint m o i (named a j) ((turn a j + turn b i) % 3) = (none, inner.1 ∙ outer.1) in
      subst (λ (row : ℕ × ℕ). SameCloudPoint m o i row.0 row.1) (sym (get_or-map then b i (0, 0) (0, 0) under)) same;
}
  where
    then : ℕ × ℕ → ℕ × ℕ
    then row = (named a row.0, (turn a row.0 + row.1) % 3)

SameMesh-sym : (m n : MeshParts) (c : Rows) → SameMesh m n c → SameMesh n m (inverted c)
SameMesh-sym m n c same = record {
  heads = sym same.heads;
  each_row = length-inverted c ∙ many;
  each_face = subst (λ count. NamesEachOnce count (inverted c)) same.each_row (inverted-names (length m.faces) c same.each_face);
  faces = λ f below.
      let at = names_at (length m.faces) c f same.each_face below in
      let i = at.0 in
      let t = turn c i in
      let face = same.faces i (omega (arith, at.1.inside, same.each_row)) in
      let names_f : named c i ≡ f = eqb-true (named c i) f at.1.passes in
      let back : SameFace n m f i ((3 - t) % 3) = (
        omega arith,
        λ k place.
            let narrow : t < 3 = face.0 in
            corner-mod m f k (k + (3 - t) % 3 + t) (omega arith)
            ∙ ap (λ g. corner m g (k + (3 - t) % 3 + t)) (sym names_f)
            ∙ sym (SameFace-any m n i (named c i) t (k + (3 - t) % 3) face),
      ) in
      subst (λ (row : ℕ × ℕ). SameFace n m f row.0 row.1) (sym (inverted-row c f i (omega (arith, many)) at.1)) back;
}
  where
    many : length c ≡ length m.faces
    many = names-length (length m.faces) c same.each_face

SameCloud-sym : (m n : CloudParts) (c : Rows) → SameCloud m n c → SameCloud n m (inverted c)
SameCloud-sym m n c same = record {
  heads = sym same.heads;
  each_row = length-inverted c ∙ many;
  each_point = subst (λ count. NamesEachOnce count (inverted c)) same.each_row (inverted-names (length m.points) c same.each_point);
  points = λ f below.
      let at = names_at (length m.points) c f same.each_point below in
      let i = at.0 in
      let point = same.points i (omega (arith, at.1.inside, same.each_row)) in
      let names_f : named c i ≡ f = eqb-true (named c i) f at.1.passes in
      let none : (3 - turn c i) % 3 ≡ 0 = ap (λ t. (3 - t) % 3) point.0 in
      let back : SameCloudPoint n m f i ((3 - turn c i) % 3) =
      (none, ap (λ g. get_or m.points g []) (sym names_f) ∙ sym point.1) in
      subst (λ (row : ℕ × ℕ). SameCloudPoint n m f row.0 row.1) (sym (inverted-row c f i (omega (arith, many)) at.1)) back;
}
  where
    many : length c ≡ length m.points
    many = names-length (length m.points) c same.each_point

-- ---- the laws of geometries

pub same-refl : SameIsReflexive
same-refl (Mesh m) = SameMesh-refl m
same-refl (Cloud c) = SameCloud-refl c

pub same-sym : SameIsSymmetric
same-sym (Mesh m) (Mesh n) c same = SameMesh-sym m n c same
same-sym (Cloud m) (Cloud n) c same = SameCloud-sym m n c same
same-sym (Mesh m) (Cloud n) c same = same
same-sym (Cloud m) (Mesh n) c same = same

pub same-trans : SameIsTransitive
same-trans (Mesh m) (Mesh n) (Mesh o) a b first second = SameMesh-trans m n o a b first second
same-trans (Cloud m) (Cloud n) (Cloud o) a b first second = SameCloud-trans m n o a b first second
same-trans (Mesh m) (Mesh n) (Cloud o) a b first second = second
same-trans (Cloud m) (Cloud n) (Mesh o) a b first second = second
same-trans (Mesh m) (Cloud n) o a b first second = absurd first
same-trans (Cloud m) (Mesh n) o a b first second = absurd first
