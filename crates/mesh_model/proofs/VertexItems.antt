-- Vertices that are numbered as they come first, with one more corner, and the faces by them.
use Rattle.std.proofs.Common.{◌≡◌, ℕ, ◌+◌, ◌*◌, ◌<◌, ◌≤◌, List, [], ℤ, length, get_or, map, max, refl, sym, subst, ap, ◌∙◌, inl, inr, arith}
use Rattle.std.specs.List.{range_with_len}
use Rattle.std.proofs.lemmas.Bool.{cases_lt}
use Rattle.std.proofs.lemmas.List.{same_lists}
use Rattle.std.proofs.lemmas.List.FromFn.{map-range_with_len_more, length-map-range_with_len, get_or-map-range_with_len}
use Rattle.mesh_model.specs.Assembled.{Columns, corner_row, distinct, triple}
use Rattle.mesh_model.specs.Items.{AreItemFaces}
use Rattle.mesh_model.specs.Vertices.{AreInOrder}
use Rattle.mesh_model.proofs.DistinctRows.{distinct-push, with_row}
use Rattle.mesh_model.proofs.CornerItems.{distinct-there}

-- no corners
pub InOrder-none : (vertices : List ℕ) → AreInOrder vertices 0 0
InOrder-none vertices = record {
  few = omega arith;
  below = λ c under. absurd (omega arith);
  named = λ v under. absurd (omega arith);
  distinct_rows = λ row. refl;
}

-- the distinct rows of one more corner
corner-more : (vertices : List ℕ) (row : ℕ → List ℤ) (c : ℕ) →
    distinct (map (λ k. row (get_or vertices k 0)) (range_with_len 0 (c + 1))) ≡ with_row (distinct (map (λ k. row (get_or vertices k 0)) (range_with_len 0 c))) (row (get_or vertices c 0))
corner-more vertices row c =
    ap distinct (map-range_with_len_more (λ (k : ℕ). row (get_or vertices k 0)) 0 c c (omega arith))
    ∙ distinct-push (map (λ k. row (get_or vertices k 0)) (range_with_len 0 c)) (row (get_or vertices c 0))

-- a corner whose vertex is the next number
pub InOrder-next : (vertices : List ℕ) (c n : ℕ) → AreInOrder vertices c n → get_or vertices c 0 ≡ n → AreInOrder vertices (c + 1) (n + 1)
InOrder-next vertices c n are is = record {
  few = omega (arith, are.few);
  below = λ k under. elim (cases_lt k c) [
    | inl early ↦ omega (arith, are.below k early)
    | inr past ↦ let same : k ≡ c = omega arith in omega (arith, ap (λ m. get_or vertices m 0) same, is)
  ];
  named = λ v under. elim (cases_lt v n) [
    | inl early ↦ let at = are.named v early in (at.0, omega (arith, at.1), at.2)
    | inr past ↦ (c, omega arith, is ∙ omega arith)
  ];
  distinct_rows = λ row.
      ap distinct (map-range_with_len_more row 0 n n (omega arith))
      ∙ distinct-push (map row (range_with_len 0 n)) (row n)
      ∙ ap (λ ds. with_row ds (row n)) (are.distinct_rows row)
      ∙ ap (λ v. with_row (distinct (map (λ k. row (get_or vertices k 0)) (range_with_len 0 c))) (row v)) (sym is)
      ∙ sym (corner-more vertices row c);
}

-- a corner whose vertex is known
pub InOrder-known : (vertices : List ℕ) (c n : ℕ) → AreInOrder vertices c n → get_or vertices c 0 < n → AreInOrder vertices (c + 1) n
InOrder-known vertices c n are known = record {
  few = omega (arith, are.few);
  below = λ k under. elim (cases_lt k c) [
    | inl early ↦ are.below k early
    | inr past ↦ let same : k ≡ c = omega arith in omega (arith, ap (λ m. get_or vertices m 0) same, known)
  ];
  named = λ v under. let at = are.named v under in (at.0, omega (arith, at.1), at.2);
  distinct_rows = λ row.
      let v = get_or vertices c 0 in
      let rows = map row (range_with_len 0 n) in
      let at : get_or rows v [] ≡ row v = get_or-map-range_with_len row 0 n v v [] known (omega arith) in
      sym (distinct-there rows (row v) v (omega (arith, length-map-range_with_len row 0 n), at))
      ∙ ap (λ ds. with_row ds (row v)) (are.distinct_rows row)
      ∙ sym (corner-more vertices row c);
}

-- a corner whose vertex is known or the next number
pub InOrder-max : (vertices : List ℕ) (c n : ℕ) → AreInOrder vertices c n → get_or vertices c 0 ≤ n → AreInOrder vertices (c + 1) (max n (get_or vertices c 0 + 1))
InOrder-max vertices c n are most = elim (cases_lt (get_or vertices c 0) n) [
  | inl known ↦ subst (AreInOrder vertices (c + 1)) (omega (arith, known)) (InOrder-known vertices c n are known)
  | inr past ↦
      let is : get_or vertices c 0 ≡ n = omega (arith, most, past) in
      subst (AreInOrder vertices (c + 1)) (omega (arith, is)) (InOrder-next vertices c n are is)
]

-- functions that agree below a number
pub map-range_same : {X : Type 0} (f g : ℕ → X) (n : ℕ) → ((k : ℕ) → k < n → f k ≡ g k) → map f (range_with_len 0 n) ≡ map g (range_with_len 0 n)
map-range_same f g n same =
    same_lists (map f (range_with_len 0 n)) (map g (range_with_len 0 n)) (length-map-range_with_len f 0 n ∙ sym (length-map-range_with_len g 0 n))
    (λ k d below.
    let inside : k < n = omega (arith, length-map-range_with_len f 0 n) in
    get_or-map-range_with_len f 0 n k k d inside (omega arith) ∙ same k inside ∙ sym (get_or-map-range_with_len g 0 n k k d inside (omega arith)))

-- the faces of vertices are faces by items
pub ItemFaces-vertices : (columns : Columns) (row : ℕ → List ℤ) (count n : ℕ) (vertices : List ℕ) (faces : List (List ℕ)) → AreInOrder vertices (3 * count) n →
    length vertices ≡ 3 * count → ((c : ℕ) → c < 3 * count → corner_row columns c ≡ row (get_or vertices c 0)) → faces ≡ map (triple vertices) (range_with_len 0 count) →
    AreItemFaces columns count faces (map row (range_with_len 0 n))
ItemFaces-vertices columns row count n vertices faces are each rows made = record {
  distinct_rows =
      are.distinct_rows row
      ∙ ap distinct (map-range_same (λ (c : ℕ). row (get_or vertices c 0)) (corner_row columns) (3 * count) (λ c below. sym (rows c below)));
  few = omega (arith, length-map-range_with_len row 0 n, are.few);
  items = vertices;
  have = record {
    each = each;
    row = λ c below.
        let v = get_or vertices c 0 in
        let low : v < n = are.below c below in
        (omega (arith, length-map-range_with_len row 0 n), get_or-map-range_with_len row 0 n v v [] low (omega arith) ∙ sym (rows c below));
  };
  are = made;
}
