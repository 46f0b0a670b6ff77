-- The points of items are those of their corners.
use Rattle.std.proofs.Common.{◌≡◌, ℕ, ◌+◌, ◌*◌, ◌<◌, List, [], ◌∷◌, length, get_or, map, take, ℤ, sym, ap, ◌∙◌, subst, arith}
use Rattle.std.specs.List.{All, range_with_len}
use Rattle.std.proofs.lemmas.List.{length-map, get_or-map, get_or_default, same_lists, take_all}
use Rattle.std.proofs.lemmas.List.Elements.{All-from_get_or, All-nil, All-cons}
use Rattle.std.proofs.lemmas.List.FromFn.{length-map-range_with_len, get_or-map-range_with_len}
use Rattle.mesh_model.specs.Assembled.{Columns, corner_row, distinct, triple}
use Rattle.mesh_model.specs.Items.{AreItemFaces}
use Rattle.mesh_model.specs.RowIndex.{IsPointOf, AreUnlike, RowsAreNumbered, AreNumberedFaces}
use Rattle.mesh_model.proofs.Growing.{distinct-unlike}

-- each face has three items
pub items-fit : (columns : Columns) (count : ℕ) (faces : List (List ℕ)) (rows : List (List ℤ)) → AreItemFaces columns count faces rows → All (λ face. All (λ item. item < length rows) face) faces
items-fit columns count faces rows are =
    let n = length rows in
    let items = are.items in
    subst (All (λ face. All (λ item. item < n) face)) (sym are.are)
    (All-from_get_or (λ face. All (λ item. item < n) face) (map (triple items) (range_with_len 0 count)) [] (λ f below.
    let inside : f < count = omega (arith, length-map-range_with_len (triple items) 0 count) in
    let a = get_or items (3 * f) 0 in
    let b = get_or items (3 * f + 1) 0 in
    let c = get_or items (3 * f + 2) 0 in
    let first = (are.have.row (3 * f) (omega arith)).0 in
    let second = (are.have.row (3 * f + 1) (omega arith)).0 in
    let third = (are.have.row (3 * f + 2) (omega arith)).0 in
    let inner : All (λ item. item < n) (triple items f) =
    All-cons (λ p. p < n) a (b ∷ c ∷ []) first (All-cons (λ p. p < n) b (c ∷ []) second (All-cons (λ p. p < n) c [] third (All-nil (λ p. p < n)))) in
    subst (All (λ item. item < n)) (sym (get_or-map-range_with_len (triple items) 0 count f f [] inside (omega arith))) inner))

-- where no two rows are equal, items are points
pub faces-unlike : (columns : Columns) (count n : ℕ) (faces : List (List ℕ)) (rows : List (List ℤ)) → AreItemFaces columns count faces rows → length rows ≡ n → AreUnlike rows n → AreNumberedFaces columns count faces rows
faces-unlike columns count n faces rows are many unlike =
    let whole : take n rows ≡ rows = take_all n rows (omega arith) in
    let plain : rows ≡ distinct rows = sym (ap distinct (sym whole) ∙ distinct-unlike rows n (omega arith) unlike ∙ whole) in
    record {
      numbers = are.items;
      numbering = record {
        distinct_rows = plain ∙ are.distinct_rows;
        few = are.few;
        each = are.have.each;
        numbered = are.have.row;
      };
      are = are.are;
    }

-- the numbers of the points of items
abbrev numbered_by : List ℕ → List ℕ → List ℕ
numbered_by numbers items = map (λ item. get_or numbers item 0) items

number-at : (numbers items : List ℕ) (k : ℕ) → k < length items → get_or (numbered_by numbers items) k 0 ≡ get_or numbers (get_or items k 0) 0
number-at numbers items k below = get_or-map (λ item. get_or numbers item 0) items k 0 0 below

-- the numbers of a face
number-triple : (numbers items : List ℕ) (count f : ℕ) → length items ≡ 3 * count → f < count → numbered_by numbers (triple items f) ≡ triple (numbered_by numbers items) f
number-triple numbers items count f each below =
    let g : ℕ → ℕ = λ k. get_or numbers (get_or items k 0) 0 in
    let h : ℕ → ℕ = λ k. get_or (numbered_by numbers items) k 0 in
    ap (λ x. x ∷ g (3 * f + 1) ∷ g (3 * f + 2) ∷ []) (sym (number-at numbers items (3 * f) (omega arith)))
    ∙ ap (λ x. h (3 * f) ∷ x ∷ g (3 * f + 2) ∷ []) (sym (number-at numbers items (3 * f + 1) (omega arith)))
    ∙ ap (λ x. h (3 * f) ∷ h (3 * f + 1) ∷ x ∷ []) (sym (number-at numbers items (3 * f + 2) (omega arith)))

-- the faces with the points of their items
pub faces-merged : (columns : Columns) (count n : ℕ) (faces after : List (List ℕ)) (rows points : List (List ℤ)) (numbers : List ℕ) → AreItemFaces columns count faces rows → length rows ≡ n → RowsAreNumbered rows n numbers points → length after ≡ length faces → ((f : ℕ) → f < length faces → get_or after f [] ≡ map (λ item. get_or numbers item 0) (get_or faces f [])) → AreNumberedFaces columns count after points
faces-merged columns count n faces after rows points numbers are many numbered long each = record {
  numbers = numbered_by numbers items;
  numbering = record {
    distinct_rows = numbered.distinct_rows ∙ ap distinct (take_all n rows (omega arith)) ∙ are.distinct_rows;
    few = omega (arith, numbered.few, are.few);
    each = length-map items (λ item. get_or numbers item 0) ∙ are.have.each;
    numbered = λ c below.
        let inside : c < length items = omega (arith, are.have.each) in
        let item = get_or items c 0 in
        let at = are.have.row c below in
        subst (IsPointOf points (corner_row columns c)) (sym (number-at numbers items c inside))
        (subst (λ row. IsPointOf points row (get_or numbers item 0)) at.1 (numbered.numbered item (omega (arith, at.0))));
  };
  are = same_lists after (map (triple (numbered_by numbers items)) (range_with_len 0 count)) (long ∙ faces_long ∙ sym (length-map-range_with_len (triple (numbered_by numbers items)) 0 count)) (λ f d below.
      let within : f < length faces = omega (arith, long) in
      let inside : f < count = omega (arith, faces_long) in
      get_or_default after f d [] below
      ∙ each f within
      ∙ ap (numbered_by numbers) (ap (λ fs. get_or fs f []) are.are ∙ get_or-map-range_with_len (triple items) 0 count f f [] inside (omega arith))
      ∙ number-triple numbers items count f are.have.each inside
      ∙ sym (get_or-map-range_with_len (triple (numbered_by numbers items)) 0 count f f d inside (omega arith)));
}
  where
    items : List ℕ
    items = are.items

    faces_long : length faces ≡ count
    faces_long = ap length are.are ∙ length-map-range_with_len (triple are.items) 0 count
