-- Rows of columns, a column at a time.
use Rattle.std.proofs.Common.{◌≡◌, ℕ, zero, suc, ◌+◌, ◌*◌, ◌<◌, ◌≤◌, ℤ, List, [], ◌∷◌, ◌++◌, map, length, take, drop, get_or, refl, sym, ◌∙◌, ap, arith, append-nil, drop-cons, add-one}
use Rattle.std.proofs.lemmas.Grind.{flat_map-append}
use Rattle.std.specs.List.{flat_map, range_with_len}
use Rattle.std.proofs.lemmas.List.{drop_all}
use Rattle.std.proofs.Math.Nat.{mul-le-mul_right}
use Rattle.attr_heads.specs.declared.heads.Head.{Head}
use Rattle.attr_section.specs.declared.values.Values.{Values}
use Rattle.drc_container.specs.Columns.{column_row, cells_at}
use Rattle.attr_section.specs.Attributes.{AreColumns}
use Rattle.drc_container.proofs.lemmas.writing.Columns.{cells_at-only}

-- the columns of values
abbrev pub columns : List Values → List (List ℤ)
columns values = map (λ v. v.values) values

-- the heads and values from attribute k on are columns
pub record ColumnsFrom (n : ℕ) (heads : List Head) (values : List Values) (k : ℕ) : Type 0 where
  pub rest : AreColumns n (drop k heads) (drop k values)

-- what is known of attribute k
pub record ColumnAt (n : ℕ) (heads : List Head) (values : List Values) (k : ℕ) (h : Head) (v : Values) (i : ℕ) : Type 0 where
  pub within : k < length values
  pub long : length v.values ≡ n * h.comps
  pub next : ColumnsFrom n heads values (k + 1)
  pub row : column_row (drop k heads) (columns (drop k values)) i ≡ take h.comps (drop (i * h.comps) v.values) ++ column_row (drop (k + 1) heads) (columns (drop (k + 1) values)) i

pub ColumnAt-of : (n : ℕ) (heads : List Head) (values : List Values) (k i : ℕ) (h : Head) (v : Values) → ColumnsFrom n heads values k → k < length heads
    → h ≡ get_or heads k h → v ≡ get_or values k v → ColumnAt n heads values k h v i
ColumnAt-of n [] values k i h v from has is_h is_v = absurd (omega (arith, has))
ColumnAt-of n (x ∷ heads) [] zero i h v from has is_h is_v = absurd from.rest
ColumnAt-of n (x ∷ heads) (y ∷ values) zero i h v from has is_h is_v =
    rw (is_h, is_v) (record { within = omega arith; long = from.rest.0; next = record { rest = from.rest.1 }; row = refl })
ColumnAt-of n (x ∷ heads) [] (suc k) i h v from has is_h is_v =
    let more : k < length heads = omega (arith, has) in absurd (rw (drop-cons heads k x more) at from.rest)
ColumnAt-of n (x ∷ heads) (y ∷ values) (suc k) i h v from has is_h is_v =
    let at : ColumnAt n heads values k h v i = ColumnAt-of n heads values k i h v (record { rest = from.rest }) (omega (arith, has)) is_h is_v in
    let next : suc k + 1 ≡ suc (k + 1) = omega arith in
    record {
      within = omega (arith, at.within);
      long = at.long;
      next = rw next (record { rest = at.next.rest });
      row = rw next at.row;
    }

-- no column is left
pub row_at-end : (n : ℕ) (heads : List Head) (values : List Values) (k i : ℕ) → length heads ≤ k → column_row (drop k heads) (columns (drop k values)) i ≡ []
row_at-end n heads values k i done = rw (drop_all k heads done) refl

-- a piece of a column lies in it
pub piece_within : (n i comps len : ℕ) → i < n → len ≡ n * comps → i * comps + comps ≤ len
piece_within n i comps len below is =
    let most : (i + 1) * comps ≤ n * comps = mul-le-mul_right comps (omega arith) in rw is (omega (arith, most))

-- one number more
pub range_more : (a n : ℕ) → range_with_len a (suc n) ≡ range_with_len a n ++ (a + n) ∷ []
range_more a zero = let e : a ≡ a + 0 = omega arith in ap (λ x. x ∷ []) e
range_more a (suc n) = let e : a + 1 + n ≡ a + suc n = omega arith in ap (λ l. a ∷ l) (range_more (a + 1) n ∙ ap (λ x. range_with_len (a + 1) n ++ x ∷ []) e)

-- one row more
pub rows_more : (row : ℕ → List ℤ) (n : ℕ) → flat_map row (range_with_len 0 (n + 1)) ≡ flat_map row (range_with_len 0 n) ++ row n
rows_more row n =
    let e : 0 + n ≡ n = omega arith in
    ap (λ m. flat_map row (range_with_len 0 m)) (add-one n)
    ∙ ap (λ l. flat_map row l) (range_more 0 n)
    ∙ flat_map-append row (range_with_len 0 n) ((0 + n) ∷ [])
    ∙ ap (λ l. flat_map row (range_with_len 0 n) ++ l) (append-nil (row (0 + n)) ∙ ap row e)

-- the cells of an only attribute are its column
pub only_column : (n : ℕ) (heads : List Head) (values : List Values) (v : Values) → AreColumns n heads values → length values ≡ 1
    → v ≡ get_or values 0 v
    → v.values ≡ cells_at heads (columns values) n
only_column n [] [] v are one is = absurd (omega (arith, one))
only_column n [] (w ∷ values) v are one is = absurd are
only_column n (h ∷ heads) [] v are one is = absurd are
only_column n (h ∷ []) (w ∷ []) v are one is = ap (λ (x : Values). x.values) is ∙ sym (cells_at-only h w.values n are.0)
only_column n (h ∷ g ∷ heads) (w ∷ []) v are one is = absurd are.1
only_column n (h ∷ heads) (w ∷ x ∷ values) v are one is = absurd (omega (arith, one))
