-- The lists of a table and of its classes, and an order over them.
use Rattle.std.proofs.Common.{◌≡◌, ℕ, ◌*◌, ◌/◌, ◌<◌, ◌≤◌, Bool, List, length, get_or, map, sym, subst, ap, ◌∙◌, arith}
use Rattle.std.specs.List.{All}
use Rattle.std.proofs.lemmas.List.Elements.{All-from_get_or, All-same}
use Rattle.drc_base.specs.declared.limits.TheConstants.{MAX_FACES}
use Rattle.corner_table.specs.declared.corner_lists.FaceAcross.{FaceAcross}
use Rattle.corner_table.specs.declared.corner_lists.Order.{Order}
use Rattle.corner_table.specs.Sides.{side_at, IsGluing}
use Rattle.corner_table.specs.Table.{Table, free_entry, glued_in, gluing_of, room_of}
use Rattle.corner_table.specs.Labels.{IsLabelled}
use Rattle.corner_table.specs.Ordered.{AreFaces, FitTogether, IsOrdered, ordered_from}
use Rattle.corner_table.proofs.Numbers.{number-side_at, face-lt}
use Rattle.corner_table.proofs.Orders.{is_ordered}

module _ (t : Table) (labels : List ℕ) (count : ℕ) (ends : List Bool) (L : IsLabelled t.faces (gluing_of t) labels count ends) where
  -- the class of each corner is one of the classes
  labels_within : All (λ (k : ℕ). k < count) labels
  labels_within = All-from_get_or (λ (k : ℕ). k < count) labels free_entry (λ i h.
      let n = L.each_corner in
      let b = L.bounded (side_at i) (face-lt i t.faces (omega arith)) in
      let e = ap (λ (k : ℕ). get_or labels k free_entry) (number-side_at i) in
      omega arith)

  -- the lists fit together
  pub fit : (across entries : List ℕ) → across ≡ t.entries → length t.entries ≡ 3 * room_of t → t.faces ≤ room_of t → room_of t ≤ MAX_FACES
      → IsGluing t.faces (gluing_of t) → length entries ≡ count → FitTogether (length labels / 3) across labels entries
  fit across entries is full room limit G many =
      let whole = L.each_corner in
      let faces : t.faces ≡ length labels / 3 = omega arith in
      subst (λ (n : ℕ). FitTogether n across labels entries) faces (record {
        limit = omega arith;
        whole = whole;
        long = let l = ap (λ (x : List ℕ). length x) is in omega arith;
        gluing = subst (λ (l : List ℕ). IsGluing t.faces (glued_in l)) (sym is) G;
        classes = subst (λ (n : ℕ). All (λ (k : ℕ). k < n) labels) (sym many) labels_within;
      })

  -- and an order with the faces across is one over the table
  pub over : (across entries corners : List ℕ) (faces : List FaceAcross) (o : Order) → across ≡ t.entries → length entries ≡ count
      → All (λ (c : ℕ). c < 3 * t.faces) corners → AreFaces (ordered_from across labels entries (map side_at corners)) faces
      → o.corner_of_entry ≡ corners → o.entry_of_class ≡ entries → o.faces_across ≡ faces → IsOrdered t labels o
  over across entries corners faces o is many within F a b f =
      is_ordered t labels o L.each_corner
      (subst (λ (l : List ℕ). All (λ (k : ℕ). k < length l) labels) (sym b) (subst (λ (n : ℕ). All (λ (k : ℕ). k < n) labels) (sym many) labels_within))
      (subst (All (λ (c : ℕ). c < 3 * t.faces)) (sym a) within)
      (subst (λ (l : List ℕ). AreFaces (ordered_from t.entries labels o.entry_of_class (map side_at l)) o.faces_across) (sym a)
      (subst (λ (l : List ℕ). AreFaces (ordered_from t.entries labels l (map side_at corners)) o.faces_across) (sym b)
      (subst (AreFaces (ordered_from t.entries labels entries (map side_at corners))) (sym f)
      (subst (λ (l : List ℕ). AreFaces (ordered_from l labels entries (map side_at corners)) faces) is F))))
