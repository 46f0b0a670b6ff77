-- Once every class has an entry, the table and the entries are an order of the classes.
use Rattle.std.proofs.Common.{◌≡◌, ℕ, zero, suc, ◌+◌, ◌*◌, ◌<◌, Bool, false, cond, List, [], ◌∷◌, length, get_or, map, All, sym, refl, ap, ◌∙◌, subst, arith}
use Rattle.std.proofs.lemmas.List.{length-map, get_or-map}
use Rattle.std.proofs.lemmas.List.Sums.{sum_by-cons}
use Rattle.std.proofs.lemmas.List.Elements.{All-from_get_or}
use Rattle.corner_table.specs.declared.corner_lists.Order.{Order}
use Rattle.corner_table.specs.Sides.{Side, number, side_at, Gluing}
use Rattle.corner_table.specs.Table.{Table, free_entry, gluing_of}
use Rattle.corner_table.specs.Labels.{label_at}
use Rattle.corner_table.specs.Ordered.{Ordered, AreFaces, IsOrdered, entries_by, ordered_from}
use Rattle.corner_table.proofs.Numbers.{number-lt}
use Rattle.corner_table.proofs.Orders.{is_ordered as made}
use Rattle.walk_order.specs.declared.surface.Surface.{Surface}
use Rattle.walk_order.specs.declared.marks.Marks.{Marks}
use Rattle.walk_order.specs.Orders.{corners_in, entry_at, class_of, IsOrderOf}
use Rattle.walk_order.specs.Stored.{is_mark, unused, IsSurface, IsStored, AllHaveEntries, marked_entries, gluing_in}
use Rattle.walk_order.proofs.Surfaces.{labels_within}
use Rattle.walk_order.proofs.Tables.{number_no_mark}
use Rattle.walk_order.proofs.Stored.{entries_fit}

none_more : (n : ℕ) → n ≡ 0 → 0 + n ≡ 0
none_more n e = omega arith

none_used : (xs : List ℕ) → ((i : ℕ) → i < length xs → is_mark (get_or xs i 0) ≡ false) → unused xs ≡ 0
unfolding unused
none_used [] h = refl
none_used (x ∷ xs) h = sum_by-cons (λ (v : ℕ). cond (is_mark v) 1 0) x xs ∙ ap (λ (b : Bool). cond b 1 0 + unused xs) (h zero (omega arith)) ∙ none_more _ (none_used xs (λ i l. h (suc i) (omega arith)))

counted_plain : (u n m l : ℕ) → u + n ≡ m → u ≡ 0 → m ≡ l → n ≡ l
counted_plain u n m l a b e = omega arith

module _ (s : Surface) (m : Marks) (S : IsSurface s) (M : IsStored s m) (A : AllHaveEntries s.labels.now (marked_entries m) (length s.ends.now)) where
  -- the number of a class's entry
  told : (k : ℕ) → k < length s.ends.now → (get_or m.entry_of_class.items k 0 < length (marked_entries m)) × (label_at s.labels.now (get_or (marked_entries m) (get_or m.entry_of_class.items k 0) (side_at 0)) ≡ k)
  told k h = M.table.told k (let l = M.table.long in omega arith) (A k h)

  as_many : length (marked_entries m) ≡ length s.ends.now
  as_many = counted_plain _ _ _ _ M.table.counted (none_used m.entry_of_class.items no_mark) M.table.long
    where
      no_mark : (i : ℕ) → i < length m.entry_of_class.items → is_mark (get_or m.entry_of_class.items i 0) ≡ false
      no_mark i h = (let l = M.table.long in let t = (told i (omega arith)).0 in let f = entries_fit S M in number_no_mark (get_or m.entry_of_class.items i 0) (omega arith))

  -- the entry of each corner is below the number of entries
  below : (i : ℕ) → i < length m.entry_of_class.items → get_or m.entry_of_class.items i 0 < length m.entries.items
  below i h =
      let l = M.table.long in
      let t = (told i (omega arith)).0 in
      let n = length-map m.entries.items side_at in
      omega arith

  pub order_is : (o : Order) → o.corner_of_entry ≡ m.entries.items → o.entry_of_class ≡ m.entry_of_class.items → IsOrderOf s.faces s.labels.now (length s.ends.now) o
  order_is o a b = record {
    over = record {
      each_corner = S.labelled.each_corner;
      classes = let n = ap length b ∙ M.table.long in subst (λ (x : ℕ). All (λ (k : ℕ). k < x) s.labels.now) (sym n) (labels_within S);
      entries = subst (λ (x : ℕ). All (λ (e : ℕ). e < x) o.entry_of_class) (sym (ap length a))
          (subst (All (λ (e : ℕ). e < length m.entries.items)) (sym b) (All-from_get_or (λ (e : ℕ). e < length m.entries.items) m.entry_of_class.items 0 below));
      corners = subst (All (λ (c : ℕ). c < 3 * s.faces)) (sym a) M.corners;
    };
    as_many = ap length a ∙ sym (length-map m.entries.items side_at) ∙ as_many;
    each_class = ap length b ∙ M.table.long;
    apart = λ i j h l e. sym (back i h) ∙ ap (λ (k : ℕ). get_or m.entry_of_class.items k 0) e ∙ back j l;
    told = λ c h.
        let at : entry_at s.labels.now o c ≡ get_or m.entry_of_class.items (label_at s.labels.now c) 0 = entry_is c h in
        ap (class_of s.labels.now o) at ∙ ap (λ (es : List Side). label_at s.labels.now (get_or es (get_or m.entry_of_class.items (label_at s.labels.now c) 0) (side_at 0))) corners_are ∙ (told (label_at s.labels.now c) (S.labelled.bounded c h)).1;
  }
    where
      corners_are : corners_in o ≡ marked_entries m
      corners_are = ap (map side_at) a

      entry_is : (c : Side) → c.face < s.faces → entry_at s.labels.now o c ≡ get_or m.entry_of_class.items (label_at s.labels.now c) 0
      entry_is c h =
          let n = number-lt c s.faces h in
          let l = S.labelled.each_corner in
          get_or-map (λ (k : ℕ). get_or o.entry_of_class k 0) s.labels.now (number c) free_entry free_entry (omega arith)
          ∙ ap (λ (t : List ℕ). get_or t (label_at s.labels.now c) 0) b

      back : (i : ℕ) → i < length s.ends.now → get_or m.entry_of_class.items (class_of s.labels.now o i) 0 ≡ i
      back i h = ap (λ (es : List Side). get_or m.entry_of_class.items (label_at s.labels.now (get_or es i (side_at 0))) 0) corners_are ∙ M.table.back i (let e = as_many in omega arith)

  -- and the faces across are kept
  pub faces_are : (o : Order) → o.corner_of_entry ≡ m.entries.items → o.entry_of_class ≡ m.entry_of_class.items → o.faces_across ≡ m.faces_across.items
      → AreFaces (ordered_from s.across.now s.labels.now o.entry_of_class (corners_in o)) o.faces_across
  faces_are o a b f =
      subst (λ (es : List ℕ). AreFaces (ordered_from s.across.now s.labels.now o.entry_of_class (map side_at es)) o.faces_across) (sym a)
      (subst (λ (us : List ℕ). AreFaces (ordered_from s.across.now s.labels.now us (marked_entries m)) o.faces_across) (sym b)
      (subst (AreFaces (ordered_from s.across.now s.labels.now m.entry_of_class.items (marked_entries m))) (sym f) M.faces))

-- so it is an order over the table that the lists are of
pub is_ordered : (s : Surface) (t : Table) (labels : List ℕ) (count : ℕ) (o : Order) → gluing_in s ≡ gluing_of t → s.faces ≡ t.faces → s.labels.now ≡ labels
    → IsOrderOf s.faces s.labels.now count o → AreFaces (ordered_from s.across.now s.labels.now o.entry_of_class (corners_in o)) o.faces_across
    → IsOrdered t labels o
is_ordered s t labels count o g f l O F =
    subst (λ (ks : List ℕ). IsOrdered t ks o) l (made t s.labels.now o (O.over.each_corner ∙ ap (λ (n : ℕ). 3 * n) f) O.over.classes
    (subst (λ (n : ℕ). All (λ (c : ℕ). c < 3 * n) o.corner_of_entry) f O.over.corners)
    (subst (λ (x : Gluing). AreFaces (record { gluing = x; corners = corners_in o; entries = entries_by s.labels.now o.entry_of_class }) o.faces_across) g F))
