-- The orders of a surface are determined by the surface alone.
use Rattle.std.proofs.Common.{◌≡◌, ℕ, ◌*◌, ◌<◌, Bool, List, length, map, get_or, inl, inr, sym, ap, ◌∙◌, arith}
use Rattle.std.specs.List.{position_or_len}
use Rattle.std.proofs.lemmas.Bool.{cases_Bool}
use Rattle.std.proofs.lemmas.List.{length-map, get_or-map, ext_get_or}
use Rattle.std.proofs.lemmas.List.Elements.{All-get_or, All-map, All-weaker}
use Rattle.std.proofs.lemmas.List.Sums.{position_or_len_is}
use Rattle.corner_table.specs.declared.corner_lists.Order.{Order}
use Rattle.corner_table.specs.Sides.{Side, number, side_at, Gluing, IsGluing}
use Rattle.corner_table.specs.Fans.{InFan, meets, corners_of}
use Rattle.corner_table.specs.Labels.{IsLabelled, label_at}
use Rattle.corner_table.specs.Table.{free_entry}
use Rattle.corner_table.proofs.Meeting.{fan_meets, meets-fan}
use Rattle.corner_table.proofs.Numbers.{number-side_at, face-lt}
use Rattle.corner_table.proofs.PairLaws.{length-corners_of, corner_at}
use Rattle.walk_order.specs.Orders.{corners_in, entries_in, class_of, IsOrderOf}
use Rattle.walk_order.specs.DepthFirst.{depth_first_order}
use Rattle.walk_order.specs.PredictionDegree.{prediction_degree_order}
use Rattle.walk_order.specs.OfSurface.{fan_labels, entries_of, OrdersAreOfSurface, EntriesAreOfSurface}
use Rattle.walk_order.proofs.Labels.{labels_are_one}

pub orders_are_of_surface : OrdersAreOfSurface
orders_are_of_surface faces g labels count ends G L =
    let one = labels_are_one faces g labels count ends G L in (
      ap (λ (l : List ℕ). depth_first_order faces g l ends) one.0 ∙ ap (λ (e : List Bool). depth_first_order faces g (fan_labels faces g) e) one.2,
      ap (λ (l : List ℕ). prediction_degree_order faces g l count) one.0 ∙ ap (λ (n : ℕ). prediction_degree_order faces g (fan_labels faces g) n) one.1,
    )

module _ {faces : ℕ} {g : Gluing} (G : IsGluing faces g) {labels : List ℕ} {count : ℕ} {ends : List Bool} (L : IsLabelled faces g labels count ends)
    (o : Order) (O : IsOrderOf faces labels count o) where
  -- the corner of entry e
  abbrev corner : ℕ → Side
  corner e = get_or (corners_in o) e (side_at 0)

  as_long : length (corners_in o) ≡ length o.corner_of_entry
  as_long = length-map o.corner_of_entry side_at

  corner_within : (e : ℕ) → e < length o.corner_of_entry → (corner e).face < faces
  corner_within e h =
      All-get_or (λ (x : Side). x.face < faces) (corners_in o) e (side_at 0) (let l = as_long in omega arith)
      (All-map (λ (x : Side). x.face < faces) side_at o.corner_of_entry
      (All-weaker (λ (c : ℕ). c < 3 * faces) (λ (c : ℕ). (side_at c).face < faces) (λ c h. face-lt c faces h) o.corner_of_entry O.over.corners))

  entries_long : length (entries_in labels o) ≡ 3 * faces
  entries_long = length-map labels (λ (k : ℕ). get_or o.entry_of_class k 0) ∙ O.over.each_corner

  -- each corner has one of the entries
  entry_below : (i : ℕ) → i < 3 * faces → get_or (entries_in labels o) i free_entry < length o.corner_of_entry
  entry_below i h =
      let l = O.over.each_corner in
      let is = get_or-map (λ (k : ℕ). get_or o.entry_of_class k 0) labels i free_entry free_entry (omega arith) in
      let class = All-get_or (λ (k : ℕ). k < length o.entry_of_class) labels i free_entry (omega arith) O.over.classes in
      let b = All-get_or (λ (k : ℕ). k < length o.corner_of_entry) o.entry_of_class (get_or labels i free_entry) 0 class O.over.entries in
      omega arith

  entry_is : (i : ℕ) → i < 3 * faces → position_or_len (meets faces g (side_at i)) (corners_in o) ≡ get_or (entries_in labels o) i free_entry
  entry_is i h =
      let c = side_at i in
      let w = face-lt i faces h in
      let e = get_or (entries_in labels o) i free_entry in
      let at : get_or (entries_in labels o) (number c) free_entry ≡ e = ap (λ (k : ℕ). get_or (entries_in labels o) k free_entry) (number-side_at i) in
      let below : e < length o.corner_of_entry = entry_below i h in
      let classed : label_at labels (corner e) ≡ label_at labels c = ap (class_of labels o) (sym at) ∙ O.told c w in
      let q = corner_within e below in
      let fan : InFan g c (corner e) = L.one_fan c (corner e) w q (sym classed) in
      position_or_len_is (meets faces g c) (corners_in o) e (side_at 0) (let l = as_long in omega arith)
      (λ j m. elim (cases_Bool (meets faces g c (corner j))) [
        | inl t ↦ (
            let r = corner_within j (omega arith) in
            let same : label_at labels (corner j) ≡ label_at labels (corner e) = sym (L.one_label c (corner j) w r (meets-fan faces g c (corner j) t)) ∙ sym classed in
            let n = O.as_many in
            absurd (let is = O.apart j e (omega arith) (omega arith) same in omega arith))
        | inr f ↦ f
      ])
      (λ m. fan_meets G c (corner e) w q fan)

  all_entries : entries_in labels o ≡ entries_of faces g (corners_in o)
  unfolding entries_of
  all_entries =
      let f : Side → ℕ = λ c. position_or_len (meets faces g c) (corners_in o) in
      let long : length (map f (corners_of faces)) ≡ 3 * faces = length-map (corners_of faces) f ∙ length-corners_of faces in
      ext_get_or free_entry (entries_in labels o) (map f (corners_of faces)) (entries_long ∙ sym long) (λ i l. (
      let n : i < 3 * faces = (let e = entries_long in omega arith) in
      let m : i < length (corners_of faces) = (let e = length-corners_of faces in omega arith) in
      sym (get_or-map f (corners_of faces) i (side_at 0) free_entry m ∙ ap f (corner_at faces i (side_at 0) n) ∙ entry_is i n)))

pub entries_are_of_surface : EntriesAreOfSurface
entries_are_of_surface faces g labels count ends o G L O = all_entries G L o O
