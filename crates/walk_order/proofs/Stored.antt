-- What a step of the code makes of a stored walk.
use Rattle.std.proofs.Common.{◌≡◌, ℕ, ◌*◌, ◌/◌, ◌<◌, ◌≤◌, Bool, true, false, not, ◌&&◌, nat_eq, nat_le, List, [], ◌∷◌, ◌++◌, length, get_or, set, map, All, inl, inr, sym, refl, ap, ◌∙◌, subst, arith, vec_len, vec_capacity, eq-eqb, ne_eqb}
use Rattle.std.proofs.lemmas.Bool.{cases_lt, le-leb, lt-leb}
use Rattle.std.proofs.lemmas.List.{length-map, map-append}
use Rattle.std.proofs.lemmas.List.Elements.{All-nil, All-push}
use Rattle.corner_table.specs.declared.corner_lists.FaceAcross.{FaceAcross}
use Rattle.corner_table.specs.Sides.{Side, side_at}
use Rattle.corner_table.specs.Labels.{label_at}
use Rattle.corner_table.specs.Ordered.{AreFaces, FitTogether, at_corner, kept_face, ordered_from}
use Rattle.corner_table.proofs.Numbers.{face-lt}
use Rattle.walk_order.specs.declared.surface.Surface.{Surface}
use Rattle.walk_order.specs.declared.marks.Marks.{Marks}
use Rattle.walk_order.specs.Visits.{is_new}
use Rattle.walk_order.specs.DepthFirst.{goes_right_alone}
use Rattle.walk_order.specs.Stored.{new_mark, IsSurface, IsStored, IsEntryTable, marked_entries, marked_walk, ordered_so_far}
use Rattle.walk_order.proofs.Surfaces.{few_classes, labels_within}
use Rattle.walk_order.proofs.Tables.{table_more, table_none, kept_new, mark_high, length-last}
use Rattle.walk_order.proofs.Faces.{faces_none, faces_more}

-- the numbers of entries fit
pub entries_fit : {s : Surface} {m : Marks} → IsSurface s → IsStored s m → length (marked_entries m) < 4294967294
entries_fit S M = let f = few_classes S in let c = M.table.counted in let l = M.table.long in omega arith

pub items_fit : {s : Surface} {m : Marks} → IsSurface s → IsStored s m → length m.entries.items < 4294967294
items_fit {s} {m} S M = let l = length-map m.entries.items side_at in let f = entries_fit S M in omega arith

-- a corner's class is one of the table
pub class_within : {s : Surface} {m : Marks} → IsSurface s → IsStored s m → (corner : ℕ) → corner < 3 * s.faces → label_at s.labels.now (side_at corner) < length m.entry_of_class.items
class_within {s} S M corner h = let b = S.labelled.bounded (side_at corner) (face-lt corner s.faces h) in let l = M.table.long in omega arith

few_in_table : {s : Surface} {m : Marks} → IsSurface s → IsStored s m → length m.entry_of_class.items < 4294967294
few_in_table S M = let f = few_classes S in let l = M.table.long in omega arith

-- before the walk
pub nothing_stored : (s : Surface) (m : Marks) → vec_len m.visited ≡ s.faces → m.entries.items ≡ [] → m.entry_of_class.items ≡ map new_mark s.ends.now → m.faces_across.items ≡ [] →
    length s.ends.now ≤ vec_capacity m.entries → length s.ends.now ≤ vec_capacity m.faces_across → IsStored s m
nothing_stored s m z e t f room room_across = record {
  sized = z;
  table = subst (λ (es : List ℕ). IsEntryTable s.labels.now s.ends.now (map side_at es) m.entry_of_class.items) (sym e) (table_none s.labels.now s.ends.now m.entry_of_class.items t);
  corners = subst (All (λ (c : ℕ). c < 3 * s.faces)) (sym e) (All-nil (λ (c : ℕ). c < 3 * s.faces));
  faces = faces_none (ordered_so_far s m) m.faces_across.items f (ap (map side_at) e);
  room = room;
  room_across = room_across;
}

-- while a class is new, there are fewer entries than classes
fewer_than_classes : {s : Surface} {m : Marks} → IsSurface s → IsStored s m → (corner : ℕ) → corner < 3 * s.faces → is_new s.labels.now (marked_entries m) (side_at corner) ≡ true → length (marked_entries m) < length s.ends.now
fewer_than_classes {s} {m} S M corner h new =
    let more = table_more s.labels.now s.ends.now (marked_entries m) m.entry_of_class.items (side_at corner) M.table (class_within S M corner h) (few_in_table S M) new in
    let counted = more.counted in
    let long = more.long in
    let last = length-last (marked_entries m) (side_at corner) in
    omega arith

-- so there is room for its entry
pub room_for_entry : {s : Surface} {m : Marks} → IsSurface s → IsStored s m → (corner : ℕ) → corner < 3 * s.faces → is_new s.labels.now (marked_entries m) (side_at corner) ≡ true → length m.entries.items < vec_capacity m.entries
room_for_entry {s} {m} S M corner h new =
    let few = fewer_than_classes S M corner h new in
    let l = length-map m.entries.items side_at in
    let room = M.room in
    omega arith

-- and for its face across
pub room_for_face : {s : Surface} {m : Marks} → IsSurface s → IsStored s m → (corner : ℕ) → corner < 3 * s.faces → is_new s.labels.now (marked_entries m) (side_at corner) ≡ true → length m.faces_across.items < vec_capacity m.faces_across
room_for_face {s} {m} S M corner h new =
    let few = fewer_than_classes S M corner h new in
    let l = M.faces.each_entry in
    let room = M.room_across in
    omega arith

-- the lists that a face across is read from fit together
pub fit_together : {s : Surface} {m : Marks} → IsSurface s → IsStored s m → FitTogether (length s.labels.now / 3) s.across.now s.labels.now m.entry_of_class.items
fit_together {s} {m} S M =
    let whole = S.labelled.each_corner in
    let faces : s.faces ≡ length s.labels.now / 3 = omega arith in
    subst (λ (n : ℕ). FitTogether n s.across.now s.labels.now m.entry_of_class.items) faces (record {
      limit = S.limit;
      whole = whole;
      long = S.long;
      gluing = S.gluing;
      classes = let l = M.table.long in subst (λ (n : ℕ). All (λ (k : ℕ). k < n) s.labels.now) (sym l) (labels_within S);
    })

-- a new entry is stored
pub entry_stored : (s : Surface) (m n : Marks) (corner class count : ℕ) (face : FaceAcross) → IsSurface s → IsStored s m → corner < 3 * s.faces → class ≡ label_at s.labels.now (side_at corner) →
    is_new s.labels.now (marked_entries m) (side_at corner) ≡ true → vec_len n.visited ≡ s.faces → count ≡ length m.entries.items →
    kept_face face ≡ at_corner (ordered_so_far s m) (length (marked_entries m)) (side_at corner) →
    n.entries.items ≡ m.entries.items ++ (corner ∷ []) → n.faces_across.items ≡ m.faces_across.items ++ (face ∷ []) → n.entry_of_class.items ≡ set m.entry_of_class.items class count →
    vec_capacity n.entries ≡ vec_capacity m.entries → vec_capacity n.faces_across ≡ vec_capacity m.faces_across → IsStored s n
entry_stored s m n corner class count face S M h k new z l f i j t same same_across = record {
  sized = z;
  table = subst (λ (es : List Side). IsEntryTable s.labels.now s.ends.now es n.entry_of_class.items) (sym entries)
      (subst (IsEntryTable s.labels.now s.ends.now (marked_entries m ++ (side_at corner ∷ []))) (sym table)
      (table_more s.labels.now s.ends.now (marked_entries m) m.entry_of_class.items (side_at corner) M.table (class_within S M corner h) (few_in_table S M) new));
  corners = subst (All (λ (c : ℕ). c < 3 * s.faces)) (sym i) (All-push (λ (c : ℕ). c < 3 * s.faces) m.entries.items corner M.corners h);
  faces = subst (λ (es : List Side). AreFaces (ordered_from s.across.now s.labels.now n.entry_of_class.items es) n.faces_across.items) (sym entries)
      (subst (λ (us : List ℕ). AreFaces (ordered_from s.across.now s.labels.now us (marked_entries m ++ (side_at corner ∷ []))) n.faces_across.items) (sym table)
      (subst (AreFaces (ordered_from s.across.now s.labels.now (set m.entry_of_class.items (label_at s.labels.now (side_at corner)) (length (marked_entries m))) (marked_entries m ++ (side_at corner ∷ [])))) (sym j)
      (faces_more s.across.now s.labels.now m.entry_of_class.items (marked_entries m) m.faces_across.items (side_at corner) (label_at s.labels.now (side_at corner)) face
      (class_within S M corner h) mark M.faces f)));
  room = let room = M.room in omega arith;
  room_across = let room = M.room_across in omega arith;
}
  where
    entries : marked_entries n ≡ marked_entries m ++ (side_at corner ∷ [])
    entries = ap (map side_at) i ∙ map-append side_at m.entries.items (corner ∷ [])

    table : n.entry_of_class.items ≡ set m.entry_of_class.items (label_at s.labels.now (side_at corner)) (length (marked_entries m))
    table = t ∙ ap (λ (x : ℕ). set m.entry_of_class.items x count) k ∙ ap (set m.entry_of_class.items (label_at s.labels.now (side_at corner))) (l ∙ sym (length-map m.entries.items side_at))

    mark : length (marked_entries m) ≤ get_or m.entry_of_class.items (label_at s.labels.now (side_at corner)) 0
    mark =
        let few = entries_fit S M in
        let is = M.table.new (label_at s.labels.now (side_at corner)) (class_within S M corner h) new in
        let high = mark_high (get_or s.ends.now (label_at s.labels.now (side_at corner)) false) in
        omega arith

-- what is kept for a corner's class, where it is a mark
pub class_new : {s : Surface} {m : Marks} → IsSurface s → IsStored s m → (corner class v : ℕ) → corner < 3 * s.faces → class ≡ label_at s.labels.now (side_at corner) → v ≡ get_or m.entry_of_class.items class 0 →
    4294967294 ≤ v → is_new s.labels.now (marked_entries m) (side_at corner) ≡ true
class_new {s} {m} S M corner class v h k e high =
    (kept_new _ _ _ _ M.table (few_in_table S M) (label_at s.labels.now (side_at corner)) v (class_within S M corner h) (e ∙ ap (λ (x : ℕ). get_or m.entry_of_class.items x 0) k)).0 high

-- and where it is the number of an entry
pub class_old : {s : Surface} {m : Marks} → IsSurface s → IsStored s m → (corner class v : ℕ) → corner < 3 * s.faces → class ≡ label_at s.labels.now (side_at corner) → v ≡ get_or m.entry_of_class.items class 0 →
    v < 4294967294 → is_new s.labels.now (marked_entries m) (side_at corner) ≡ false
class_old {s} {m} S M corner class v h k e low =
    (kept_new _ _ _ _ M.table (few_in_table S M) (label_at s.labels.now (side_at corner)) v (class_within S M corner h) (e ∙ ap (λ (x : ℕ). get_or m.entry_of_class.items x 0) k)).1 low

alone_plain : (new ended : Bool) (v : ℕ) → (new ≡ true → v ≡ new_mark ended) → (new ≡ false → v < 4294967294) → nat_eq v 4294967295 ≡ (new && not ended)
alone_plain true true v a b = (let e : v ≡ 4294967294 = a refl in ne_eqb v 4294967295 (λ x. absurd (omega arith)))
alone_plain true false v a b = eq-eqb v 4294967295 (a refl)
alone_plain false ended v a b = (let l = b refl in ne_eqb v 4294967295 (λ x. absurd (omega arith)))

-- by the mark of a new class that no free side meets, the walk goes right alone
pub alone_told : {s : Surface} {m : Marks} → IsSurface s → IsStored s m → (corner v : ℕ) → corner < 3 * s.faces → v ≡ get_or m.entry_of_class.items (label_at s.labels.now (side_at corner)) 0 →
    nat_eq v 4294967295 ≡ goes_right_alone s.labels.now s.ends.now (marked_walk m) (side_at corner)
alone_told {s} {m} S M corner v h e = alone_plain (is_new s.labels.now (marked_entries m) (side_at corner)) (get_or s.ends.now (label_at s.labels.now (side_at corner)) false) v
    (λ new. e ∙ M.table.new _ (class_within S M corner h) new)
    (λ old. let p = (M.table.told _ (class_within S M corner h) old).0 in let f = entries_fit S M in omega arith)

-- what is kept for a corner's class shows whether it is new
pub new_told : {s : Surface} {m : Marks} → IsSurface s → IsStored s m → (corner class v : ℕ) → corner < 3 * s.faces → class ≡ label_at s.labels.now (side_at corner) → v ≡ get_or m.entry_of_class.items class 0 →
    nat_le 4294967294 v ≡ is_new s.labels.now (marked_entries m) (side_at corner)
new_told {s} {m} S M corner class v h k e = elim (cases_lt v 4294967294) [
  | inl low ↦ lt-leb 4294967294 v low ∙ sym (class_old S M corner class v h k e low)
  | inr high ↦ le-leb 4294967294 v high ∙ sym (class_new S M corner class v h k e high)
]
