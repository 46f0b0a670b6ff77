-- Surfaces by lists: what is found across, and how many classes there are.
use Rattle.std.proofs.Common.{◌≡◌, ◌≢◌, ℕ, zero, suc, ◌+◌, ◌*◌, ◌<◌, ◌≤◌, Bool, eqb, List, length, get_or, All, Some, None, inl, inr, ap, arith, eqb-true}
use Rattle.std.proofs.lemmas.Bool.{cases_lt, cond-false, false_from_ne_true}
use Rattle.std.proofs.lemmas.List.Elements.{All-from_get_or}
use Rattle.corner_table.specs.Sides.{Side, place_number, number, side_at, Gluing, IsGluing}
use Rattle.corner_table.specs.Table.{glued_in, other_at, free_entry}
use Rattle.corner_table.specs.Labels.{IsLabelled, label_at}
use Rattle.corner_table.proofs.Numbers.{number-side_at, number-lt, face-lt}
use Rattle.walk_order.specs.declared.surface.Surface.{Surface}
use Rattle.walk_order.specs.Stored.{IsSurface}

-- an entry that isn't free gives a side
pub other_some : (v : ℕ) → v ≢ free_entry → other_at v ≡ Some (side_at v)
other_some v h = cond-false (eqb v free_entry) None (Some (side_at v)) (false_from_ne_true (eqb v free_entry) (λ t. h (eqb-true v free_entry t)))

-- what is found across is a side of the surface
pub found_within : {faces : ℕ} (entries : List ℕ) → IsGluing faces (glued_in entries) → (x : Side) (v : ℕ) → glued_in entries x ≡ Some (side_at v) → v < 3 * faces
found_within {faces} entries G x v e = let w = G.within (side_at v) x (G.paired x (side_at v) e) in omega arith

module _ {faces : ℕ} {g : Gluing} {labels : List ℕ} {count : ℕ} {ends : List Bool} (L : IsLabelled faces g labels count ends) where
  -- classes are numbered by their least corners, so none has a greater number than a corner of it
  low_below : (n : ℕ) (c : Side) → number c < n → c.face < faces → label_at labels c ≤ number c
  low_below zero c l h = absurd (omega arith)
  low_below (suc n) c l h = elim (cases_lt (number c) (label_at labels c)) [
    | inl high ↦ (
        let t = L.in_order c h (number c) high in
        let b = t.0 in
        let less : number b < number c = t.1 in
        let low = low_below n b (omega arith) (face_of b less) in
        let is : label_at labels b ≡ number c = t.2 in
        absurd (omega arith))
    | inr low ↦ low
  ]
    where
      face_of : (b : Side) → number b < number c → b.face < faces
      face_of b l = (let m = number-lt c faces h in face_less b.face (place_number b.place) (omega arith))
        where
          face_less : (f p : ℕ) → 3 * f + p < 3 * faces → f < faces
          face_less f p q = omega arith

  -- there are no more classes than corners
  pub few_labels : count ≤ 3 * faces
  few_labels = elim (cases_lt (3 * faces) count) [
    | inl high ↦ (
        let t = L.used (3 * faces) high in
        let c = t.0 in
        let low = low_below (suc (number c)) c (omega arith) t.1 in
        let w = number-lt c faces t.1 in
        let is : label_at labels c ≡ 3 * faces = t.2 in
        absurd (omega arith))
    | inr low ↦ low
  ]

-- the numbers of entries fit
pub few_classes : {s : Surface} → IsSurface s → length s.ends.now < 4294967294
few_classes {s} S = let l = few_labels S.labelled in let m = S.limit in omega arith

-- every corner's class is one of the classes
pub labels_within : {s : Surface} → IsSurface s → All (λ (k : ℕ). k < length s.ends.now) s.labels.now
labels_within {s} S = All-from_get_or (λ (k : ℕ). k < length s.ends.now) s.labels.now free_entry within
  where
    within : (i : ℕ) → i < length s.labels.now → get_or s.labels.now i free_entry < length s.ends.now
    within i h =
        let n = S.labelled.each_corner in
        let b = S.labelled.bounded (side_at i) (face-lt i s.faces (omega arith)) in
        let e = ap (λ (k : ℕ). get_or s.labels.now k free_entry) (number-side_at i) in
        omega arith
