-- The faces across that are kept: a later entry changes none of those before it, since neither what is kept for a class without an entry
-- nor the number of a later entry is below an earlier one.
use Rattle.std.proofs.Common.{◌≡◌, ◌≢◌, ℕ, suc, ◌+◌, ◌<◌, ◌≤◌, Bool, true, false, ◌&&◌, cond, nat_lt, List, [], ◌∷◌, ◌++◌, length, get_or, set, map, ◌⊎◌, inl, inr, Option, Some, None, sym, refl, ap, ◌∙◌, subst, arith, length-append, get_or-set_other, get_or-set_same}
use Rattle.std.proofs.lemmas.Bool.{cases_lt, cases_eq, cond-false, le-ltb}
use Rattle.std.proofs.lemmas.List.{length-map, get_or-map, get_or_past, get_or_append_left, get_or_push}
use Rattle.corner_table.specs.declared.corner_lists.FaceAcross.{FaceAcross}
use Rattle.corner_table.specs.Sides.{Side, first, side, side_at, number, next, prev}
use Rattle.corner_table.specs.Ordered.{Ordered, AreFaces, at_corner, corner_at, entries_by, face_entries, is_below, kept_face, no_face, only_below, ordered_from}

-- a face with an entry that isn't before entry e
abbrev Reaches : ℕ → FaceAcross → Type 0
Reaches e t = (e ≤ t.across) ⊎ ((e ≤ t.after) ⊎ (e ≤ t.before))

and_false : (b : Bool) → (b && false) ≡ false
and_false true = refl
and_false false = refl

-- is none to predict entry e from
none_there : (e : ℕ) (t : FaceAcross) → Reaches e t → only_below e t ≡ None
none_there e t r = cond-false (is_below e t) (Some t) None (test r)
  where
    test : Reaches e t → is_below e t ≡ false
    test (inl h) = ap (λ (b : Bool). b && (nat_lt t.after e && nat_lt t.before e)) (le-ltb t.across e h)
    test (inr (inl h)) = ap (λ (b : Bool). nat_lt t.across e && (b && nat_lt t.before e)) (le-ltb t.after e h) ∙ and_false (nat_lt t.across e)
    test (inr (inr h)) =
        ap (λ (b : Bool). nat_lt t.across e && (nat_lt t.after e && b)) (le-ltb t.before e h)
        ∙ ap (λ (b : Bool). nat_lt t.across e && b) (and_false (nat_lt t.after e))
        ∙ and_false (nat_lt t.across e)

-- two numbers are one, or neither is below e
abbrev Agree : ℕ → ℕ → ℕ → Type 0
Agree e a b = (a ≡ b) ⊎ ((e ≤ a) × (e ≤ b))

-- two faces whose entries agree serve alike
alike : (e : ℕ) (t u : FaceAcross) → Agree e t.across u.across → Agree e t.after u.after → Agree e t.before u.before → only_below e t ≡ only_below e u
alike e t u (inr h) p q = none_there e t (inl h.0) ∙ sym (none_there e u (inl h.1))
alike e t u (inl o) (inr h) q = none_there e t (inr (inl h.0)) ∙ sym (none_there e u (inr (inl h.1)))
alike e t u (inl o) (inl p) (inr h) = none_there e t (inr (inr h.0)) ∙ sym (none_there e u (inr (inr h.1)))
alike e t u (inl o) (inl p) (inl q) = ap (only_below e) (
    ap (λ (k : ℕ). let x : FaceAcross = record { across = k; after = t.after; before = t.before } in x) o
    ∙ ap (λ (k : ℕ). let x : FaceAcross = record { across = u.across; after = k; before = t.before } in x) p
    ∙ ap (λ (k : ℕ). let x : FaceAcross = record { across = u.across; after = u.after; before = k } in x) q)

-- the entry of a corner, before and after class k gets the number v
entry_agrees : (labels table : List ℕ) (k v e i : ℕ) → k < length table → e ≤ get_or table k 0 → e ≤ v
    → Agree e (get_or (entries_by labels table) i 0) (get_or (entries_by labels (set table k v)) i 0)
entry_agrees labels table k v e i h a b = elim (cases_lt i (length labels)) [
  | inl low ↦ (
      let was = get_or-map (λ (c : ℕ). get_or table c 0) labels i 0 0 low in
      let is = get_or-map (λ (c : ℕ). get_or (set table k v) c 0) labels i 0 0 low in
      elim (cases_eq (get_or labels i 0) k) [
        | inl same ↦ (
            let old : get_or (entries_by labels table) i 0 ≡ get_or table k 0 = was ∙ ap (λ (c : ℕ). get_or table c 0) same in
            let new : get_or (entries_by labels (set table k v)) i 0 ≡ v = is ∙ ap (λ (c : ℕ). get_or (set table k v) c 0) same ∙ get_or-set_same table k v 0 h in
            inr (omega arith, omega arith))
        | inr other ↦ inl (was ∙ sym (is ∙ get_or-set_other table k (get_or labels i 0) v 0 other))
      ])
  | inr high ↦ inl (
      get_or_past (entries_by labels table) i 0 (let l = length-map labels (λ (c : ℕ). get_or table c 0) in omega arith)
      ∙ sym (get_or_past (entries_by labels (set table k v)) i 0 (let l = length-map labels (λ (c : ℕ). get_or (set table k v) c 0) in omega arith)))
]

module _ (across labels table : List ℕ) (entries : List Side) (k v : ℕ) (within : k < length table) where
  -- what the side of a corner gives to predict an entry up to the new one
  same_there : (now : List Side) (e : ℕ) (c : Side) → e ≤ get_or table k 0 → e ≤ v
      → at_corner (ordered_from across labels (set table k v) now) e c ≡ at_corner (ordered_from across labels table entries) e c
  unfolding at_corner
  same_there now e c a b = go ((ordered_from across labels table entries).gluing c)
    where
      was : Ordered
      was = ordered_from across labels table entries

      is : Ordered
      is = ordered_from across labels (set table k v) now

      go : (o : Option Side) → (elim o as (λ (x : Option Side). Option FaceAcross) [ None ↦ None | Some d ↦ only_below e (face_entries (ordered_from across labels (set table k v) now) d) ])
          ≡ (elim o as (λ (x : Option Side). Option FaceAcross) [ None ↦ None | Some d ↦ only_below e (face_entries (ordered_from across labels table entries) d) ])
      go None = refl
      go (Some d) = sym (alike e (face_entries (ordered_from across labels table entries) d) (face_entries (ordered_from across labels (set table k v) now) d)
          (entry_agrees labels table k v e (number d) within a b)
          (entry_agrees labels table k v e (number (next d)) within a b)
          (entry_agrees labels table k v e (number (prev d)) within a b))

-- before the first entry no face is kept
pub faces_none : (w : Ordered) (faces : List FaceAcross) → faces ≡ [] → w.corners ≡ [] → AreFaces w faces
faces_none w faces e n = record {
  each_entry = ap length e ∙ sym (ap length n);
  kept = λ i h. absurd (let z : length w.corners ≡ 0 = ap length n in omega arith);
}

-- one entry more, whose class had no entry, with its face
pub faces_more : (across labels table : List ℕ) (entries : List Side) (faces : List FaceAcross) (c : Side) (k : ℕ) (face : FaceAcross)
    → k < length table → length entries ≤ get_or table k 0
    → AreFaces (ordered_from across labels table entries) faces
    → kept_face face ≡ at_corner (ordered_from across labels table entries) (length entries) c
    → AreFaces (ordered_from across labels (set table k (length entries)) (entries ++ (c ∷ []))) (faces ++ (face ∷ []))
faces_more across labels table entries faces c k face within mark F at = record {
  each_entry = length-append faces (face ∷ []) ∙ ap (λ (n : ℕ). n + 1) F.each_entry ∙ sym (length-append entries (c ∷ []));
  kept = λ e h. elim (cases_lt e (length entries)) [
    | inl low ↦ (
        let old : get_or (faces ++ (face ∷ [])) e no_face ≡ get_or faces e no_face = get_or_append_left faces (face ∷ []) no_face e (let l = F.each_entry in omega arith) in
        let corner : get_or (entries ++ (c ∷ [])) e (side 0 first) ≡ get_or entries e (side 0 first) = get_or_append_left entries (c ∷ []) (side 0 first) e low in
        ap kept_face old ∙ F.kept e low
        ∙ sym (same_there across labels table entries k (length entries) within (entries ++ (c ∷ [])) e (get_or entries e (side 0 first)) (omega arith) (omega arith))
        ∙ ap (at_corner (ordered_from across labels (set table k (length entries)) (entries ++ (c ∷ []))) e) (sym corner))
    | inr high ↦ (
        let l = length-append entries (c ∷ []) in
        let here : e ≡ length entries = omega arith in
        let new : get_or (faces ++ (face ∷ [])) e no_face ≡ face = get_or_push faces face no_face e (F.each_entry ∙ sym here) in
        let corner : get_or (entries ++ (c ∷ [])) e (side 0 first) ≡ c = get_or_push entries c (side 0 first) e (sym here) in
        ap kept_face new ∙ at
        ∙ ap (λ (n : ℕ). at_corner (ordered_from across labels table entries) n c) (sym here)
        ∙ sym (same_there across labels table entries k (length entries) within (entries ++ (c ∷ [])) e c (omega arith) (omega arith))
        ∙ ap (at_corner (ordered_from across labels (set table k (length entries)) (entries ++ (c ∷ []))) e) (sym corner))
  ];
}
