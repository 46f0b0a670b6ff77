-- A surface has one labelling of its fans, by their least corners.
use Rattle.std.proofs.Common.{◌≡◌, ℕ, zero, suc, ◌*◌, ◌<◌, ◌≤◌, Bool, true, false, not, ◌&&◌, ◌||◌, nat_lt, is_none, List, length, filter, get_or, AllPairs, Some, None, inl, inr, sym, refl, ap, ◌∙◌, subst, arith, lt-ltb, IsTrue, Option, cond, [], ◌∷◌}
use Rattle.std.specs.List.{list_any}
use Rattle.std.proofs.lemmas.Bool.{cases_Bool, cases_eq, cases_lt, and_parts, and_from, ltb-true, or_cases, or_left, or_right}
use Rattle.std.proofs.lemmas.List.{length-map, get_or-map, ext_get_or}
use Rattle.std.proofs.lemmas.List.Elements.{filter_passes, All-filter, All-get_or, All-from_get_or}
use Rattle.std.proofs.lemmas.List.Kept.{AllPairs-filter}
use Rattle.std.proofs.lemmas.List.Folds.{list_any_at}
use Rattle.std.proofs.lemmas.List.Sums.{position_or_len_is}
use Rattle.corner_table.specs.Sides.{Side, number, next, prev, side_at, Gluing, IsGluing}
use Rattle.corner_table.specs.Fans.{InFan, here, leftwards, rightwards, MeetsBoundary, meets, corners_of}
use Rattle.corner_table.specs.Labels.{IsLabelled, label_at}
use Rattle.corner_table.specs.Table.{free_entry}
use Rattle.corner_table.proofs.FanLaws.{fans_are_classes}
use Rattle.corner_table.proofs.Meeting.{fan_meets, meets-fan}
use Rattle.corner_table.proofs.Numbers.{number-side_at, side_at-number, number-lt, face-lt}
use Rattle.corner_table.proofs.PairLaws.{length-corners_of, corner_at}
use Rattle.corner_table.proofs.Walks.{left-within, right-within}
use Rattle.walk_order.specs.OfSurface.{is_least, least_corners, fan_label, fan_labels, fans_of, meets_boundary, fan_ends, LabelsAreOne, SurfaceIsLabelled}

-- ---- lists

-- an item that passes is listed among those that pass
passing : {X : Type 0} (p : X → Bool) (xs : List X) (i : ℕ) (d : X) → i < length xs → p (get_or xs i d) ≡ true →
    (j : ℕ) × (j < length (filter p xs)) × (get_or (filter p xs) j d ≡ get_or xs i d)
passing p [] i d h t = absurd (omega arith)
passing {X} p (x ∷ xs) zero d h t = subst (λ (b : Bool). (j : ℕ) × (j < length (cond b (x ∷ filter p xs) (filter p xs))) × (get_or (cond b (x ∷ filter p xs) (filter p xs)) j d ≡ x)) (sym t) (0, omega arith, refl)
passing {X} p (x ∷ xs) (suc i) d h t =
    let r = passing p xs i d (omega arith) t in
    elim (p x) as (λ (b : Bool). (j : ℕ) × (j < length (cond b (x ∷ filter p xs) (filter p xs))) × (get_or (cond b (x ∷ filter p xs) (filter p xs)) j d ≡ get_or xs i d)) [
      | true ↦ (suc r.0, (let l = r.1 in omega arith), r.2)
      | false ↦ r
    ]

-- a test that some item passes is passed at a place
place_of_any : {X : Type 0} (p : X → Bool) (xs : List X) (d : X) → list_any p xs ≡ true → (i : ℕ) × (i < length xs) × (p (get_or xs i d) ≡ true)
place_of_any p [] d h = absurd (let no : false ≡ true = h in cc)
place_of_any p (x ∷ xs) d h = elim (or_cases (p x) (list_any p xs) h) [
  | inl a ↦ (0, omega arith, a)
  | inr b ↦ (let r = place_of_any p xs d b in (suc r.0, (let l = r.1 in omega arith), r.2))
]

not_false : (b : Bool) → not b ≡ false → b ≡ true
not_false true h = refl
not_false false h = absurd (let no : true ≡ false = h in cc)

not_true : (b : Bool) → not b ≡ true → b ≡ false
not_true true h = absurd (let no : false ≡ true = h in cc)
not_true false h = refl

free_is : {A : Type 0} (o : Option A) → is_none o ≡ true → o ≡ None
free_is None h = refl
free_is (Some x) h = absurd (let no : false ≡ true = h in cc)

corners_rise : (faces : ℕ) → AllPairs (λ (x y : Side). number x < number y) (corners_of faces)
corners_rise faces i j d l h =
    let n = length-corners_of faces in
    let a = ap number (corner_at faces i d (omega arith)) ∙ number-side_at i in
    let b = ap number (corner_at faces j d (omega arith)) ∙ number-side_at j in
    omega arith

within : {faces : ℕ} {g : Gluing} → IsGluing faces g → {c d : Side} → InFan g c d → c.face < faces → d.face < faces
within G here h = h
within G (leftwards {c = c} {d = d} s p) h = within G p (left-within G c d s)
within G (rightwards {c = c} {d = d} s p) h = within G p (right-within G c d s)

module _ (faces : ℕ) (g : Gluing) (G : IsGluing faces g) where
  back : (c d : Side) → InFan g c d → InFan g d c
  back = (fans_are_classes faces g G).0

  on : (c d e : Side) → InFan g c d → InFan g d e → InFan g c e
  on = (fans_are_classes faces g G).1

  some_corner : (test : Side → Bool) (d : Side) → d.face < faces → test d ≡ true → list_any test (corners_of faces) ≡ true
  some_corner test d h t =
      list_any_at test (corners_of faces) (number d) d (let n = number-lt d faces h in let l = length-corners_of faces in omega arith)
      (ap test (corner_at faces (number d) d (number-lt d faces h) ∙ side_at-number d) ∙ t)

  corner_told : (test : Side → Bool) → list_any test (corners_of faces) ≡ true → (d : Side) × (d.face < faces) × (test d ≡ true)
  corner_told test h =
      let r = place_of_any test (corners_of faces) (side_at 0) h in
      let l : r.0 < 3 * faces = (let a = r.1 in let b = length-corners_of faces in omega arith) in
      (side_at r.0, face-lt r.0 faces l, ap test (sym (corner_at faces r.0 (side_at 0) l)) ∙ r.2)

  -- ---- least corners

  abbrev lesser : Side → Side → Bool
  lesser c d = nat_lt (number d) (number c) && meets faces g c d

  none_less : (c d : Side) → is_least faces g c ≡ true → c.face < faces → number d < number c → InFan g c d → ⊥
  none_less c d least h l p =
      let w = within G p h in
      let yes : list_any (lesser c) (corners_of faces) ≡ true = some_corner (lesser c) d w (and_from _ _ (lt-ltb (number d) (number c) l) (fan_meets G c d h w p)) in
      let no : false ≡ true = sym (not_true _ least) ∙ yes in
      cc

  least_of : (n : ℕ) (c : Side) → number c < n → c.face < faces → (d : Side) × InFan g c d × (is_least faces g d ≡ true)
  least_of zero c l h = absurd (omega arith)
  least_of (suc n) c l h = elim (cases_Bool (is_least faces g c)) [
    | inl t ↦ (c, here, t)
    | inr f ↦ (
        let r = corner_told (lesser c) (not_false _ f) in
        let p = and_parts _ _ r.2 in
        let less : number r.0 < number c = ltb-true _ _ p.0 in
        let q = least_of n r.0 (omega arith) r.1 in
        (q.0, on c r.0 q.0 (meets-fan faces g c r.0 p.1) q.1, q.2))
  ]

  abbrev leasts : List Side
  leasts = least_corners faces g

  -- the least corner of fan k
  abbrev nth : ℕ → Side
  nth k = get_or leasts k (side_at 0)

  least_at : (k : ℕ) → k < length leasts → is_least faces g (nth k) ≡ true
  least_at k h = All-get_or (λ (x : Side). is_least faces g x ≡ true) leasts k (side_at 0) h (filter_passes (is_least faces g) (corners_of faces))

  least_within : (k : ℕ) → k < length leasts → (nth k).face < faces
  least_within k h = All-get_or (λ (x : Side). x.face < faces) leasts k (side_at 0) h (All-filter (is_least faces g) (λ (x : Side). x.face < faces) (corners_of faces)
      (All-from_get_or (λ (x : Side). x.face < faces) (corners_of faces) (side_at 0)
      (λ i l. (let n : i < 3 * faces = (let e = length-corners_of faces in omega arith) in subst (λ (x : Side). x.face < faces) (sym (corner_at faces i (side_at 0) n)) (face-lt i faces n)))))

  leasts_rise : (j k : ℕ) → j < k → k < length leasts → number (nth j) < number (nth k)
  leasts_rise j k = AllPairs-filter (λ (x y : Side). number x < number y) (is_least faces g) (corners_of faces) (corners_rise faces) j k (side_at 0)

  -- two least corners of one fan are one
  one_least : (j k : ℕ) → j < length leasts → k < length leasts → InFan g (nth j) (nth k) → j ≡ k
  one_least j k hj hk p = elim (cases_eq j k) [
    | inl e ↦ e
    | inr ne ↦ elim (cases_lt j k) [
      | inl l ↦ absurd (none_less (nth k) (nth j) (least_at k hk) (least_within k hk) (leasts_rise j k l hk) (back _ _ p))
      | inr l ↦ absurd (none_less (nth j) (nth k) (least_at j hj) (least_within j hj) (leasts_rise k j (omega arith) hj) p)
    ]
  ]

  -- ---- labels

  listed : (c : Side) → c.face < faces → (k : ℕ) × (k < length leasts) × InFan g c (nth k)
  listed c h =
      let q = least_of (suc (number c)) c (omega arith) h in
      let w = within G q.1 h in
      let n = number-lt q.0 faces w in
      let is : get_or (corners_of faces) (number q.0) (side_at 0) ≡ q.0 = corner_at faces (number q.0) (side_at 0) n ∙ side_at-number q.0 in
      let r = passing (is_least faces g) (corners_of faces) (number q.0) (side_at 0) (let e = length-corners_of faces in omega arith) (ap (is_least faces g) is ∙ q.2) in
      (r.0, r.1, subst (InFan g c) (sym (r.2 ∙ is)) q.1)

  label_is : (c : Side) (k : ℕ) → c.face < faces → k < length leasts → InFan g c (nth k) → fan_label faces g c ≡ k
  label_is c k h l p = position_or_len_is (meets faces g c) leasts k (side_at 0) (omega arith)
      (λ j m. elim (cases_Bool (meets faces g c (nth j))) [
        | inl t ↦ absurd (let e = one_least j k (omega arith) l (on _ c _ (back c _ (meets-fan faces g c _ t)) p) in omega arith)
        | inr f ↦ f
      ])
      (λ m. fan_meets G c (nth k) h (least_within k l) p)

  -- each corner has the label of a least corner of its fan
  labelled : (c : Side) → c.face < faces → (fan_label faces g c < length leasts) × InFan g c (nth (fan_label faces g c))
  labelled c h =
      let r = listed c h in
      subst (λ (k : ℕ). (k < length leasts) × InFan g c (nth k)) (sym (label_is c r.0 h r.1 r.2)) (r.1, r.2)

  label_of_nth : (k : ℕ) → k < length leasts → fan_label faces g (nth k) ≡ k
  label_of_nth k h = label_is (nth k) k (least_within k h) h here

  least_first : (c : Side) (k : ℕ) → c.face < faces → k < length leasts → InFan g c (nth k) → number (nth k) ≤ number c
  least_first c k h l p = elim (cases_lt (number c) (number (nth k))) [
    | inl m ↦ absurd (none_less (nth k) c (least_at k l) (least_within k l) m (back c _ p))
    | inr m ↦ m
  ]

  label_here : (c : Side) → c.face < faces → label_at (fan_labels faces g) c ≡ fan_label faces g c
  unfolding fan_labels
  label_here c h =
      let n = number-lt c faces h in
      get_or-map (fan_label faces g) (corners_of faces) (number c) (side_at 0) free_entry (let e = length-corners_of faces in omega arith)
      ∙ ap (fan_label faces g) (corner_at faces (number c) (side_at 0) n ∙ side_at-number c)

  -- ---- ends

  abbrev open_at : Side → Side → Bool
  open_at c d = meets faces g c d && (is_none (g (next d)) || is_none (g (prev d)))

  boundary_told : (c : Side) → meets_boundary faces g c ≡ true → MeetsBoundary g c
  boundary_told c t =
      let r = corner_told (open_at c) t in
      let p = and_parts _ _ r.2 in
      record {
        corner = r.0;
        in_fan = meets-fan faces g c r.0 p.0;
        free = elim (or_cases (is_none (g (next r.0))) (is_none (g (prev r.0))) p.1) [ inl a ↦ inl (free_is _ a) | inr b ↦ inr (free_is _ b) ];
      }

  boundary_tells : (c : Side) → c.face < faces → MeetsBoundary g c → meets_boundary faces g c ≡ true
  boundary_tells c h m =
      let w = within G m.in_fan h in
      some_corner (open_at c) m.corner w (and_from _ _ (fan_meets G c m.corner h w m.in_fan) (elim m.free [
        | inl a ↦ or_left _ _ (ap (λ (o : Option Side). is_none o) a)
        | inr b ↦ or_right _ _ (ap (λ (o : Option Side). is_none o) b)
      ]))

  boundary_moves : (c d : Side) → InFan g c d → MeetsBoundary g d → MeetsBoundary g c
  boundary_moves c d p m = record { corner = m.corner; in_fan = on c d m.corner p m.in_fan; free = m.free }

  end_here : (k : ℕ) → k < length leasts → get_or (fan_ends faces g) k false ≡ meets_boundary faces g (nth k)
  unfolding fan_ends
  end_here k h = get_or-map (meets_boundary faces g) leasts k (side_at 0) false h

  surface_labelled : IsLabelled faces g (fan_labels faces g) (fans_of faces g) (fan_ends faces g)
  unfolding fan_labels fans_of fan_ends
  surface_labelled = record {
    each_corner = length-map (corners_of faces) (fan_label faces g) ∙ length-corners_of faces;
    bounded = λ c h. (let e = label_here c h in let b = (labelled c h).0 in omega arith);
    used = λ k h. (nth k, least_within k h, label_here (nth k) (least_within k h) ∙ label_of_nth k h);
    in_order = λ c h k l. (
        let e = label_here c h in
        let b = labelled c h in
        let m : k < fan_label faces g c = omega arith in
        let n : k < length leasts = (let x = b.0 in omega arith) in
        let r = leasts_rise k (fan_label faces g c) m b.0 in
        let f = least_first c (fan_label faces g c) h b.0 b.1 in
        (nth k, omega arith, label_here (nth k) (least_within k n) ∙ label_of_nth k n));
    one_label = λ c d hc hd p. (let b = labelled d hd in label_here c hc ∙ label_is c (fan_label faces g d) hc b.0 (on c d _ p b.1) ∙ sym (label_here d hd));
    one_fan = λ c d hc hd e. (
        let b = labelled c hc in
        let q = labelled d hd in
        let s : fan_label faces g c ≡ fan_label faces g d = sym (label_here c hc) ∙ e ∙ label_here d hd in
        on c _ d b.1 (subst (λ (k : ℕ). InFan g (nth k) d) (sym s) (back d _ q.1)));
    each_label = length-map leasts (meets_boundary faces g);
    boundary = λ c h. (
        let b = labelled c h in
        let is = ap (λ (k : ℕ). get_or (fan_ends faces g) k false) (label_here c h) ∙ end_here (fan_label faces g c) b.0 in
        let w = least_within (fan_label faces g c) b.0 in (
          λ t. boundary_moves c _ b.1 (boundary_told _ (sym is ∙ t)),
          λ m. is ∙ boundary_tells _ w (boundary_moves _ c (back c _ b.1) m),
        ));
  }

pub surface_is_labelled : SurfaceIsLabelled
surface_is_labelled = surface_labelled

-- ---- one labelling

-- two truth values that hold alike are one
alike : (a b : Bool) → (IsTrue a → IsTrue b) → (IsTrue b → IsTrue a) → a ≡ b
alike true true f h = refl
alike true false f h = absurd (let no : false ≡ true = f refl in cc)
alike false true f h = absurd (let no : false ≡ true = h refl in cc)
alike false false f h = refl

module _ {faces : ℕ} {g : Gluing} (G : IsGluing faces g) {labels others : List ℕ} {count number_of_others : ℕ} {ends other_ends : List Bool}
    (L : IsLabelled faces g labels count ends) (M : IsLabelled faces g others number_of_others other_ends) where
  -- a label that was met before belongs to a corner that has the same one in both
  not_less : (c : Side) → c.face < faces → ((b : Side) → number b < number c → b.face < faces → label_at labels b ≡ label_at others b) →
      label_at labels c < label_at others c → ⊥
  not_less c h before l =
      let t = M.in_order c h (label_at labels c) l in
      let b = t.0 in
      let n = number-lt c faces h in
      let w : b.face < faces = below_face b (let a = t.1 in omega arith) in
      let is : label_at labels b ≡ label_at labels c = before b t.1 w ∙ t.2 in
      let other : label_at others b ≡ label_at others c = M.one_label b c w h (L.one_fan b c w h is) in
      let e = t.2 in
      omega arith
    where
      below_face : (b : Side) → number b < 3 * faces → b.face < faces
      below_face b l = subst (λ (x : Side). x.face < faces) (side_at-number b) (face-lt (number b) faces l)

module _ {faces : ℕ} {g : Gluing} (G : IsGluing faces g) {labels others : List ℕ} {count number_of_others : ℕ} {ends other_ends : List Bool}
    (L : IsLabelled faces g labels count ends) (M : IsLabelled faces g others number_of_others other_ends) where
  same_label : (n : ℕ) (c : Side) → number c < n → c.face < faces → label_at labels c ≡ label_at others c
  same_label zero c l h = absurd (omega arith)
  same_label (suc n) c l h =
      let before : (b : Side) → number b < number c → b.face < faces → label_at labels b ≡ label_at others b = λ b m w. same_label n b (omega arith) w in
      elim (cases_lt (label_at labels c) (label_at others c)) [
        | inl a ↦ absurd (not_less G L M c h before a)
        | inr a ↦ elim (cases_lt (label_at others c) (label_at labels c)) [
          | inl b ↦ absurd (not_less G M L c h (λ x m w. sym (before x m w)) b)
          | inr b ↦ omega arith
        ]
      ]

  same_labels : labels ≡ others
  same_labels = ext_get_or free_entry labels others (L.each_corner ∙ sym M.each_corner) (λ i l. (
      let n : i < 3 * faces = (let e = L.each_corner in omega arith) in
      let s = number-side_at i in
      ap (λ (k : ℕ). get_or labels k free_entry) (sym s) ∙ same_label (suc (number (side_at i))) (side_at i) (omega arith) (face-lt i faces n) ∙ ap (λ (k : ℕ). get_or others k free_entry) s))

  no_more : count ≤ number_of_others
  no_more = elim (cases_lt number_of_others count) [
    | inl l ↦ (
        let t = L.used number_of_others l in
        let b = M.bounded t.0 t.1 in
        let s = same_label (suc (number t.0)) t.0 (omega arith) t.1 in
        let e = t.2 in
        absurd (omega arith))
    | inr l ↦ l
  ]

  same_end : (k : ℕ) → k < count → get_or ends k false ≡ get_or other_ends k false
  same_end k h =
      let t = L.used k h in
      let s : label_at others t.0 ≡ k = sym (same_label (suc (number t.0)) t.0 (omega arith) t.1) ∙ t.2 in
      let here = ap (λ (j : ℕ). get_or ends j false) t.2 in
      let there = ap (λ (j : ℕ). get_or other_ends j false) s in
      let a = L.boundary t.0 t.1 in
      let b = M.boundary t.0 t.1 in
      alike (get_or ends k false) (get_or other_ends k false)
      (λ x. sym there ∙ b.1 (a.0 (here ∙ x)))
      (λ x. sym here ∙ a.1 (b.0 (there ∙ x)))

module _ {faces : ℕ} {g : Gluing} (G : IsGluing faces g) {labels others : List ℕ} {count number_of_others : ℕ} {ends other_ends : List Bool}
    (L : IsLabelled faces g labels count ends) (M : IsLabelled faces g others number_of_others other_ends) where
  same_count : count ≡ number_of_others
  same_count = let a = no_more G L M in let b = no_more G M L in omega arith

  same_ends : ends ≡ other_ends
  same_ends = ext_get_or false ends other_ends (L.each_label ∙ same_count ∙ sym M.each_label) (λ i l. same_end G L M i (let e = L.each_label in omega arith))

pub labels_are_one : LabelsAreOne
labels_are_one faces g labels count ends G L =
    let M = surface_is_labelled faces g G in
    (same_labels G L M, same_count G L M, same_ends G L M)
