-- Each class of a visited face has an entry: a face is entered where the classes of its other two corners have entries, since the faces across
-- its sides share these corners' classes.
use Rattle.std.proofs.Common.{◌≡◌, ℕ, zero, suc, ◌<◌, ◌≤◌, Bool, true, false, cond, List, [], ◌∷◌, ◌++◌, length, get_or, set, Option, Some, None, option_map, inl, inr, sym, refl, ap, ◌∙◌, subst, arith, length-set, get_or-set_other, get_or-set_same}
use Rattle.std.proofs.lemmas.Bool.{cases_Bool, cases_lt, cases_eq, cond-true, cond-false}
use Rattle.std.proofs.lemmas.List.{get_or_past, get_or_append_left, get_or-replicate}
use Rattle.corner_table.specs.Sides.{Side, Place, first, second, third, side, next, prev, side_at, Gluing, IsGluing}
use Rattle.corner_table.specs.Fans.{InFan, here, leftwards, rightwards}
use Rattle.corner_table.specs.Labels.{IsLabelled, label_at}
use Rattle.corner_table.proofs.Places.{next-prev, prev-next, next-next, prev-prev, option_tells}
use Rattle.walk_order.specs.Visits.{Walk, unwalked, is_visited, lacks, is_new, with_entry, entered, with_base}
use Rattle.walk_order.specs.DepthFirst.{goes_right_alone, walk, walked_from, depth_walked, depth_first_order}
use Rattle.walk_order.specs.Laws.{ListsClasses, DepthFirstListsClasses}
use Rattle.walk_order.specs.Stored.{AllHaveEntries}
use Rattle.walk_order.proofs.Fuel.{walk_missing, walk_out, walk_met, walk_on, left_of}
use Rattle.walk_order.proofs.Tables.{lacks_none, lacks_some, lacks_other, lacks_here, length-last, last_is}

true_not_false : (b : Bool) → b ≡ true → b ≡ false → ⊥
true_not_false b e f = (let no : true ≡ false = sym e ∙ f in cc)

-- no two entries are of one class
abbrev pub AreApart : List ℕ → List Side → Type 0
AreApart labels entries = (i j : ℕ) → i < length entries → j < length entries → label_at labels (get_or entries i (side_at 0)) ≡ label_at labels (get_or entries j (side_at 0)) → i ≡ j

-- what is visited stays visited, what has an entry keeps it, and entries stay apart
pub record Grows (labels : List ℕ) (w v : Walk) : Type 0 where
  pub visited : (f : ℕ) → is_visited w f ≡ true → is_visited v f ≡ true
  pub entries : (k : ℕ) → lacks labels w.entries k ≡ false → lacks labels v.entries k ≡ false
  pub apart : AreApart labels w.entries → AreApart labels v.entries

pub grows_refl : (labels : List ℕ) (w : Walk) → Grows labels w w
grows_refl labels w = record { visited = λ f h. h; entries = λ k h. h; apart = λ h. h }

pub grows_trans : {labels : List ℕ} {w v u : Walk} → Grows labels w v → Grows labels v u → Grows labels w u
grows_trans A B = record { visited = λ f h. B.visited f (A.visited f h); entries = λ k h. B.entries k (A.entries k h); apart = λ h. B.apart (A.apart h) }

pub set_here : (xs : List Bool) (i : ℕ) → get_or (set xs i true) i true ≡ true
set_here xs i = elim (cases_lt i (length xs)) [
  | inl h ↦ get_or-set_same xs i true true h
  | inr h ↦ get_or_past (set xs i true) i true (let l = length-set xs i true in omega arith)
]

pub set_stays : (xs : List Bool) (i f : ℕ) → get_or xs f true ≡ true → get_or (set xs i true) f true ≡ true
set_stays xs i f h = elim (cases_eq f i) [
  | inl e ↦ ap (λ (k : ℕ). get_or (set xs i true) k true) e ∙ set_here xs i
  | inr ne ↦ get_or-set_other xs i f true true ne ∙ h
]

-- a new entry takes none away
pub entry_keeps : (labels : List ℕ) (entries : List Side) (c : Side) (k : ℕ) → lacks labels entries k ≡ false → lacks labels (with_entry labels entries c) k ≡ false
entry_keeps labels entries c k h = elim (cases_Bool (is_new labels entries c)) [
  | inr old ↦ ap (λ (es : List Side). lacks labels es k) (cond-false (is_new labels entries c) _ entries old) ∙ h
  | inl new ↦ ap (λ (es : List Side). lacks labels es k) (cond-true (is_new labels entries c) _ entries new) ∙ elim (cases_eq (label_at labels c) k) [
    | inl e ↦ lacks_here labels entries c k e
    | inr ne ↦ lacks_other labels entries c k ne ∙ h
  ]
]

-- and is of a class that no other is of
pub entry_apart : (labels : List ℕ) (entries : List Side) (c : Side) → AreApart labels entries → AreApart labels (with_entry labels entries c)
entry_apart labels entries c A = elim (cases_Bool (is_new labels entries c)) [
  | inr old ↦ subst (AreApart labels) (sym (cond-false (is_new labels entries c) (entries ++ (c ∷ [])) entries old)) A
  | inl new ↦ subst (AreApart labels) (sym (cond-true (is_new labels entries c) (entries ++ (c ∷ [])) entries new)) (apart new)
]
  where
    at_old : (i : ℕ) → i < length entries → get_or (entries ++ (c ∷ [])) i (side_at 0) ≡ get_or entries i (side_at 0)
    at_old i l = get_or_append_left entries (c ∷ []) (side_at 0) i l

    apart : is_new labels entries c ≡ true → AreApart labels (entries ++ (c ∷ []))
    apart new i j h l e =
        let m = length-last entries c in
        elim (cases_lt i (length entries)) [
          | inl a ↦ elim (cases_lt j (length entries)) [
            | inl b ↦ A i j a b (ap (label_at labels) (sym (at_old i a)) ∙ e ∙ ap (label_at labels) (at_old j b))
            | inr b ↦ absurd (lacks_none labels entries (label_at labels c) new i a (ap (label_at labels) (sym (at_old i a)) ∙ e ∙ ap (label_at labels) (last_is entries c j (let q : j ≡ length entries = omega arith in q))))
          ]
          | inr a ↦ elim (cases_lt j (length entries)) [
            | inl b ↦ absurd (lacks_none labels entries (label_at labels c) new j b (ap (label_at labels) (sym (at_old j b)) ∙ sym e ∙ ap (label_at labels) (last_is entries c i (let q : i ≡ length entries = omega arith in q))))
            | inr b ↦ omega arith
          ]
        ]

-- and then the corner's class has one
pub entry_gives : (labels : List ℕ) (entries : List Side) (c : Side) → lacks labels (with_entry labels entries c) (label_at labels c) ≡ false
entry_gives labels entries c = elim (cases_Bool (is_new labels entries c)) [
  | inr old ↦ ap (λ (es : List Side). lacks labels es (label_at labels c)) (cond-false (is_new labels entries c) _ entries old) ∙ old
  | inl new ↦ ap (λ (es : List Side). lacks labels es (label_at labels c)) (cond-true (is_new labels entries c) _ entries new) ∙ lacks_here labels entries c (label_at labels c) refl
]

pub entered_grows : (labels : List ℕ) (w : Walk) (c : Side) → Grows labels w (entered labels w c)
entered_grows labels w c = record { visited = λ f h. set_stays w.visited c.face f h; entries = λ k h. entry_keeps labels w.entries c k h; apart = entry_apart labels w.entries c }

pub base_grows : (labels : List ℕ) (w : Walk) (f : ℕ) → Grows labels w (with_base labels w f)
base_grows labels w f = record { visited = λ k h. h; entries = λ k h. entry_keeps labels _ (side f third) k (entry_keeps labels w.entries (side f second) k h); apart = λ h. entry_apart labels _ (side f third) (entry_apart labels w.entries (side f second) h) }

module _ (faces : ℕ) (g : Gluing) (labels : List ℕ) (count : ℕ) (ends : List Bool) (G : IsGluing faces g) (L : IsLabelled faces g labels count ends) where
  -- the class of a corner has an entry
  abbrev pub Has : Walk → Side → Type 0
  Has w c = lacks labels w.entries (label_at labels c) ≡ false

  -- each class of a visited face has an entry
  abbrev pub IsCovered : Walk → Type 0
  IsCovered w = (c : Side) → c.face < faces → is_visited w c.face ≡ true → Has w c

  -- a corner at which a face may be entered: the classes of the other two have entries
  pub record IsReadyAt (w : Walk) (c : Side) : Type 0 where
    pub within : c.face < faces
    pub after : Has w (next c)
    pub before : Has w (prev c)

  abbrev pub IsReady : Walk → Option Side → Type 0
  IsReady w None = Unit {0}
  IsReady w (Some c) = IsReadyAt w c

  pub ready_grows : {w v : Walk} → Grows labels w v → (o : Option Side) → IsReady w o → IsReady v o
  ready_grows W None r = tt
  ready_grows W (Some c) r = record { within = r.within; after = W.entries _ r.after; before = W.entries _ r.before }

  has_fan : (w : Walk) (c d : Side) → c.face < faces → d.face < faces → InFan g c d → Has w d → Has w c
  has_fan w c d h l f e = ap (lacks labels w.entries) (L.one_label c d h l f) ∙ e

  -- across the side after a corner lies a ready one
  pub ready_right : (w : Walk) (c : Side) → c.face < faces → Has w c → Has w (prev c) → IsReady w (g (next c))
  ready_right w c h at before = elim (option_tells (g (next c))) [
    | inl n ↦ subst (IsReady w) (sym n) tt
    | inr r ↦ subst (IsReady w) (sym r.1) (right r.0 r.1)
  ]
    where
      right : (r : Side) → g (next c) ≡ Some r → IsReadyAt w r
      right r e =
          let l : r.face < faces = G.within r (next c) (G.paired (next c) r e) in
          record {
            within = l;
            after = has_fan w (next r) c l h (rightwards (ap (option_map prev) (ap g (prev-next r) ∙ G.paired (next c) r e) ∙ ap {A = Side} Some (prev-next c)) here) at;
            before = has_fan w (prev r) (prev c) l h (leftwards (ap (option_map next) (ap g (next-prev r) ∙ G.paired (next c) r e) ∙ ap {A = Side} Some (next-next c)) here) before;
          }

  -- and so across the side before it
  pub ready_left : (w : Walk) (c : Side) → c.face < faces → Has w c → Has w (next c) → IsReady w (g (prev c))
  ready_left w c h at after = elim (option_tells (g (prev c))) [
    | inl n ↦ subst (IsReady w) (sym n) tt
    | inr r ↦ subst (IsReady w) (sym r.1) (left r.0 r.1)
  ]
    where
      left : (r : Side) → g (prev c) ≡ Some r → IsReadyAt w r
      left r e =
          let l : r.face < faces = G.within r (prev c) (G.paired (prev c) r e) in
          record {
            within = l;
            after = has_fan w (next r) (next c) l h (rightwards (ap (option_map prev) (ap g (prev-next r) ∙ G.paired (prev c) r e) ∙ ap {A = Side} Some (prev-prev c)) here) after;
            before = has_fan w (prev r) c l h (leftwards (ap (option_map next) (ap g (next-prev r) ∙ G.paired (prev c) r e) ∙ ap {A = Side} Some (next-prev c)) here) at;
          }

  -- the three corners of a face
  has_all : (w : Walk) (c d : Side) → Has w c → Has w (next c) → Has w (prev c) → d.face ≡ c.face → Has w d
  has_all w c d a b e f = subst (λ (x : Side). Has w x) (ap (λ (k : ℕ). side k d.place) (sym f)) (at c.place d.place a b e)
    where
      at : (p q : Place) → Has w (side c.face p) → Has w (next (side c.face p)) → Has w (prev (side c.face p)) → Has w (side c.face q)
      at first first a b e = a
      at first second a b e = b
      at first third a b e = e
      at second first a b e = e
      at second second a b e = a
      at second third a b e = b
      at third first a b e = b
      at third second a b e = e
      at third third a b e = a

  -- a face entered at a ready corner is covered
  pub entered_covers : (w : Walk) (c : Side) → IsCovered w → IsReadyAt w c → IsCovered (entered labels w c)
  entered_covers w c C R d h v = elim (cases_eq d.face c.face) [
    | inl e ↦ (let W = entered_grows labels w c in has_all (entered labels w c) c d (entry_gives labels w.entries c) (W.entries _ R.after) (W.entries _ R.before) e)
    | inr ne ↦ (entered_grows labels w c).entries _ (C d h (sym (get_or-set_other w.visited c.face d.face true true ne) ∙ v))
  ]

  -- from an entered face the walk may go on to both sides
  pub entered_right : (w : Walk) (c : Side) → IsReadyAt w c → IsReady (entered labels w c) (g (next c))
  entered_right w c R = ready_right (entered labels w c) c R.within (entry_gives labels w.entries c) ((entered_grows labels w c).entries _ R.before)

  pub entered_left : (w : Walk) (c : Side) → IsReadyAt w c → IsReady (entered labels w c) (g (prev c))
  entered_left w c R = ready_left (entered labels w c) c R.within (entry_gives labels w.entries c) ((entered_grows labels w c).entries _ R.after)

  -- corner 0 of a face is ready once its corners 1 and 2 have entries
  pub base_ready : (w : Walk) (f : ℕ) → f < faces → IsReadyAt (with_base labels w f) (side f first)
  base_ready w f h = record {
    within = h;
    after = entry_keeps labels _ (side f third) _ (entry_gives labels w.entries (side f second));
    before = entry_gives labels _ (side f third);
  }

  pub base_covers : (w : Walk) (f : ℕ) → IsCovered w → IsCovered (with_base labels w f)
  base_covers w f C d h v = (base_grows labels w f).entries _ (C d h v)

  -- in the end every class has an entry
  pub all_have : (w : Walk) → IsCovered w → ((f : ℕ) → f < faces → is_visited w f ≡ true) → AllHaveEntries labels w.entries count
  all_have w C V k h = (let t = L.used k h in subst (λ (x : ℕ). lacks labels w.entries x ≡ false) t.2 (C t.0 t.1 (V t.0.face t.1)))

  nothing_visited : (f : ℕ) → f < faces → is_visited (unwalked faces) f ≡ false
  nothing_visited f h = get_or-replicate faces f false true h

  pub nothing_apart : AreApart labels []
  nothing_apart i j h l e = absurd (let no : i < 0 = h in omega arith)

  -- with an entry for each class, the entries are a list of the classes
  pub lists_classes : (entries : List Side) → AllHaveEntries labels entries count → AreApart labels entries → ListsClasses labels count entries
  lists_classes entries A B = record { all = λ k h. lacks_some labels entries k (A k h); apart = B }

  pub nothing_covered : IsCovered (unwalked faces)
  nothing_covered c h v = absurd (true_not_false _ v (nothing_visited c.face h))

  -- the depth-first walk
  pub walk_grows : (n : ℕ) (w : Walk) (o : Option Side) → Grows labels w (walk g labels ends n w o)
  walk_grows n w None = subst (Grows labels w) (sym (walk_missing g labels ends n w)) (grows_refl labels w)
  walk_grows zero w (Some c) = subst (Grows labels w) (sym (walk_out g labels ends w (Some c))) (grows_refl labels w)
  walk_grows (suc n) w (Some c) = elim (cases_Bool (is_visited w c.face)) [
    | inl t ↦ subst (Grows labels w) (sym (walk_met g labels ends (suc n) w c t)) (grows_refl labels w)
    | inr f ↦ subst (Grows labels w) (sym (walk_on g labels ends n w c f)) (
        grows_trans (entered_grows labels w c) (grows_trans (walk_grows n (entered labels w c) (g (next c))) (walk_grows n (walk g labels ends n (entered labels w c) (g (next c))) (left_of g labels ends w c))))
  ]

  ready_unless : (w : Walk) (b : Bool) (o : Option Side) → IsReady w o → IsReady w (cond b None o)
  ready_unless w true o r = tt
  ready_unless w false o r = r

  pub walk_covers : (n : ℕ) (w : Walk) (o : Option Side) → IsCovered w → IsReady w o → IsCovered (walk g labels ends n w o)
  walk_covers n w None C R = subst IsCovered (sym (walk_missing g labels ends n w)) C
  walk_covers zero w (Some c) C R = subst IsCovered (sym (walk_out g labels ends w (Some c))) C
  walk_covers (suc n) w (Some c) C R = elim (cases_Bool (is_visited w c.face)) [
    | inl t ↦ subst IsCovered (sym (walk_met g labels ends (suc n) w c t)) C
    | inr f ↦ subst IsCovered (sym (walk_on g labels ends n w c f)) (
        walk_covers n (walk g labels ends n (entered labels w c) (g (next c))) (left_of g labels ends w c)
        (walk_covers n (entered labels w c) (g (next c)) (entered_covers w c C R) (entered_right w c R))
        (ready_grows (walk_grows n (entered labels w c) (g (next c))) (left_of g labels ends w c) (ready_unless (entered labels w c) (goes_right_alone labels ends w c) (g (prev c)) (entered_left w c R))))
  ]

  -- after the walk from a corner its face is visited
  walk_visits : (n : ℕ) (w : Walk) (c : Side) → 0 < n → is_visited (walk g labels ends n w (Some c)) c.face ≡ true
  walk_visits zero w c h = absurd (omega arith)
  walk_visits (suc n) w c h = elim (cases_Bool (is_visited w c.face)) [
    | inl t ↦ ap (λ (v : Walk). is_visited v c.face) (walk_met g labels ends (suc n) w c t) ∙ t
    | inr f ↦ ap (λ (v : Walk). is_visited v c.face) (walk_on g labels ends n w c f)
        ∙ (walk_grows n (walk g labels ends n (entered labels w c) (g (next c))) (left_of g labels ends w c)).visited c.face ((walk_grows n (entered labels w c) (g (next c))).visited c.face (set_here w.visited c.face))
  ]

  -- the faces below a number are visited, and all is covered
  pub record IsWalked (n : ℕ) (w : Walk) : Type 0 where
    pub covered : IsCovered w
    pub all : (f : ℕ) → f < n → is_visited w f ≡ true

  from_walked : (f : ℕ) → f < faces → (w : Walk) → IsWalked f w → IsWalked (suc f) (walked_from faces g labels ends f w)
  from_walked f h w W = elim (cases_Bool (is_visited w f)) [
    | inl t ↦ subst (IsWalked (suc f)) (sym (cond-true (is_visited w f) w _ t)) (record {
      covered = W.covered;
      all = λ e l. elim (cases_eq e f) [ inl q ↦ ap (is_visited w) q ∙ t | inr q ↦ W.all e (omega arith) ];
    })
    | inr u ↦ subst (IsWalked (suc f)) (sym (cond-false (is_visited w f) w _ u)) (record {
      covered = walk_covers faces (with_base labels w f) (Some (side f first)) (base_covers w f W.covered) (base_ready w f h);
      all = λ e l. elim (cases_eq e f) [
        | inl q ↦ ap (is_visited (walk g labels ends faces (with_base labels w f) (Some (side f first)))) q ∙ walk_visits faces (with_base labels w f) (side f first) (omega arith)
        | inr q ↦ (walk_grows faces (with_base labels w f) (Some (side f first))).visited e (W.all e (omega arith))
      ];
    })
  ]

  from_grows : (f : ℕ) (w : Walk) → Grows labels w (walked_from faces g labels ends f w)
  from_grows f w = elim (cases_Bool (is_visited w f)) [
    | inl t ↦ subst (Grows labels w) (sym (cond-true (is_visited w f) w _ t)) (grows_refl labels w)
    | inr u ↦ subst (Grows labels w) (sym (cond-false (is_visited w f) w _ u)) (grows_trans (base_grows labels w f) (walk_grows faces (with_base labels w f) (Some (side f first))))
  ]

  pub walked_none : depth_walked faces g labels ends zero ≡ unwalked faces
  unfolding depth_walked
  walked_none = refl

  pub walked_more : (f : ℕ) → depth_walked faces g labels ends (suc f) ≡ walked_from faces g labels ends f (depth_walked faces g labels ends f)
  unfolding depth_walked
  walked_more f = refl

  walked_apart : (n : ℕ) → AreApart labels (depth_walked faces g labels ends n).entries
  walked_apart zero = subst (λ (w : Walk). AreApart labels w.entries) (sym walked_none) nothing_apart
  walked_apart (suc f) = subst (λ (w : Walk). AreApart labels w.entries) (sym (walked_more f)) ((from_grows f (depth_walked faces g labels ends f)).apart (walked_apart f))

  pub walked_all : (n : ℕ) → n ≤ faces → IsWalked n (depth_walked faces g labels ends n)
  walked_all zero h = subst (IsWalked zero) (sym walked_none) (record { covered = nothing_covered; all = λ f l. absurd (omega arith) })
  walked_all (suc f) h = subst (IsWalked (suc f)) (sym (walked_more f)) (from_walked f (omega arith) (depth_walked faces g labels ends f) (walked_all f (omega arith)))

  -- every class has an entry in the depth-first order
  pub depth_first_has_all : AllHaveEntries labels (depth_walked faces g labels ends faces).entries count
  depth_first_has_all = (let W = walked_all faces (omega arith) in all_have (depth_walked faces g labels ends faces) W.covered W.all)

  pub depth_first_lists : ListsClasses labels count (depth_first_order faces g labels ends)
  depth_first_lists = lists_classes (depth_walked faces g labels ends faces).entries depth_first_has_all (walked_apart faces)

pub depth_first_lists_classes : DepthFirstListsClasses
depth_first_lists_classes faces g labels count ends G L = depth_first_lists faces g labels count ends G L
