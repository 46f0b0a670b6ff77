-- The orders of the entries of a surface: their entries are corners of its faces, and each corner is in the fan of one of them.
use Rattle.std.proofs.Common.{◌≡◌, ℕ, zero, suc, ◌*◌, ◌<◌, ◌≤◌, Bool, true, false, List, [], ◌∷◌, ◌++◌, length, get_or, Option, Some, None, inl, inr, sym, ap, ◌∙◌, subst, arith, length-set}
use Rattle.std.specs.List.{All, position_or_len}
use Rattle.std.proofs.lemmas.Bool.{cases_Bool, cases_lt, cond-true, cond-false, false≢true}
use Rattle.std.proofs.lemmas.List.{length-replicate, length-map, get_or-map}
use Rattle.std.proofs.lemmas.List.Elements.{All-nil, All-cons, All-append}
use Rattle.std.proofs.lemmas.List.Sums.{fails_before_first, passes_at_first}
use Rattle.corner_table.specs.Sides.{Side, first, second, third, side, number, side_at, next, Gluing, IsGluing}
use Rattle.corner_table.specs.Fans.{InFan, meets, corners_of}
use Rattle.corner_table.specs.Labels.{label_at}
use Rattle.corner_table.proofs.Places.{option_tells}
use Rattle.corner_table.proofs.Meeting.{fan_meets, meets-fan}
use Rattle.corner_table.proofs.Numbers.{side_at-number, number-lt}
use Rattle.corner_table.proofs.PairLaws.{length-corners_of, corner_at}
use Rattle.walk_order.specs.Visits.{Walk, is_visited, is_new, with_entry, entered, with_base}
use Rattle.walk_order.specs.DepthFirst.{walk, walked_from, depth_walked}
use Rattle.walk_order.specs.PredictionDegree.{Ranked, ranked_visit, visits, ranked_from, ranked}
use Rattle.walk_order.specs.OfSurface.{fan_labels, fans_of, fan_ends, entries_of}
use Rattle.walk_order.specs.Laws.{ListsClasses}
use Rattle.walk_order.proofs.Fuel.{face_within, walk_missing, walk_out, walk_met, walk_on, left_of}
use Rattle.walk_order.proofs.Covering.{depth_first_lists_classes}
use Rattle.walk_order.proofs.Rating.{visit_is, visits_none, visits_end, visits_go, prediction_degree_lists_classes}
use Rattle.walk_order.proofs.Labels.{surface_is_labelled}
use Rattle.drc_container.specs.reading.OnSurface.{order_by}

-- corners of the faces below a number
abbrev pub AreOf : ℕ → List Side → Type 0
AreOf faces corners = All (λ (c : Side). c.face < faces) corners

-- a walk has a mark for each face, and its entries are corners of the faces
pub record StaysOn (faces : ℕ) (w : Walk) : Type 0 where
  pub each_face : length w.visited ≡ faces
  pub corners : AreOf faces w.entries

entry-on : (faces : ℕ) (labels : List ℕ) (entries : List Side) (c : Side) → c.face < faces → AreOf faces entries → AreOf faces (with_entry labels entries c)
entry-on faces labels entries c within are =
    let P : Side → Type 0 = λ (x : Side). x.face < faces in
    elim (cases_Bool (is_new labels entries c)) [
      | inl new ↦ subst (AreOf faces) (sym (cond-true (is_new labels entries c) (entries ++ (c ∷ [])) entries new))
          (All-append P entries (c ∷ []) are (All-cons P c [] within (All-nil P)))
      | inr old ↦ subst (AreOf faces) (sym (cond-false (is_new labels entries c) (entries ++ (c ∷ [])) entries old)) are
    ]

entered-on : (faces : ℕ) (labels : List ℕ) (w : Walk) (c : Side) → is_visited w c.face ≡ false → StaysOn faces w → StaysOn faces (entered labels w c)
entered-on faces labels w c new is =
    let within : c.face < faces = omega (arith, face_within w.visited c.face new, is.each_face) in
    record { each_face = length-set w.visited c.face true ∙ is.each_face; corners = entry-on faces labels w.entries c within is.corners }

base-on : (faces : ℕ) (labels : List ℕ) (w : Walk) (f : ℕ) → f < faces → StaysOn faces w → StaysOn faces (with_base labels w f)
base-on faces labels w f within is = record {
  each_face = is.each_face;
  corners = entry-on faces labels (with_entry labels w.entries (side f second)) (side f third) within (entry-on faces labels w.entries (side f second) within is.corners);
}

-- ---- depth first

walk-on : (faces : ℕ) (g : Gluing) (labels : List ℕ) (ends : List Bool) (n : ℕ) (w : Walk) (o : Option Side) → StaysOn faces w → StaysOn faces (walk g labels ends n w o)
walk-on faces g labels ends n w None is = subst (StaysOn faces) (sym (walk_missing g labels ends n w)) is
walk-on faces g labels ends zero w (Some c) is = subst (StaysOn faces) (sym (walk_out g labels ends w (Some c))) is
walk-on faces g labels ends (suc n) w (Some c) is = elim (cases_Bool (is_visited w c.face)) [
  | inl t ↦ subst (StaysOn faces) (sym (walk_met g labels ends (suc n) w c t)) is
  | inr f ↦ subst (StaysOn faces) (sym (walk_on g labels ends n w c f)) (
      walk-on faces g labels ends n (walk g labels ends n (entered labels w c) (g (next c))) (left_of g labels ends w c)
      (walk-on faces g labels ends n (entered labels w c) (g (next c)) (entered-on faces labels w c f is)))
]

from-on : (faces : ℕ) (g : Gluing) (labels : List ℕ) (ends : List Bool) (f : ℕ) (w : Walk) → f < faces → StaysOn faces w → StaysOn faces (walked_from faces g labels ends f w)
from-on faces g labels ends f w within is = elim (cases_Bool (is_visited w f)) [
  | inl t ↦ subst (StaysOn faces) (sym (cond-true (is_visited w f) w _ t)) is
  | inr u ↦ subst (StaysOn faces) (sym (cond-false (is_visited w f) w _ u))
      (walk-on faces g labels ends faces (with_base labels w f) (Some (side f first)) (base-on faces labels w f within is))
]

ordered-on : (faces : ℕ) (g : Gluing) (labels : List ℕ) (ends : List Bool) (n : ℕ) → n ≤ faces → StaysOn faces (depth_walked faces g labels ends n)
unfolding depth_walked
ordered-on faces g labels ends zero few = record { each_face = length-replicate faces false; corners = All-nil (λ (x : Side). x.face < faces) }
ordered-on faces g labels ends (suc n) few =
    from-on faces g labels ends n (depth_walked faces g labels ends n) (omega arith) (ordered-on faces g labels ends n (omega arith))

-- ---- by prediction degree

visits-on : (faces : ℕ) (g : Gluing) (labels : List ℕ) (n : ℕ) (r : Ranked) (c : Side) → is_visited r.walk c.face ≡ false → StaysOn faces r.walk → StaysOn faces (visits g labels n r c).walk
visits-on faces g labels zero r c new is = subst (λ (q : Ranked). StaysOn faces q.walk) (sym (visits_none g labels r c)) is
visits-on faces g labels (suc n) r c new is =
    let V = visit_is g labels r c in
    let after : StaysOn faces (ranked_visit g labels r c).0.walk = subst (StaysOn faces) (sym V.walk) (entered-on faces labels r.walk c new is) in
    elim (option_tells (ranked_visit g labels r c).1) [
      | inl e ↦ subst (λ (q : Ranked). StaysOn faces q.walk) (sym (visits_end g labels n r c e)) after
      | inr d ↦ subst (λ (q : Ranked). StaysOn faces q.walk) (sym (visits_go g labels n r c d.0 d.1))
          (visits-on faces g labels n (ranked_visit g labels r c).0 d.0 (ap (λ (w : Walk). is_visited w d.0.face) V.walk ∙ (V.next_is d.0 d.1).1) after)
    ]

ranked_from-on : (faces : ℕ) (g : Gluing) (labels : List ℕ) (f : ℕ) (r : Ranked) → f < faces → StaysOn faces r.walk → StaysOn faces (ranked_from faces g labels f r).walk
ranked_from-on faces g labels f r within is = elim (cases_Bool (is_visited r.walk f)) [
  | inl t ↦ subst (λ (q : Ranked). StaysOn faces q.walk) (sym (cond-true (is_visited r.walk f) r _ t)) is
  | inr u ↦ subst (λ (q : Ranked). StaysOn faces q.walk) (sym (cond-false (is_visited r.walk f) r _ u))
      (visits-on faces g labels faces (record r { walk = with_base labels r.walk f; best = 0 }) (side f first) u (base-on faces labels r.walk f within is))
]

ranked-on : (faces : ℕ) (g : Gluing) (labels : List ℕ) (classes n : ℕ) → n ≤ faces → StaysOn faces (ranked faces g labels classes n).walk
unfolding ranked
ranked-on faces g labels classes zero few = record { each_face = length-replicate faces false; corners = All-nil (λ (x : Side). x.face < faces) }
ranked-on faces g labels classes (suc n) few =
    ranked_from-on faces g labels n (ranked faces g labels classes n) (omega arith) (ranked-on faces g labels classes n (omega arith))

-- ---- both

-- the entries of an order are corners of the faces, on any surface
pub order-on : (degree : Bool) (faces : ℕ) (g : Gluing) → AreOf faces (order_by degree faces g)
order-on false faces g = (ordered-on faces g (fan_labels faces g) (fan_ends faces g) faces (omega arith)).corners
order-on true faces g = (ranked-on faces g (fan_labels faces g) (fans_of faces g) faces (omega arith)).corners

-- the entries of an order are a list of the fans
pub order-lists : (degree : Bool) (faces : ℕ) (g : Gluing) → IsGluing faces g → ListsClasses (fan_labels faces g) (fans_of faces g) (order_by degree faces g)
order-lists false faces g G = depth_first_lists_classes faces g (fan_labels faces g) (fans_of faces g) (fan_ends faces g) G (surface_is_labelled faces g G)
order-lists true faces g G = prediction_degree_lists_classes faces g (fan_labels faces g) (fans_of faces g) (fan_ends faces g) G (surface_is_labelled faces g G)

-- the entry of a corner in an order: it is one of the entries, and its corner is in the corner's fan
pub record HasEntry (faces : ℕ) (g : Gluing) (order : List Side) (c : Side) (e : ℕ) : Type 0 where
  pub within : e < length order
  pub fan : InFan g c (get_or order e (side_at 0))

-- the first entry in whose fan a corner is
has_first : (degree : Bool) (faces : ℕ) (g : Gluing) → IsGluing faces g → (c : Side) → c.face < faces
    → HasEntry faces g (order_by degree faces g) c (position_or_len (meets faces g c) (order_by degree faces g))
has_first degree faces g G c within =
    let order = order_by degree faces g in
    let labels = fan_labels faces g in
    let L = surface_is_labelled faces g G in
    let t = (order-lists degree faces g G).all (label_at labels c) (L.bounded c within) in
    let at = get_or order t.0 (side_at 0) in
    let inside : at.face < faces = order-on degree faces g t.0 (side_at 0) t.1 in
    let met : meets faces g c at ≡ true = fan_meets G c at within inside (L.one_fan c at within inside (sym t.2)) in
    let e = position_or_len (meets faces g c) order in
    let few : e < length order = elim (cases_lt e (length order)) [
      | inl l ↦ l
      | inr l ↦ (
          let before : t.0 < e = omega (arith, t.1) in
          absurd (false≢true (sym (fails_before_first (meets faces g c) order t.0 (side_at 0) before) ∙ met)))
    ] in
    record { within = few; fan = meets-fan faces g c (get_or order e (side_at 0)) (passes_at_first (meets faces g c) order (side_at 0) few) }

-- the entry of a corner is that one
entry-is : (faces : ℕ) (g : Gluing) (order : List Side) (c : Side) → c.face < faces
    → get_or (entries_of faces g order) (number c) 0 ≡ position_or_len (meets faces g c) order
unfolding entries_of
entry-is faces g order c within =
    let f : Side → ℕ = λ (x : Side). position_or_len (meets faces g x) order in
    let small = number-lt c faces within in
    let inside : number c < length (corners_of faces) = omega (arith, small, length-corners_of faces) in
    get_or-map f (corners_of faces) (number c) c 0 inside ∙ ap f (corner_at faces (number c) c small ∙ side_at-number c)

pub has_entry : (degree : Bool) (faces : ℕ) (g : Gluing) → IsGluing faces g → (c : Side) → c.face < faces
    → HasEntry faces g (order_by degree faces g) c (get_or (entries_of faces g (order_by degree faces g)) (number c) 0)
has_entry degree faces g G c within =
    let order = order_by degree faces g in
    subst (HasEntry faces g order c) (sym (entry-is faces g order c within)) (has_first degree faces g G c within)

-- each corner has an entry
pub entries-each : (faces : ℕ) (g : Gluing) (order : List Side) → length (entries_of faces g order) ≡ 3 * faces
unfolding entries_of
entries-each faces g order = length-map (corners_of faces) (λ (x : Side). position_or_len (meets faces g x) order) ∙ length-corners_of faces

-- where there is a face, there is an entry
pub order-some : (degree : Bool) (faces : ℕ) (g : Gluing) → IsGluing faces g → 0 < faces → 0 < length (order_by degree faces g)
order-some degree faces g G some = let has = has_first degree faces g G (side 0 first) some in omega (arith, has.within)
