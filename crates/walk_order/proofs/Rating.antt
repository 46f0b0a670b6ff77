-- The walk by prediction degree: where it goes on is unvisited, all that waits may be entered, and the recursion with fuel is the relation.
use Rattle.std.proofs.Common.{◌≡◌, ℕ, zero, suc, ◌+◌, ◌<◌, ◌≤◌, Bool, true, false, nat_le, List, [], ◌∷◌, All, Option, Some, None, inl, inr, sym, refl, ap, ◌∙◌, subst, arith}
use Rattle.std.proofs.lemmas.Bool.{cases_Bool, cases_eq, cond-true, cond-false}
use Rattle.std.proofs.lemmas.List.Elements.{All-nil, All-cons, All-head, All-tail, All-weaker}
use Rattle.corner_table.specs.Sides.{Side, first, side, next, prev, Gluing, IsGluing}
use Rattle.corner_table.specs.Labels.{IsLabelled}
use Rattle.corner_table.proofs.Places.{option_tells, Some_injective}
use Rattle.walk_order.specs.Visits.{Walk, unwalked, is_visited, unvisited, entered, with_base}
use Rattle.walk_order.specs.PredictionDegree.{Ranked, unranked, rate, rated, ranked_pushed, take_unvisited, taken2, taken1, taken0, taken_from, ranked_taken, unvisited_across, turned_to, ranked_turned, ranked_visit, visits, ranked_from, ranked, prediction_degree_order}
use Rattle.walk_order.specs.Laws.{ListsClasses, PredictionDegreeListsClasses, Visits, last, on, VisitsAreRelation}
use Rattle.walk_order.specs.Stored.{AllHaveEntries}
use Rattle.walk_order.proofs.Fuel.{one_fewer}
use Rattle.walk_order.proofs.Covering.{AreApart, nothing_apart, lists_classes, Grows, grows_refl, grows_trans, entered_grows, base_grows, set_here, IsCovered, IsReadyAt, entered_covers, entered_left, entered_right, base_ready, base_covers, all_have, nothing_covered}

-- all corners that wait have a property
pub record Holds (P : Side → Type 0) (r : Ranked) : Type 0 where
  pub held0 : All P r.stack0
  pub held1 : All P r.stack1
  pub held2 : All P r.stack2

-- the walk is this one, and the next corner, if there is one, is unvisited; it and those that wait have a property
pub record Going (w : Walk) (P : Side → Type 0) (t : Ranked × Option Side) : Type 0 where
  pub walk : t.0.walk ≡ w
  pub holds : Holds P t.0
  pub next_is : (d : Side) → t.1 ≡ Some d → P d × (is_visited w d.face ≡ false)

pub take_met : (w : Walk) (c : Side) (cs : List Side) → is_visited w c.face ≡ true → take_unvisited w (c ∷ cs) ≡ take_unvisited w cs
unfolding take_unvisited
take_met w c cs e = ap (λ (b : Bool). let x : List Side × Option Side = elim b [ true ↦ take_unvisited w cs | false ↦ (cs, Some c) ] in x) e

pub take_here : (w : Walk) (c : Side) (cs : List Side) → is_visited w c.face ≡ false → take_unvisited w (c ∷ cs) ≡ (cs, Some c)
unfolding take_unvisited
take_here w c cs e = ap (λ (b : Bool). let x : List Side × Option Side = elim b [ true ↦ take_unvisited w cs | false ↦ (cs, Some c) ] in x) e

pub take_nothing : (w : Walk) → take_unvisited w [] ≡ ([], None)
unfolding take_unvisited
take_nothing w = refl

none_some : {A : Type 0} (d : A) → None ≡ Some d → ⊥
none_some d e = cc

module _ (P : Side → Type 0) where
  abbrev TakesOff : Walk → List Side × Option Side → Type 0
  TakesOff w t = All P t.0 × ((d : Side) → t.1 ≡ Some d → P d × (is_visited w d.face ≡ false))

  takes_off : (w : Walk) (cs : List Side) → All P cs → TakesOff w (take_unvisited w cs)
  takes_off w [] h = subst (TakesOff w) (sym (take_nothing w)) (All-nil P, λ d e. absurd (none_some d e))
  takes_off w (c ∷ cs) h = elim (cases_Bool (is_visited w c.face)) [
    | inl t ↦ subst (TakesOff w) (sym (take_met w c cs t)) (takes_off w cs (All-tail P c cs h))
    | inr f ↦ subst (TakesOff w) (sym (take_here w c cs f)) (
      All-tail P c cs h,
      λ d e. (let same : c ≡ d = Some_injective c d e in (subst P same (All-head P c cs h), ap (λ (x : Side). is_visited w x.face) (sym same) ∙ f)),
    )
  ]

  taken2_goes : (r : Ranked) → Holds P r → Going r.walk P (taken2 r)
  taken2_goes r h = (let t = takes_off r.walk r.stack2 h.held2 in record { walk = refl; holds = record { held0 = h.held0; held1 = h.held1; held2 = t.0 }; next_is = t.1 })

  pub taken1_none : (r : Ranked) → (take_unvisited r.walk r.stack1).1 ≡ None → taken1 r ≡ taken2 (record r { stack1 = (take_unvisited r.walk r.stack1).0 })
  taken1_none r e = ap (λ (o : Option Side). let x : Ranked × Option Side = elim o [
    | None ↦ taken2 (record r { stack1 = (take_unvisited r.walk r.stack1).0 })
    | Some c ↦ (record r { stack1 = (take_unvisited r.walk r.stack1).0; best = 1 }, Some c)
  ] in x) e

  pub taken1_some : (r : Ranked) (d : Side) → (take_unvisited r.walk r.stack1).1 ≡ Some d → taken1 r ≡ (record r { stack1 = (take_unvisited r.walk r.stack1).0; best = 1 }, Some d)
  taken1_some r d e = ap (λ (o : Option Side). let x : Ranked × Option Side = elim o [
    | None ↦ taken2 (record r { stack1 = (take_unvisited r.walk r.stack1).0 })
    | Some c ↦ (record r { stack1 = (take_unvisited r.walk r.stack1).0; best = 1 }, Some c)
  ] in x) e

  taken1_goes : (r : Ranked) → Holds P r → Going r.walk P (taken1 r)
  taken1_goes r h =
      let t = takes_off r.walk r.stack1 h.held1 in
      elim (option_tells (take_unvisited r.walk r.stack1).1) [
        | inl n ↦ subst (Going r.walk P) (sym (taken1_none r n)) (taken2_goes (record r { stack1 = (take_unvisited r.walk r.stack1).0 }) (record { held0 = h.held0; held1 = t.0; held2 = h.held2 }))
        | inr c ↦ subst (Going r.walk P) (sym (taken1_some r c.0 c.1)) (record {
          walk = refl;
          holds = record { held0 = h.held0; held1 = t.0; held2 = h.held2 };
          next_is = λ d e. t.1 d (c.1 ∙ e);
        })
      ]

  pub taken0_none : (r : Ranked) → (take_unvisited r.walk r.stack0).1 ≡ None → taken0 r ≡ taken1 (record r { stack0 = (take_unvisited r.walk r.stack0).0 })
  taken0_none r e = ap (λ (o : Option Side). let x : Ranked × Option Side = elim o [
    | None ↦ taken1 (record r { stack0 = (take_unvisited r.walk r.stack0).0 })
    | Some c ↦ (record r { stack0 = (take_unvisited r.walk r.stack0).0; best = 0 }, Some c)
  ] in x) e

  pub taken0_some : (r : Ranked) (d : Side) → (take_unvisited r.walk r.stack0).1 ≡ Some d → taken0 r ≡ (record r { stack0 = (take_unvisited r.walk r.stack0).0; best = 0 }, Some d)
  taken0_some r d e = ap (λ (o : Option Side). let x : Ranked × Option Side = elim o [
    | None ↦ taken1 (record r { stack0 = (take_unvisited r.walk r.stack0).0 })
    | Some c ↦ (record r { stack0 = (take_unvisited r.walk r.stack0).0; best = 0 }, Some c)
  ] in x) e

  taken0_goes : (r : Ranked) → Holds P r → Going r.walk P (taken0 r)
  taken0_goes r h =
      let t = takes_off r.walk r.stack0 h.held0 in
      elim (option_tells (take_unvisited r.walk r.stack0).1) [
        | inl n ↦ subst (Going r.walk P) (sym (taken0_none r n)) (taken1_goes (record r { stack0 = (take_unvisited r.walk r.stack0).0 }) (record { held0 = t.0; held1 = h.held1; held2 = h.held2 }))
        | inr c ↦ subst (Going r.walk P) (sym (taken0_some r c.0 c.1)) (record {
          walk = refl;
          holds = record { held0 = t.0; held1 = h.held1; held2 = h.held2 };
          next_is = λ d e. t.1 d (c.1 ∙ e);
        })
      ]

  taken_from_goes : (k : ℕ) (r : Ranked) → Holds P r → Going r.walk P (taken_from k r)
  taken_from_goes zero r h = taken0_goes r h
  taken_from_goes (suc zero) r h = taken1_goes r h
  taken_from_goes (suc (suc k)) r h = taken2_goes r h

  pushed_walk : (k : ℕ) (c : Side) (r : Ranked) → (ranked_pushed k c r).walk ≡ r.walk
  pushed_walk zero c r = refl
  pushed_walk (suc zero) c r = refl
  pushed_walk (suc (suc k)) c r = refl

  pushed_holds : (k : ℕ) (c : Side) (r : Ranked) → P c → Holds P r → Holds P (ranked_pushed k c r)
  pushed_holds zero c r p h = record { held0 = All-cons P c r.stack0 p h.held0; held1 = h.held1; held2 = h.held2 }
  pushed_holds (suc zero) c r p h = record { held0 = h.held0; held1 = All-cons P c r.stack1 p h.held1; held2 = h.held2 }
  pushed_holds (suc (suc k)) c r p h = record { held0 = h.held0; held1 = h.held1; held2 = All-cons P c r.stack2 p h.held2 }

  rated_holds : (labels : List ℕ) (r : Ranked) (c : Side) → Holds P r → Holds P (rated labels r c)
  rated_holds labels r c h = record { held0 = h.held0; held1 = h.held1; held2 = h.held2 }

  -- a corner to go on at
  abbrev Offered : Walk → Option Side → Type 0
  Offered w o = (d : Side) → o ≡ Some d → P d × (is_visited w d.face ≡ false)

  pub goes_there : (labels : List ℕ) (r : Ranked) (d : Side) → nat_le (rate labels r d) r.best ≡ true → turned_to labels r (Some d) ≡ (rated labels r d, Some d)
  goes_there labels r d e = ap (λ (b : Bool). let x : Ranked × Option Side = elim b [
    | true ↦ (rated labels r d, Some d)
    | false ↦ ranked_taken (ranked_pushed (rate labels r d) d (rated labels r d))
  ] in x) e

  pub goes_elsewhere : (labels : List ℕ) (r : Ranked) (d : Side) → nat_le (rate labels r d) r.best ≡ false → turned_to labels r (Some d) ≡ ranked_taken (ranked_pushed (rate labels r d) d (rated labels r d))
  goes_elsewhere labels r d e = ap (λ (b : Bool). let x : Ranked × Option Side = elim b [
    | true ↦ (rated labels r d, Some d)
    | false ↦ ranked_taken (ranked_pushed (rate labels r d) d (rated labels r d))
  ] in x) e

  after_push : (k : ℕ) (c : Side) (r : Ranked) → P c → Holds P r → Going r.walk P (ranked_taken (ranked_pushed k c r))
  after_push k c r p h = subst (λ (w : Walk). Going w P (ranked_taken (ranked_pushed k c r))) (pushed_walk k c r) (taken_from_goes (ranked_pushed k c r).best (ranked_pushed k c r) (pushed_holds k c r p h))

  turned_to_goes : (labels : List ℕ) (r : Ranked) (o : Option Side) → Holds P r → Offered r.walk o → Going r.walk P (turned_to labels r o)
  turned_to_goes labels r None h a = taken_from_goes r.best r h
  turned_to_goes labels r (Some d) h a = elim (cases_Bool (nat_le (rate labels r d) r.best)) [
    | inl t ↦ subst (Going r.walk P) (sym (goes_there labels r d t)) (record { walk = refl; holds = rated_holds labels r d h; next_is = a })
    | inr f ↦ subst (Going r.walk P) (sym (goes_elsewhere labels r d f)) (after_push (rate labels r d) d (rated labels r d) (a d refl).0 (rated_holds labels r d h))
  ]

  turned_goes : (labels : List ℕ) (r : Ranked) (o u : Option Side) → Holds P r → Offered r.walk o → Offered r.walk u → Going r.walk P (ranked_turned labels r o u)
  turned_goes labels r None u h a b = turned_to_goes labels r u h b
  turned_goes labels r (Some d) None h a b = turned_to_goes labels r (Some d) h a
  turned_goes labels r (Some d) (Some e) h a b =
      subst (λ (w : Walk). Going w P (turned_to labels (ranked_pushed (rate labels r d) d (rated labels r d)) (Some e))) (pushed_walk (rate labels r d) d (rated labels r d))
      (turned_to_goes labels (ranked_pushed (rate labels r d) d (rated labels r d)) (Some e) (pushed_holds (rate labels r d) d (rated labels r d) (a d refl).0 (rated_holds labels r d h))
      (subst (λ (w : Walk). Offered w (Some e)) (sym (pushed_walk (rate labels r d) d (rated labels r d))) b))

across_tells : (w : Walk) (o : Option Side) (d : Side) → unvisited_across w o ≡ Some d → (o ≡ Some d) × (is_visited w d.face ≡ false)
across_tells w None d e = absurd (none_some d e)
across_tells w (Some c) d e = elim (cases_Bool (is_visited w c.face)) [
  | inl t ↦ absurd (none_some d (sym (cond-true (is_visited w c.face) None (Some c) t) ∙ e))
  | inr f ↦ (let same : c ≡ d = Some_injective c d (sym (cond-false (is_visited w c.face) None (Some c) f) ∙ e) in (ap {A = Side} Some same, ap (λ (x : Side). is_visited w x.face) (sym same) ∙ f))
]

-- a visit, where the corners across have a property
visit_goes : (P : Side → Type 0) (g : Gluing) (labels : List ℕ) (r : Ranked) (c : Side) → Holds P r → ((d : Side) → g (prev c) ≡ Some d → P d) → ((d : Side) → g (next c) ≡ Some d → P d) →
    Going (entered labels r.walk c) P (ranked_visit g labels r c)
visit_goes P g labels r c h a b = turned_goes P labels (record r { walk = entered labels r.walk c }) (unvisited_across (entered labels r.walk c) (g (prev c))) (unvisited_across (entered labels r.walk c) (g (next c)))
    (record { held0 = h.held0; held1 = h.held1; held2 = h.held2 })
    (λ d e. (let t = across_tells (entered labels r.walk c) (g (prev c)) d e in (a d t.0, t.1)))
    (λ d e. (let t = across_tells (entered labels r.walk c) (g (next c)) d e in (b d t.0, t.1)))

-- the walk after a visit, and that it goes on at an unvisited face
abbrev Anything : Side → Type 0
Anything c = Unit {0}

anything_holds : (r : Ranked) → Holds Anything r
anything_holds r = record { held0 = all_any r.stack0; held1 = all_any r.stack1; held2 = all_any r.stack2 }
  where
    all_any : (cs : List Side) → All Anything cs
    all_any [] = All-nil Anything
    all_any (c ∷ cs) = All-cons Anything c cs tt (all_any cs)

pub visit_is : (g : Gluing) (labels : List ℕ) (r : Ranked) (c : Side) → Going (entered labels r.walk c) Anything (ranked_visit g labels r c)
visit_is g labels r c = visit_goes Anything g labels r c (anything_holds r) (λ d e. tt) (λ d e. tt)

module _ (g : Gluing) (labels : List ℕ) where
  pub visits_none : (r : Ranked) (c : Side) → visits g labels zero r c ≡ r
  unfolding visits
  visits_none r c = refl

  pub visits_end : (n : ℕ) (r : Ranked) (c : Side) → (ranked_visit g labels r c).1 ≡ None → visits g labels (suc n) r c ≡ (ranked_visit g labels r c).0
  unfolding visits
  visits_end n r c e = ap (λ (o : Option Side). let x : Ranked = elim o [ None ↦ (ranked_visit g labels r c).0 | Some d ↦ visits g labels n (ranked_visit g labels r c).0 d ] in x) e

  pub visits_go : (n : ℕ) (r : Ranked) (c d : Side) → (ranked_visit g labels r c).1 ≡ Some d → visits g labels (suc n) r c ≡ visits g labels n (ranked_visit g labels r c).0 d
  unfolding visits
  visits_go n r c d e = ap (λ (o : Option Side). let x : Ranked = elim o [ None ↦ (ranked_visit g labels r c).0 | Some z ↦ visits g labels n (ranked_visit g labels r c).0 z ] in x) e

  -- after a ranked_visit there is a face fewer, and the next corner's is unvisited
  fewer_after : (r s : Ranked) (c d : Side) → ranked_visit g labels r c ≡ (s, Some d) → is_visited r.walk c.face ≡ false → (unvisited s.walk.visited + 1 ≡ unvisited r.walk.visited) × (is_visited s.walk d.face ≡ false)
  fewer_after r s c d e f =
      let V = visit_is g labels r c in
      let same : s.walk ≡ entered labels r.walk c = sym (ap (λ (t : Ranked × Option Side). t.0.walk) e) ∙ V.walk in
      let next = (V.next_is d (ap (λ (t : Ranked × Option Side). t.1) e)).1 in (
        ap (λ (w : Walk). unvisited w.visited + 1) same ∙ one_fewer r.walk.visited c.face f,
        ap (λ (w : Walk). is_visited w d.face) same ∙ next,
      )

  fuel_there : (r : Ranked) (c : Side) → is_visited r.walk c.face ≡ false → unvisited r.walk.visited ≤ 0 → ⊥
  fuel_there r c f h = (let l = one_fewer r.walk.visited c.face f in absurd (omega arith))

  follows : {r q : Ranked} {c : Side} → Visits g labels r c q → (n : ℕ) → unvisited r.walk.visited ≤ n → is_visited r.walk c.face ≡ false → visits g labels n r c ≡ q
  follows (last {r} {q} {c} e) zero h f = absurd (fuel_there r c f h)
  follows (last {r} {q} {c} e) (suc n) h f = visits_end n r c (ap (λ (t : Ranked × Option Side). t.1) e) ∙ ap (λ (t : Ranked × Option Side). t.0) e
  follows (on {r} {s} {q} {c} {d} e k) zero h f = absurd (fuel_there r c f h)
  follows (on {r} {s} {q} {c} {d} e k) (suc n) h f =
      let t = fewer_after r s c d e f in
      let less = t.0 in
      visits_go n r c d (ap (λ (t : Ranked × Option Side). t.1) e) ∙ ap (λ (t : Ranked × Option Side). visits g labels n t.0 d) e ∙ follows k n (omega arith) t.1

  leads : (n : ℕ) (r : Ranked) (c : Side) → unvisited r.walk.visited ≤ n → is_visited r.walk c.face ≡ false → Visits g labels r c (visits g labels n r c)
  leads zero r c h f = absurd (fuel_there r c f h)
  leads (suc n) r c h f = elim (option_tells (ranked_visit g labels r c).1) [
    | inl e ↦ subst (Visits g labels r c) (sym (visits_end n r c e)) (last (ap (λ (o : Option Side). let x : Ranked × Option Side = ((ranked_visit g labels r c).0, o) in x) e))
    | inr d ↦ (
        let e : ranked_visit g labels r c ≡ ((ranked_visit g labels r c).0, Some d.0) = ap (λ (o : Option Side). let x : Ranked × Option Side = ((ranked_visit g labels r c).0, o) in x) d.1 in
        let t = fewer_after r (ranked_visit g labels r c).0 c d.0 e f in
        let less = t.0 in
        subst (Visits g labels r c) (sym (visits_go n r c d.0 d.1)) (on e (leads n (ranked_visit g labels r c).0 d.0 (omega arith) t.1)))
  ]

pub visits_are_relation : VisitsAreRelation
visits_are_relation g labels n r q c h f = (λ k. follows g labels k n h f, λ e. subst (Visits g labels r c) e (leads g labels n r c h f))

module _ (faces : ℕ) (g : Gluing) (labels : List ℕ) (count : ℕ) (ends : List Bool) (G : IsGluing faces g) (L : IsLabelled faces g labels count ends) where
  abbrev Ready : Walk → Side → Type 0
  Ready w c = IsReadyAt faces g labels count ends G L w c

  abbrev Covered : Walk → Type 0
  Covered w = IsCovered faces g labels count ends G L w

  -- all is covered, and what waits may be entered
  pub record IsHeld (r : Ranked) : Type 0 where
    pub covered : Covered r.walk
    pub waiting : Holds (Ready r.walk) r

  ready_more : {w v : Walk} → Grows labels w v → (c : Side) → Ready w c → Ready v c
  ready_more W c R = record { within = R.within; after = W.entries _ R.after; before = W.entries _ R.before }

  waiting_more : {w v : Walk} → Grows labels w v → (r : Ranked) → Holds (Ready w) r → Holds (Ready v) r
  waiting_more {w} {v} W r h = record {
    held0 = All-weaker (Ready w) (Ready v) (ready_more W) r.stack0 h.held0;
    held1 = All-weaker (Ready w) (Ready v) (ready_more W) r.stack1 h.held1;
    held2 = All-weaker (Ready w) (Ready v) (ready_more W) r.stack2 h.held2;
  }

  visit_holds : (r : Ranked) (c : Side) → IsHeld r → Ready r.walk c → Going (entered labels r.walk c) (Ready (entered labels r.walk c)) (ranked_visit g labels r c)
  visit_holds r c H R = visit_goes (Ready (entered labels r.walk c)) g labels r c (waiting_more (entered_grows labels r.walk c) r H.waiting)
      (λ d e. subst (Rattle.walk_order.proofs.Covering.IsReady faces g labels count ends G L (entered labels r.walk c)) e (entered_left faces g labels count ends G L r.walk c R))
      (λ d e. subst (Rattle.walk_order.proofs.Covering.IsReady faces g labels count ends G L (entered labels r.walk c)) e (entered_right faces g labels count ends G L r.walk c R))

  held_after : (r q : Ranked) (c : Side) → IsHeld r → Ready r.walk c → q.walk ≡ entered labels r.walk c → Holds (Ready (entered labels r.walk c)) q → IsHeld q
  held_after r q c H R e h = record {
    covered = subst Covered (sym e) (entered_covers faces g labels count ends G L r.walk c H.covered R);
    waiting = subst (λ (w : Walk). Holds (Ready w) q) (sym e) h;
  }

  -- visits keep all covered, and ranked_visit the first face
  pub record Visited (r q : Ranked) : Type 0 where
    pub held : IsHeld q
    pub grows : Grows labels r.walk q.walk

  visits_hold : (n : ℕ) (r : Ranked) (c : Side) → IsHeld r → Ready r.walk c → Visited r (visits g labels n r c) × (0 < n → is_visited (visits g labels n r c).walk c.face ≡ true)
  visits_hold zero r c H R = (subst (Visited r) (sym (visits_none g labels r c)) (record { held = H; grows = grows_refl labels r.walk }), λ h. absurd (omega arith))
  visits_hold (suc n) r c H R =
      let V = visit_holds r c H R in
      let step : Grows labels r.walk (ranked_visit g labels r c).0.walk = subst (Grows labels r.walk) (sym V.walk) (entered_grows labels r.walk c) in
      let here : is_visited (ranked_visit g labels r c).0.walk c.face ≡ true = ap (λ (w : Walk). is_visited w c.face) V.walk ∙ set_here r.walk.visited c.face in
      let held : IsHeld (ranked_visit g labels r c).0 = held_after r (ranked_visit g labels r c).0 c H R V.walk V.holds in
      elim (option_tells (ranked_visit g labels r c).1) [
        | inl e ↦ subst (λ (x : Ranked). Visited r x × (0 < suc n → is_visited x.walk c.face ≡ true)) (sym (visits_end g labels n r c e)) (record { held = held; grows = step }, λ h. here)
        | inr d ↦ subst (λ (x : Ranked). Visited r x × (0 < suc n → is_visited x.walk c.face ≡ true)) (sym (visits_go g labels n r c d.0 d.1)) (
            let t = visits_hold n (ranked_visit g labels r c).0 d.0 held (subst (λ (w : Walk). Ready w d.0) (sym V.walk) (V.next_is d.0 d.1).0) in
            (record { held = t.0.held; grows = grows_trans step t.0.grows }, λ h. t.0.grows.visited c.face here))
      ]

  -- the faces below a number are visited
  pub record IsRankedTo (n : ℕ) (r : Ranked) : Type 0 where
    pub held : IsHeld r
    pub all : (f : ℕ) → f < n → is_visited r.walk f ≡ true

  base_held : (f : ℕ) (r : Ranked) → IsHeld r → IsHeld (record r { walk = with_base labels r.walk f; best = 0 })
  base_held f r H = record {
    covered = base_covers faces g labels count ends G L r.walk f H.covered;
    waiting = (let h = waiting_more (base_grows labels r.walk f) r H.waiting in record { held0 = h.held0; held1 = h.held1; held2 = h.held2 });
  }

  from_ranked : (f : ℕ) → f < faces → (r : Ranked) → IsRankedTo f r → IsRankedTo (suc f) (ranked_from faces g labels f r)
  from_ranked f h r W = elim (cases_Bool (is_visited r.walk f)) [
    | inl t ↦ subst (IsRankedTo (suc f)) (sym (cond-true (is_visited r.walk f) r _ t)) (record {
      held = W.held;
      all = λ e l. elim (cases_eq e f) [ inl q ↦ ap (is_visited r.walk) q ∙ t | inr q ↦ W.all e (omega arith) ];
    })
    | inr u ↦ subst (IsRankedTo (suc f)) (sym (cond-false (is_visited r.walk f) r _ u)) (
        let t = visits_hold faces (record r { walk = with_base labels r.walk f; best = 0 }) (side f first) (base_held f r W.held) (base_ready faces g labels count ends G L r.walk f h) in
        record {
          held = t.0.held;
          all = λ e l. elim (cases_eq e f) [
            | inl q ↦ ap (is_visited (visits g labels faces (record r { walk = with_base labels r.walk f; best = 0 }) (side f first)).walk) q ∙ t.1 (omega arith)
            | inr q ↦ t.0.grows.visited e (W.all e (omega arith))
          ];
        })
  ]

  pub ranked_none : ranked faces g labels count zero ≡ unranked faces count
  unfolding ranked
  ranked_none = refl

  pub ranked_more : (f : ℕ) → ranked faces g labels count (suc f) ≡ ranked_from faces g labels f (ranked faces g labels count f)
  unfolding ranked
  ranked_more f = refl

  nothing_held : IsHeld (unranked faces count)
  nothing_held = record {
    covered = nothing_covered faces g labels count ends G L;
    waiting = record { held0 = All-nil (Ready (unwalked faces)); held1 = All-nil (Ready (unwalked faces)); held2 = All-nil (Ready (unwalked faces)) };
  }

  ranked_all : (n : ℕ) → n ≤ faces → IsRankedTo n (ranked faces g labels count n)
  ranked_all zero h = subst (IsRankedTo zero) (sym ranked_none) (record { held = nothing_held; all = λ f l. absurd (omega arith) })
  ranked_all (suc f) h = subst (IsRankedTo (suc f)) (sym (ranked_more f)) (from_ranked f (omega arith) (ranked faces g labels count f) (ranked_all f (omega arith)))

  from_grows : (f : ℕ) → f < faces → (r : Ranked) → IsRankedTo f r → Grows labels r.walk (ranked_from faces g labels f r).walk
  from_grows f h r W = elim (cases_Bool (is_visited r.walk f)) [
    | inl t ↦ subst (λ (x : Ranked). Grows labels r.walk x.walk) (sym (cond-true (is_visited r.walk f) r _ t)) (grows_refl labels r.walk)
    | inr u ↦ subst (λ (x : Ranked). Grows labels r.walk x.walk) (sym (cond-false (is_visited r.walk f) r _ u)) (
        grows_trans (base_grows labels r.walk f)
        (visits_hold faces (record r { walk = with_base labels r.walk f; best = 0 }) (side f first) (base_held f r W.held) (base_ready faces g labels count ends G L r.walk f h)).0.grows)
  ]

  ranked_apart : (n : ℕ) → n ≤ faces → AreApart labels (ranked faces g labels count n).walk.entries
  ranked_apart zero h = subst (λ (x : Ranked). AreApart labels x.walk.entries) (sym ranked_none) (nothing_apart faces g labels count ends G L)
  ranked_apart (suc f) h =
      subst (λ (x : Ranked). AreApart labels x.walk.entries) (sym (ranked_more f))
      ((from_grows f (omega arith) (ranked faces g labels count f) (ranked_all f (omega arith))).apart (ranked_apart f (omega arith)))

  -- every class has an entry in the order by prediction degree
  pub degree_has_all : AllHaveEntries labels (ranked faces g labels count faces).walk.entries count
  degree_has_all = (let W = ranked_all faces (omega arith) in all_have faces g labels count ends G L (ranked faces g labels count faces).walk W.held.covered W.all)

  pub degree_lists : ListsClasses labels count (prediction_degree_order faces g labels count)
  degree_lists = lists_classes faces g labels count ends G L (ranked faces g labels count faces).walk.entries degree_has_all (ranked_apart faces (omega arith))

pub prediction_degree_lists_classes : PredictionDegreeListsClasses
prediction_degree_lists_classes faces g labels count ends G L = degree_lists faces g labels count ends G L
