-- The walk with a stack: each turn leaves the walks that wait as the recursion has them, and the measure falls.
use Rattle.std.proofs.Common.{◌≡◌, ℕ, ◌+◌, ◌*◌, ◌<◌, ◌≤◌, Bool, true, false, cond, List, [], ◌∷◌, length, Option, Some, None, ◌⊎◌, inl, inr, sym, refl, ap, ◌∙◌, arith}
use Rattle.std.proofs.lemmas.Bool.{cases_Bool, cond-true, cond-false}
use Rattle.corner_table.specs.Sides.{Side, next, prev, Gluing}
use Rattle.walk_order.specs.Visits.{Walk, is_visited, unvisited, entered}
use Rattle.walk_order.specs.DepthFirst.{goes_right_alone, walk}
use Rattle.walk_order.specs.Stored.{before, turn_step, walks_in_turn}
use Rattle.walk_order.proofs.Fuel.{walk_missing, walk_met, one_turn, one_fewer, left_of}

-- corners that wait, as many as there are at most
before_length : (o : Option Side) (cs : List Side) → length (before o cs) ≤ length cs + 1
before_length None cs = omega arith
before_length (Some c) cs = omega arith

waiting_length : (b : Bool) (o : Option Side) (cs : List Side) → length (cond b cs (before o cs)) ≤ length cs + 1
waiting_length true o cs = omega arith
waiting_length false o cs = before_length o cs

before_left : (b : Bool) (o : Option Side) (cs : List Side) → cond b cs (before o cs) ≡ before (cond b None o) cs
before_left true o cs = refl
before_left false o cs = refl

module _ (g : Gluing) (labels : List ℕ) (ends : List Bool) where
  turn_met : (w : Walk) (cs : List Side) (c : Side) → is_visited w c.face ≡ true → turn_step g labels ends w cs c ≡ (w, cs, None)
  turn_met w cs c e = cond-true (is_visited w c.face) (w, cs, None) _ e

  turn_goes : (w : Walk) (cs : List Side) (c : Side) → is_visited w c.face ≡ false →
      turn_step g labels ends w cs c ≡ (entered labels w c, cond (goes_right_alone labels ends w c) cs (before (g (prev c)) cs), g (next c))
  turn_goes w cs c e = cond-false (is_visited w c.face) (w, cs, None) _ e

  in_turn : (n : ℕ) (w : Walk) (c : Side) (cs : List Side) → walks_in_turn g labels ends n w (c ∷ cs) ≡ walks_in_turn g labels ends n (walk g labels ends n w (Some c)) cs
  unfolding walks_in_turn
  in_turn n w c cs = refl

  pub in_turn_none : (n : ℕ) (w : Walk) → walks_in_turn g labels ends n w [] ≡ w
  unfolding walks_in_turn
  in_turn_none n w = refl

  in_turn_before : (n : ℕ) (w : Walk) (o : Option Side) (cs : List Side) → walks_in_turn g labels ends n w (before o cs) ≡ walks_in_turn g labels ends n (walk g labels ends n w o) cs
  in_turn_before n w None cs = ap (λ (v : Walk). walks_in_turn g labels ends n v cs) (sym (walk_missing g labels ends n w))
  in_turn_before n w (Some c) cs = in_turn n w c cs

  -- a walk from one corner
  pub in_turn_one : (n : ℕ) (w : Walk) (c : Side) → walk g labels ends n w (Some c) ≡ walks_in_turn g labels ends n w (c ∷ [])
  in_turn_one n w c = sym (in_turn n w c [] ∙ in_turn_none n (walk g labels ends n w (Some c)))

  -- a turn_step keeps what all that waits comes to
  pub turn_walks : (n : ℕ) (w : Walk) (cs : List Side) (c : Side) (t : Walk × List Side × Option Side) → unvisited w.visited ≤ n → turn_step g labels ends w cs c ≡ t →
      walks_in_turn g labels ends n w (c ∷ cs) ≡ walks_in_turn g labels ends n t.0 (before t.2 t.1)
  turn_walks n w cs c t h e = in_turn n w c cs ∙ elim (cases_Bool (is_visited w c.face)) [
    | inl v ↦ ap (λ (u : Walk). walks_in_turn g labels ends n u cs) (walk_met g labels ends n w c v) ∙ ap (λ (x : Walk × List Side × Option Side). walks_in_turn g labels ends n x.0 (before x.2 x.1)) (sym (turn_met w cs c v) ∙ e)
    | inr v ↦
        ap (λ (u : Walk). walks_in_turn g labels ends n u cs) (one_turn g labels ends n w c h v)
        ∙ sym (in_turn_before n (walk g labels ends n (entered labels w c) (g (next c))) (left_of g labels ends w c) cs)
        ∙ ap (walks_in_turn g labels ends n (walk g labels ends n (entered labels w c) (g (next c)))) (sym (before_left (goes_right_alone labels ends w c) (g (prev c)) cs))
        ∙ sym (in_turn_before n (entered labels w c) (g (next c)) (cond (goes_right_alone labels ends w c) cs (before (g (prev c)) cs)))
        ∙ ap (λ (x : Walk × List Side × Option Side). walks_in_turn g labels ends n x.0 (before x.2 x.1)) (sym (turn_goes w cs c v) ∙ e)
  ]

  -- and makes the measure smaller, unless no corner is given to go on at
  pub turn_falls : (w : Walk) (cs : List Side) (c : Side) (t : Walk × List Side × Option Side) → turn_step g labels ends w cs c ≡ t →
      (2 * unvisited t.0.visited + length t.1 < 2 * unvisited w.visited + length cs) ⊎ ((2 * unvisited t.0.visited + length t.1 ≤ 2 * unvisited w.visited + length cs) × (t.2 ≡ None))
  turn_falls w cs c t e = elim (cases_Bool (is_visited w c.face)) [
    | inl v ↦ inr (
        let q = sym (turn_met w cs c v) ∙ e in
        let a = ap (λ (x : Walk × List Side × Option Side). 2 * unvisited x.0.visited + length x.1) q in
        ((let b : 2 * unvisited t.0.visited + length t.1 ≤ 2 * unvisited w.visited + length cs = omega arith in b), sym (ap (λ (x : Walk × List Side × Option Side). x.2) q)))
    | inr v ↦ inl (
        let q = sym (turn_goes w cs c v) ∙ e in
        let a = ap (λ (x : Walk × List Side × Option Side). 2 * unvisited x.0.visited + length x.1) q in
        let l = waiting_length (goes_right_alone labels ends w c) (g (prev c)) cs in
        let f = one_fewer w.visited c.face v in
        (let b : 2 * unvisited t.0.visited + length t.1 < 2 * unvisited w.visited + length cs = omega arith in b))
  ]
