-- The way round a vertex comes to an end, and has then been at each corner of the fan.
use Rattle.std.proofs.Common.{◌≡◌, ℕ, zero, suc, ◌*◌, ◌<◌, ◌≤◌, true, false, List, [], ◌∷◌, length, Option, Some, None, ◌⊎◌, inl, inr, sym, subst, ◌∙◌, ap, arith, option_map}
use Rattle.std.specs.List.{Contains}
use Rattle.std.proofs.lemmas.Bool.{cases_Bool, cond-false}
use Rattle.std.proofs.lemmas.List.Elements.{All-weaker, All-contains, Contains-get_or, Contains-append_right}
use Rattle.corner_table.specs.Sides.{Side, same, Gluing, IsGluing}
use Rattle.corner_table.specs.Fans.{swing_left, swing_right, left_by, right_by, InFan}
use Rattle.corner_table.proofs.Places.{option_tells, same-true}
use Rattle.corner_table.proofs.Walks.{left_none, left_by-zero, right_by-zero, left_last, left_split, right_split, left_back, left_then_right, Trail, trail}
use Rattle.predict.specs.Gathered.{Turn, turn_at, turn_on, leftwards_from, round_from}
use Rattle.predict.proofs.Rounds.{all_but_last, round_none, Near, round_is, apart_at, few_corners}
use Rattle.laws_order.specs.Rounds.{ListsFan, RoundIsFan, RoundHasFuel}

contains_first : (c : Side) (cs : List Side) (d : Side) → c ≡ d → Contains (c ∷ cs) d
contains_first c cs d e = subst (λ (x : Side). Contains (c ∷ cs) x) e (Contains-get_or (c ∷ cs) 0 d (omega arith))

contains_later : (c : Side) (cs : List Side) (d : Side) → Contains cs d → Contains (c ∷ cs) d
contains_later c cs d h = Contains-append_right (c ∷ []) cs d h

module _ (g : Gluing) (s : Side) where
  -- the way from there on comes to its end within n corners
  abbrev Stops : ℕ → Option Turn → Type 0
  Stops n t = length (round_from g s (suc n) t) ≤ n

  -- then more fuel changes nothing
  pub settled : (n m : ℕ) (t : Option Turn) → Stops n t → n ≤ m → round_from g s m t ≡ round_from g s n t
  unfolding round_from
  settled n m None h l = round_none g s m ∙ sym (round_none g s n)
  settled zero m (Some t) h l = absurd (omega arith)
  settled (suc n) zero (Some t) h l = absurd (omega arith)
  settled (suc n) (suc m) (Some t) h l = ap (λ (cs : List Side). t.at ∷ cs) (settled n m (turn_on g s t) (omega arith) (omega arith))

  no_stop : (t : Turn) → Stops zero (Some t) → ⊥
  unfolding round_from
  no_stop t h = absurd (omega arith)

  stops_later : (n : ℕ) (t : Turn) (o : Option Turn) → Stops (suc n) (Some t) → turn_on g s t ≡ o → Stops n o
  unfolding round_from
  stops_later n t o h e = subst (Stops n) e (omega arith)

  meets_here : (n : ℕ) (t : Turn) (d : Side) → t.at ≡ d → Contains (round_from g s (suc n) (Some t)) d
  unfolding round_from
  meets_here n t d e = contains_first t.at (round_from g s n (turn_on g s t)) d e

  meets_later : (n : ℕ) (t : Turn) (o : Option Turn) (d : Side) → turn_on g s t ≡ o → Contains (round_from g s n o) d → Contains (round_from g s (suc n) (Some t)) d
  unfolding round_from
  meets_later n t o d e h = contains_later t.at (round_from g s n (turn_on g s t)) d (subst (λ (x : Option Turn). Contains (round_from g s n x) d) (sym e) h)

  -- on the way to the right all that is to the right is met
  right_meets : (n b : ℕ) (c d : Side) → Stops n (Some (turn_at c false)) → right_by g b c ≡ Some d → Contains (round_from g s n (Some (turn_at c false))) d
  right_meets zero b c d h p = absurd (no_stop (turn_at c false) h)
  right_meets (suc n) zero c d h p = meets_here n (turn_at c false) d (right_by-zero g c d p)
  right_meets (suc n) (suc b) c d h p =
      let t = right_split g b c d p in
      let goes : turn_on g s (turn_at c false) ≡ Some (turn_at t.0 false) = ap (option_map (λ (x : Side). turn_at x false)) t.1 in
      meets_later n (turn_at c false) (Some (turn_at t.0 false)) d goes (right_meets n b t.0 d (stops_later n (turn_at c false) (Some (turn_at t.0 false)) h goes) t.2)

  -- a swing to the left that does not come to the start
  left_goes : (c e : Side) → swing_left g c ≡ Some e → same e s ≡ false → turn_on g s (turn_at c true) ≡ Some (turn_at e true)
  left_goes c e p f = ap (leftwards_from g s) p ∙ cond-false (same e s) None (Some (turn_at e true)) f

  -- on the way to the left all that is to the left is met, up to the start
  left_meets : (n k : ℕ) (c d : Side) → Stops n (Some (turn_at c true)) → left_by g k c ≡ Some d →
      Contains (round_from g s n (Some (turn_at c true))) d ⊎ ((j : ℕ) × (j < k) × (left_by g j s ≡ Some d))
  left_meets zero k c d h p = absurd (no_stop (turn_at c true) h)
  left_meets (suc n) zero c d h p = inl (meets_here n (turn_at c true) d (left_by-zero g c d p))
  left_meets (suc n) (suc k) c d h p =
      let t = left_split g k c d p in
      elim (cases_Bool (same t.0 s)) [
        | inl e ↦ inr (k, omega arith, ap (left_by g k) (sym (same-true t.0 s e)) ∙ t.2)
        | inr e ↦ later t.0 (left_goes c t.0 t.1 e) (left_meets n k t.0 d (stops_later n (turn_at c true) (Some (turn_at t.0 true)) h (left_goes c t.0 t.1 e)) t.2)
      ]
    where
      later : (e : Side) → turn_on g s (turn_at c true) ≡ Some (turn_at e true) → Contains (round_from g s n (Some (turn_at e true))) d ⊎ ((j : ℕ) × (j < k) × (left_by g j s ≡ Some d)) →
          Contains (round_from g s (suc n) (Some (turn_at c true))) d ⊎ ((j : ℕ) × (j < suc k) × (left_by g j s ≡ Some d))
      later e goes (inl x) = inl (meets_later n (turn_at c true) (Some (turn_at e true)) d goes x)
      later e goes (inr x) = inr (x.0, (let l = x.1 in omega arith), x.2)

  -- from the start all that is to the left is met
  left_all : (n most k : ℕ) (d : Side) → Stops n (Some (turn_at s true)) → k ≤ most → left_by g k s ≡ Some d → Contains (round_from g s n (Some (turn_at s true))) d
  left_all n zero k d h l p = elim (left_meets n k s d h p) [ inl x ↦ x | inr x ↦ absurd (let m = x.1 in omega arith) ]
  left_all n (suc most) k d h l p = elim (left_meets n k s d h p) [ inl x ↦ x | inr x ↦ left_all n most x.0 d h (let m = x.1 in omega arith) x.2 ]

  -- the way to the left comes back to the start, or all that is to the right of the start is met after it
  left_turns : (n i : ℕ) (c : Side) → left_by g i s ≡ Some c → Stops n (Some (turn_at c true)) →
      ((b : ℕ) (d : Side) → right_by g (suc b) s ≡ Some d → Contains (round_from g s n (Some (turn_at c true))) d) ⊎ ((p : ℕ) × (left_by g (suc p) s ≡ Some s))
  left_turns zero i c m h = absurd (no_stop (turn_at c true) h)
  left_turns (suc n) i c m h = elim (option_tells (swing_left g c)) [
    | inl e ↦ inl (after e)
    | inr x ↦ elim (cases_Bool (same x.0 s)) [
      | inl t ↦ inr (i, left_last g i s c x.0 m x.1 ∙ ap {A = Side} Some (same-true x.0 s t))
      | inr f ↦ later x.0 (left_goes c x.0 x.1 f) (left_turns n (suc i) x.0 (left_last g i s c x.0 m x.1) (stops_later n (turn_at c true) (Some (turn_at x.0 true)) h (left_goes c x.0 x.1 f)))
    ]
  ]
    where
      after : swing_left g c ≡ None → (b : ℕ) (d : Side) → right_by g (suc b) s ≡ Some d → Contains (round_from g s (suc n) (Some (turn_at c true))) d
      after e b d p =
          let t = right_split g b s d p in
          let goes : turn_on g s (turn_at c true) ≡ Some (turn_at t.0 false) = ap (leftwards_from g s) e ∙ ap (option_map (λ (x : Side). turn_at x false)) t.1 in
          meets_later n (turn_at c true) (Some (turn_at t.0 false)) d goes (right_meets n b t.0 d (stops_later n (turn_at c true) (Some (turn_at t.0 false)) h goes) t.2)

      later : (e : Side) → turn_on g s (turn_at c true) ≡ Some (turn_at e true) →
          ((b : ℕ) (d : Side) → right_by g (suc b) s ≡ Some d → Contains (round_from g s n (Some (turn_at e true))) d) ⊎ ((p : ℕ) × (left_by g (suc p) s ≡ Some s)) →
          ((b : ℕ) (d : Side) → right_by g (suc b) s ≡ Some d → Contains (round_from g s (suc n) (Some (turn_at c true))) d) ⊎ ((p : ℕ) × (left_by g (suc p) s ≡ Some s))
      later e goes (inl f) = inl (λ b d p. meets_later n (turn_at c true) (Some (turn_at e true)) d goes (f b d p))
      later e goes (inr x) = inr x

  -- where the way to the left comes back to the start, what is to the right is to the left too
  back_one : {faces : ℕ} → IsGluing faces g → (j : ℕ) (x y : Side) → left_by g (suc j) s ≡ Some x → swing_right g x ≡ Some y → left_by g j s ≡ Some y
  back_one {faces} G j x y p q =
      let t = all_but_last g j s x p in
      t.1 ∙ sym (left_then_right G t.0 x t.2) ∙ q

  ring_back : {faces : ℕ} → IsGluing faces g → (p : ℕ) → left_by g (suc p) s ≡ Some s → (b j : ℕ) (x d : Side) → left_by g j s ≡ Some x → right_by g b x ≡ Some d → (q : ℕ) × (left_by g q s ≡ Some d)
  ring_back {faces} G p ring zero j x d m r = (j, m ∙ ap {A = Side} Some (right_by-zero g x d r))
  ring_back {faces} G p ring (suc b) zero x d m r =
      let t = right_split g b x d r in
      let y = back_one G p x t.0 (ring ∙ sym (left_none g s) ∙ m) t.1 in
      ring_back G p ring b p t.0 d y t.2
  ring_back {faces} G p ring (suc b) (suc j) x d m r =
      let t = right_split g b x d r in
      let y = back_one G j x t.0 m t.1 in
      ring_back G p ring b j t.0 d y t.2

  -- each corner of the fan is met
  fan_met : {faces : ℕ} → IsGluing faces g → (n : ℕ) (d : Side) → Stops n (Some (turn_at s true)) → InFan g s d → Contains (round_from g s n (Some (turn_at s true))) d
  fan_met {faces} G n d h f = (let t : Trail g s d = trail G f in elim t.1 [ inl p ↦ left_all n t.0 t.0 d h (omega arith) p | inr p ↦ right t.0 (left_back G t.0 d s p) ])
    where
      right : (k : ℕ) → right_by g k s ≡ Some d → Contains (round_from g s n (Some (turn_at s true))) d
      right zero p = left_all n zero zero d h (omega arith) (left_none g s ∙ ap {A = Side} Some (right_by-zero g s d p))
      right (suc b) p = elim (left_turns n zero s (left_none g s) h) [
        | inl m ↦ m b d p
        | inr r ↦ (let q = ring_back G r.0 r.1 (suc b) zero s d (left_none g s) p in left_all n q.0 q.0 d h (omega arith) q.1)
      ]

  -- the fuel is enough
  pub stops : {faces : ℕ} → IsGluing faces g → s.face < faces → (n : ℕ) → n ≡ 3 * faces → Stops n (Some (turn_at s true))
  stops {faces} G h n e =
      let R = round_is G s h (suc n) in
      let few = few_corners faces (round_from g s (suc n) (Some (turn_at s true))) (All-weaker (Near faces g s) (λ c. c.face < faces) (λ c N. N.within) (round_from g s (suc n) (Some (turn_at s true))) R.near) R.apart in
      omega arith

  pub lists_fan : {faces : ℕ} → IsGluing faces g → s.face < faces → (n : ℕ) → n ≡ 3 * faces → ListsFan g s (round_from g s n (Some (turn_at s true)))
  lists_fan {faces} G h n e =
      let R = round_is G s h n in
      record {
        each = λ d. (fan_met G n d (stops G h n e), λ k. (All-contains (Near faces g s) (round_from g s n (Some (turn_at s true))) d R.near k).in_fan);
        once = λ i j p q x. apart_at (round_from g s n (Some (turn_at s true))) i j s R.apart p q x;
      }

pub round_is_fan : RoundIsFan
round_is_fan faces w G O c h = lists_fan w.gluing c G h (length w.entries) O.each_corner

pub round_has_fuel : RoundHasFuel
round_has_fuel faces w G O c h n l = settled w.gluing c (length w.entries) n (Some (turn_at c true)) (stops w.gluing c G h (length w.entries) O.each_corner) l
