-- A surface in the order of decoding is readable.
use Rattle.std.proofs.Common.{◌≡◌, ◌≢◌, ℕ, suc, ◌+◌, ◌-◌, ◌<◌, ◌≤◌, true, false, length, get_or, Some, None, option_map, ◌⊎◌, inl, inr, sym, refl, ap, ◌∙◌, subst, arith}
use Rattle.std.proofs.lemmas.Bool.{cases_eq}
use Rattle.std.proofs.lemmas.List.{get_or-map}
use Rattle.corner_table.specs.declared.symbols.Symbol.{Symbol}
use Rattle.corner_table.specs.declared.symbols.Symbol.TheVariants.{C, S, L, R, E}
use Rattle.corner_table.specs.Sides.{Side, Place, first, second, third, side, next, prev, place_after, place_before, Gluing, IsGluing}
use Rattle.corner_table.specs.Fans.{swing_left, InFan, HasThreeFans}
use Rattle.corner_table.specs.Carried.{carry, IsCarried}
use Rattle.corner_table.specs.Prefixes.{LeadsBelow, to_end, over, IsSurrounded}
use Rattle.corner_table.proofs.Places.{Some_injective, next-prev}
use Rattle.corner_table.proofs.Walks.{left_crosses, right_crosses}
use Rattle.corner_table.proofs.Carrying.{carry-next, carry-prev, carry_injective, carry_onto, carried_gluing, fans_carried}
use Rattle.eb_trace.specs.Readable.{IsPast, GoesOn, Says, IsInterior, IsReadable}
use Rattle.eb_trace.specs.Rebuilt.{word_symbol}
use Rattle.eb_trace.specs.Trace.{TracedEntry, trace, order_of, word_of}
use Rattle.eb_trace.proofs.Rings.{Through, at as stays, by as swings, Ring, ring_has, through_last}
use Rattle.eb_trace.proofs.Visited.{entry_at, no_entry, is_inside}
use Rattle.eb_trace.proofs.Log.{AfterEnd, GoesRight, InOrder, Gate, at_boundary, at_inside, after_right, after_left, after_kept, Seen, Later, SeenAcross, MetBefore, Settled}
use Rattle.eb_trace.proofs.Moments.{true_not_false}
use Rattle.eb_trace.proofs.Walked.{entries_of, insides_of, trace_ok}
use Rattle.eb_trace.proofs.Order.{at, entry_of, first_is, second_is, third_is, inner_is, facts_of, order_facts, Numbered, of_symbol, of_inside, numbered, face_of, inside_is, total_is, renumbers}

next_not_prev : (x : Side) → next x ≢ prev x
next_not_prev x e = go x.place (ap (λ (s : Side). s.place) e)
  where
    go : (p : Place) → place_after p ≡ place_before p → ⊥
    go first q = cc
    go second q = cc
    go third q = cc

after_is_second : (p : Place) → place_after p ≡ second → p ≡ first
after_is_second first e = refl
after_is_second second e = absurd (cc)
after_is_second third e = absurd (cc)

module _ (faces : ℕ) (g : Gluing) (G : IsGluing faces g) (F : HasThreeFans faces g) (h : Gluing) (K : IsCarried faces g (order_of (trace faces g)) h) where
  abbrev pub n : ℕ
  n = length (entries_of faces g)

  abbrev pub m : ℕ
  m = length (insides_of faces g)

  abbrev pub cor : ℕ → Side
  cor k = at faces g G F k

  abbrev pub sym_of : ℕ → Symbol
  sym_of k = (entry_at (entries_of faces g) k).symbol

  abbrev pub φ : Side → Side
  φ x = carry (order_of (trace faces g)) x

  pub H : IsGluing faces h
  H = carried_gluing G K

  pub gates_of : (k : ℕ) → k < n → Gate g cor sym_of (insides_of faces g) k (cor k)
  gates_of k l = (trace_ok faces g G F).0.logged.gates k l

  pub apart_of : (i j : ℕ) → i < n → j < n → (cor i).face ≡ (cor j).face → i ≡ j
  apart_of i j a b e = (trace_ok faces g G F).0.logged.apart i j a b e

  pub outside_of : (k : ℕ) → k < n → is_inside (insides_of faces g) (cor k).face ≡ false
  outside_of k l = (trace_ok faces g G F).0.logged.outside k l

  settled_of : (k : ℕ) → k < n → Settled g cor (insides_of faces g) n k (sym_of k)
  settled_of k l = (trace_ok faces g G F).0.settled k l

  last_of : AfterEnd sym_of n
  last_of = (trace_ok faces g G F).0.last

  -- pairs both ways
  pub down : (x y : Side) → h x ≡ Some y → g (φ x) ≡ Some (φ y)
  down x y e = (let w = K.within x y e in (K.pairs x y w.0 w.1).0 e)

  pub up : (x z : Side) → x.face < faces → g (φ x) ≡ Some z → (y : Side) × (y.face < faces) × (φ y ≡ z) × (h x ≡ Some y)
  up x z l e =
      let t = carry_onto (renumbers faces g G F) z (G.within z (φ x) (G.paired (φ x) z e)) in
      (t.0, t.1, t.2, (K.pairs x t.0 l t.1).1 (e ∙ ap {A = Side} Some (sym t.2)))

  pub up_to : (x y : Side) → x.face < faces → y.face < faces → g (φ x) ≡ Some (φ y) → h x ≡ Some y
  up_to x y l k e = (K.pairs x y l k).1 e

  -- a decoded face of a number at least n is an interior start face
  pub number_of : (i : ℕ) → i < faces → Numbered faces g G F i
  number_of i l = (let t = total_is faces g G F in numbered faces g G F i (omega arith))

  -- a face of a symbol has a number below n
  pub symbol_face : (y k : ℕ) → y < faces → k < n → (cor k).face ≡ face_of faces g G F y → suc (y + k) ≡ n
  symbol_face y k l b e = go (number_of y l)
    where
      go : Numbered faces g G F y → suc (y + k) ≡ n
      go (of_symbol j a c) = (let s : k ≡ j = apart_of k j b (omega arith) (e ∙ c) in omega arith)
      go (of_inside q r s c d) = absurd (true_not_false (is_inside (insides_of faces g) (cor k).face) (ap (is_inside (insides_of faces g)) (e ∙ d) ∙ inside_is (insides_of faces g) r (omega arith)) (outside_of k b))

  pub inside_face : (y f : ℕ) → y < faces → is_inside (insides_of faces g) f ≡ true → f ≡ face_of faces g G F y → n ≤ y
  inside_face y f l i e = go (number_of y l)
    where
      go : Numbered faces g G F y → n ≤ y
      go (of_symbol j a c) = absurd (true_not_false (is_inside (insides_of faces g) (cor j).face) (ap (is_inside (insides_of faces g)) (sym c ∙ sym e) ∙ i) (outside_of j (omega arith)))
      go (of_inside q r s c d) = omega arith

  -- what was seen before a number is of a later decoded face
  seen_later : (i k : ℕ) → suc (i + k) ≡ n → (y : Side) → y.face < faces → Seen cor (insides_of faces g) k (φ y).face → i < y.face
  seen_later i k e y l s = elim s [
    | inl t ↦ (let a = t.1 in let b = symbol_face y.face t.0 l (omega arith) t.2 in omega arith)
    | inr t ↦ (let b = inside_face y.face (φ y).face l t refl in omega arith)
  ]

  later_below : (i k : ℕ) → suc (i + k) ≡ n → (y : Side) → y.face < faces → Later cor n k (φ y).face → y.face < i
  later_below i k e y l t = (let a = t.1 in let b = symbol_face y.face t.0 l t.2 t.3 in omega arith)

  past : (i k : ℕ) → suc (i + k) ≡ n → (x : Side) → x.face ≡ i → SeenAcross g cor (insides_of faces g) k (φ x) → IsPast h x
  past i k e x f s y q = (let w = K.within x y q in let r = seen_later i k e y w.1 (s (φ y) (down x y q)) in omega arith)

  -- each gate was seen
  gate_seen : (k : ℕ) → k < n → SeenAcross g cor (insides_of faces g) k (cor k)
  gate_seen k l y e = go (gates_of k l)
    where
      by_face : (j : ℕ) (x : Side) → j < k → x.face ≡ (cor j).face → g (cor k) ≡ Some x → Seen cor (insides_of faces g) k y.face
      by_face j x a f q = inl (j, a, sym f ∙ ap (λ (s : Side). s.face) (Some_injective _ _ (sym q ∙ e)))

      go : Gate g cor sym_of (insides_of faces g) k (cor k) → Seen cor (insides_of faces g) k y.face
      go (at_boundary a q) = absurd (let no : None ≡ Some y = sym q ∙ e in cc)
      go (at_inside f a i q) = inr (ap (λ (s : Side). is_inside (insides_of faces g) s.face) (Some_injective _ _ (sym e ∙ q)) ∙ i)
      go (after_right j a r q) = by_face j (next (cor j)) (omega arith) refl q
      go (after_left j a r q) = by_face j (prev (cor j)) (omega arith) refl q
      go (after_kept i a b s q o) = by_face i (prev (cor i)) (omega arith) refl q

  -- what follows a symbol that isn't an E
  follows : (k : ℕ) → k < n → (sym_of k ≡ E → ⊥) → suc k < n
  follows k l ne = elim (cases_eq (suc k) n) [ inl e ↦ absurd (ne (last_of k (sym e))) | inr q ↦ omega arith ]

  right_not_end : (s : Symbol) → GoesRight s → s ≡ E → ⊥
  right_not_end C r e = cc
  right_not_end S r e = cc
  right_not_end L r e = cc
  right_not_end R r e = r
  right_not_end E r e = r

  right_not_left : (s : Symbol) → GoesRight s → s ≡ R → ⊥
  right_not_left C r e = cc
  right_not_left S r e = cc
  right_not_left L r e = cc
  right_not_left R r e = r
  right_not_left E r e = r

  went_right : (k : ℕ) → k < n → GoesRight (sym_of k) → (suc k < n) × (g (next (cor k)) ≡ Some (cor (suc k)))
  went_right k l r = (follows k l (right_not_end (sym_of k) r), G.paired (cor (suc k)) (next (cor k)) (go (gates_of (suc k) (follows k l (right_not_end (sym_of k) r)))))
    where
      go : Gate g cor sym_of (insides_of faces g) (suc k) (cor (suc k)) → g (cor (suc k)) ≡ Some (next (cor k))
      go (at_boundary a q) = absurd (right_not_end (sym_of k) r (a k refl))
      go (at_inside f a i q) = absurd (right_not_end (sym_of k) r (a k refl))
      go (after_right j a s q) = q ∙ ap (λ (i : ℕ). Some (next (cor i))) (let e : j ≡ k = omega arith in e)
      go (after_left j a s q) = absurd (right_not_left (sym_of k) r (ap sym_of (let e : k ≡ j = omega arith in e) ∙ s))
      go (after_kept i a b s q o) = absurd (right_not_end (sym_of k) r (a k refl))

  went_left : (k : ℕ) → k < n → sym_of k ≡ R → (suc k < n) × (g (prev (cor k)) ≡ Some (cor (suc k)))
  went_left k l r = (follows k l not_end, G.paired (cor (suc k)) (prev (cor k)) (go (gates_of (suc k) (follows k l not_end))))
    where
      not_end : sym_of k ≡ E → ⊥
      not_end e = (let no : R ≡ E = sym r ∙ e in cc)

      go : Gate g cor sym_of (insides_of faces g) (suc k) (cor (suc k)) → g (cor (suc k)) ≡ Some (prev (cor k))
      go (at_boundary a q) = absurd (not_end (a k refl))
      go (at_inside f a i q) = absurd (not_end (a k refl))
      go (after_right j a s q) = absurd (right_not_left (sym_of j) s (ap sym_of (let e : j ≡ k = omega arith in e) ∙ r))
      go (after_left j a s q) = q ∙ ap (λ (i : ℕ). Some (prev (cor i))) (let e : j ≡ k = omega arith in e)
      go (after_kept i a b s q o) = absurd (not_end (a k refl))

  within_n : (i k : ℕ) → suc (i + k) ≡ n → i < faces
  within_n i k e = (let t = total_is faces g G F in omega arith)

  -- a pair that leads on
  goes_on : (i k : ℕ) → suc (i + k) ≡ n → (x : Side) → x.face ≡ i → suc k < n → g (φ x) ≡ Some (cor (suc k)) → GoesOn h x
  goes_on i k e x f l q =
      let b = i - 1 in
      let s : suc (b + suc k) ≡ n = omega arith in
      let w = within_n i k e in
      let v = within_n b (suc k) s in
      record { before = b; is_before = (let r : i ≡ suc b = omega arith in f ∙ r); onto = up_to x (side b first) (omega arith) v (q ∙ ap {A = Side} Some (sym (first_is faces g G F b (suc k) s))) }

  -- rings in the new numbers
  swing_up : (c d : Side) → c.face < faces → swing_left g (φ c) ≡ Some d → (e : Side) × (e.face < faces) × (φ e ≡ d) × (swing_left h c ≡ Some e)
  swing_up c d l s =
      let q : g (φ (next c)) ≡ Some (prev d) = ap g (carry-next (order_of (trace faces g)) c) ∙ left_crosses g (φ c) d s in
      let t = up (next c) (prev d) l q in
      (next t.0, t.1, carry-next (order_of (trace faces g)) t.0 ∙ ap next t.2 ∙ next-prev d, ap (option_map next) t.3)

  walk_up : (P : Side → Type 0) (bound : ℕ) → ((x : Side) → x.face < faces → P (φ x) → x.face < bound) → {c d : Side} → Through g P c d → (x : Side) → x.face < faces → φ x ≡ c →
      (x.face < bound) × (y : Side) × (y.face < faces) × (φ y ≡ d) × ((z : Side) → swing_left h y ≡ Some z → LeadsBelow h bound x z)
  walk_up P bound small (stays {c = c} p) x l e = (small x l (subst P (sym e) p), x, l, e, λ z s. to_end s)
  walk_up P bound small (swings {c = c} {d = z} p s w) x l e =
      let t = swing_up x z l (ap (swing_left g) e ∙ s) in
      let u = walk_up P bound small w t.0 t.1 t.2 in
      (small x l (subst P (sym e) p), u.1, u.2, u.3, λ z q. over t.3 u.0 (u.4 z q))

  ring_up : (P : Side → Type 0) (bound : ℕ) → ((x : Side) → x.face < faces → P (φ x) → x.face < bound) → (c : Side) → c.face < faces → (d : Side) → φ c ≡ d → Ring g P d → IsSurrounded h bound c
  ring_up P bound small c l d e r =
      let t = swing_up c r.from l (ap (swing_left g) e ∙ r.leaves) in
      let u = walk_up P bound small r.round t.0 t.1 t.2 in
      let v = swing_up u.1 d u.2 (ap (swing_left g) u.3 ∙ r.returns) in
      let back : v.0 ≡ c = carry_injective (renumbers faces g G F) v.0 c v.1 l (v.2 ∙ sym e) in
      over t.3 u.0 (u.4 c (v.3 ∙ ap {A = Side} Some back))

  -- and back: the last corner before the end of a walk
  through_of : (bound : ℕ) {c d : Side} → LeadsBelow h bound c d → c.face < bound → (e : Side) × Through h (λ x. x.face < bound) c e × (swing_left h e ≡ Some d)
  through_of bound (to_end {c = c} s) l = (c, stays l, s)
  through_of bound (over s k w) l = let t = through_of bound w k in (t.0, swings l s t.1, t.2)

  ring_from : (bound : ℕ) (c : Side) → IsSurrounded h bound c → Ring h (λ x. x.face < bound) c
  ring_from bound c r = go r
    where
      go : LeadsBelow h bound c c → Ring h (λ x. x.face < bound) c
      go (to_end s) = absurd (H.apart (next c) (prev c) (left_crosses h c c s) refl)
      go (over {d = d} s k w) = let t = through_of bound w k in record { from = d; to = t.0; leaves = s; round = t.1; returns = t.2 }

  -- a vertex that was met before is no ring of later faces
  no_ring : (i k : ℕ) → suc (i + k) ≡ n → MetBefore g cor (insides_of faces g) k → IsSurrounded h i (side i first) → ⊥
  no_ring i k e (d, p, why) r =
      let w = within_n i k e in
      let t = carry_onto (renumbers faces g G F) d (Rattle.eb_trace.proofs.Visited.fan_within G p ((trace_ok faces g G F).0.logged.bounded k (omega arith))) in
      let q : InFan h (side i first) t.0 = (fans_carried G (renumbers faces g G F) K (side i first) t.0 w t.1).1
      (subst (InFan g (φ (side i first))) (sym t.2) (subst (λ (x : Side). InFan g x d) (sym (first_is faces g G F i k e)) p)) in
      let has = ring_has H (λ x. x.face < i) (side i first) t.0 (ring_from i (side i first) r) q in
      elim why [
        | inl none ↦ (
            let y = has.1 in
            let o = down (next t.0) (prev y.0) (left_crosses h t.0 y.0 y.1) in
            let no : None ≡ Some (φ (prev y.0)) = sym none ∙ ap g (ap next (sym t.2) ∙ sym (carry-next (order_of (trace faces g)) t.0)) ∙ o in cc)
        | inr o ↦ elim o [
          | inl none ↦ (
              let y = has.2 in
              let o = down (prev t.0) (next y.0) (right_crosses h t.0 y.0 y.1) in
              let no : None ≡ Some (φ (next y.0)) = sym none ∙ ap g (ap prev (sym t.2) ∙ sym (carry-prev (order_of (trace faces g)) t.0)) ∙ o in cc)
          | inr seen ↦ (
              let s = seen_later i k e t.0 t.1 (subst (λ (x : Side). Seen cor (insides_of faces g) k x.face) (sym t.2) seen) in
              elim has.0 [
                | inl same ↦ (let f : t.0.face ≡ i = ap (λ (x : Side). x.face) same in omega arith)
                | inr less ↦ (omega arith)
              ])
        ]
      ]

  -- what lies to the left of a symbol, where it is the corner of a symbol
  gate_of_left : (k j : ℕ) → k < n → j < n → g (prev (cor k)) ≡ Some (cor j) → (sym_of k ≡ R) ⊎ ((sym_of k ≡ S) × InOrder g cor k j)
  gate_of_left k j l u e = go (gates_of j u)
    where
      back : g (cor j) ≡ Some (prev (cor k))
      back = G.paired (prev (cor k)) (cor j) e

      go : Gate g cor sym_of (insides_of faces g) j (cor j) → (sym_of k ≡ R) ⊎ ((sym_of k ≡ S) × InOrder g cor k j)
      go (at_boundary a q) = absurd (let no : None ≡ Some (prev (cor k)) = sym q ∙ back in cc)
      go (at_inside f a i q) = absurd (true_not_false (is_inside (insides_of faces g) (cor k).face)
          (ap (λ (s : Side). is_inside (insides_of faces g) s.face) (Some_injective _ _ (sym back ∙ q)) ∙ i) (outside_of k l))
      go (after_right i a s q) = absurd (
          let same : next (cor i) ≡ prev (cor k) = Some_injective _ _ (sym q ∙ back) in
          let number : i ≡ k = apart_of i k (omega arith) l (ap (λ (s : Side). s.face) same) in
          next_not_prev (cor k) (ap (λ (x : ℕ). next (cor x)) (sym number) ∙ same))
      go (after_left i a s q) = inl (
          let same : prev (cor i) ≡ prev (cor k) = Some_injective _ _ (sym q ∙ back) in
          let number : i ≡ k = apart_of i k (omega arith) l (ap (λ (s : Side). s.face) same) in
          ap sym_of (sym number) ∙ s)
      go (after_kept i a b s q o) = inr (
          let same : prev (cor i) ≡ prev (cor k) = Some_injective _ _ (sym q ∙ back) in
          let number : i ≡ k = apart_of i k (omega arith) l (ap (λ (s : Side). s.face) same) in
          (ap sym_of (sym number) ∙ s, subst (λ (x : ℕ). InOrder g cor x j) number o))

  -- a decoded side 0 below n is the corner of a symbol
  pub first_corner : (y : Side) → y.face < n → y.place ≡ first → (j : ℕ) × (suc (y.face + j) ≡ n) × (φ y ≡ cor j)
  first_corner y l p =
      let j = n - suc y.face in
      let e : suc (y.face + j) ≡ n = omega arith in
      (j, e, ap (λ (q : Place). φ (side y.face q)) p ∙ first_is faces g G F y.face j e)

  says : (i k : ℕ) → suc (i + k) ≡ n → (s : Symbol) → sym_of k ≡ s → Settled g cor (insides_of faces g) n k s → Says h i s
  says i k e C q ring =
      let l : k < n = omega arith in
      let w = within_n i k e in
      let r = went_right k l (subst GoesRight (sym q) tt) in
      record {
        right = goes_on i k e (side i second) refl r.0 (ap g (second_is faces g G F i k e) ∙ r.1);
        ring = ring_up (λ d. Later cor n k d.face) i (λ x b t. later_below i k e x b t) (side i first) w (cor k) (first_is faces g G F i k e) ring;
        left = λ y a p. (
            let z = K.within (side i third) y a in
            let o : g (prev (cor k)) ≡ Some (φ y) = ap g (sym (third_is faces g G F i k e)) ∙ down (side i third) y a in
            let to : g (prev (cor k)) ≡ Some (next ring.to) = G.paired (next ring.to) (prev (cor k)) (left_crosses g ring.to (cor k) ring.returns) in
            let below = later_below i k e y z.1 (subst (λ (f : ℕ). Later cor n k f) (ap (λ (s : Side). s.face) (Some_injective _ _ (sym to ∙ o))) (through_last ring.round)) in
            let c = first_corner y (omega arith) p in
            elim (gate_of_left k c.0 l (let d = c.1 in omega arith) (o ∙ ap {A = Side} Some c.2)) [
              | inl t ↦ (let no : C ≡ R = sym q ∙ t in cc)
              | inr t ↦ (let no : C ≡ S = sym q ∙ t.0 in cc)
            ]);
      }
  says i k e S q (x, a, later, met) =
      let l : k < n = omega arith in
      let w = within_n i k e in
      let r = went_right k l (subst GoesRight (sym q) tt) in
      let t = up (side i third) x w (ap g (third_is faces g G F i k e) ∙ a) in
      record {
        right = goes_on i k e (side i second) refl r.0 (ap g (second_is faces g G F i k e) ∙ r.1);
        met = no_ring i k e met;
        across = t.0;
        left = t.3;
        below = later_below i k e t.0 t.1 (subst (λ (z : Side). Later cor n k z.face) (sym t.2) later);
        kept_last = λ p j b c. (
            let under = later_below i k e t.0 t.1 (subst (λ (z : Side). Later cor n k z.face) (sym t.2) later) in
            let y = first_corner t.0 (omega arith) p in
            let ye = y.1 in
            elim (gate_of_left k y.0 l (omega arith) (a ∙ ap {A = Side} Some (sym t.2 ∙ y.2))) [
              | inl u ↦ absurd (let no : S ≡ R = sym q ∙ u in cc)
              | inr u ↦ (
                  let lj = n - suc j in
                  let le : suc (j + lj) ≡ n = omega arith in
                  let o = u.1 lj (omega arith) (omega arith) in
                  let o1 = o.1 in
                  let o2 = o.2 in
                  let v = up (side j first) o.3 (omega arith) (ap g (first_is faces g G F j lj le) ∙ o.4) in
                  (v.0, v.3, later_below i k e v.0 v.1 (o.0, o1, omega arith, sym o.5 ∙ ap (λ (s : Side). s.face) (sym v.2))))
            ]);
      }
  says i k e L q s =
      let l : k < n = omega arith in
      let r = went_right k l (subst GoesRight (sym q) tt) in
      (goes_on i k e (side i second) refl r.0 (ap g (second_is faces g G F i k e) ∙ r.1), past i k e (side i third) refl (subst (SeenAcross g cor (insides_of faces g) k) (sym (third_is faces g G F i k e)) s))
  says i k e R q s =
      let l : k < n = omega arith in
      let r = went_left k l q in
      (past i k e (side i second) refl (subst (SeenAcross g cor (insides_of faces g) k) (sym (second_is faces g G F i k e)) s), goes_on i k e (side i third) refl r.0 (ap g (third_is faces g G F i k e) ∙ r.1))
  says i k e E q s = (
    past i k e (side i second) refl (subst (SeenAcross g cor (insides_of faces g) k) (sym (second_is faces g G F i k e)) s.0),
    past i k e (side i third) refl (subst (SeenAcross g cor (insides_of faces g) k) (sym (third_is faces g G F i k e)) s.1),
  )

  -- interior start faces
  inner_at : (f : ℕ) → n ≤ f → f < faces → (r : ℕ) × (r < m) × (suc (f + r) ≡ n + m) × ((p : Place) → φ (side f p) ≡ side (get_or (insides_of faces g) r 0) (place_after p))
  inner_at f a b =
      let t = total_is faces g G F in
      let q = f - n in
      let r = m - suc q in
      let e : suc (q + r) ≡ m = omega arith in
      let s : f ≡ n + q = omega arith in
      (r, omega arith, omega arith, λ p. ap (λ (x : ℕ). φ (side x p)) s ∙ inner_is faces g G F q r p e)

  run_number : (f a : ℕ) (z : Side) → a < n → f < faces → φ (side f first) ≡ z → g z ≡ Some (cor a) → h (side f first) ≡ Some (side (n - suc a) first)
  run_number f a z l b e q =
      let s : suc ((n - suc a) + a) ≡ n = omega arith in
      up_to (side f first) (side (n - suc a) first) b (within_n (n - suc a) a s) (ap g e ∙ q ∙ ap {A = Side} Some (sym (first_is faces g G F (n - suc a) a s)))

  inner_ok : (f : ℕ) → n ≤ f → f < faces → IsInterior h n f
  inner_ok f a b =
      let t = inner_at f a b in
      let I = facts_of faces g G F t.0 t.1 in
      let l = I.is_run in
      record {
        run = n - suc I.run;
        is_run = omega arith;
        begins = run_number f I.run (side (get_or (insides_of faces g) t.0 0) second) I.is_run b (t.3 first) I.across;
        rings = λ p. ring_up (λ d. (j : ℕ) × (j < n) × ((cor j).face ≡ d.face)) n (λ x c s. (let d = symbol_face x.face s.0 c s.1 s.2 in omega arith)) (side f p) b (side (get_or (insides_of faces g) t.0 0) (place_after p)) (t.3 p) (I.rings (place_after p));
      }

  starts_ok : (j : ℕ) (y : Side) → j < n → h (side j first) ≡ Some y → n ≤ y.face → y.place ≡ first
  starts_ok j y l e a =
      let k = n - suc j in
      let s : suc (j + k) ≡ n = omega arith in
      let w = K.within (side j first) y e in
      let t = inner_at y.face a w.1 in
      go k t.0 t.1 (omega arith) (ap g (sym (first_is faces g G F j k s)) ∙ down (side j first) y e ∙ ap {A = Side} Some (t.3 y.place)) (gates_of k (omega arith))
    where
      go : (k r : ℕ) → r < m → k < n → g (cor k) ≡ Some (side (get_or (insides_of faces g) r 0) (place_after y.place)) → Gate g cor sym_of (insides_of faces g) k (cor k) → y.place ≡ first
      go k r b c q gate = elim gate [
        | at_boundary a o ↦ absurd (let no : None ≡ Some (side (get_or (insides_of faces g) r 0) (place_after y.place)) = sym o ∙ q in cc)
        | at_inside f a i o ↦ after_is_second y.place (ap (λ (x : Side). x.place) (Some_injective _ _ (sym q ∙ o)))
        | after_right i a u o ↦ absurd (wrong i (omega arith) (next (cor i)) refl o)
        | after_left i a u o ↦ absurd (wrong i (omega arith) (prev (cor i)) refl o)
        | after_kept i a d u o v ↦ absurd (wrong i (omega arith) (prev (cor i)) refl o)
      ]
        where
          wrong : (i : ℕ) → i < n → (x : Side) → x.face ≡ (cor i).face → g (cor k) ≡ Some x → ⊥
          wrong i d x f o = true_not_false (is_inside (insides_of faces g) (cor i).face)
              (ap (is_inside (insides_of faces g)) (sym f ∙ ap (λ (z : Side). z.face) (Some_injective _ _ (sym o ∙ q))) ∙ inside_is (insides_of faces g) r b) (outside_of i d)

  order_ok : (e f i j : ℕ) → n ≤ e → e < f → h (side e first) ≡ Some (side i first) → h (side f first) ≡ Some (side j first) → j < i
  order_ok e f i j a b p q =
      let w = K.within (side f first) (side j first) q in
      let f_less : f < faces = w.0 in
      let te = inner_at e a (omega arith) in
      let tf = inner_at f (omega arith) f_less in
      let se = te.2 in
      let sf = tf.2 in
      let o = order_facts faces g G F tf.0 te.0 (omega arith) te.1 in
      let l1 = o.2 in
      let l2 = o.3 in
      let rf = run_number f o.0 (side (get_or (insides_of faces g) tf.0 0) second) l2 f_less (tf.3 first) o.4 in
      let re = run_number e o.1 (side (get_or (insides_of faces g) te.0 0) second) (omega arith) (omega arith) (te.3 first) o.5 in
      let jj : j ≡ n - suc o.0 = ap (λ (x : Side). x.face) (Some_injective _ _ (sym q ∙ rf)) in
      let ii : i ≡ n - suc o.1 = ap (λ (x : Side). x.face) (Some_injective _ _ (sym p ∙ re)) in
      omega arith

  -- the word by numbers
  pub word_is : (i k : ℕ) → suc (i + k) ≡ n → word_symbol (word_of (trace faces g)) i ≡ sym_of k
  word_is i k e = get_or-map (λ (x : TracedEntry). x.symbol) (entries_of faces g) i no_entry E (omega arith) ∙ ap (λ (x : TracedEntry). x.symbol) (entry_of (entries_of faces g) i k e)

  pub readable : IsReadable faces h n (word_symbol (word_of (trace faces g)))
  readable = record {
    gluing = H;
    fewer = (let t = total_is faces g G F in omega arith);
    entered = λ i l. (
        let k = n - suc i in
        let e : suc (i + k) ≡ n = omega arith in
        past i k e (side i first) refl (subst (SeenAcross g cor (insides_of faces g) k) (sym (first_is faces g G F i k e)) (gate_seen k (omega arith))));
    symbols = λ i l. (
        let k = n - suc i in
        let e : suc (i + k) ≡ n = omega arith in
        subst (Says h i) (sym (word_is i k e)) (says i k e (sym_of k) refl (settled_of k (omega arith))));
    interior = inner_ok;
    starts = starts_ok;
    order = order_ok;
  }
