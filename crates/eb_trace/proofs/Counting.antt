-- Each symbol makes as many vertices as it brings fans, and S takes one away; interior start faces bring none.
use Rattle.std.proofs.Common.{◌≡◌, ◌≢◌, ℕ, zero, suc, ◌+◌, ◌-◌, ◌<◌, ◌≤◌, cond, Some, ◌⊎◌, inl, inr, sym, refl, ap, ◌∙◌, subst, arith}
use Rattle.corner_table.specs.declared.symbols.Symbol.{Symbol}
use Rattle.corner_table.specs.declared.symbols.Symbol.TheVariants.{C, S, L, R, E}
use Rattle.corner_table.specs.Sides.{Side, Place, first, second, third, side, next, prev, Gluing, glue}
use Rattle.corner_table.specs.Fans.{InFan}
use Rattle.corner_table.specs.Prefixes.{prefix, IsSurrounded, IsGap}
use Rattle.corner_table.proofs.Places.{Some_injective}
use Rattle.corner_table.proofs.Walks.{fan_sym, fan_trans}
use Rattle.corner_table.proofs.Gluings.{alike_after}
use Rattle.corner_table.proofs.Prefixing.{tells-prefix, gap, no_gap, prefix_within, prefix_whole, surrounded_more}
use Rattle.eb_trace.specs.Readable.{IsReadable, Says, IsPast, GoesOn, IsNewTip, IsSplit}
use Rattle.eb_machine.specs.Shown.{is_split}
use Rattle.eb_trace.specs.Front.{vertices_made, made_by}
use Rattle.eb_trace.proofs.Below.{by_place, adds_none, adds_one, adds_two, adds_three}
use Rattle.eb_trace.proofs.Merging.{IsMerging, merging_any}
use Rattle.eb_trace.proofs.Adding.{HasFans, IsBase, base_of, at_place, spread, spread_old, spread_new, spread_alike, fan_more, ends_meet, starts_meet, none_new, one_new, three_new}

module _ (faces : ℕ) (g : Gluing) (n : ℕ) (word : ℕ → Symbol) (T : IsReadable faces g n word) where
  -- what a symbol brings to k fans: as many as the vertices that it makes, but an S one fewer
  abbrev Brings : ℕ → ℕ → Symbol → Type 0
  Brings m k s = (l : ℕ) × HasFans (suc m) (prefix (suc m) g) l × (l + cond (is_split s) 1 0 ≡ k + vertices_made s)

  end_brings : (m k : ℕ) → m < n → HasFans m (prefix m g) k → IsPast g (side m second) → IsPast g (side m third) → Brings m k E
  end_brings m k h (f, N) b c = (k + 3, three_new faces g T.gluing m k f (base_of m g k f N) (adds_none T.gluing m (T.entered m h) b c), omega arith)

  -- two sides are glued, of one fan
  both_glued : (m k : ℕ) → m < n → (f : Side → ℕ) → IsBase m g k f → (r l : Side) → g (side m second) ≡ Some r → g (side m third) ≡ Some l → r.face < m → l.face < m → f (next r) ≡ f (prev l) → HasFans (suc m) (prefix (suc m) g) k
  both_glued m k h f B r l i j a b e = none_new faces g T.gluing m k f B (f (next r)) (f (next l)) (f (prev r)) alike (next r) (next l) (prev r) a b a
      (ends_meet (prefix (suc m) g) (side m second) r onto_r) (ends_meet (prefix (suc m) g) (side m third) l onto_l) (starts_meet (prefix (suc m) g) (side m second) r onto_r)
    where
      onto_r : prefix (suc m) g (side m second) ≡ Some r
      onto_r = tells-prefix (suc m) g (side m second) r (omega arith) (omega arith) i

      onto_l : prefix (suc m) g (side m third) ≡ Some l
      onto_l = tells-prefix (suc m) g (side m third) l (omega arith) (omega arith) j

      glued : prefix (suc m) g ≡ glue (side m third) l (glue (side m second) r (prefix m g))
      glued = adds_two T.gluing m (side m third) l (side m second) r refl b j refl a i
          (by_place (λ z. ((z ≡ side m third) ⊎ (z ≡ side m second)) ⊎ IsPast g z) m (inr (T.entered m h)) (inl (inr refl)) (inl (inl refl)))

      new : (p : Place) → spread m f (f (next r)) (f (next l)) (f (prev r)) (side m p) ≡ at_place p (f (next r)) (f (next l)) (f (prev r))
      new p = spread_new m f (f (next r)) (f (next l)) (f (prev r)) p

      old : (x : Side) → x.face < m → spread m f (f (next r)) (f (next l)) (f (prev r)) x ≡ f x
      old x o = spread_old m f (f (next r)) (f (next l)) (f (prev r)) x o

      inner : (c d : Side) → InFan (glue (side m second) r (prefix m g)) c d → spread m f (f (next r)) (f (next l)) (f (prev r)) c ≡ spread m f (f (next r)) (f (next l)) (f (prev r)) d
      inner c d p = alike_after (spread m f (f (next r)) (f (next l)) (f (prev r))) (side m second) r (spread_alike faces g T.gluing m k f B (f (next r)) (f (next l)) (f (prev r)))
          (new first ∙ sym (old (next r) a)) (new third ∙ sym (old (prev r) a)) p

      alike : (c d : Side) → InFan (prefix (suc m) g) c d → spread m f (f (next r)) (f (next l)) (f (prev r)) c ≡ spread m f (f (next r)) (f (next l)) (f (prev r)) d
      alike c d p = alike_after (spread m f (f (next r)) (f (next l)) (f (prev r))) (side m third) l inner
          (new second ∙ sym (old (next l) b)) (new first ∙ e ∙ sym (old (prev l) b)) (subst (λ (h : Gluing). InFan h c d) glued p)

  -- one side is glued: its corner has a fan of its own, and the two others come into fans that were there
  right_brings : (m k : ℕ) → m < n → HasFans m (prefix m g) k → IsPast g (side m second) → GoesOn g (side m third) → Brings m k R
  right_brings m k h (f, N) b o = (
    suc k,
    one_new faces g T.gluing m k f B (f (prev r)) (f (next r)) k alike first second third
        (by_place (λ x. (x ≡ side m first) ⊎ ((x ≡ side m second) ⊎ (x ≡ side m third))) m (inl refl) (inr (inl refl)) (inr (inr refl)))
        refl (N.bounded (prev r) less) (N.bounded (next r) less) (prev r) (next r) less less
        (starts_meet (prefix (suc m) g) (side m third) r onto) (ends_meet (prefix (suc m) g) (side m third) r onto),
    omega arith,
  )
    where
      B : IsBase m g k f
      B = base_of m g k f N

      r : Side
      r = side o.before first

      less : o.before < m
      less = let e : m ≡ suc o.before = o.is_before in omega arith

      onto : prefix (suc m) g (side m third) ≡ Some (side o.before first)
      onto = let l = less in tells-prefix (suc m) g (side m third) (side o.before first) (omega arith) (omega arith) o.onto

      glued : prefix (suc m) g ≡ glue (side m third) (side o.before first) (prefix m g)
      glued = adds_one T.gluing m (side m third) (side o.before first) refl less o.onto
          (by_place (λ z. (z ≡ side m third) ⊎ IsPast g z) m (inr (T.entered m h)) (inr b) (inl refl))

      new : (p : Place) → spread m f (f (prev r)) (f (next r)) k (side m p) ≡ at_place p (f (prev r)) (f (next r)) k
      new p = spread_new m f (f (prev r)) (f (next r)) k p

      old : (x : Side) → x.face < m → spread m f (f (prev r)) (f (next r)) k x ≡ f x
      old x l = spread_old m f (f (prev r)) (f (next r)) k x l

      alike : (c d : Side) → InFan (prefix (suc m) g) c d → spread m f (f (prev r)) (f (next r)) k c ≡ spread m f (f (prev r)) (f (next r)) k d
      alike c d p = alike_after (spread m f (f (prev r)) (f (next r)) k) (side m third) r (spread_alike faces g T.gluing m k f B (f (prev r)) (f (next r)) k)
          (new second ∙ sym (old (next r) less)) (new first ∙ sym (old (prev r) less)) (subst (λ (h : Gluing). InFan h c d) glued p)

  left_brings : (m k : ℕ) → m < n → HasFans m (prefix m g) k → GoesOn g (side m second) → IsPast g (side m third) → Brings m k L
  left_brings m k h (f, N) o b = (
    suc k,
    one_new faces g T.gluing m k f B (f (next r)) k (f (prev r)) alike first third second
        (by_place (λ x. (x ≡ side m first) ⊎ ((x ≡ side m third) ⊎ (x ≡ side m second))) m (inl refl) (inr (inr refl)) (inr (inl refl)))
        refl (N.bounded (next r) less) (N.bounded (prev r) less) (next r) (prev r) less less
        (ends_meet (prefix (suc m) g) (side m second) r onto) (starts_meet (prefix (suc m) g) (side m second) r onto),
    omega arith,
  )
    where
      B : IsBase m g k f
      B = base_of m g k f N

      r : Side
      r = side o.before first

      less : o.before < m
      less = let e : m ≡ suc o.before = o.is_before in omega arith

      onto : prefix (suc m) g (side m second) ≡ Some (side o.before first)
      onto = let l = less in tells-prefix (suc m) g (side m second) (side o.before first) (omega arith) (omega arith) o.onto

      glued : prefix (suc m) g ≡ glue (side m second) (side o.before first) (prefix m g)
      glued = adds_one T.gluing m (side m second) (side o.before first) refl less o.onto
          (by_place (λ z. (z ≡ side m second) ⊎ IsPast g z) m (inr (T.entered m h)) (inl refl) (inr b))

      new : (p : Place) → spread m f (f (next r)) k (f (prev r)) (side m p) ≡ at_place p (f (next r)) k (f (prev r))
      new p = spread_new m f (f (next r)) k (f (prev r)) p

      old : (x : Side) → x.face < m → spread m f (f (next r)) k (f (prev r)) x ≡ f x
      old x l = spread_old m f (f (next r)) k (f (prev r)) x l

      alike : (c d : Side) → InFan (prefix (suc m) g) c d → spread m f (f (next r)) k (f (prev r)) c ≡ spread m f (f (next r)) k (f (prev r)) d
      alike c d p = alike_after (spread m f (f (next r)) k (f (prev r))) (side m second) r (spread_alike faces g T.gluing m k f B (f (next r)) k (f (prev r)))
          (new first ∙ sym (old (next r) less)) (new third ∙ sym (old (prev r) less)) (subst (λ (h : Gluing). InFan h c d) glued p)

  -- C: the two sides meet one fan already
  tip_brings : (m k : ℕ) → m < n → HasFans m (prefix m g) k → IsNewTip g m → Brings m k C
  tip_brings m k h (f, N) t = go (gap m (side m first) T.gluing (omega arith) t.ring)
    where
      go : (x y : Side) × IsGap g m (side m first) x y → Brings m k C
      go (x, l, p) = (k, both_glued m k h f (base_of m g k f N) x l p.right_is p.left_is p.right_below p.left_below (N.one (next x) (prev l) p.right_below p.left_below p.meets), omega arith)

  -- S: two fans become one
  split_brings : (m k : ℕ) → m < n → HasFans m (prefix m g) k → IsSplit g m → Brings m k S
  split_brings m zero h (f, N) t = absurd (let b = N.bounded (prev t.across) t.below in omega arith)
  split_brings m (suc k) h (f, N) t = go (merging_any k (f (next r)) (f (prev l)) two (N.bounded (next r) less) (N.bounded (prev l) t.below))
    where
      r : Side
      r = side t.right.before first

      l : Side
      l = t.across

      less : t.right.before < m
      less = let e : m ≡ suc t.right.before = t.right.is_before in omega arith

      -- else the tip would be ringed
      two : f (next (side t.right.before first)) ≢ f (prev t.across)
      two e = t.met (no_gap m (side m first) r l T.gluing (omega arith) t.right.onto t.left less (N.fan (next r) (prev l) less t.below e))

      joined : InFan (prefix (suc m) g) (next (side t.right.before first)) (prev t.across)
      joined = (
          let w = less in
          let v = t.below in
          fan_trans
          (fan_sym (prefix_within (suc m) T.gluing) (ends_meet (prefix (suc m) g) (side m second) r (tells-prefix (suc m) g (side m second) r (omega arith) (omega arith) t.right.onto)))
          (starts_meet (prefix (suc m) g) (side m third) l (tells-prefix (suc m) g (side m third) l (omega arith) (omega arith) t.left)))

      go : (to : ℕ → ℕ) × IsMerging k (f (next (side t.right.before first))) (f (prev t.across)) to → Brings m (suc k) S
      go (to, M) = (k, both_glued m k h (λ c. to (f c)) base r l t.right.onto t.left less t.below M.meets, omega arith)
        where
          held : (c d : Side) → c.face < m → d.face < m → f c ≡ f d → InFan (prefix (suc m) g) c d
          held c d a b e = fan_more m g (N.fan c d a b e)

          base : IsBase m g k (λ c. to (f c))
          base = record {
            bounded = λ c a. M.bounded (f c) (N.bounded c a);
            used = λ j a. (let u = M.used j a in let v = N.used u.0 u.1 in (v.0, v.1, ap to v.2 ∙ u.2));
            one = λ c d a b p. ap to (N.one c d a b p);
            fan = λ c d a b e. elim (M.tells (f c) (f d) e) [
              | inl i ↦ held c d a b i
              | inr s ↦ elim s [
                | inl i ↦ fan_trans (held c (next r) a less i.0) (fan_trans joined (held (prev l) d t.below b (sym i.1)))
                | inr i ↦ fan_trans (held c (prev l) a t.below i.0) (fan_trans (fan_sym (prefix_within (suc m) T.gluing) joined) (held (next r) d less b (sym i.1)))
              ]
            ];
          }

  symbol_brings : (m k : ℕ) → m < n → HasFans m (prefix m g) k → Brings m k (word m)
  symbol_brings m k h H = go (word m) (T.symbols m h)
    where
      go : (s : Symbol) → Says g m s → Brings m k s
      go C t = tip_brings m k h H t
      go S t = split_brings m k h H t
      go L t = left_brings m k h H t.0 t.1
      go R t = right_brings m k h H t.0 t.1
      go E t = end_brings m k h H t.0 t.1

  -- an interior start face: each of its corners closes a fan
  pub interior_brings : (i k : ℕ) → n ≤ i → i < faces → HasFans i (prefix i g) k → HasFans (suc i) (prefix (suc i) g) k
  interior_brings i k h less (f, N) = go (gap i (side i first) T.gluing (omega arith) (ring first)) (gap i (side i second) T.gluing (omega arith) (ring second)) (gap i (side i third) T.gluing (omega arith) (ring third))
    where
      ring : (q : Place) → IsSurrounded g i (side i q)
      ring q = surrounded_more i (side i q) h ((T.interior i h less).rings q)

      go : (x y : Side) × IsGap g i (side i first) x y → (x y : Side) × IsGap g i (side i second) x y → (x y : Side) × IsGap g i (side i third) x y → HasFans (suc i) (prefix (suc i) g) k
      go (b, c, u) (c2, a2, v) (a, b2, w) = none_new faces g T.gluing i k f B (f (next b)) (f (next c)) (f (next a)) alike (next b) (next c) (next a) u.right_below u.left_below w.right_below
          (ends_meet (prefix (suc i) g) (side i second) b (onto second b u.right_is u.right_below)) (ends_meet (prefix (suc i) g) (side i third) c (onto third c u.left_is u.left_below)) (ends_meet (prefix (suc i) g) (side i first) a (onto first a w.right_is w.right_below))
        where
          B : IsBase i g k f
          B = base_of i g k f N

          onto : (q : Place) (x : Side) → g (side i q) ≡ Some x → x.face < i → prefix (suc i) g (side i q) ≡ Some x
          onto q x e l = tells-prefix (suc i) g (side i q) x (omega arith) (omega arith) e

          glued : prefix (suc i) g ≡ glue (side i third) c (glue (side i second) b (glue (side i first) a (prefix i g)))
          glued = adds_three T.gluing i a b c w.right_below u.right_below u.left_below w.right_is u.right_is u.left_is

          c_is : c2 ≡ c
          c_is = Some_injective _ _ (sym v.right_is ∙ u.left_is)

          a_is : a2 ≡ a
          a_is = Some_injective _ _ (sym v.left_is ∙ w.right_is)

          b_is : b2 ≡ b
          b_is = Some_injective _ _ (sym w.left_is ∙ u.right_is)

          at_first : f (next b) ≡ f (prev c)
          at_first = N.one (next b) (prev c) u.right_below u.left_below u.meets

          at_second : f (next c) ≡ f (prev a)
          at_second = ap (λ (x : Side). f (next x)) (sym c_is) ∙ N.one (next c2) (prev a2) v.right_below v.left_below v.meets ∙ ap (λ (x : Side). f (prev x)) a_is

          at_third : f (next a) ≡ f (prev b)
          at_third = N.one (next a) (prev b2) w.right_below w.left_below w.meets ∙ ap (λ (x : Side). f (prev x)) b_is

          new : (p : Place) → spread i f (f (next b)) (f (next c)) (f (next a)) (side i p) ≡ at_place p (f (next b)) (f (next c)) (f (next a))
          new p = spread_new i f (f (next b)) (f (next c)) (f (next a)) p

          old : (x : Side) → x.face < i → spread i f (f (next b)) (f (next c)) (f (next a)) x ≡ f x
          old x l = spread_old i f (f (next b)) (f (next c)) (f (next a)) x l

          inner : (x y : Side) → InFan (glue (side i first) a (prefix i g)) x y → spread i f (f (next b)) (f (next c)) (f (next a)) x ≡ spread i f (f (next b)) (f (next c)) (f (next a)) y
          inner x y p = alike_after (spread i f (f (next b)) (f (next c)) (f (next a))) (side i first) a (spread_alike faces g T.gluing i k f B (f (next b)) (f (next c)) (f (next a)))
              (new third ∙ sym (old (next a) w.right_below)) (new second ∙ at_second ∙ sym (old (prev a) w.right_below)) p

          middle : (x y : Side) → InFan (glue (side i second) b (glue (side i first) a (prefix i g))) x y → spread i f (f (next b)) (f (next c)) (f (next a)) x ≡ spread i f (f (next b)) (f (next c)) (f (next a)) y
          middle x y p = alike_after (spread i f (f (next b)) (f (next c)) (f (next a))) (side i second) b inner
              (new first ∙ sym (old (next b) u.right_below)) (new third ∙ at_third ∙ sym (old (prev b) u.right_below)) p

          alike : (x y : Side) → InFan (prefix (suc i) g) x y → spread i f (f (next b)) (f (next c)) (f (next a)) x ≡ spread i f (f (next b)) (f (next c)) (f (next a)) y
          alike x y p = alike_after (spread i f (f (next b)) (f (next c)) (f (next a))) (side i third) c middle
              (new second ∙ sym (old (next c) u.left_below)) (new first ∙ at_first ∙ sym (old (prev c) u.left_below)) (subst (λ (h : Gluing). InFan h x y) glued p)

  -- the S among the first symbols
  unfoldable pub splits_before : ℕ → ℕ
  splits_before zero = 0
  splits_before (suc m) = splits_before m + cond (is_split (word m)) 1 0

  made_none : made_by word 0 ≡ 0
  unfolding made_by
  made_none = refl

  made_more : (m : ℕ) → made_by word (suc m) ≡ made_by word m + vertices_made (word m)
  unfolding made_by
  made_more m = refl

  pub splits_none : splits_before 0 ≡ 0
  unfolding splits_before
  splits_none = refl

  pub splits_more : (m : ℕ) → splits_before (suc m) ≡ splits_before m + cond (is_split (word m)) 1 0
  unfolding splits_before
  splits_more m = refl

  -- the vertices made by the first symbols are the fans of what is built, and the S so far
  made_so_far : (m : ℕ) → m ≤ n → (k : ℕ) × HasFans m (prefix m g) k × (made_by word m ≡ k + splits_before m)
  made_so_far zero h = (
    0,
    (
      λ x. 0,
      record {
        bounded = λ c l. absurd (omega arith);
        used = λ j l. absurd (omega arith);
        one = λ c d a b p. refl;
        fan = λ c d a b e. absurd (omega arith);
      },
    ),
    let a = made_none in let b = splits_none in let e : made_by word 0 ≡ 0 + splits_before 0 = omega arith in e,
  )
  made_so_far (suc m) h =
      let t = made_so_far m (omega arith) in
      let u = symbol_brings m t.0 (omega arith) t.1 in
      let a = made_more m in
      let b = splits_more m in
      let x : made_by word m ≡ t.0 + splits_before m = t.2 in
      let y : u.0 + cond (is_split (word m)) 1 0 ≡ t.0 + vertices_made (word m) = u.2 in
      let e : made_by word (suc m) ≡ u.0 + splits_before (suc m) = omega arith in
      (u.0, u.1, e)

  -- interior start faces add none
  interiors : (d k : ℕ) → n + d ≤ faces → HasFans n (prefix n g) k → HasFans (n + d) (prefix (n + d) g) k
  interiors zero k h H = subst (λ (m : ℕ). HasFans m (prefix m g) k) (let e : n ≡ n + 0 = omega arith in e) H
  interiors (suc d) k h H =
      let e : suc (n + d) ≡ n + suc d = omega arith in
      subst (λ (m : ℕ). HasFans m (prefix m g) k) e (interior_brings (n + d) k (omega arith) (omega arith) (interiors d k (omega arith) H))

  -- the vertices made by all symbols are the fans of the table, and the S
  pub made_in_all : (k : ℕ) × HasFans faces g k × (made_by word n ≡ k + splits_before n)
  made_in_all = (
      let t = made_so_far n (omega arith) in
      let few = T.fewer in
      let e : n + (faces - n) ≡ faces = omega arith in
      (t.0, subst (λ (h : Gluing). HasFans faces h t.0) (prefix_whole T.gluing) (subst (λ (m : ℕ). HasFans m (prefix m g) t.0) e (interiors (faces - n) t.0 (omega arith) t.1)), t.2))
