-- Each symbol takes the state before its face to the state after it.
use Rattle.std.proofs.Common.{◌≡◌, ◌≢◌, ℕ, suc, ◌+◌, ◌-◌, ◌<◌, ◌≤◌, List, ◌∷◌, Option, Some, None, Ok, ◌⊎◌, inl, inr, sym, refl, ap, ◌∙◌, subst, arith, ◌==◌, eq-eqb, ne_eqb}
use Rattle.std.proofs.lemmas.Bool.{cases_eq, cond-true, cond-false}
use mathlib.Core.Path.{fun_ext}
use Rattle.corner_table.specs.declared.symbols.Symbol.{Symbol}
use Rattle.corner_table.specs.declared.symbols.Symbol.TheVariants.{C, S, L, R, E}
use Rattle.corner_table.specs.Sides.{Side, Place, first, second, third, side, next, prev, Gluing, glue, IsFree}
use Rattle.corner_table.specs.Fans.{InFan, side_before}
use Rattle.corner_table.specs.Prefixes.{prefix, IsGap}
use Rattle.corner_table.proofs.Places.{Some_injective}
use Rattle.corner_table.proofs.Walks.{fan_sym}
use Rattle.corner_table.proofs.Boundary.{side_before-follows}
use Rattle.corner_table.proofs.Prefixing.{tells-prefix, prefix-free, gap, no_gap, prefix_within, gap_before}
use Rattle.eb_machine.specs.Machine.{State, step, top, pushed, release}
use Rattle.eb_machine.specs.Shown.{is_split}
use Rattle.eb_machine.proofs.Steps.{Next, same_state, top_free, end_steps, right_steps, left_steps, tip_steps, split_steps}
use Rattle.eb_trace.specs.Readable.{IsReadable, Says, IsPast, GoesOn, IsNewTip, IsSplit}
use Rattle.eb_trace.specs.Front.{free_firsts, waiting_side, reserved_for, events_left, made_by, vertices_made, front}
use Rattle.eb_trace.proofs.Below.{by_place, unchanged_but, adds_none, adds_one, adds_two}
use Rattle.eb_trace.proofs.Waiting.{firsts_free, firsts_glued, firsts_alike, firsts_skip, firsts_last, firsts_unlast, past_free}
use Rattle.eb_trace.proofs.Reserved.{reserved_early, reserved_unsplit, reserved_is, reserved_stays, waiting_here, waiting_entry}
use Rattle.eb_trace.proofs.Events.{notes_face, tells_none}

made_more : (word : ℕ → Symbol) (m : ℕ) (s : Symbol) → word m ≡ s → made_by word m + vertices_made s ≡ made_by word (suc m)
unfolding made_by
made_more word m s e = ap (λ (x : Symbol). made_by word m + vertices_made x) (sym e)

module _ (faces : ℕ) (g : Gluing) (n : ℕ) (word : ℕ → Symbol) (T : IsReadable faces g n word) where
  -- the new side 0 waits on top
  stack_new : (m : ℕ) → m < n → free_firsts (prefix (suc m) g) (suc m) ≡ side m first ∷ free_firsts (prefix (suc m) g) m
  stack_new m h = firsts_free (prefix (suc m) g) m (past_free (suc m) g (side m first) (omega arith) (omega arith) (T.entered m h))

  -- E: nothing is glued
  end_law : (m : ℕ) → m < n → word m ≡ E → IsPast g (side m second) → IsPast g (side m third) → step n E (front n g word m) ≡ Ok (front n g word (suc m))
  end_law m h e b c =
      let glued : prefix m g ≡ prefix (suc m) g = sym (adds_none T.gluing m (T.entered m h) b c) in
      let stack : side m first ∷ free_firsts (prefix m g) m ≡ free_firsts (prefix (suc m) g) (suc m) = ap (λ (k : Gluing). side m first ∷ free_firsts k m) glued ∙ sym (stack_new m h) in
      end_steps n (front n g word m) (events_left n g word (n - suc m)) (reserved_for n g word (suc m)) (notes_face faces g n word T m h (ap is_split e))
      ∙ ap {A = State} (λ s. let x : Next = Ok s in x) (same_state refl glued stack refl refl (made_more word m E e) refl)

  -- the top side, across which the walk went on
  top_glued : (m : ℕ) (k : Place) (r : GoesOn g (side m k)) → prefix m g (side r.before first) ≡ None
  top_glued m k r = prefix-free m g (side r.before first) (side m k) (T.gluing.paired (side m k) (side r.before first) r.onto) (omega arith)

  stack_before : (m : ℕ) (k : Place) (r : GoesOn g (side m k)) → free_firsts (prefix m g) m ≡ side r.before first ∷ free_firsts (prefix m g) r.before
  stack_before m k r = firsts_last (prefix m g) m r.before r.is_before (top_glued m k r)

  top_is : (m : ℕ) (k : Place) (r : GoesOn g (side m k)) → top m (prefix m g) (free_firsts (prefix m g) m) ≡ Ok (side r.before first, free_firsts (prefix m g) r.before)
  top_is m k r = ap (top m (prefix m g)) (stack_before m k r) ∙ top_free m (prefix m g) (side r.before first) (free_firsts (prefix m g) r.before) (top_glued m k r)

  before_less : (m : ℕ) (k : Place) (r : GoesOn g (side m k)) → r.before < m
  before_less m k r = (let e : m ≡ suc r.before = r.is_before in omega arith)

  -- it is glued by the new face
  top_gone : (m : ℕ) (k : Place) (r : GoesOn g (side m k)) → prefix (suc m) g (side r.before first) ≡ Some (side m k)
  top_gone m k r = (let l = before_less m k r in tells-prefix (suc m) g (side r.before first) (side m k) (omega arith) (omega arith) (T.gluing.paired (side m k) (side r.before first) r.onto))

  stack_after : (m : ℕ) → m < n → (k : Place) (r : GoesOn g (side m k)) → free_firsts (prefix (suc m) g) (suc m) ≡ side m first ∷ free_firsts (prefix (suc m) g) r.before
  stack_after m h k r = stack_new m h ∙ ap (λ (t : List Side). side m first ∷ t) (firsts_unlast (prefix (suc m) g) m r.before (side m k) r.is_before (top_gone m k r))

  -- a side 0 of an earlier face that the new face isn't glued to
  alike : (m : ℕ) (Glued : Side → Type 0) → ((x : Side) → x.face ≡ m → Glued x ⊎ IsPast g x) → ((x : Side) → Glued x → x.face ≡ m) → (j : ℕ) → j < m → ((y : Side) → Glued y → g y ≡ Some (side j first) → ⊥) →
      prefix (suc m) g (side j first) ≡ prefix m g (side j first)
  alike m Glued new own j h n = unchanged_but T.gluing m Glued new (side j first) (λ q. (let e : j ≡ m = own (side j first) q in omega arith)) (λ y e q. n y q (T.gluing.paired (side j first) y e))

  -- L and R: the top is glued, and no more
  one_new : (m : ℕ) (k : Place) → ((z : Side) → z.face ≡ m → (z ≡ side m k) ⊎ IsPast g z) → (r : GoesOn g (side m k)) → glue (side m k) (side r.before first) (prefix m g) ≡ prefix (suc m) g
  one_new m k new r = sym (adds_one T.gluing m (side m k) (side r.before first) refl (before_less m k r) r.onto new)

  one_stack : (m : ℕ) → m < n → (k : Place) → ((z : Side) → z.face ≡ m → (z ≡ side m k) ⊎ IsPast g z) → (r : GoesOn g (side m k)) →
      side m first ∷ free_firsts (prefix m g) r.before ≡ free_firsts (prefix (suc m) g) (suc m)
  one_stack m h k new r = sym (stack_after m h k r ∙ ap (λ (t : List Side). side m first ∷ t) (firsts_alike (prefix (suc m) g) (prefix m g) r.before same))
    where
      same : (j : ℕ) → j < r.before → prefix (suc m) g (side j first) ≡ prefix m g (side j first)
      same j l =
          let less = before_less m k r in
          alike m (λ w. w ≡ side m k) new (λ x q. ap (λ (s : Side). s.face) q) j (omega arith)
          (λ y q e. (let f : j ≡ r.before = ap (λ (s : Side). s.face) (Some_injective _ _ (sym e ∙ ap g q ∙ r.onto)) in omega arith))

  right_law : (m : ℕ) → m < n → word m ≡ R → IsPast g (side m second) → GoesOn g (side m third) → step n R (front n g word m) ≡ Ok (front n g word (suc m))
  right_law m h e b r =
      let new : (z : Side) → z.face ≡ m → (z ≡ side m third) ⊎ IsPast g z = by_place (λ z. (z ≡ side m third) ⊎ IsPast g z) m (inr (T.entered m h)) (inr b) (inl refl) in
      right_steps n (front n g word m) (side r.before first) (free_firsts (prefix m g) r.before) (events_left n g word (n - suc m)) (reserved_for n g word (suc m)) (top_is m third r) (notes_face faces g n word T m h (ap is_split e))
      ∙ ap {A = State} (λ s. let x : Next = Ok s in x) (same_state refl (one_new m third new r) (one_stack m h third new r) refl refl (made_more word m R e) refl)

  left_law : (m : ℕ) → m < n → word m ≡ L → GoesOn g (side m second) → IsPast g (side m third) → step n L (front n g word m) ≡ Ok (front n g word (suc m))
  left_law m h e r c =
      let new : (z : Side) → z.face ≡ m → (z ≡ side m second) ⊎ IsPast g z = by_place (λ z. (z ≡ side m second) ⊎ IsPast g z) m (inr (T.entered m h)) (inl refl) (inr c) in
      left_steps n (front n g word m) (side r.before first) (free_firsts (prefix m g) r.before) (events_left n g word (n - suc m)) (reserved_for n g word (suc m)) (top_is m second r) (notes_face faces g n word T m h (ap is_split e))
      ∙ ap {A = State} (λ s. let x : Next = Ok s in x) (same_state refl (one_new m second new r) (one_stack m h second new r) refl refl (made_more word m L e) refl)

  -- C and S: both other sides are glued
  abbrev Both : ℕ → Side → Type 0
  Both m w = (w ≡ side m second) ⊎ (w ≡ side m third)

  both_new : (m : ℕ) → m < n → (z : Side) → z.face ≡ m → Both m z ⊎ IsPast g z
  both_new m h = by_place (λ z. Both m z ⊎ IsPast g z) m (inr (T.entered m h)) (inl (inl refl)) (inl (inr refl))

  both_own : (m : ℕ) (x : Side) → Both m x → x.face ≡ m
  both_own m x q = elim q [ inl e ↦ ap (λ (s : Side). s.face) e | inr e ↦ ap (λ (s : Side). s.face) e ]

  -- a side 0 of an earlier face that is neither of the two
  both_alike : (m : ℕ) → m < n → (r : GoesOn g (side m second)) (l : Side) → g (side m third) ≡ Some l → (j : ℕ) → j < r.before → l ≢ side j first → prefix (suc m) g (side j first) ≡ prefix m g (side j first)
  both_alike m h r l e j b ne =
      let less = before_less m second r in
      alike m (Both m) (both_new m h) (both_own m) j (omega arith)
      (λ y q f. elim q [
        | inl i ↦ (let o : j ≡ r.before = ap (λ (s : Side). s.face) (Some_injective _ _ (sym f ∙ ap g i ∙ r.onto)) in omega arith)
        | inr i ↦ ne (Some_injective _ _ (sym e ∙ ap g (sym i) ∙ f))
      ])

  both_apart : (m : ℕ) (r : GoesOn g (side m second)) (l : Side) → g (side m third) ≡ Some l → l ≢ side r.before first
  both_apart m r l e q =
      let a : side m third ≡ side m second = Some_injective _ _ (sym (T.gluing.paired (side m third) l e) ∙ ap g q ∙ T.gluing.paired (side m second) (side r.before first) r.onto) in
      let b : third ≡ second = ap (λ (s : Side). s.place) a in
      cc

  -- neither of them waits for a later split
  both_kept : (m : ℕ) (r : GoesOn g (side m second)) (l : Side) → g (side m third) ≡ Some l → l.face < m → (k : ℕ) → k ≢ m → reserved_for n g word (suc m) k ≡ reserved_for n g word m k
  both_kept m r l e b k ne = reserved_stays n g word m k ne (λ x i f o. by_place (λ z. g z ≡ Some (side k third) → z.place ≡ first) m (λ q. refl) (at_second o) (at_third o) x f (T.gluing.paired (side k third) x i))
    where
      at_second : m < k → g (side m second) ≡ Some (side k third) → second ≡ first
      at_second o q = (let p : first ≡ third = ap (λ (s : Side). s.place) (Some_injective _ _ (sym r.onto ∙ q)) in absurd (cc))

      at_third : m < k → g (side m third) ≡ Some (side k third) → third ≡ first
      at_third o q = (let p : l.face ≡ k = ap (λ (s : Side). s.face) (Some_injective _ _ (sym e ∙ q)) in absurd (omega arith))

  tip_law : (m : ℕ) → m < n → word m ≡ C → IsNewTip g m → step n C (front n g word m) ≡ Ok (front n g word (suc m))
  tip_law m h e t = go (gap m (side m first) T.gluing (omega arith) t.ring)
    where
      go : (x y : Side) × IsGap g m (side m first) x y → step n C (front n g word m) ≡ Ok (front n g word (suc m))
      go (x, l, p) =
          tip_steps n (front n g word m) a rest (top_is m second r) (λ q. both_apart m r l p.left_is (before_is ∙ q))
          ∙ ap {A = State} (λ s. let z : Next = Ok s in z) (same_state refl glued stack kept (tells_none faces g n word T m h a l r.onto (before_less m second r) p.left_is p.left_below) (made_more word m C e) refl)
        where
          r : GoesOn g (side m second)
          r = t.right

          a : Side
          a = side t.right.before first

          rest : List Side
          rest = free_firsts (prefix m g) t.right.before

          x_is : x ≡ side t.right.before first
          x_is = Some_injective _ _ (sym p.right_is ∙ t.right.onto)

          before_is : l ≡ side_before m (prefix m g) (side t.right.before first)
          before_is = gap_before T.gluing m (side m first) x l p ∙ ap (side_before m (prefix m g)) x_is

          glued : glue (side m third) (side_before m (prefix m g) (side t.right.before first)) (glue (side m second) (side t.right.before first) (prefix m g)) ≡ prefix (suc m) g
          glued =
              ap (λ (z : Side). glue (side m third) z (glue (side m second) (side t.right.before first) (prefix m g))) (sym before_is)
              ∙ sym (adds_two T.gluing m (side m third) l (side m second) (side t.right.before first) refl p.left_below p.left_is refl (before_less m second t.right) t.right.onto
              (λ z i. elim (both_new m h z i) [ inr q ↦ inr q | inl q ↦ elim q [ inl o ↦ inl (inr o) | inr o ↦ inl (inl o) ] ]))

          stack : side m first ∷ free_firsts (prefix m g) t.right.before ≡ free_firsts (prefix (suc m) g) (suc m)
          stack = sym (stack_after m h second t.right ∙ ap (λ (s : List Side). side m first ∷ s)
              (firsts_alike (prefix (suc m) g) (prefix m g) t.right.before (λ j b. both_alike m h t.right l p.left_is j b (λ q. t.left l p.left_is (ap (λ (s : Side). s.place) q)))))

          kept : reserved_for n g word m ≡ reserved_for n g word (suc m)
          kept = fun_ext (λ k. elim (cases_eq k m) [
            | inl i ↦ reserved_unsplit n g word m k (ap (λ (j : ℕ). is_split (word j)) i ∙ ap is_split e) ∙ sym (reserved_early n g word (suc m) k (omega arith))
            | inr i ↦ sym (both_kept m t.right l p.left_is p.left_below k i)
          ])

  split_law : (m : ℕ) → m < n → word m ≡ S → IsSplit g m → step n S (front n g word m) ≡ Ok (front n g word (suc m))
  split_law m h e t = go t.across.place refl
    where
      less : t.right.before < m
      less = before_less m second t.right

      l_free : prefix m g t.across ≡ None
      l_free = prefix-free m g t.across (side m third) (T.gluing.paired (side m third) t.across t.left) (omega arith)

      b_free : IsFree m (prefix m g) (side t.right.before first)
      b_free = record { within = less; free = top_glued m second t.right }

      -- the two sides don't meet in one vertex: the tip would be ringed
      no_point : side_before m (prefix m g) (side t.right.before first) ≢ t.across
      no_point q =
          let f = side_before-follows (prefix_within m T.gluing) (side t.right.before first) b_free in
          let meets : InFan (prefix m g) (prev t.across) (next (side t.right.before first)) = subst (λ (z : Side). InFan (prefix m g) (prev z) (next (side t.right.before first))) q f.1.meets in
          t.met (no_gap m (side m first) (side t.right.before first) t.across T.gluing (omega arith) t.right.onto t.left less (fan_sym (prefix_within m T.gluing) meets))

      glued : glue (side m second) (side t.right.before first) (glue (side m third) t.across (prefix m g)) ≡ prefix (suc m) g
      glued = sym (adds_two T.gluing m (side m second) (side t.right.before first) (side m third) t.across refl less t.right.onto refl t.below t.left (both_new m h))

      kept : release m (reserved_for n g word m) ≡ reserved_for n g word (suc m)
      kept = fun_ext (λ k. elim (cases_eq k m) [
        | inl i ↦ cond-true (k == m) _ _ (eq-eqb k m i) ∙ sym (reserved_early n g word (suc m) k (omega arith))
        | inr i ↦ cond-false (k == m) _ _ (ne_eqb k m i) ∙ sym (both_kept m t.right t.across t.left t.below k i)
      ])

      waits : reserved_for n g word m m ≡ waiting_side m (g (side m third))
      waits = reserved_is n g word m m (omega arith) h (ap is_split e)

      from : (left : List Side) → top m (prefix m g) (pushed (reserved_for n g word m m) (free_firsts (prefix m g) t.right.before)) ≡ Ok (t.across, left) →
          side m first ∷ left ≡ free_firsts (prefix (suc m) g) (suc m) → step n S (front n g word m) ≡ Ok (front n g word (suc m))
      from left second_top stack =
          split_steps n (front n g word m) (side t.right.before first) t.across (free_firsts (prefix m g) t.right.before) left (top_is m second t.right) second_top (both_apart m t.right t.across t.left) no_point
          ∙ ap {A = State} (λ s. let z : Next = Ok s in z) (same_state refl glued stack kept (tells_none faces g n word T m h (side t.right.before first) t.across t.right.onto less t.left t.below) (made_more word m S e) refl)

      -- an event kept the second side
      by_event : t.across.place ≢ first → step n S (front n g word m) ≡ Ok (front n g word (suc m))
      by_event ne = from (free_firsts (prefix m g) t.right.before)
          (ap (λ (o : Option Side). top m (prefix m g) (pushed o (free_firsts (prefix m g) t.right.before))) (waits ∙ waiting_here m (g (side m third)) t.across t.left t.below ne)
          ∙ top_free m (prefix m g) t.across (free_firsts (prefix m g) t.right.before) l_free)
          (sym (stack_after m h second t.right ∙ ap (λ (s : List Side). side m first ∷ s)
          (firsts_alike (prefix (suc m) g) (prefix m g) t.right.before (λ j i. both_alike m h t.right t.across t.left j i (λ q. ne (ap (λ (s : Side). s.place) q))))))

      -- or it is the side below the top
      by_stack : t.across.place ≡ first → step n S (front n g word m) ≡ Ok (front n g word (suc m))
      by_stack q = from (free_firsts (prefix m g) f)
          (ap (λ (o : Option Side). top m (prefix m g) (pushed o (free_firsts (prefix m g) t.right.before))) (waits ∙ waiting_entry m (g (side m third)) t.across t.left q)
          ∙ ap (top m (prefix m g)) (firsts_skip (prefix m g) (suc f) t.right.before f_more (λ j i k. (let z = entered j (omega arith) (omega arith) in (z.0, tells-prefix m g (side j first) z.0 (omega arith) z.2 z.1)))
          ∙ firsts_free (prefix m g) f (ap (prefix m g) (sym l_is) ∙ l_free) ∙ ap (λ (s : Side). s ∷ free_firsts (prefix m g) f) (sym l_is))
          ∙ top_free m (prefix m g) t.across (free_firsts (prefix m g) f) l_free)
          (sym (stack_after m h second t.right ∙ ap (λ (s : List Side). side m first ∷ s)
          (firsts_skip (prefix (suc m) g) (suc f) t.right.before f_more (λ j i k. (let z = entered j (omega arith) (omega arith) in let w = z.2 in (z.0, tells-prefix (suc m) g (side j first) z.0 (omega arith) (omega arith) z.1)))
          ∙ firsts_glued (prefix (suc m) g) f (side m third) (tells-prefix (suc m) g (side f first) (side m third) (omega arith) (omega arith) (ap g (sym l_is) ∙ T.gluing.paired (side m third) t.across t.left))
          ∙ firsts_alike (prefix (suc m) g) (prefix m g) f (λ j i. both_alike m h t.right t.across t.left j (let w = f_less in omega arith) (λ o. (let w : f ≡ j = ap (λ (s : Side). s.face) o in omega arith))))))
        where
          f : ℕ
          f = t.across.face

          l_is : t.across ≡ side t.across.face first
          l_is = ap (side t.across.face) q

          f_less : t.across.face < t.right.before
          f_less = elim (cases_eq t.across.face t.right.before) [
            | inl i ↦ absurd (both_apart m t.right t.across t.left (l_is ∙ ap (λ (j : ℕ). side j first) i))
            | inr i ↦ (let u = t.below in let v : m ≡ suc t.right.before = t.right.is_before in omega arith)
          ]

          f_more : suc t.across.face ≤ t.right.before
          f_more = let w = f_less in omega arith

          entered : (j : ℕ) → t.across.face < j → j < t.right.before → (z : Side) × (g (side j first) ≡ Some z) × (z.face < m)
          entered j i k = t.kept_last q j i (let v : m ≡ suc t.right.before = t.right.is_before in omega arith)

      go : (k : Place) → t.across.place ≡ k → step n S (front n g word m) ≡ Ok (front n g word (suc m))
      go first q = by_stack q
      go second q = by_event (λ i. (let o : second ≡ first = sym q ∙ i in cc))
      go third q = by_event (λ i. (let o : third ≡ first = sym q ∙ i in cc))

  -- each symbol
  pub step_reads : (m : ℕ) → m < n → step n (word m) (front n g word m) ≡ Ok (front n g word (suc m))
  step_reads m h = go (word m) refl (T.symbols m h)
    where
      go : (s : Symbol) → word m ≡ s → Says g m s → step n s (front n g word m) ≡ Ok (front n g word (suc m))
      go C e t = tip_law m h e t
      go S e t = split_law m h e t
      go L e t = left_law m h e t.0 t.1
      go R e t = right_law m h e t.0 t.1
      go E e t = end_law m h e t.0 t.1
