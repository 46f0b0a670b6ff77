-- The number of fans: the corners with no lesser corner in their fan name all fans.
use Rattle.std.proofs.Common.{◌≡◌, ℕ, zero, suc, ◌+◌, ◌*◌, ◌<◌, ◌≤◌, Bool, true, false, not, ◌&&◌, nat_lt, cond, [], ◌∷◌, ◌++◌, inl, inr, sym, refl, ap, ◌∙◌, subst, arith, lt-ltb}
use Rattle.std.proofs.lemmas.Bool.{cases_eq, cases_Bool, cond-true, cond-false, and_parts, and_from, ltb-true}
use Rattle.std.proofs.lemmas.List.Sums.{sum_by-append}
use Rattle.std.specs.List.{list_any, count_by}
use Rattle.corner_table.specs.Sides.{Side, first, second, third, side, number, Gluing, IsGluing}
use Rattle.corner_table.specs.Fans.{InFan, meets, corners_of}
use Rattle.corner_table.proofs.Numbers.{number_injective, number-lt}
use Rattle.corner_table.proofs.Meeting.{fan_meets, meets-fan}
use Rattle.eb_trace.specs.Trace.{fan_count}
use Rattle.eb_trace.proofs.Visited.{any_corner, any_tells}
use Rattle.eb_trace.proofs.Naming.{IsNaming, With, add_known, add_new, of_equal}
use Rattle.eb_trace.proofs.Adding.{fans_sort, HasFans}

-- a lesser corner of the same fan
abbrev lesser : ℕ → Gluing → Side → Side → Bool
lesser faces g c d = nat_lt (number d) (number c) && meets faces g c d

-- a corner has no lesser corner in its fan
abbrev is_least : ℕ → Gluing → Side → Bool
is_least faces g c = not (list_any (λ (d : Side). lesser faces g c d) (corners_of faces))

pub count_none : (p : Side → Bool) → count_by p (corners_of zero) ≡ 0
unfolding corners_of
count_none p = refl

abbrev bit : (Side → Bool) → Side → ℕ
bit p c = cond (p c) 1 0

count_more : (p : Side → Bool) (n : ℕ) → count_by p (corners_of (suc n)) ≡ count_by p (corners_of n) + bit p (side n first) + bit p (side n second) + bit p (side n third)
unfolding corners_of
count_more p n =
    let e : count_by p (corners_of n ++ (side n first ∷ side n second ∷ side n third ∷ [])) ≡ count_by p (corners_of n) + (0 + bit p (side n first) + bit p (side n second) + bit p (side n third)) =
    sum_by-append (bit p) (corners_of n) (side n first ∷ side n second ∷ side n third ∷ []) in
    omega arith

-- k names for the corners with numbers below n
abbrev Numbered : Gluing → ℕ → ℕ → Type 0
Numbered g n k = (f : Side → ℕ) × IsNaming (InFan g) (λ x. number x < n) k f

not_true : (b : Bool) → not b ≡ true → b ≡ false
not_true true h = absurd (let no : false ≡ true = h in cc)
not_true false h = refl

not_false : (b : Bool) → not b ≡ false → b ≡ true
not_false true h = refl
not_false false h = absurd (let no : true ≡ false = h in cc)

module _ (faces : ℕ) (g : Gluing) (G : IsGluing faces g) where
  more_numbers : (n k : ℕ) (c : Side) → number c ≡ n → (f : Side → ℕ) → IsNaming (InFan g) (With (λ x. number x < n) c) k f → Numbered g (suc n) k
  more_numbers n k c e f N = (f, of_equal (InFan g) (With (λ x. number x < n) c) (λ x. number x < suc n) k f N there back)
    where
      there : (x : Side) → With (λ x. number x < n) c x → number x < suc n
      there x i = elim i [ inl l ↦ (omega arith) | inr q ↦ (let o : number x ≡ number c = ap (λ (s : Side). number s) q in omega arith) ]

      back : (x : Side) → number x < suc n → With (λ x. number x < n) c x
      back x h = elim (cases_eq (number x) n) [ inl q ↦ inr (number_injective x c (q ∙ sym e)) | inr q ↦ inl (omega arith) ]

  next_corner : (n k : ℕ) (c : Side) → number c ≡ n → c.face < faces → Numbered g n k → Numbered g (suc n) (k + bit (is_least faces g) c)
  next_corner n k c e h (f, N) = elim (cases_Bool (is_least faces g c)) [
    | inl t ↦ subst (Numbered g (suc n)) (let b : bit (is_least faces g) c ≡ 1 = cond-true _ _ _ t in let z : suc k ≡ k + bit (is_least faces g) c = omega arith in z)
        (more_numbers n (suc k) c e _ (add_new (InFan g) (λ x. number x < n) k f (fans_sort G) N c (new (not_true _ t))))
    | inr t ↦ subst (Numbered g (suc n)) (let b : bit (is_least faces g) c ≡ 0 = cond-false _ _ _ t in let z : k ≡ k + bit (is_least faces g) c = omega arith in z)
        (known (any_tells (λ (d : Side). lesser faces g c d) (corners_of faces) (not_false _ t)))
  ]
    where
      new : list_any (λ (d : Side). lesser faces g c d) (corners_of faces) ≡ false → (d : Side) → number d < n → InFan g c d → ⊥
      new none d l p =
          let b : number c < 3 * faces = number-lt c faces h in
          let w : d.face < faces = omega arith in
          let yes : list_any (λ (d : Side). lesser faces g c d) (corners_of faces) ≡ true =
          any_corner (λ (d : Side). lesser faces g c d) faces d w (and_from (nat_lt (number d) (number c)) (meets faces g c d) (lt-ltb (number d) (number c) (omega arith)) (fan_meets G c d h w p)) in
          let no : false ≡ true = sym none ∙ yes in
          cc

      known : (d : Side) × (lesser faces g c d ≡ true) → Numbered g (suc n) k
      known (d, q) =
          let p = and_parts (nat_lt (number d) (number c)) (meets faces g c d) q in
          let l : number d < number c = ltb-true (number d) (number c) p.0 in
          more_numbers n k c e _ (add_known (InFan g) (λ x. number x < n) k f (fans_sort G) N c d (omega arith) (meets-fan faces g c d p.1))

  counted : (n : ℕ) → n ≤ faces → Numbered g (3 * n) (count_by (is_least faces g) (corners_of n))
  counted zero h = (
    λ x. 0,
    record {
      bounded = λ c l. absurd (omega arith);
      used = λ j l. absurd (let e = count_none (is_least faces g) in omega arith);
      one = λ c d a b p. refl;
      fan = λ c d a b e. absurd (omega arith);
    },
  )
  counted (suc n) h =
      let p = is_least faces g in
      let a = next_corner (3 * n) (count_by p (corners_of n)) (side n first) (let e : number (side n first) ≡ 3 * n = omega arith in e) (omega arith) (counted n (omega arith)) in
      let b = next_corner (suc (3 * n)) (count_by p (corners_of n) + bit p (side n first)) (side n second) (let e : number (side n second) ≡ suc (3 * n) = omega arith in e) (omega arith) a in
      let c = next_corner (suc (suc (3 * n))) (count_by p (corners_of n) + bit p (side n first) + bit p (side n second)) (side n third) (let e : number (side n third) ≡ suc (suc (3 * n)) = omega arith in e) (omega arith) b in
      let e : suc (suc (suc (3 * n))) ≡ 3 * suc n = omega arith in
      subst (λ (m : ℕ). Numbered g m (count_by p (corners_of (suc n)))) e (subst (Numbered g (suc (suc (suc (3 * n))))) (sym (count_more p n)) c)

  -- the fans of a gluing are as many as its count says
  pub fan_count_is : HasFans faces g (fan_count faces g)
  fan_count_is = (
      let t = counted faces (omega arith) in
      (t.0, of_equal (InFan g) (λ x. number x < 3 * faces) (λ x. x.face < faces) (fan_count faces g) t.0 t.1 (λ c l. (omega arith)) (λ c l. number-lt c faces l)))
