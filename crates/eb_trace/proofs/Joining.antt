-- How many fans a gluing of two free sides takes away.
use Rattle.std.proofs.Common.{◌≡◌, ◌≢◌, ℕ, zero, suc, ◌+◌, ◌<◌, Bool, true, false, ◌||◌, ◌&&◌, ◌==◌, ◌⊎◌, inl, inr, sym, refl, ap, ◌∙◌, arith, eq-eqb, ne_eqb, eqb-true}
use Rattle.std.proofs.lemmas.Bool.{cases_eq, or_cases, or_left, or_right, and_parts, and_from}
use Rattle.corner_table.specs.Sides.{Side, next, prev, Gluing, glue, IsGluing, IsFree}
use Rattle.corner_table.specs.Fans.{InFan, meets}
use Rattle.corner_table.proofs.Walks.{fan_sym, fan_trans}
use Rattle.corner_table.proofs.Gluings.{glued_is, fan_stays, ends_join, starts_join, alike_after}
use Rattle.corner_table.proofs.Meeting.{fan_meets, meets-fan}
use Rattle.eb_trace.specs.Trace.{fan_count}
use Rattle.eb_trace.specs.Vertices.{goes_unless, fans_joined, GluingJoins}
use Rattle.eb_trace.proofs.Naming.{IsNaming}
use Rattle.eb_trace.proofs.Merging.{IsMerging, merging_any}
use Rattle.eb_trace.proofs.Adding.{Among, within_or_one}
use Rattle.eb_trace.proofs.FanCount.{fan_count_is}
use Rattle.eb_trace.proofs.Vertices.{fans_are}

-- names that go along the fans of g, and where they are equal the fans of h are one
record IsBetween (faces : ℕ) (g h : Gluing) (k : ℕ) (f : Side → ℕ) : Type 0 where
  bounded : (c : Side) → c.face < faces → f c < k
  used : (j : ℕ) → j < k → (c : Side) × Among faces c × (f c ≡ j)
  one : (c d : Side) → c.face < faces → d.face < faces → InFan g c d → f c ≡ f d
  fan : (c d : Side) → c.face < faces → d.face < faces → f c ≡ f d → InFan h c d

-- the names after the fans of x and y are one
record IsJoined (faces : ℕ) (g h : Gluing) (k : ℕ) (f : Side → ℕ) (x y : Side) (l : ℕ) (e : Side → ℕ) : Type 0 where
  between : IsBetween faces g h l e
  meets : e x ≡ e y
  kept : (c d : Side) → f c ≡ f d → e c ≡ e d
  tells : (c d : Side) → e c ≡ e d → (f c ≡ f d) ⊎ (((f c ≡ f x) × (f d ≡ f y)) ⊎ ((f c ≡ f y) × (f d ≡ f x)))
  gone : l + goes_unless (f x == f y) ≡ k

joined : (faces : ℕ) (g h : Gluing) → IsGluing faces h → (k : ℕ) (f : Side → ℕ) → IsBetween faces g h k f → (x y : Side) → x.face < faces → y.face < faces → InFan h x y → (l : ℕ) × (e : Side → ℕ) × IsJoined faces g h k f x y l e
joined faces g h H zero f B x y a b p = absurd (let w = B.bounded x a in omega arith)
joined faces g h H (suc k) f B x y a b p = elim (cases_eq (f x) (f y)) [
  | inl q ↦ (
    suc k,
    f,
    record {
      between = B;
      meets = q;
      kept = λ c d i. i;
      tells = λ c d i. inl i;
      gone = ap (λ (t : Bool). suc k + goes_unless t) (eq-eqb (f x) (f y) q) ∙ (let z : suc k + 0 ≡ suc k = omega arith in z);
    },
  )
  | inr n ↦ merged n (merging_any k (f x) (f y) n (B.bounded x a) (B.bounded y b))
]
  where
    merged : f x ≢ f y → (to : ℕ → ℕ) × IsMerging k (f x) (f y) to → (l : ℕ) × (e : Side → ℕ) × IsJoined faces g h (suc k) f x y l e
    merged n (to, M) = (
      k,
      (λ c. to (f c)),
      record {
        between = record {
          bounded = λ c i. M.bounded (f c) (B.bounded c i);
          used = λ j i. (let u = M.used j i in let v = B.used u.0 u.1 in (v.0, v.1, ap to v.2 ∙ u.2));
          one = λ c d i j q. ap to (B.one c d i j q);
          fan = λ c d i j q. elim (M.tells (f c) (f d) q) [
            | inl o ↦ B.fan c d i j o
            | inr s ↦ elim s [
              | inl o ↦ fan_trans (B.fan c x i a o.0) (fan_trans p (B.fan y d b j (sym o.1)))
              | inr o ↦ fan_trans (B.fan c y i b o.0) (fan_trans (fan_sym H p) (B.fan x d a j (sym o.1)))
            ]
          ];
        };
        meets = M.meets;
        kept = λ c d q. ap to q;
        tells = λ c d q. M.tells (f c) (f d) q;
        gone = ap (λ (t : Bool). k + goes_unless t) (ne_eqb (f x) (f y) n) ∙ (let z : k + 1 ≡ suc k = omega arith in z);
      },
    )

tests_agree : (s t : Bool) → (s ≡ true → t ≡ true) → (t ≡ true → s ≡ true) → s ≡ t
tests_agree true t there back = sym (there refl)
tests_agree false true there back = back refl
tests_agree false false there back = refl

module _ (faces : ℕ) (g : Gluing) (a b : Side) (G : IsGluing faces g) (A : IsFree faces g a) (B : IsFree faces g b) (n : a.face ≢ b.face) where
  new_gluing : IsGluing faces (glue a b g)
  new_gluing = glued_is a b G A B n

  module _ (k : ℕ) (f : Side → ℕ) (N : IsNaming (InFan g) (Among faces) k f) where
    before : IsBetween faces g (glue a b g) k f
    before = record { bounded = N.bounded; used = N.used; one = N.one; fan = λ c d i j e. fan_stays a b A B (N.fan c d i j e) }

    -- the test of one fan is that of one name
    named : (c d : Side) → c.face < faces → d.face < faces → (f c == f d) ≡ meets faces g c d
    named c d i j = tests_agree (f c == f d) (meets faces g c d)
        (λ t. fan_meets G c d i j (N.fan c d i j (eqb-true (f c) (f d) t)))
        (λ t. eq-eqb (f c) (f d) (N.one c d i j (meets-fan faces g c d t)))

    meets_by : (c d : Side) → c.face < faces → d.face < faces → f c ≡ f d → meets faces g c d ≡ true
    meets_by c d i j e = sym (named c d i j) ∙ eq-eqb (f c) (f d) e

    by_meets : (c d : Side) → c.face < faces → d.face < faces → meets faces g c d ≡ true → f c ≡ f d
    by_meets c d i j t = N.one c d i j (meets-fan faces g c d t)

    second_test : Bool
    second_test = meets faces g (next a) (prev b) || ((meets faces g (next a) (prev a) && meets faces g (prev b) (next b)) || (meets faces g (next a) (next b) && meets faces g (prev b) (prev a)))

    after_first : (l : ℕ) (e : Side → ℕ) → IsJoined faces g (glue a b g) k f (prev a) (next b) l e → (e (next a) == e (prev b)) ≡ second_test
    unfolding second_test
    after_first l e J = tests_agree (e (next a) == e (prev b)) second_test there back
      where
        there : (e (next a) == e (prev b)) ≡ true → second_test ≡ true
        there t = elim (J.tells (next a) (prev b) (eqb-true (e (next a)) (e (prev b)) t)) [
          | inl i ↦ or_left (meets faces g (next a) (prev b)) _ (meets_by (next a) (prev b) A.within B.within i)
          | inr s ↦ or_right (meets faces g (next a) (prev b)) _ (elim s [
            | inl i ↦ or_left (meets faces g (next a) (prev a) && meets faces g (prev b) (next b)) _ (and_from _ _ (meets_by (next a) (prev a) A.within A.within i.0) (meets_by (prev b) (next b) B.within B.within i.1))
            | inr i ↦ or_right (meets faces g (next a) (prev a) && meets faces g (prev b) (next b)) _ (and_from _ _ (meets_by (next a) (next b) A.within B.within i.0) (meets_by (prev b) (prev a) B.within A.within i.1))
          ])
        ]

        back : second_test ≡ true → (e (next a) == e (prev b)) ≡ true
        back t = eq-eqb (e (next a)) (e (prev b)) (elim (or_cases (meets faces g (next a) (prev b)) _ t) [
          | inl i ↦ J.kept (next a) (prev b) (by_meets (next a) (prev b) A.within B.within i)
          | inr s ↦ elim (or_cases (meets faces g (next a) (prev a) && meets faces g (prev b) (next b)) _ s) [
            | inl i ↦ (
                let p = and_parts (meets faces g (next a) (prev a)) (meets faces g (prev b) (next b)) i in
                J.kept (next a) (prev a) (by_meets (next a) (prev a) A.within A.within p.0) ∙ J.meets ∙ sym (J.kept (prev b) (next b) (by_meets (prev b) (next b) B.within B.within p.1)))
            | inr i ↦ (
                let p = and_parts (meets faces g (next a) (next b)) (meets faces g (prev b) (prev a)) i in
                J.kept (next a) (next b) (by_meets (next a) (next b) A.within B.within p.0) ∙ sym J.meets ∙ sym (J.kept (prev b) (prev a) (by_meets (prev b) (prev a) B.within A.within p.1)))
          ]
        ])

    both_joined : fan_count faces (glue a b g) + fans_joined faces g a b ≡ k
    unfolding second_test
    both_joined = first_joined (joined faces g (glue a b g) new_gluing k f before (prev a) (next b) A.within B.within (ends_join a b g))
      where
        counted : (l : ℕ) (e : Side → ℕ) → IsJoined faces g (glue a b g) k f (prev a) (next b) l e → (l2 : ℕ) (e2 : Side → ℕ) → IsJoined faces g (glue a b g) l e (next a) (prev b) l2 e2 → fan_count faces (glue a b g) ≡ l2
        counted l e J l2 e2 K = fans_are faces (glue a b g) new_gluing l2 (
          e2,
          record {
            bounded = K.between.bounded;
            used = K.between.used;
            one = λ c d i j p. alike_after e2 a b old (K.kept (prev a) (next b) J.meets) K.meets p;
            fan = K.between.fan;
          },
        )
          where
            old : (c d : Side) → InFan g c d → e2 c ≡ e2 d
            old c d p = elim (within_or_one G p) [ inl t ↦ K.between.one c d t.0 t.1 p | inr q ↦ ap e2 q ]

        first_joined : (l : ℕ) × (e : Side → ℕ) × IsJoined faces g (glue a b g) k f (prev a) (next b) l e → fan_count faces (glue a b g) + fans_joined faces g a b ≡ k
        first_joined (l, e, J) = second_joined (joined faces g (glue a b g) new_gluing l e J.between (next a) (prev b) A.within B.within (starts_join a b g))
          where
            second_joined : (l2 : ℕ) × (e2 : Side → ℕ) × IsJoined faces g (glue a b g) l e (next a) (prev b) l2 e2 → fan_count faces (glue a b g) + fans_joined faces g a b ≡ k
            second_joined (l2, e2, K) =
                let c : fan_count faces (glue a b g) ≡ l2 = counted l e J l2 e2 K in
                let x : l + goes_unless (meets faces g (prev a) (next b)) ≡ k = ap (λ (t : Bool). l + goes_unless t) (sym (named (prev a) (next b) A.within B.within)) ∙ J.gone in
                let y : l2 + goes_unless second_test ≡ l = ap (λ (t : Bool). l2 + goes_unless t) (sym (after_first l e J)) ∙ K.gone in
                omega arith

pub gluing_joins : GluingJoins
gluing_joins faces g a b G A B n =
    let t = fan_count_is faces g G in
    both_joined faces g a b G A B n (fan_count faces g) t.0 t.1
