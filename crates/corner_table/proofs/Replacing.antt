-- The boundary and its links after a new face that is glued as it is added: its other two sides take the place of one side, or its third
-- side that of two.
use Rattle.std.proofs.Common.{◌≡◌, ◌≢◌, ℕ, suc, ◌+◌, ◌*◌, ◌<◌, ◌≤◌, true, false, eqb, List, length, get_or, set, ◌⊎◌, inl, inr, sym, refl, ap, ◌∙◌, subst, arith, length-set, eqb-true}
use Rattle.std.proofs.lemmas.Bool.{cases_Bool, eqb-false, cases_eq}
use Rattle.corner_table.specs.Sides.{Side, Place, first, second, third, side, number, place_after, place_before, Gluing, glue, IsGluing, IsFree}
use Rattle.corner_table.specs.Fans.{side_before, side_after, Follows}
use Rattle.corner_table.specs.Links.{IsLinked, new_loop, grown, put_for, replaced, put_for_two, closed_up}
use Rattle.corner_table.specs.Table.{glued_in, IsLinkedTable}
use Rattle.corner_table.proofs.Places.{face_apart, same_tells, after-before, before-after, after-after, before-before}
use Rattle.corner_table.proofs.Numbers.{number_injective}
use Rattle.corner_table.proofs.Boundary.{side_after-follows, side_after_only, side_before-follows, side_before_only}
use Rattle.corner_table.proofs.Gluings.{more_faces, glued_is, free_before, free_after, follows_kept, follows_over_first, follows_over_second, follows_past_second}
use Rattle.corner_table.proofs.LinkSteps.{read_here, read_else, after-before as there_back, before-after as back_there, after_free, before_free, after_injective}
use Rattle.corner_table.proofs.TableSteps.{free_old, free_more, follows_more, after_more, before_more, new_side, new_follows, links_grown}

place_tells : (j k : Place) → (j ≡ k) ⊎ ((j ≡ place_after k) ⊎ (j ≡ place_before k))
place_tells first first = inl refl
place_tells second first = inr (inl refl)
place_tells third first = inr (inr refl)
place_tells first second = inr (inr refl)
place_tells second second = inl refl
place_tells third second = inr (inl refl)
place_tells first third = inr (inl refl)
place_tells second third = inr (inr refl)
place_tells third third = inl refl

after_other : (k : Place) → place_after k ≢ k
after_other first e = cc
after_other second e = cc
after_other third e = cc

before_other : (k : Place) → place_before k ≢ k
before_other first e = cc
before_other second e = cc
before_other third e = cc

before_not_after : (k : Place) → place_before k ≢ place_after k
before_not_after first e = cc
before_not_after second e = cc
before_not_after third e = cc

place_apart : (f : ℕ) (j k : Place) → j ≢ k → side f j ≢ side f k
place_apart f j k h e = h (ap (λ (x : Side). x.place) e)

-- a side of a face above is one of its three
of_new : (f : ℕ) (k : Place) (z : Side) → z.face ≡ f → z ≢ side f k → (z ≡ side f (place_after k)) ⊎ (z ≡ side f (place_before k))
of_new f k z e h = elim (place_tells z.place k) [
  | inl p ↦ absurd (h (is k p))
  | inr q ↦ elim q [ inl p ↦ inl (is (place_after k) p) | inr p ↦ inr (is (place_before k) p) ]
]
  where
    is : (j : Place) → z.place ≡ j → z ≡ side f j
    is j p = ap (λ (n : ℕ). side n z.place) e ∙ ap (side f) p

-- a side that starts where a free side ends is what follows it, and comes after it
forth : {faces : ℕ} {h : Gluing} → IsGluing faces h → (u v : Side) → IsFree faces h u → Follows faces h u v → side_after faces h u ≡ v
forth G u v U F = sym (side_after_only G u v U F)

back : {faces : ℕ} {h : Gluing} → IsGluing faces h → (u v : Side) → IsFree faces h u → Follows faces h u v → side_before faces h v ≡ u
back G u v U F = sym (side_before_only G u v U F)

-- links of more faces are those of fewer
fewer : {f : ℕ} {g : Gluing} {A B : List ℕ} → IsGluing f g → IsLinked (suc f) g A B → IsLinked f g A B
fewer G N = record {
  after_is = λ x X. N.after_is x (free_more x X) ∙ ap number (after_more G x X);
  before_is = λ x X. N.before_is x (free_more x X) ∙ ap number (before_more G x X);
}

-- a new face, one side n of which is glued to the free side t: its other sides are x, after n, and y, before n
module _ (f : ℕ) (g : Gluing) (k : Place) (t : Side) (G : IsGluing f g) (T : IsFree f g t) where
  abbrev n : Side
  n = side f k

  abbrev x : Side
  x = side f (place_after k)

  abbrev y : Side
  y = side f (place_before k)

  abbrev pub beside : Gluing
  beside = glue n t g

  G1 : IsGluing (suc f) g
  G1 = more_faces (suc f) (omega arith) G

  N : IsFree (suc f) g n
  N = new_side G k

  T1 : IsFree (suc f) g t
  T1 = free_more t T

  apart : n.face ≢ t.face
  apart e = let w = T.within in absurd (omega arith)

  new_apart : (j : Place) (z : Side) → z.face < f → side f j ≢ z
  new_apart j z h = face_apart (side f j) z (λ e. absurd (omega arith))

  pub beside_is : IsGluing (suc f) beside
  beside_is = glued_is n t G1 N T1 apart

  pub other_free : (j : Place) → j ≢ k → IsFree (suc f) beside (side f j)
  other_free j h = free_after n t (side f j) (place_apart f j k h) (new_apart j t T.within) (new_side G j)

  pub old_free : (z : Side) → IsFree f g z → z ≢ t → IsFree (suc f) beside z
  old_free z Z h = free_after n t z (λ e. new_apart k z Z.within (sym e)) h (free_more z Z)

  after_n : Follows (suc f) g n x
  after_n = new_follows G k (place_after k) (ap (side f) (sym (after-after k)))

  after_x : Follows (suc f) g x y
  after_x = new_follows G (place_after k) (place_before k) (ap (side f) (before-after k ∙ sym (after-before k)))

  after_y : Follows (suc f) g y n
  after_y = new_follows G (place_before k) k (ap (side f) (before-before k))

  x_apart : x ≢ n
  x_apart = place_apart f (place_after k) k (after_other k)

  y_apart : y ≢ n
  y_apart = place_apart f (place_before k) k (before_other k)

  pub second_follows : Follows (suc f) beside x y
  second_follows = follows_kept n t x y N T1 y_apart (new_apart (place_before k) t T.within) after_x

  -- t is alone: the other two sides are the loop
  pub loop_of_two : side_after f g t ≡ t → Follows (suc f) beside y x
  loop_of_two e =
      follows_past_second n t y x beside_is N T1 x_apart (new_apart (place_after k) t T.within) after_y
      (subst (Follows (suc f) g t) e (follows_more t (side_after f g t) (side_after-follows G t T))) after_n

  pub next_follows : side_after f g t ≢ t → Follows (suc f) beside y (side_after f g t)
  next_follows h =
      follows_over_first n t y (side_after f g t) N T1 (λ e. new_apart k (side_after f g t) (after_free G t T).within (sym e)) h after_y
      (follows_more t (side_after f g t) (side_after-follows G t T))

  pub first_follows : side_after f g t ≢ t → Follows (suc f) beside (side_before f g t) x
  first_follows h =
      follows_over_second n t (side_before f g t) x beside_is N T1 x_apart (new_apart (place_after k) t T.within)
      (follows_more (side_before f g t) t (side_before-follows G t T).1) after_n

  pub old_follows : (z : Side) → IsFree f g z → side_after f g z ≢ t → Follows (suc f) beside z (side_after f g z)
  old_follows z Z h =
      follows_kept n t z (side_after f g z) N T1 (λ e. new_apart k (side_after f g z) (after_free G z Z).within (sym e)) h
      (follows_more z (side_after f g z) (side_after-follows G z Z))

  -- a free side is one of the two, or was free before
  pub free_tells : (z : Side) → IsFree (suc f) beside z → (z ≡ x) ⊎ ((z ≡ y) ⊎ ((z ≢ t) × IsFree f g z))
  free_tells z Z =
      let F = free_before n t z (new_apart k t T.within) Z in
      elim (cases_eq z.face f) [
        | inl e ↦ elim (of_new f k z e F.0) [ inl p ↦ inl p | inr p ↦ inr (inl p) ]
        | inr m ↦ inr (inr (F.1, free_old z (let w = Z.within in omega arith) F.2))
      ]

  -- what comes before t, and after it
  pub before_is : (z : Side) → IsFree f g z → side_after f g z ≡ t → z ≡ side_before f g t
  before_is z Z e = sym (back_there G z Z) ∙ ap (side_before f g) e

  pub after_is : (z : Side) → IsFree f g z → side_before f g z ≡ t → z ≡ side_after f g t
  after_is z Z e = sym (there_back G z Z) ∙ ap (side_after f g) e

  pub lone_before : side_after f g t ≡ t → side_before f g t ≡ t
  lone_before e = ap (side_before f g) (sym e) ∙ back_there G t T

  -- the links, where p comes before x and q after y
  module _ (A B : List ℕ) (N0 : IsLinked (suc f) g A B) (ra : 3 * suc f ≤ length A) (rb : 3 * suc f ≤ length B) (p q : Side) where
    abbrev A2 : List ℕ
    A2 = set A (number p) (number x)

    abbrev pub A3 : List ℕ
    A3 = set A2 (number y) (number q)

    abbrev B2 : List ℕ
    B2 = set B (number x) (number p)

    abbrev pub B3 : List ℕ
    B3 = set B2 (number q) (number y)

    L : IsLinked f g A B
    L = fewer G N0

    at_x : get_or A (number x) 0 ≡ number y
    at_x = N0.after_is x (new_side G (place_after k)) ∙ ap number (forth G1 x y (new_side G (place_after k)) after_x)

    at_y : get_or B (number y) 0 ≡ number x
    at_y = N0.before_is y (new_side G (place_before k)) ∙ ap number (back G1 x y (new_side G (place_after k)) after_x)

    long_a2 : 3 * suc f ≤ length A2
    long_a2 = let e = length-set A (number p) (number x) in omega arith

    long_b2 : 3 * suc f ≤ length B2
    long_b2 = let e = length-set B (number x) (number p) in omega arith

    x_not_y : x ≢ y
    x_not_y e = place_apart f (place_before k) (place_after k) (before_not_after k) (sym e)

    a_at_x : x ≢ p → get_or A3 (number x) 0 ≡ number y
    a_at_x h = read_else A2 y x (number q) x_not_y ∙ read_else A p x (number x) h ∙ at_x

    a_at_y : get_or A3 (number y) 0 ≡ number q
    a_at_y = read_here A2 y (number q) (suc f) (omega arith) long_a2

    a_at_p : p ≢ y → p.face < suc f → get_or A3 (number p) 0 ≡ number x
    a_at_p h w = read_else A2 y p (number q) h ∙ read_here A p (number x) (suc f) w ra

    a_else : (z : Side) → z ≢ x → z ≢ y → z ≢ p → get_or A3 (number z) 0 ≡ get_or A (number z) 0
    a_else z h i j = read_else A2 y z (number q) i ∙ read_else A p z (number x) j

    b_at_x : x ≢ q → get_or B3 (number x) 0 ≡ number p
    b_at_x h = read_else B2 q x (number y) h ∙ read_here B x (number p) (suc f) (omega arith) rb

    b_at_y : y ≢ q → get_or B3 (number y) 0 ≡ number x
    b_at_y h = read_else B2 q y (number y) h ∙ read_else B x y (number p) (λ e. x_not_y (sym e)) ∙ at_y

    b_at_q : q.face < suc f → get_or B3 (number q) 0 ≡ number y
    b_at_q w = read_here B2 q (number y) (suc f) w long_b2

    b_else : (z : Side) → z ≢ x → z ≢ y → z ≢ q → get_or B3 (number z) 0 ≡ get_or B (number z) 0
    b_else z h i j = read_else B2 q z (number y) j ∙ read_else B x z (number p) h

    away : (j : Place) (z : Side) → IsFree f g z → z ≢ side f j
    away j z Z e = new_apart j z Z.within (sym e)

    told_after : (l : List ℕ) (z u v : Side) → z ≡ u → get_or l (number u) 0 ≡ number v → side_after (suc f) beside u ≡ v → get_or l (number z) 0 ≡ number (side_after (suc f) beside z)
    told_after l z u v e r s = ap (λ (w : Side). get_or l (number w) 0) e ∙ r ∙ ap number (sym s) ∙ ap (λ (w : Side). number (side_after (suc f) beside w)) (sym e)

    told_before : (l : List ℕ) (z u v : Side) → z ≡ u → get_or l (number u) 0 ≡ number v → side_before (suc f) beside u ≡ v → get_or l (number z) 0 ≡ number (side_before (suc f) beside z)
    told_before l z u v e r s = ap (λ (w : Side). get_or l (number w) 0) e ∙ r ∙ ap number (sym s) ∙ ap (λ (w : Side). number (side_before (suc f) beside w)) (sym e)

    x_free : IsFree (suc f) beside x
    x_free = other_free (place_after k) (after_other k)

    y_free : IsFree (suc f) beside y
    y_free = other_free (place_before k) (before_other k)

    -- t is alone in its loop
    pub linked_lone : side_after f g t ≡ t → p ≡ y → q ≡ x → IsLinked (suc f) beside A3 B3
    linked_lone lone at_p at_q = record { after_is = goes; before_is = comes }
      where
        not_t : (z : Side) → IsFree f g z → z ≢ t → side_after f g z ≢ t
        not_t z Z h e = h (after_injective G z t Z T (e ∙ sym lone))

        not_back : (z : Side) → IsFree f g z → z ≢ t → side_before f g z ≢ t
        not_back z Z h e = h (after_is z Z e ∙ lone)

        goes : (z : Side) → IsFree (suc f) beside z → get_or A3 (number z) 0 ≡ number (side_after (suc f) beside z)
        goes z Z = elim (free_tells z Z) [
          | inl e ↦ told_after A3 z x y e (a_at_x (λ r. x_not_y (r ∙ at_p))) (forth beside_is x y x_free second_follows)
          | inr o ↦ elim o [
            | inl e ↦ told_after A3 z y x e (a_at_y ∙ ap number at_q) (forth beside_is y x y_free (loop_of_two lone))
            | inr F ↦ (
                let W : IsFree (suc f) beside z = old_free z F.1 F.0 in
                a_else z (away _ z F.1) (away _ z F.1) (λ r. away (place_before k) z F.1 (r ∙ at_p)) ∙ L.after_is z F.1
                ∙ ap number (sym (forth beside_is z (side_after f g z) W (old_follows z F.1 (not_t z F.1 F.0)))))
          ]
        ]

        comes : (z : Side) → IsFree (suc f) beside z → get_or B3 (number z) 0 ≡ number (side_before (suc f) beside z)
        comes z Z = elim (free_tells z Z) [
          | inl e ↦ told_before B3 z x y (e) (ap (λ (w : Side). get_or B3 (number w) 0) (sym at_q) ∙ b_at_q (subst (λ (w : Side). w.face < suc f) (sym at_q) (omega arith))) (back beside_is y x y_free (loop_of_two lone))
          | inr o ↦ elim o [
            | inl e ↦ told_before B3 z y x e (b_at_y (λ r. x_not_y (sym (r ∙ at_q)))) (back beside_is x y x_free second_follows)
            | inr F ↦ (
                let w = side_before f g z in
                let V : IsFree f g w = before_free G z F.1 in
                let W : IsFree (suc f) beside w = old_free w V (not_back z F.1 F.0) in
                let there : side_after f g w ≡ z = there_back G z F.1 in
                b_else z (away _ z F.1) (away _ z F.1) (λ r. away (place_after k) z F.1 (r ∙ at_q)) ∙ L.before_is z F.1
                ∙ ap number (sym (back beside_is w z W (subst (Follows (suc f) beside w) there (old_follows w V (λ r. F.0 (sym there ∙ r)))))))
          ]
        ]

    -- it has neighbours
    pub linked_between : side_after f g t ≢ t → p ≡ side_before f g t → q ≡ side_after f g t → IsLinked (suc f) beside A3 B3
    linked_between other at_p at_q = record { after_is = goes; before_is = comes }
      where
        P : IsFree f g (side_before f g t)
        P = before_free G t T

        Q : IsFree f g (side_after f g t)
        Q = after_free G t T

        p_not_t : side_before f g t ≢ t
        p_not_t e = other (ap (side_after f g) (sym e) ∙ there_back G t T)

        p_away : (j : Place) → p ≢ side f j
        p_away j r = away j (side_before f g t) P (sym at_p ∙ r)

        q_away : (j : Place) → q ≢ side f j
        q_away j r = away j (side_after f g t) Q (sym at_q ∙ r)

        p_within : p.face < suc f
        p_within = let w = P.within in subst (λ (w : Side). w.face < suc f) (sym at_p) (omega arith)

        q_within : q.face < suc f
        q_within = let w = Q.within in subst (λ (w : Side). w.face < suc f) (sym at_q) (omega arith)

        goes : (z : Side) → IsFree (suc f) beside z → get_or A3 (number z) 0 ≡ number (side_after (suc f) beside z)
        goes z Z = elim (free_tells z Z) [
          | inl e ↦ told_after A3 z x y e (a_at_x (λ r. p_away _ (sym r))) (forth beside_is x y x_free second_follows)
          | inr o ↦ elim o [
            | inl e ↦ told_after A3 z y (side_after f g t) e (a_at_y ∙ ap number at_q) (forth beside_is y (side_after f g t) y_free (next_follows other))
            | inr F ↦ elim (same_tells (side_after f g z) t) [
              | inl e ↦ told_after A3 z (side_before f g t) x (before_is z F.1 e) (ap (λ (w : Side). get_or A3 (number w) 0) (sym at_p) ∙ a_at_p (p_away _) p_within)
                  (forth beside_is (side_before f g t) x (old_free (side_before f g t) P p_not_t) (first_follows other))
              | inr h ↦ (
                  let W : IsFree (suc f) beside z = old_free z F.1 F.0 in
                  a_else z (away _ z F.1) (away _ z F.1) (λ r. h (ap (side_after f g) (r ∙ at_p) ∙ there_back G t T)) ∙ L.after_is z F.1
                  ∙ ap number (sym (forth beside_is z (side_after f g z) W (old_follows z F.1 h))))
            ]
          ]
        ]

        comes : (z : Side) → IsFree (suc f) beside z → get_or B3 (number z) 0 ≡ number (side_before (suc f) beside z)
        comes z Z = elim (free_tells z Z) [
          | inl e ↦ told_before B3 z x (side_before f g t) e (b_at_x (λ r. q_away _ (sym r)) ∙ ap number at_p)
              (back beside_is (side_before f g t) x (old_free (side_before f g t) P p_not_t) (first_follows other))
          | inr o ↦ elim o [
            | inl e ↦ told_before B3 z y x e (b_at_y (λ r. q_away _ (sym r))) (back beside_is x y x_free second_follows)
            | inr F ↦ elim (same_tells (side_before f g z) t) [
              | inl e ↦ told_before B3 z (side_after f g t) y (after_is z F.1 e) (ap (λ (w : Side). get_or B3 (number w) 0) (sym at_q) ∙ b_at_q q_within)
                  (back beside_is y (side_after f g t) y_free (next_follows other))
              | inr h ↦ (
                  let w = side_before f g z in
                  let V : IsFree f g w = before_free G z F.1 in
                  let W : IsFree (suc f) beside w = old_free w V h in
                  let there : side_after f g w ≡ z = there_back G z F.1 in
                  b_else z (away _ z F.1) (away _ z F.1) (λ r. h (ap (side_before f g) (r ∙ at_q) ∙ back_there G t T)) ∙ L.before_is z F.1
                  ∙ ap number (sym (back beside_is w z W (subst (Follows (suc f) beside w) there (old_follows w V (λ r. F.0 (sym there ∙ r)))))))
            ]
          ]
        ]

-- two lists as one
abbrev AreLinks : ℕ → Gluing → List ℕ × List ℕ → Type 0
AreLinks faces h links = IsLinked faces h links.0 links.1

pub replaced_linked : (f : ℕ) (g : Gluing) (k : Place) (t : Side) (A B : List ℕ) → IsGluing f g → IsFree f g t → IsLinked (suc f) g A B → 3 * suc f ≤ length A → 3 * suc f ≤ length B →
    AreLinks (suc f) (glue (side f k) t g) (replaced (number t) (number (side f (place_after k))) (number (side f (place_before k))) (A, B))
replaced_linked f g k t A B G T L ra rb =
    subst (AreLinks (suc f) (glue (side f k) t g)) (sym known_is) (go (cases_Bool (eqb (number (side_after f g t)) (number t))))
  where
    known_is : replaced (number t) (number (side f (place_after k))) (number (side f (place_before k))) (A, B) ≡ put_for (number (side_after f g t)) (number (side_before f g t)) (number t) (number (side f (place_after k))) (number (side f (place_before k))) (A, B)
    known_is =
        ap (λ (m : ℕ). put_for m (get_or B (number t) 0) (number t) (number (side f (place_after k))) (number (side f (place_before k))) (A, B)) ((fewer G L).after_is t T)
        ∙ ap (λ (m : ℕ). put_for (number (side_after f g t)) m (number t) (number (side f (place_after k))) (number (side f (place_before k))) (A, B)) ((fewer G L).before_is t T)

    go : (eqb (number (side_after f g t)) (number t) ≡ true) ⊎ (eqb (number (side_after f g t)) (number t) ≡ false) →
        AreLinks (suc f) (glue (side f k) t g) (put_for (number (side_after f g t)) (number (side_before f g t)) (number t) (number (side f (place_after k))) (number (side f (place_before k))) (A, B))
    go (inl e) = rw e (linked_lone f g k t G T A B L ra rb (side f (place_before k)) (side f (place_after k)) (number_injective _ _ (eqb-true _ _ e)) refl refl)
    go (inr e) = rw e (linked_between f g k t G T A B L ra rb (side_before f g t) (side_after f g t) (λ r. eqb-false _ _ e (ap number r)) refl refl)

-- the table with the new face
pub links_beside : {f : ℕ} {across now after before : List ℕ} (k : Place) (t : Side) → IsLinkedTable f across after before → IsFree f (glued_in across) t → 3 * suc f ≤ length across →
    length now ≡ length across → glued_in now ≡ glue (side f k) t (glued_in across) →
    IsLinkedTable (suc f) now (replaced (number t) (number (side f (place_after k))) (number (side f (place_before k))) (new_loop f (grown (after, before)))).0 (replaced (number t) (number (side f (place_after k))) (number (side f (place_before k))) (new_loop f (grown (after, before)))).1
links_beside {f} {across} {now} {after} {before} k t M T h long same = record {
  table = record {
    limit = (let l = M.table.limit in omega arith);
    whole = (let w = M.table.whole in omega arith);
    fits = omega arith;
    gluing = subst (IsGluing (suc f)) (sym same) (beside_is f (glued_in across) k t M.table.gluing T);
  };
  each_after = length-set _ _ _ ∙ length-set _ _ _ ∙ (links_grown M h).each_after;
  each_before = length-set _ _ _ ∙ length-set _ _ _ ∙ (links_grown M h).each_before;
  linked = subst (λ (g : Gluing). AreLinks (suc f) g (replaced (number t) (number (side f (place_after k))) (number (side f (place_before k))) (new_loop f (grown (after, before))))) (sym same)
      (replaced_linked f (glued_in across) k t (new_loop f (grown (after, before))).0 (new_loop f (grown (after, before))).1 M.table.gluing T (links_grown M h).linked (let e = (links_grown M h).each_after in omega arith) (let e = (links_grown M h).each_before in omega arith));
}

-- a new face, whose side 1 is glued to the free side t and its side 2 to side b before it: its side 0 takes the place of both
module _ (f : ℕ) (g : Gluing) (t : Side) (G : IsGluing f g) (T : IsFree f g t) (h : side_before f g t ≢ t) where
  abbrev b : Side
  b = side_before f g t

  abbrev s : Side
  s = side f first

  abbrev a : Side
  a = side f third

  abbrev one : Gluing
  one = glue (side f second) t g

  abbrev both : Gluing
  both = glue a b one

  neighbours : side_after f g t ≢ t
  neighbours e = h (lone_before f g second t G T e)

  B0 : IsFree f g b
  B0 = before_free G t T

  to_t : side_after f g b ≡ t
  to_t = there_back G t T

  clear : (j : Place) (z : Side) → IsFree f g z → side f j ≢ z
  clear j z Z = face_apart (side f j) z (λ e. (let w = Z.within in absurd (let r : f ≡ z.face = e in omega arith)))

  a_free : IsFree (suc f) one a
  a_free = other_free f g second t G T third (λ e. (cc))

  b_free : IsFree (suc f) one b
  b_free = old_free f g second t G T b B0 h

  a_apart : a.face ≢ b.face
  a_apart e = let w = B0.within in let r : f ≡ b.face = e in absurd (omega arith)

  one_is : IsGluing (suc f) one
  one_is = beside_is f g second t G T

  pub tip_is : IsGluing (suc f) both
  tip_is = glued_is a b one_is a_free b_free a_apart

  s_not_a : s ≢ a
  s_not_a = place_apart f first third (λ e. (cc))

  s_free : IsFree (suc f) both s
  s_free = free_after a b s s_not_a (clear first b B0) (other_free f g second t G T first (λ e. (cc)))

  kept_free : (z : Side) → IsFree f g z → z ≢ t → z ≢ b → IsFree (suc f) both z
  kept_free z Z i j = free_after a b z (λ e. clear third z Z (sym e)) j (old_free f g second t G T z Z i)

  -- b and t are the whole loop
  lone_follows : side_after f g t ≡ b → Follows (suc f) both s s
  lone_follows e =
      follows_over_second a b s s tip_is a_free b_free s_not_a (clear first b B0)
      (subst (Follows (suc f) one s) e (next_follows f g second t G T neighbours)) (second_follows f g second t G T)

  onward_follows : side_after f g t ≢ b → Follows (suc f) both s (side_after f g t)
  onward_follows i =
      let Q = after_free G t T in
      follows_kept a b s (side_after f g t) a_free b_free (λ e. clear third (side_after f g t) Q (sym e)) i (next_follows f g second t G T neighbours)

  b_not_t : b ≢ t
  b_not_t = h

  earlier_follows : Follows (suc f) both (side_before f g b) s
  earlier_follows =
      let P = before_free G b B0 in
      let to_b = there_back G b B0 in
      follows_over_second a b (side_before f g b) s tip_is a_free b_free s_not_a (clear first b B0)
      (subst (Follows (suc f) one (side_before f g b)) to_b (old_follows f g second t G T (side_before f g b) P (λ e. h (sym to_b ∙ e)))) (second_follows f g second t G T)

  kept_follows : (z : Side) → IsFree f g z → side_after f g z ≢ t → side_after f g z ≢ b → Follows (suc f) both z (side_after f g z)
  kept_follows z Z i j =
      follows_kept a b z (side_after f g z) a_free b_free (λ e. clear third (side_after f g z) (after_free G z Z) (sym e)) j (old_follows f g second t G T z Z i)

  both_tells : (z : Side) → IsFree (suc f) both z → (z ≡ s) ⊎ ((z ≢ t) × (z ≢ b) × IsFree f g z)
  both_tells z Z =
      let F = free_before a b z (face_apart a b a_apart) Z in
      elim (free_tells f g second t G T z F.2) [
        | inl e ↦ absurd (F.0 e)
        | inr o ↦ elim o [ inl e ↦ inl e | inr O ↦ inr (O.0, F.1, O.1) ]
      ]

  -- the links, where p comes before the side and q after it
  module _ (A B : List ℕ) (N0 : IsLinked (suc f) g A B) (ra : 3 * suc f ≤ length A) (rb : 3 * suc f ≤ length B) (p q : Side) where
    abbrev C1 : List ℕ
    C1 = set A (number p) (number s)

    abbrev pub C2 : List ℕ
    C2 = set C1 (number s) (number q)

    abbrev D1 : List ℕ
    D1 = set B (number s) (number p)

    abbrev pub D2 : List ℕ
    D2 = set D1 (number q) (number s)

    links : IsLinked f g A B
    links = fewer G N0

    long_c1 : 3 * suc f ≤ length C1
    long_c1 = let e = length-set A (number p) (number s) in omega arith

    long_d1 : 3 * suc f ≤ length D1
    long_d1 = let e = length-set B (number s) (number p) in omega arith

    c_at_s : get_or C2 (number s) 0 ≡ number q
    c_at_s = read_here C1 s (number q) (suc f) (omega arith) long_c1

    c_at_p : p ≢ s → p.face < suc f → get_or C2 (number p) 0 ≡ number s
    c_at_p i w = read_else C1 s p (number q) i ∙ read_here A p (number s) (suc f) w ra

    c_else : (z : Side) → z ≢ s → z ≢ p → get_or C2 (number z) 0 ≡ get_or A (number z) 0
    c_else z i j = read_else C1 s z (number q) i ∙ read_else A p z (number s) j

    d_at_s : s ≢ q → get_or D2 (number s) 0 ≡ number p
    d_at_s i = read_else D1 q s (number s) i ∙ read_here B s (number p) (suc f) (omega arith) rb

    d_at_q : q.face < suc f → get_or D2 (number q) 0 ≡ number s
    d_at_q w = read_here D1 q (number s) (suc f) w long_d1

    d_else : (z : Side) → z ≢ s → z ≢ q → get_or D2 (number z) 0 ≡ get_or B (number z) 0
    d_else z i j = read_else D1 q z (number s) j ∙ read_else B s z (number p) i

    off : (z : Side) → IsFree f g z → z ≢ s
    off z Z e = clear first z Z (sym e)

    goes_to : (z u v : Side) → z ≡ u → get_or C2 (number u) 0 ≡ number v → side_after (suc f) both u ≡ v → get_or C2 (number z) 0 ≡ number (side_after (suc f) both z)
    goes_to z u v e r i = ap (λ (w : Side). get_or C2 (number w) 0) e ∙ r ∙ ap number (sym i) ∙ ap (λ (w : Side). number (side_after (suc f) both w)) (sym e)

    comes_from : (z u v : Side) → z ≡ u → get_or D2 (number u) 0 ≡ number v → side_before (suc f) both u ≡ v → get_or D2 (number z) 0 ≡ number (side_before (suc f) both z)
    comes_from z u v e r i = ap (λ (w : Side). get_or D2 (number w) 0) e ∙ r ∙ ap number (sym i) ∙ ap (λ (w : Side). number (side_before (suc f) both w)) (sym e)

    -- the side before an old side that isn't next to the two
    behind_kept : (z : Side) → IsFree f g z → z ≢ t → z ≢ b → side_before f g z ≢ t → side_before (suc f) both z ≡ side_before f g z
    behind_kept z Z i j m =
        let w = side_before f g z in
        let V : IsFree f g w = before_free G z Z in
        let there : side_after f g w ≡ z = there_back G z Z in
        let n : w ≢ b = λ r. i (sym there ∙ ap (side_after f g) r ∙ to_t) in
        back tip_is w z (kept_free w V m n) (subst (Follows (suc f) both w) there (kept_follows w V (λ r. i (sym there ∙ r)) (λ r. j (sym there ∙ r))))

    pub linked_closed : side_after f g t ≡ b → p ≡ s → q ≡ s → IsLinked (suc f) both C2 D2
    linked_closed whole at_p at_q = record { after_is = goes; before_is = comes }
      where
        goes : (z : Side) → IsFree (suc f) both z → get_or C2 (number z) 0 ≡ number (side_after (suc f) both z)
        goes z Z = elim (both_tells z Z) [
          | inl e ↦ goes_to z s s e (c_at_s ∙ ap number at_q) (forth tip_is s s s_free (lone_follows whole))
          | inr F ↦
              c_else z (off z F.2) (λ r. off z F.2 (r ∙ at_p)) ∙ links.after_is z F.2
              ∙ ap number (sym (forth tip_is z (side_after f g z) (kept_free z F.2 F.0 F.1)
              (kept_follows z F.2 (λ e. F.1 (before_is f g second t G T z F.2 e)) (λ e. F.0 (after_injective G z t F.2 T (e ∙ sym whole))))))
        ]

        comes : (z : Side) → IsFree (suc f) both z → get_or D2 (number z) 0 ≡ number (side_before (suc f) both z)
        comes z Z = elim (both_tells z Z) [
          | inl e ↦ comes_from z s s e (ap (λ (w : Side). get_or D2 (number w) 0) (sym at_q) ∙ d_at_q (subst (λ (w : Side). w.face < suc f) (sym at_q) (omega arith))) (back tip_is s s s_free (lone_follows whole))
          | inr F ↦
              d_else z (off z F.2) (λ r. off z F.2 (r ∙ at_q)) ∙ links.before_is z F.2
              ∙ ap number (sym (behind_kept z F.2 F.0 F.1 (λ e. F.1 (after_is f g second t G T z F.2 e ∙ whole))))
        ]

    pub linked_open : side_after f g t ≢ b → p ≡ side_before f g b → q ≡ side_after f g t → IsLinked (suc f) both C2 D2
    linked_open more at_p at_q = record { after_is = goes; before_is = comes }
      where
        P : IsFree f g (side_before f g b)
        P = before_free G b B0

        Q : IsFree f g (side_after f g t)
        Q = after_free G t T

        to_b : side_after f g (side_before f g b) ≡ b
        to_b = there_back G b B0

        earlier_free : IsFree (suc f) both (side_before f g b)
        earlier_free = kept_free (side_before f g b) P (λ e. more (ap (side_after f g) (sym e) ∙ to_b)) (λ e. h (sym to_b ∙ ap (side_after f g) e ∙ to_t))

        goes : (z : Side) → IsFree (suc f) both z → get_or C2 (number z) 0 ≡ number (side_after (suc f) both z)
        goes z Z = elim (both_tells z Z) [
          | inl e ↦ goes_to z s (side_after f g t) e (c_at_s ∙ ap number at_q) (forth tip_is s (side_after f g t) s_free (onward_follows more))
          | inr F ↦ elim (same_tells (side_after f g z) b) [
            | inl e ↦ goes_to z (side_before f g b) s (sym (back_there G z F.2) ∙ ap (side_before f g) e)
                (ap (λ (w : Side). get_or C2 (number w) 0) (sym at_p) ∙ c_at_p (λ r. off (side_before f g b) P (sym at_p ∙ r)) (let w = P.within in subst (λ (x : Side). x.face < suc f) (sym at_p) (omega arith)))
                (forth tip_is (side_before f g b) s earlier_free earlier_follows)
            | inr i ↦
                c_else z (off z F.2) (λ r. i (ap (side_after f g) (r ∙ at_p) ∙ to_b)) ∙ links.after_is z F.2
                ∙ ap number (sym (forth tip_is z (side_after f g z) (kept_free z F.2 F.0 F.1) (kept_follows z F.2 (λ e. F.1 (before_is f g second t G T z F.2 e)) i)))
          ]
        ]

        comes : (z : Side) → IsFree (suc f) both z → get_or D2 (number z) 0 ≡ number (side_before (suc f) both z)
        comes z Z = elim (both_tells z Z) [
          | inl e ↦ comes_from z s (side_before f g b) e (d_at_s (λ r. off (side_after f g t) Q (sym (r ∙ at_q))) ∙ ap number at_p) (back tip_is (side_before f g b) s earlier_free earlier_follows)
          | inr F ↦ elim (same_tells (side_before f g z) t) [
            | inl e ↦ comes_from z (side_after f g t) s (after_is f g second t G T z F.2 e)
                (ap (λ (w : Side). get_or D2 (number w) 0) (sym at_q) ∙ d_at_q (let w = Q.within in subst (λ (x : Side). x.face < suc f) (sym at_q) (omega arith)))
                (back tip_is s (side_after f g t) s_free (onward_follows more))
            | inr i ↦
                d_else z (off z F.2) (λ r. i (ap (side_before f g) (r ∙ at_q) ∙ back_there G t T)) ∙ links.before_is z F.2
                ∙ ap number (sym (behind_kept z F.2 F.0 F.1 i))
          ]
        ]

pub closed_up_linked : (f : ℕ) (g : Gluing) (t : Side) (A B : List ℕ) → IsGluing f g → IsFree f g t → side_before f g t ≢ t → IsLinked (suc f) g A B → 3 * suc f ≤ length A → 3 * suc f ≤ length B →
    AreLinks (suc f) (glue (side f third) (side_before f g t) (glue (side f second) t g)) (closed_up (number t) (number (side_before f g t)) (number (side f first)) (A, B))
closed_up_linked f g t A B G T h L ra rb =
    subst (AreLinks (suc f) (glue (side f third) (side_before f g t) (glue (side f second) t g))) (sym known_is) (go (cases_Bool (eqb (number (side_after f g t)) (number (side_before f g t)))))
  where
    known_is : closed_up (number t) (number (side_before f g t)) (number (side f first)) (A, B) ≡ put_for_two (number (side_after f g t)) (number (side_before f g (side_before f g t))) (number (side_before f g t)) (number (side f first)) (A, B)
    known_is =
        ap (λ (m : ℕ). put_for_two m (get_or B (number (side_before f g t)) 0) (number (side_before f g t)) (number (side f first)) (A, B)) ((fewer G L).after_is t T)
        ∙ ap (λ (m : ℕ). put_for_two (number (side_after f g t)) m (number (side_before f g t)) (number (side f first)) (A, B)) ((fewer G L).before_is (side_before f g t) (before_free G t T))

    go : (eqb (number (side_after f g t)) (number (side_before f g t)) ≡ true) ⊎ (eqb (number (side_after f g t)) (number (side_before f g t)) ≡ false) →
        AreLinks (suc f) (glue (side f third) (side_before f g t) (glue (side f second) t g)) (put_for_two (number (side_after f g t)) (number (side_before f g (side_before f g t))) (number (side_before f g t)) (number (side f first)) (A, B))
    go (inl e) = rw e (linked_closed f g t G T h A B L ra rb (side f first) (side f first) (number_injective _ _ (eqb-true _ _ e)) refl refl)
    go (inr e) = rw e (linked_open f g t G T h A B L ra rb (side_before f g (side_before f g t)) (side_after f g t) (λ r. eqb-false _ _ e (ap number r)) refl refl)

pub links_tip : {f : ℕ} {across now after before : List ℕ} (t b : Side) → IsLinkedTable f across after before → IsFree f (glued_in across) t → b ≡ side_before f (glued_in across) t → b ≢ t → 3 * suc f ≤ length across →
    length now ≡ length across → glued_in now ≡ glue (side f third) b (glue (side f second) t (glued_in across)) →
    IsLinkedTable (suc f) now (closed_up (number t) (number b) (number (side f first)) (new_loop f (grown (after, before)))).0 (closed_up (number t) (number b) (number (side f first)) (new_loop f (grown (after, before)))).1
links_tip {f} {across} {now} {after} {before} t b M T is h room long same = record {
  table = record {
    limit = (let l = M.table.limit in omega arith);
    whole = (let w = M.table.whole in omega arith);
    fits = omega arith;
    gluing = subst (IsGluing (suc f)) (sym told) (tip_is f (glued_in across) t M.table.gluing T other);
  };
  each_after = length-set _ _ _ ∙ length-set _ _ _ ∙ (links_grown M room).each_after;
  each_before = length-set _ _ _ ∙ length-set _ _ _ ∙ (links_grown M room).each_before;
  linked = subst (λ (g : Gluing). AreLinks (suc f) g (closed_up (number t) (number b) (number (side f first)) (new_loop f (grown (after, before))))) (sym told)
      (subst (λ (x : Side). AreLinks (suc f) (glue (side f third) (side_before f (glued_in across) t) (glue (side f second) t (glued_in across))) (closed_up (number t) (number x) (number (side f first)) (new_loop f (grown (after, before))))) (sym is)
      (closed_up_linked f (glued_in across) t (new_loop f (grown (after, before))).0 (new_loop f (grown (after, before))).1 M.table.gluing T other (links_grown M room).linked (let e = (links_grown M room).each_after in omega arith) (let e = (links_grown M room).each_before in omega arith)));
}
  where
    other : side_before f (glued_in across) t ≢ t
    other e = h (is ∙ e)

    told : glued_in now ≡ glue (side f third) (side_before f (glued_in across) t) (glue (side f second) t (glued_in across))
    told = same ∙ ap (λ (x : Side). glue (side f third) x (glue (side f second) t (glued_in across))) is

-- the side before a free side is free
pub previous_free : {f : ℕ} {g : Gluing} → IsGluing f g → (t b : Side) → IsFree f g t → b ≡ side_before f g t → IsFree f g b
previous_free {f} {g} G t b T e = subst (IsFree f g) (sym e) (before_free G t T)

-- a free side stays free when a face is added, and when two others are glued
pub grown_free : {faces now : ℕ} {across entries : List ℕ} (x : Side) → now ≡ faces + 1 → entries ≡ across → IsFree faces (glued_in across) x → IsFree now (glued_in entries) x
grown_free x e h X = record { within = (let w = X.within in omega arith); free = ap (λ (l : List ℕ). glued_in l x) h ∙ X.free }

pub still_free : {faces now : ℕ} {g h : Gluing} (a b x : Side) → now ≡ faces → h ≡ glue a b g → IsFree faces g x → x ≢ a → x ≢ b → IsFree now h x
still_free {faces} {now} {g} {h} a b x e is X p q =
    subst (λ (n : ℕ). IsFree n h x) (sym e) (subst (λ (k : Gluing). IsFree faces k x) (sym is) (free_after a b x p q X))
