-- The two lists of links after a new face and after a gluing.
use Rattle.std.proofs.Common.{◌≡◌, ◌≢◌, ℕ, ◌*◌, ◌≤◌, true, false, eqb, List, length, get_or, set, ◌⊎◌, inl, inr, sym, ap, ◌∙◌, subst, arith, length-set, eqb-true}
use Rattle.std.proofs.lemmas.Bool.{cases_Bool, cond-true, cond-false, eqb-false}
use Rattle.corner_table.specs.Sides.{Side, number, Gluing, glue, IsGluing, IsFree}
use Rattle.corner_table.specs.Fans.{side_before, side_after}
use Rattle.corner_table.specs.Links.{IsLinked, taken_out, relinked}
use Rattle.corner_table.proofs.Places.{face_apart}
use Rattle.corner_table.proofs.Numbers.{number_injective}
use Rattle.corner_table.proofs.Gluings.{free_before}
use Rattle.corner_table.proofs.LinkSteps.{read_here, read_else, after-before, before-after, after_free, before_free, after_injective, after-glue, before-glue, stays, over_first, over_second, past_second, past_first, was_stays, was_over_first, was_over_second, was_past_second, was_past_first}

-- the neighbours of two free sides about to be glued, with what is known of them
pub record Around (faces : ℕ) (g : Gluing) (a b : Side) (A B : List ℕ) : Type 0 where
  pub gluing : IsGluing faces g
  pub first_free : IsFree faces g a
  pub second_free : IsFree faces g b
  pub apart : a.face ≢ b.face
  pub linked : IsLinked faces g A B
  pub room_after : 3 * faces ≤ length A
  pub room_before : 3 * faces ≤ length B

-- what links say after some writes: each free side's entries are those of the new boundary
abbrev pub AfterIs : ℕ → Gluing → Side → Side → List ℕ → Type 0
AfterIs faces g a b A' = (x : Side) → IsFree faces (glue a b g) x → get_or A' (number x) 0 ≡ number (side_after faces (glue a b g) x)

abbrev pub BeforeIs : ℕ → Gluing → Side → Side → List ℕ → Type 0
BeforeIs faces g a b B' = (x : Side) → IsFree faces (glue a b g) x → get_or B' (number x) 0 ≡ number (side_before faces (glue a b g) x)

module _ (faces : ℕ) (g : Gluing) (a b : Side) (A B : List ℕ) (R : Around faces g a b A B) where
  frees : (x : Side) → IsFree faces (glue a b g) x → (x ≢ a) × (x ≢ b) × IsFree faces g x
  frees x X = free_before a b x (face_apart a b R.apart) X

  was_before : (x z : Side) → IsFree faces g x → side_after faces g x ≡ z → x ≡ side_before faces g z
  was_before x z X e = sym (before-after R.gluing x X) ∙ ap (side_before faces g) e

  not_before : (x z : Side) → IsFree faces g z → side_after faces g x ≢ z → x ≢ side_before faces g z
  not_before x z Z m q = m (ap (side_after faces g) q ∙ after-before R.gluing z Z)

  was_after : (x z : Side) → IsFree faces g x → side_before faces g x ≡ z → x ≡ side_after faces g z
  was_after x z X e = sym (after-before R.gluing x X) ∙ ap (side_after faces g) e

  not_after : (x z : Side) → IsFree faces g z → side_before faces g x ≢ z → x ≢ side_after faces g z
  not_after x z Z m q = m (ap (side_before faces g) q ∙ before-after R.gluing z Z)

  not_other : (x y z : Side) → y ≢ z → x ≡ y → x ≢ z
  not_other x y z h e q = h (sym e ∙ q)

  ne : a ≢ b
  ne = face_apart a b R.apart

  -- a lone side has no other before it
  lone_no_other : (x z : Side) → IsFree faces g x → IsFree faces g z → x ≢ z → side_after faces g z ≡ z → side_after faces g x ≡ z → ⊥
  lone_no_other x z X Z h lone e = h (after_injective R.gluing x z X Z (e ∙ sym lone))

  lone_no_next : (x z : Side) → IsFree faces g x → IsFree faces g z → x ≢ z → side_after faces g z ≡ z → side_before faces g x ≡ z → ⊥
  lone_no_next x z X Z h lone e = h (was_after x z X e ∙ lone)

  after_neither : side_after faces g a ≢ a → side_after faces g b ≢ b →
      AfterIs faces g a b (set (set A (number (side_before faces g a)) (number (side_after faces g b))) (number (side_before faces g b)) (number (side_after faces g a)))
  after_neither u v x X =
      let F = frees x X in
      let pa = side_before faces g a in
      let pb = side_before faces g b in
      let A1 = set A (number pa) (number (side_after faces g b)) in
      let v1 = number (side_after faces g a) in
      let l1 : 3 * faces ≤ length A1 = (let e = length-set A (number pa) (number (side_after faces g b)) in let h = R.room_after in omega arith) in
      let fpa = before_free R.gluing a R.first_free in
      let fpb = before_free R.gluing b R.second_free in
      elim (after-glue R.gluing a b R.first_free R.second_free R.apart x X) [
        | stays m k e ↦ read_else A1 pb x v1 (not_before x b R.second_free k) ∙ read_else A pa x (number (side_after faces g b)) (not_before x a R.first_free m) ∙ R.linked.after_is x F.2 ∙ ap number (sym e)
        | over_first e o q ↦
            read_else A1 pb x v1 (not_before x b R.second_free (not_other (side_after faces g x) a b ne e))
            ∙ ap (λ (z : Side). get_or A1 (number z) 0) (was_before x a F.2 e) ∙ read_here A pa (number (side_after faces g b)) faces fpa.within R.room_after ∙ ap number (sym q)
        | over_second e o q ↦
            ap (λ (z : Side). get_or (set A1 (number pb) v1) (number z) 0) (was_before x b F.2 e) ∙ read_here A1 pb v1 faces fpb.within l1 ∙ ap number (sym q)
        | past_second e o q ↦ absurd (v o)
        | past_first e o q ↦ absurd (u o)
      ]

  before_neither : side_after faces g a ≢ a → side_after faces g b ≢ b →
      BeforeIs faces g a b (set (set B (number (side_after faces g b)) (number (side_before faces g a))) (number (side_after faces g a)) (number (side_before faces g b)))
  before_neither u v x X =
      let F = frees x X in
      let na = side_after faces g a in
      let nb = side_after faces g b in
      let B1 = set B (number nb) (number (side_before faces g a)) in
      let v1 = number (side_before faces g b) in
      let l1 : 3 * faces ≤ length B1 = (let e = length-set B (number nb) (number (side_before faces g a)) in let h = R.room_before in omega arith) in
      let fna = after_free R.gluing a R.first_free in
      let fnb = after_free R.gluing b R.second_free in
      elim (before-glue R.gluing a b R.first_free R.second_free R.apart x X) [
        | was_stays m k e ↦ read_else B1 na x v1 (not_after x a R.first_free m) ∙ read_else B nb x (number (side_before faces g a)) (not_after x b R.second_free k) ∙ R.linked.before_is x F.2 ∙ ap number (sym e)
        | was_over_first e o q ↦
            read_else B1 na x v1 (not_after x a R.first_free (not_other (side_before faces g x) b a (λ r. ne (sym r)) e))
            ∙ ap (λ (z : Side). get_or B1 (number z) 0) (was_after x b F.2 e) ∙ read_here B nb (number (side_before faces g a)) faces fnb.within R.room_before ∙ ap number (sym q)
        | was_over_second e o q ↦
            ap (λ (z : Side). get_or (set B1 (number na) v1) (number z) 0) (was_after x a F.2 e) ∙ read_here B1 na v1 faces fna.within l1 ∙ ap number (sym q)
        | was_past_second e o q ↦ absurd (v o)
        | was_past_first e o q ↦ absurd (u o)
      ]

  after_first_lone : side_after faces g a ≡ a → side_after faces g b ≢ b → AfterIs faces g a b (set A (number (side_before faces g b)) (number (side_after faces g b)))
  after_first_lone u v x X =
      let F = frees x X in
      let pb = side_before faces g b in
      let v1 = number (side_after faces g b) in
      let fpb = before_free R.gluing b R.second_free in
      elim (after-glue R.gluing a b R.first_free R.second_free R.apart x X) [
        | stays m k e ↦ read_else A pb x v1 (not_before x b R.second_free k) ∙ R.linked.after_is x F.2 ∙ ap number (sym e)
        | over_first e o q ↦ absurd (lone_no_other x a F.2 R.first_free F.0 u e)
        | over_second e o q ↦ absurd (o u)
        | past_second e o q ↦ absurd (v o)
        | past_first e o q ↦ ap (λ (z : Side). get_or (set A (number pb) v1) (number z) 0) (was_before x b F.2 e) ∙ read_here A pb v1 faces fpb.within R.room_after ∙ ap number (sym q)
      ]

  before_first_lone : side_after faces g a ≡ a → side_after faces g b ≢ b → BeforeIs faces g a b (set B (number (side_after faces g b)) (number (side_before faces g b)))
  before_first_lone u v x X =
      let F = frees x X in
      let nb = side_after faces g b in
      let v1 = number (side_before faces g b) in
      let fnb = after_free R.gluing b R.second_free in
      elim (before-glue R.gluing a b R.first_free R.second_free R.apart x X) [
        | was_stays m k e ↦ read_else B nb x v1 (not_after x b R.second_free k) ∙ R.linked.before_is x F.2 ∙ ap number (sym e)
        | was_over_first e o q ↦ absurd (o u)
        | was_over_second e o q ↦ absurd (lone_no_next x a F.2 R.first_free F.0 u e)
        | was_past_second e o q ↦ absurd (v o)
        | was_past_first e o q ↦ ap (λ (z : Side). get_or (set B (number nb) v1) (number z) 0) (was_after x b F.2 e) ∙ read_here B nb v1 faces fnb.within R.room_before ∙ ap number (sym q)
      ]

  after_second_lone : side_after faces g a ≢ a → side_after faces g b ≡ b → AfterIs faces g a b (set A (number (side_before faces g a)) (number (side_after faces g a)))
  after_second_lone u v x X =
      let F = frees x X in
      let pa = side_before faces g a in
      let v1 = number (side_after faces g a) in
      let fpa = before_free R.gluing a R.first_free in
      elim (after-glue R.gluing a b R.first_free R.second_free R.apart x X) [
        | stays m k e ↦ read_else A pa x v1 (not_before x a R.first_free m) ∙ R.linked.after_is x F.2 ∙ ap number (sym e)
        | over_first e o q ↦ absurd (o v)
        | over_second e o q ↦ absurd (lone_no_other x b F.2 R.second_free F.1 v e)
        | past_second e o q ↦ ap (λ (z : Side). get_or (set A (number pa) v1) (number z) 0) (was_before x a F.2 e) ∙ read_here A pa v1 faces fpa.within R.room_after ∙ ap number (sym q)
        | past_first e o q ↦ absurd (u o)
      ]

  before_second_lone : side_after faces g a ≢ a → side_after faces g b ≡ b → BeforeIs faces g a b (set B (number (side_after faces g a)) (number (side_before faces g a)))
  before_second_lone u v x X =
      let F = frees x X in
      let na = side_after faces g a in
      let v1 = number (side_before faces g a) in
      let fna = after_free R.gluing a R.first_free in
      elim (before-glue R.gluing a b R.first_free R.second_free R.apart x X) [
        | was_stays m k e ↦ read_else B na x v1 (not_after x a R.first_free m) ∙ R.linked.before_is x F.2 ∙ ap number (sym e)
        | was_over_first e o q ↦ absurd (lone_no_next x b F.2 R.second_free F.1 v e)
        | was_over_second e o q ↦ absurd (o v)
        | was_past_second e o q ↦ ap (λ (z : Side). get_or (set B (number na) v1) (number z) 0) (was_after x a F.2 e) ∙ read_here B na v1 faces fna.within R.room_before ∙ ap number (sym q)
        | was_past_first e o q ↦ absurd (u o)
      ]

  after_both_lone : side_after faces g a ≡ a → side_after faces g b ≡ b → AfterIs faces g a b A
  after_both_lone u v x X =
      let F = frees x X in
      elim (after-glue R.gluing a b R.first_free R.second_free R.apart x X) [
        | stays m k e ↦ R.linked.after_is x F.2 ∙ ap number (sym e)
        | over_first e o q ↦ absurd (o v)
        | over_second e o q ↦ absurd (o u)
        | past_second e o q ↦ absurd (lone_no_other x a F.2 R.first_free F.0 u e)
        | past_first e o q ↦ absurd (lone_no_other x b F.2 R.second_free F.1 v e)
      ]

  before_both_lone : side_after faces g a ≡ a → side_after faces g b ≡ b → BeforeIs faces g a b B
  before_both_lone u v x X =
      let F = frees x X in
      elim (before-glue R.gluing a b R.first_free R.second_free R.apart x X) [
        | was_stays m k e ↦ R.linked.before_is x F.2 ∙ ap number (sym e)
        | was_over_first e o q ↦ absurd (o u)
        | was_over_second e o q ↦ absurd (o v)
        | was_past_second e o q ↦ absurd (lone_no_next x a F.2 R.first_free F.0 u e)
        | was_past_first e o q ↦ absurd (lone_no_next x b F.2 R.second_free F.1 v e)
      ]

-- both lists after a gluing
IsRelinked : ℕ → Gluing → Side → Side → List ℕ × List ℕ → Type 0
IsRelinked faces g a b links = IsLinked faces (glue a b g) links.0 links.1

abbrev known : ℕ → Gluing → Side → Side → List ℕ × List ℕ → List ℕ × List ℕ
known faces g a b links = taken_out (number (side_after faces g a)) (number (side_before faces g a)) (number (side_after faces g b)) (number (side_before faces g b)) (number a) (number b) links

known_linked : (faces : ℕ) (g : Gluing) (a b : Side) (A B : List ℕ) → Around faces g a b A B → IsRelinked faces g a b (known faces g a b (A, B))
unfolding IsRelinked
known_linked faces g a b A B R = go (cases_Bool (eqb (number (side_after faces g a)) (number a))) (cases_Bool (eqb (number (side_after faces g b)) (number b)))
  where
    lone : (z : Side) → eqb (number (side_after faces g z)) (number z) ≡ true → side_after faces g z ≡ z
    lone z e = number_injective _ _ (eqb-true _ _ e)

    not_lone : (z : Side) → eqb (number (side_after faces g z)) (number z) ≡ false → side_after faces g z ≢ z
    not_lone z e q = eqb-false _ _ e (ap number q)

    pick : (links : List ℕ × List ℕ) → known faces g a b (A, B) ≡ links → AfterIs faces g a b links.0 → BeforeIs faces g a b links.1 → IsRelinked faces g a b (known faces g a b (A, B))
    pick links e x y = subst (IsRelinked faces g a b) (sym e) (record { after_is = x; before_is = y })

    go : (eqb (number (side_after faces g a)) (number a) ≡ true) ⊎ (eqb (number (side_after faces g a)) (number a) ≡ false) → (eqb (number (side_after faces g b)) (number b) ≡ true) ⊎ (eqb (number (side_after faces g b)) (number b) ≡ false) → IsRelinked faces g a b (known faces g a b (A, B))
    go (inl u) (inl v) = pick (A, B) (cond-true _ _ _ u ∙ cond-true _ _ _ v) (after_both_lone faces g a b A B R (lone a u) (lone b v)) (before_both_lone faces g a b A B R (lone a u) (lone b v))
    go (inl u) (inr v) = pick _ (cond-true _ _ _ u ∙ cond-false _ _ _ v) (after_first_lone faces g a b A B R (lone a u) (not_lone b v)) (before_first_lone faces g a b A B R (lone a u) (not_lone b v))
    go (inr u) (inl v) = pick _ (cond-false _ _ _ u ∙ cond-true _ _ _ v) (after_second_lone faces g a b A B R (not_lone a u) (lone b v)) (before_second_lone faces g a b A B R (not_lone a u) (lone b v))
    go (inr u) (inr v) = pick _ (cond-false _ _ _ u ∙ cond-false _ _ _ v) (after_neither faces g a b A B R (not_lone a u) (not_lone b v)) (before_neither faces g a b A B R (not_lone a u) (not_lone b v))

known_is : (faces : ℕ) (g : Gluing) (a b : Side) (A B : List ℕ) → Around faces g a b A B → relinked (number a) (number b) (A, B) ≡ known faces g a b (A, B)
known_is faces g a b A B R =
    ap (λ (n : ℕ). taken_out n (get_or B (number a) 0) (get_or A (number b) 0) (get_or B (number b) 0) (number a) (number b) (A, B)) (R.linked.after_is a R.first_free)
    ∙ ap (λ (n : ℕ). taken_out (number (side_after faces g a)) n (get_or A (number b) 0) (get_or B (number b) 0) (number a) (number b) (A, B)) (R.linked.before_is a R.first_free)
    ∙ ap (λ (n : ℕ). taken_out (number (side_after faces g a)) (number (side_before faces g a)) n (get_or B (number b) 0) (number a) (number b) (A, B)) (R.linked.after_is b R.second_free)
    ∙ ap (λ (n : ℕ). taken_out (number (side_after faces g a)) (number (side_before faces g a)) (number (side_after faces g b)) n (number a) (number b) (A, B)) (R.linked.before_is b R.second_free)

-- relinking after a gluing keeps the links those of the boundary
pub relinked_linked : (faces : ℕ) (g : Gluing) (a b : Side) (A B : List ℕ) → Around faces g a b A B →
    IsLinked faces (glue a b g) (relinked (number a) (number b) (A, B)).0 (relinked (number a) (number b) (A, B)).1
unfolding IsRelinked
relinked_linked faces g a b A B R = subst (IsRelinked faces g a b) (sym (known_is faces g a b A B R)) (known_linked faces g a b A B R)
