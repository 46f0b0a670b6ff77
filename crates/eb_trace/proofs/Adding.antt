-- How the fans change as one face more is built: what a name is given to each of its corners, and how many names there are.
use Rattle.std.proofs.Common.{◌≡◌, ℕ, suc, ◌+◌, ◌<◌, cond, ◌==◌, Some, ◌⊎◌, inl, inr, sym, refl, ap, ◌∙◌, subst, arith, eq-eqb, ne_eqb}
use Rattle.std.proofs.lemmas.Bool.{cases_lt, cond-true, cond-false}
use Rattle.corner_table.specs.Sides.{Side, Place, first, second, third, side, next, prev, Gluing, IsGluing}
use Rattle.corner_table.specs.Fans.{InFan, here, leftwards, rightwards}
use Rattle.corner_table.specs.Prefixes.{prefix}
use Rattle.corner_table.proofs.Places.{next-prev, prev-next}
use Rattle.corner_table.proofs.Walks.{left_crosses, right_crosses, crosses-left, crosses-right, left-within, right-within, fan_trans, fan_sym}
use Rattle.corner_table.proofs.Prefixing.{tells-prefix, prefix-tells, prefix_within}
use Rattle.eb_trace.proofs.Below.{by_place}
use Rattle.eb_trace.proofs.Naming.{IsNaming, IsSorting, With, named_also, add_known, add_new, of_equal}

pub fans_sort : {faces : ℕ} {g : Gluing} → IsGluing faces g → IsSorting (InFan g)
fans_sort G = record { stays = λ c. here; back = λ c d p. fan_sym G p; through = λ c d e p q. fan_trans p q }

-- a corner of the faces below
abbrev pub Among : ℕ → Side → Type 0
Among m c = c.face < m

-- g has k fans among the faces below m
abbrev pub HasFans : ℕ → Gluing → ℕ → Type 0
HasFans m g k = (f : Side → ℕ) × IsNaming (InFan g) (Among m) k f

-- a pair joins the end of each of its sides with the start of the other
pub ends_meet : (g : Gluing) (x y : Side) → g x ≡ Some y → InFan g (prev x) (next y)
ends_meet g x y e = leftwards (crosses-left g (prev x) (next y) (ap g (next-prev x) ∙ e ∙ ap {A = Side} Some (sym (prev-next y)))) here

pub starts_meet : (g : Gluing) (x y : Side) → g x ≡ Some y → InFan g (next x) (prev y)
starts_meet g x y e = rightwards (crosses-right g (next x) (prev y) (ap g (prev-next x) ∙ e ∙ ap {A = Side} Some (sym (next-prev y)))) here

-- fans only grow
pub fan_more : (m : ℕ) (g : Gluing) {c d : Side} → InFan (prefix m g) c d → InFan (prefix (suc m) g) c d
fan_more m g here = here
fan_more m g (leftwards {c = c} {d = d} s p) =
    let t = prefix-tells m g (next c) (prev d) (left_crosses (prefix m g) c d s) in
    let a = t.0 in
    let b = t.1 in
    leftwards (crosses-left (prefix (suc m) g) c d (tells-prefix (suc m) g (next c) (prev d) (omega arith) (omega arith) t.2)) (fan_more m g p)
fan_more m g (rightwards {c = c} {d = d} s p) =
    let t = prefix-tells m g (prev c) (next d) (right_crosses (prefix m g) c d s) in
    let a = t.0 in
    let b = t.1 in
    rightwards (crosses-right (prefix (suc m) g) c d (tells-prefix (suc m) g (prev c) (next d) (omega arith) (omega arith) t.2)) (fan_more m g p)

-- a fan is of corners among the faces, or of one corner
pub within_or_one : {m : ℕ} {h : Gluing} → IsGluing m h → {c d : Side} → InFan h c d → ((c.face < m) × (d.face < m)) ⊎ (c ≡ d)
within_or_one H here = inr refl
within_or_one {m} {h} H (leftwards {c = c} {d = x} {e = d} s p) =
    let a : c.face < m = H.within (next c) (prev x) (left_crosses h c x s) in
    let b : x.face < m = left-within H c x s in
    elim (within_or_one H p) [ inl t ↦ inl (a, t.1) | inr e ↦ inl (a, subst (λ (z : Side). z.face < m) e b) ]
within_or_one {m} {h} H (rightwards {c = c} {d = x} {e = d} s p) =
    let a : c.face < m = H.within (prev c) (next x) (right_crosses h c x s) in
    let b : x.face < m = right-within H c x s in
    elim (within_or_one H p) [ inl t ↦ inl (a, t.1) | inr e ↦ inl (a, subst (λ (z : Side). z.face < m) e b) ]

abbrev pub at_place : Place → ℕ → ℕ → ℕ → ℕ
at_place first u v w = u
at_place second u v w = v
at_place third u v w = w

-- names u, v and w for the corners of face m
abbrev pub spread : ℕ → (Side → ℕ) → ℕ → ℕ → ℕ → Side → ℕ
spread m f u v w x = cond (x.face == m) (at_place x.place u v w) (f x)

pub spread_old : (m : ℕ) (f : Side → ℕ) (u v w : ℕ) (x : Side) → x.face < m → spread m f u v w x ≡ f x
spread_old m f u v w x h = cond-false (x.face == m) _ _ (ne_eqb x.face m (λ e. (omega arith)))

pub spread_new : (m : ℕ) (f : Side → ℕ) (u v w : ℕ) (p : Place) → spread m f u v w (side m p) ≡ at_place p u v w
spread_new m f u v w p = cond-true (m == m) _ _ (eq-eqb m m refl)

-- names of the corners below m: one for each of their fans, or for two fans that become one
pub record IsBase (m : ℕ) (g : Gluing) (k : ℕ) (f : Side → ℕ) : Type 0 where
  pub bounded : (c : Side) → c.face < m → f c < k
  pub used : (j : ℕ) → j < k → (c : Side) × Among m c × (f c ≡ j)
  pub one : (c d : Side) → c.face < m → d.face < m → InFan (prefix m g) c d → f c ≡ f d
  pub fan : (c d : Side) → c.face < m → d.face < m → f c ≡ f d → InFan (prefix (suc m) g) c d

-- where no fans become one
pub base_of : (m : ℕ) (g : Gluing) (k : ℕ) (f : Side → ℕ) → IsNaming (InFan (prefix m g)) (Among m) k f → IsBase m g k f
base_of m g k f N = record { bounded = N.bounded; used = N.used; one = N.one; fan = λ c d a b e. fan_more m g (N.fan c d a b e) }

module _ (faces : ℕ) (g : Gluing) (G : IsGluing faces g) (m k : ℕ) (f : Side → ℕ) (B : IsBase m g k f) where
  -- the spread names go along the fans before
  pub spread_alike : (u v w : ℕ) (c d : Side) → InFan (prefix m g) c d → spread m f u v w c ≡ spread m f u v w d
  spread_alike u v w c d p = elim (within_or_one (prefix_within m G) p) [
    | inl t ↦ spread_old m f u v w c t.0 ∙ B.one c d t.0 t.1 p ∙ sym (spread_old m f u v w d t.1)
    | inr e ↦ ap (spread m f u v w) e
  ]

  -- the names among the faces below m, now that the fans are those of one face more
  grown : (u v w : ℕ) → ((c d : Side) → InFan (prefix (suc m) g) c d → spread m f u v w c ≡ spread m f u v w d) → IsNaming (InFan (prefix (suc m) g)) (Among m) k f
  grown u v w alike = record {
    bounded = B.bounded;
    used = B.used;
    one = λ c d a b p. sym (spread_old m f u v w c a) ∙ alike c d p ∙ spread_old m f u v w d b;
    fan = B.fan;
  }

  -- the corners of face m after those below, in some order
  whole : (a b c : Side) → a.face ≡ m → b.face ≡ m → c.face ≡ m → ((x : Side) → x.face ≡ m → (x ≡ a) ⊎ ((x ≡ b) ⊎ (x ≡ c))) →
      (l : ℕ) (h : Side → ℕ) → IsNaming (InFan (prefix (suc m) g)) (With (With (With (Among m) a) b) c) l h → HasFans (suc m) (prefix (suc m) g) l
  whole a b c p q r each l h N = (h, of_equal (InFan (prefix (suc m) g)) (With (With (With (Among m) a) b) c) (Among (suc m)) l h N there back)
    where
      at : (x z : Side) → z.face ≡ m → x ≡ z → x.face < suc m
      at x z e i = let o : x.face ≡ z.face = ap (λ (s : Side). s.face) i in omega arith

      there : (x : Side) → With (With (With (Among m) a) b) c x → x.face < suc m
      there x i = elim i [
        | inl j ↦ elim j [
          | inl o ↦ elim o [ inl h ↦ (omega arith) | inr e ↦ at x a p e ]
          | inr e ↦ at x b q e
        ]
        | inr e ↦ at x c r e
      ]

      back : (x : Side) → x.face < suc m → With (With (With (Among m) a) b) c x
      back x h = elim (cases_lt x.face m) [
        | inl l ↦ inl (inl (inl l))
        | inr l ↦ elim (each x (let e : x.face ≡ m = omega arith in e)) [
          | inl e ↦ inl (inl (inr e))
          | inr t ↦ elim t [ inl e ↦ inl (inr e) | inr e ↦ inr e ]
        ]
      ]

  sorts : IsSorting (InFan (prefix (suc m) g))
  sorts = fans_sort (prefix_within (suc m) G)

  -- all three corners come into fans that were there
  pub none_new : (u v w : ℕ) → ((c d : Side) → InFan (prefix (suc m) g) c d → spread m f u v w c ≡ spread m f u v w d) →
      (a b c : Side) → a.face < m → b.face < m → c.face < m →
      InFan (prefix (suc m) g) (side m first) a → InFan (prefix (suc m) g) (side m second) b → InFan (prefix (suc m) g) (side m third) c → HasFans (suc m) (prefix (suc m) g) k
  none_new u v w alike a b c p q r i j l =
      let N = grown u v w alike in
      let N1 = add_known (InFan (prefix (suc m) g)) (Among m) k f sorts N (side m first) a p i in
      let N2 = add_known (InFan (prefix (suc m) g)) (With (Among m) (side m first)) k (named_also (side m first) (f a) f) sorts N1 (side m second) b (inl q) j in
      let N3 = add_known (InFan (prefix (suc m) g)) (With (With (Among m) (side m first)) (side m second)) k (named_also (side m second) (named_also (side m first) (f a) f b) (named_also (side m first) (f a) f)) sorts N2 (side m third) c (inl (inl r)) l in
      whole (side m first) (side m second) (side m third) refl refl refl
      (by_place (λ x. (x ≡ side m first) ⊎ ((x ≡ side m second) ⊎ (x ≡ side m third))) m (inl refl) (inr (inl refl)) (inr (inr refl)))
      k _ N3

  -- two corners come into fans that were there, and the third has a fan of its own
  pub one_new : (u v w : ℕ) → ((c d : Side) → InFan (prefix (suc m) g) c d → spread m f u v w c ≡ spread m f u v w d) →
      (p q r : Place) → ((x : Side) → x.face ≡ m → (x ≡ side m p) ⊎ ((x ≡ side m q) ⊎ (x ≡ side m r))) →
      at_place r u v w ≡ k → at_place p u v w < k → at_place q u v w < k →
      (a b : Side) → a.face < m → b.face < m → InFan (prefix (suc m) g) (side m p) a → InFan (prefix (suc m) g) (side m q) b → HasFans (suc m) (prefix (suc m) g) (suc k)
  one_new u v w alike p q r each new less more a b s t i j =
      let N = grown u v w alike in
      let N1 = add_known (InFan (prefix (suc m) g)) (Among m) k f sorts N (side m p) a s i in
      let N2 = add_known (InFan (prefix (suc m) g)) (With (Among m) (side m p)) k (named_also (side m p) (f a) f) sorts N1 (side m q) b (inl t) j in
      let N3 = add_new (InFan (prefix (suc m) g)) (With (With (Among m) (side m p)) (side m q)) k (named_also (side m q) (named_also (side m p) (f a) f b) (named_also (side m p) (f a) f)) sorts N2 (side m r) apart in
      whole (side m p) (side m q) (side m r) refl refl refl each (suc k) _ N3
    where
      named : (x : Side) → InFan (prefix (suc m) g) (side m r) x → spread m f u v w x ≡ k
      named x i = sym (alike (side m r) x i) ∙ spread_new m f u v w r ∙ new

      at : (o : Place) → at_place o u v w < k → (x : Side) → x ≡ side m o → spread m f u v w x ≡ k → ⊥
      at o l x e n = (
          let z : at_place o u v w ≡ k = sym (spread_new m f u v w o) ∙ ap (spread m f u v w) (sym e) ∙ n in
          omega arith)

      apart : (x : Side) → With (With (Among m) (side m p)) (side m q) x → InFan (prefix (suc m) g) (side m r) x → ⊥
      apart x h i = elim h [
        | inl h1 ↦ elim h1 [
          | inl h2 ↦ (
              let z : f x ≡ k = sym (spread_old m f u v w x h2) ∙ named x i in
              let b : f x < k = B.bounded x h2 in
              omega arith)
          | inr e ↦ at p less x e (named x i)
        ]
        | inr e ↦ at q more x e (named x i)
      ]

  -- three fans of one corner each
  pub three_new : prefix (suc m) g ≡ prefix m g → HasFans (suc m) (prefix (suc m) g) (k + 3)
  three_new none =
      let N = grown k (suc k) (suc (suc k)) alike in
      let N1 = add_new (InFan (prefix (suc m) g)) (Among m) k f sorts N (side m first) first_apart in
      let N2 = add_new (InFan (prefix (suc m) g)) (With (Among m) (side m first)) (suc k) (named_also (side m first) k f) sorts N1 (side m second) second_apart in
      let N3 = add_new (InFan (prefix (suc m) g)) (With (With (Among m) (side m first)) (side m second)) (suc (suc k)) (named_also (side m second) (suc k) (named_also (side m first) k f)) sorts N2 (side m third) third_apart in
      let e : suc (suc (suc k)) ≡ k + 3 = omega arith in
      subst (HasFans (suc m) (prefix (suc m) g)) e
      (whole (side m first) (side m second) (side m third) refl refl refl
      (by_place (λ x. (x ≡ side m first) ⊎ ((x ≡ side m second) ⊎ (x ≡ side m third))) m (inl refl) (inr (inl refl)) (inr (inr refl)))
      (suc (suc (suc k))) _ N3)
    where
      alike : (c d : Side) → InFan (prefix (suc m) g) c d → spread m f k (suc k) (suc (suc k)) c ≡ spread m f k (suc k) (suc (suc k)) d
      alike c d p = spread_alike k (suc k) (suc (suc k)) c d (subst (λ (h : Gluing). InFan h c d) none p)

      named : (o : Place) (x : Side) → InFan (prefix (suc m) g) (side m o) x → at_place o k (suc k) (suc (suc k)) ≡ spread m f k (suc k) (suc (suc k)) x
      named o x p = sym (spread_new m f k (suc k) (suc (suc k)) o) ∙ alike (side m o) x p

      old : (x : Side) → x.face < m → spread m f k (suc k) (suc (suc k)) x < k
      old x h = subst (λ (n : ℕ). n < k) (sym (spread_old m f k (suc k) (suc (suc k)) x h)) (B.bounded x h)

      at : (o : Place) (x : Side) → x ≡ side m o → spread m f k (suc k) (suc (suc k)) x ≡ at_place o k (suc k) (suc (suc k))
      at o x e = ap (spread m f k (suc k) (suc (suc k))) e ∙ spread_new m f k (suc k) (suc (suc k)) o

      first_apart : (x : Side) → x.face < m → InFan (prefix (suc m) g) (side m first) x → ⊥
      first_apart x h p = (let a = named first x p in let b = old x h in omega arith)

      second_apart : (x : Side) → With (Among m) (side m first) x → InFan (prefix (suc m) g) (side m second) x → ⊥
      second_apart x h p = elim h [
        | inl l ↦ (let a = named second x p in let b = old x l in omega arith)
        | inr e ↦ (let a = named second x p in let b = at first x e in omega arith)
      ]

      third_apart : (x : Side) → With (With (Among m) (side m first)) (side m second) x → InFan (prefix (suc m) g) (side m third) x → ⊥
      third_apart x h p = elim h [
        | inl i ↦ elim i [
          | inl l ↦ (let a = named third x p in let b = old x l in omega arith)
          | inr e ↦ (let a = named third x p in let b = at first x e in omega arith)
        ]
        | inr e ↦ (let a = named third x p in let b = at second x e in omega arith)
      ]
