-- The faces below a number: what one more face brings.
use Rattle.std.proofs.Common.{◌≡◌, ◌≢◌, ℕ, suc, ◌<◌, ◌≤◌, Some, ◌⊎◌, inl, inr, sym, refl, ap, ◌∙◌, subst, arith}
use mathlib.Core.Path.{fun_ext}
use Rattle.corner_table.specs.Sides.{Side, Place, first, second, third, side, Gluing, glue, IsGluing}
use Rattle.corner_table.specs.Prefixes.{prefix}
use Rattle.corner_table.proofs.Places.{Some_injective, glue_tells, at_first, at_second, elsewhere}
use Rattle.corner_table.proofs.Prefixing.{tells-prefix, prefix_unchanged}
use Rattle.eb_trace.specs.Readable.{IsPast}

-- each side of a face is one of three
pub by_place : (P : Side → Type 0) (m : ℕ) → P (side m first) → P (side m second) → P (side m third) → (x : Side) → x.face ≡ m → P x
by_place P m a b c x e = subst P (ap (λ (f : ℕ). side f x.place) (sym e)) (go x.place)
  where
    go : (k : Place) → P (side m k)
    go first = a
    go second = b
    go third = c

-- a new face with no side glued
pub adds_none : {faces : ℕ} {g : Gluing} → IsGluing faces g → (m : ℕ) → IsPast g (side m first) → IsPast g (side m second) → IsPast g (side m third) → prefix (suc m) g ≡ prefix m g
adds_none {faces} {g} G m a b c = fun_ext (λ x. prefix_unchanged m g x (own x) (λ y e f l. own y x (G.paired x y e) f l))
  where
    own : (x y : Side) → g x ≡ Some y → x.face ≡ m → y.face ≤ m → ⊥
    own x y e f l = (let h = by_place (IsPast g) m a b c x f y e in omega arith)

-- a new face with the sides glued that are listed: all others are past
pub adds_pair : {faces : ℕ} {g : Gluing} → IsGluing faces g → (m : ℕ) (x y : Side) → x.face ≡ m → y.face < m → g x ≡ Some y →
    (h : Gluing) → ((z : Side) → z ≢ x → z ≢ y → prefix (suc m) g z ≡ h z) → prefix (suc m) g ≡ glue x y h
adds_pair {faces} {g} G m x y e l p h rest = fun_ext (λ z. elim (glue_tells x y z h) [
  | at_first q r ↦ ap (prefix (suc m) g) q ∙ tells-prefix (suc m) g x y (omega arith) (omega arith) p ∙ sym r
  | at_second n q r ↦ ap (prefix (suc m) g) q ∙ tells-prefix (suc m) g y x (omega arith) (omega arith) (G.paired x y p) ∙ sym r
  | elsewhere n k r ↦ rest z n k ∙ sym r
])

-- of a new face some sides are glued, and the others are past: all that is neither of the former nor across them stays
pub unchanged_but : {faces : ℕ} {g : Gluing} → IsGluing faces g → (m : ℕ) (Glued : Side → Type 0) → ((x : Side) → x.face ≡ m → Glued x ⊎ IsPast g x) →
    (z : Side) → (Glued z → ⊥) → ((y : Side) → g z ≡ Some y → Glued y → ⊥) → prefix (suc m) g z ≡ prefix m g z
unchanged_but {faces} {g} G m Glued new z n k = prefix_unchanged m g z own across
  where
    own : (y : Side) → g z ≡ Some y → z.face ≡ m → y.face ≤ m → ⊥
    own y e f l = elim (new z f) [ inl q ↦ n q | inr q ↦ (let h = q y e in omega arith) ]

    across : (y : Side) → g z ≡ Some y → y.face ≡ m → z.face ≤ m → ⊥
    across y e f l = elim (new y f) [ inl q ↦ k y e q | inr q ↦ (let h = q z (G.paired z y e) in omega arith) ]

pub adds_one : {faces : ℕ} {g : Gluing} → IsGluing faces g → (m : ℕ) (x y : Side) → x.face ≡ m → y.face < m → g x ≡ Some y → ((z : Side) → z.face ≡ m → (z ≡ x) ⊎ IsPast g z) →
    prefix (suc m) g ≡ glue x y (prefix m g)
adds_one {faces} {g} G m x y e l p new = adds_pair G m x y e l p (prefix m g)
    (λ z n k. unchanged_but G m (λ w. w ≡ x) new z n (λ w f q. k (Some_injective _ _ (sym (G.paired z w f) ∙ ap g q ∙ p))))

pub adds_two : {faces : ℕ} {g : Gluing} → IsGluing faces g → (m : ℕ) (x y u v : Side) → x.face ≡ m → y.face < m → g x ≡ Some y → u.face ≡ m → v.face < m → g u ≡ Some v →
    ((z : Side) → z.face ≡ m → ((z ≡ x) ⊎ (z ≡ u)) ⊎ IsPast g z) → prefix (suc m) g ≡ glue x y (glue u v (prefix m g))
adds_two {faces} {g} G m x y u v e l p f k q new = adds_pair G m x y e l p (glue u v (prefix m g)) rest
  where
    rest : (z : Side) → z ≢ x → z ≢ y → prefix (suc m) g z ≡ glue u v (prefix m g) z
    rest z a b = elim (glue_tells u v z (prefix m g)) [
      | at_first i r ↦ ap (prefix (suc m) g) i ∙ tells-prefix (suc m) g u v (omega arith) (omega arith) q ∙ sym r
      | at_second n i r ↦ ap (prefix (suc m) g) i ∙ tells-prefix (suc m) g v u (omega arith) (omega arith) (G.paired u v q) ∙ sym r
      | elsewhere c d r ↦ unchanged_but G m (λ w. (w ≡ x) ⊎ (w ≡ u)) new z
          (λ t. elim t [ inl i ↦ a i | inr i ↦ c i ])
          (λ w i t. elim t [
            | inl o ↦ b (Some_injective _ _ (sym (G.paired z w i) ∙ ap g o ∙ p))
            | inr o ↦ d (Some_injective _ _ (sym (G.paired z w i) ∙ ap g o ∙ q))
          ])
          ∙ sym r
    ]

pub adds_three : {faces : ℕ} {g : Gluing} → IsGluing faces g → (m : ℕ) (a b c : Side) → a.face < m → b.face < m → c.face < m → g (side m first) ≡ Some a → g (side m second) ≡ Some b → g (side m third) ≡ Some c →
    prefix (suc m) g ≡ glue (side m third) c (glue (side m second) b (glue (side m first) a (prefix m g)))
adds_three {faces} {g} G m a b c h k l p q r = adds_pair G m (side m third) c refl l r (glue (side m second) b (glue (side m first) a (prefix m g))) at_two
  where
    last : (z : Side) → z ≢ side m third → z ≢ c → z ≢ side m second → z ≢ b → z ≢ side m first → z ≢ a → prefix (suc m) g z ≡ prefix m g z
    last z n o s t u v = unchanged_but G m (λ w. w.face ≡ m) (λ x e. inl e) z
        (λ e. by_place (λ w. w ≢ side m third → w ≢ side m second → w ≢ side m first → ⊥) m (λ i j d. d refl) (λ i j d. j refl) (λ i j d. i refl) z e n s u)
        (λ w i e. by_place (λ x. g x ≡ Some z → ⊥) m (λ d. v (Some_injective _ _ (sym d ∙ p))) (λ d. t (Some_injective _ _ (sym d ∙ q))) (λ d. o (Some_injective _ _ (sym d ∙ r))) w e (G.paired z w i))

    at_one : (z : Side) → z ≢ side m third → z ≢ c → z ≢ side m second → z ≢ b → prefix (suc m) g z ≡ glue (side m first) a (prefix m g) z
    at_one z n o s t = elim (glue_tells (side m first) a z (prefix m g)) [
      | at_first i e ↦ ap (prefix (suc m) g) i ∙ tells-prefix (suc m) g (side m first) a (omega arith) (omega arith) p ∙ sym e
      | at_second d i e ↦ ap (prefix (suc m) g) i ∙ tells-prefix (suc m) g a (side m first) (omega arith) (omega arith) (G.paired (side m first) a p) ∙ sym e
      | elsewhere d i e ↦ last z n o s t d i ∙ sym e
    ]

    at_two : (z : Side) → z ≢ side m third → z ≢ c → prefix (suc m) g z ≡ glue (side m second) b (glue (side m first) a (prefix m g)) z
    at_two z n o = elim (glue_tells (side m second) b z (glue (side m first) a (prefix m g))) [
      | at_first i e ↦ ap (prefix (suc m) g) i ∙ tells-prefix (suc m) g (side m second) b (omega arith) (omega arith) q ∙ sym e
      | at_second d i e ↦ ap (prefix (suc m) g) i ∙ tells-prefix (suc m) g b (side m second) (omega arith) (omega arith) (G.paired (side m second) b q) ∙ sym e
      | elsewhere d i e ↦ at_one z n o d i ∙ sym e
    ]
