-- Names for the classes of a relation of corners: any two namings have equally many names, and one more corner brings a name or none.
use Rattle.std.proofs.Common.{◌≡◌, ◌≢◌, ℕ, suc, ◌<◌, ◌≤◌, cond, ◌⊎◌, inl, inr, sym, refl, ap, ◌∙◌, subst, arith}
use Rattle.std.proofs.lemmas.Bool.{cases_lt, cond-true, cond-false}
use Rattle.corner_table.specs.Sides.{Side, same}
use Rattle.corner_table.proofs.Places.{same_refl, not_same, same_tells}
use Rattle.corner_table.proofs.Numbers.{no_room}

-- f names the corners of D by the numbers below k, two by one number exactly where they are related
pub record IsNaming (R : Side → Side → Type 0) (D : Side → Type 0) (k : ℕ) (f : Side → ℕ) : Type 0 where
  pub bounded : (c : Side) → D c → f c < k
  pub used : (j : ℕ) → j < k → (c : Side) × D c × (f c ≡ j)
  pub one : (c d : Side) → D c → D d → R c d → f c ≡ f d
  pub fan : (c d : Side) → D c → D d → f c ≡ f d → R c d

-- the relation sorts the corners into classes
pub record IsSorting (R : Side → Side → Type 0) : Type 0 where
  pub stays : (c : Side) → R c c
  pub back : (c d : Side) → R c d → R d c
  pub through : (c d e : Side) → R c d → R d e → R c e

module _ (R : Side → Side → Type 0) (D : Side → Type 0) (k l : ℕ) (f h : Side → ℕ) (N : IsNaming R D k f) (M : IsNaming R D l h) where
  -- the second name of a corner whose first name is i
  value : (i : ℕ) → (i < k) ⊎ (k ≤ i) → ℕ
  value i (inl p) = h (N.used i p).0
  value i (inr q) = 0

  value_is : (i : ℕ) (s : (i < k) ⊎ (k ≤ i)) → i < k → (c : Side) × D c × (f c ≡ i) × (value i s ≡ h c)
  unfolding value
  value_is i (inl p) q = let t = N.used i p in (t.0, t.1, t.2, refl)
  value_is i (inr r) q = absurd (omega arith)

  no_fewer : k ≤ l
  no_fewer = elim (cases_lt l k) [ inr le ↦ le | inl lt ↦ absurd (no_room l (λ i. value i (cases_lt i k)) (small lt) (apart lt)) ]
    where
      small : l < k → (i : ℕ) → i ≤ l → value i (cases_lt i k) < l
      small lt i le =
          let t = value_is i (cases_lt i k) (omega arith) in
          let b : h t.0 < l = M.bounded t.0 t.1 in
          let e : value i (cases_lt i k) ≡ h t.0 = t.3 in
          omega arith

      apart : l < k → (i j : ℕ) → i ≤ l → j ≤ l → value i (cases_lt i k) ≡ value j (cases_lt j k) → i ≡ j
      apart lt i j a b e =
          let t = value_is i (cases_lt i k) (omega arith) in
          let u = value_is j (cases_lt j k) (omega arith) in
          let r : R t.0 u.0 = M.fan t.0 u.0 t.1 u.1 (sym t.3 ∙ e ∙ u.3) in
          sym t.2 ∙ N.one t.0 u.0 t.1 u.1 r ∙ u.2

pub namings_agree : (R : Side → Side → Type 0) (D : Side → Type 0) (k l : ℕ) (f h : Side → ℕ) → IsNaming R D k f → IsNaming R D l h → k ≡ l
namings_agree R D k l f h N M =
    let a : k ≤ l = no_fewer R D k l f h N M in
    let b : l ≤ k = no_fewer R D l k h f M N in
    omega arith

-- a corner gets a name; the others keep theirs
abbrev pub named_also : Side → ℕ → (Side → ℕ) → Side → ℕ
named_also c v f x = cond (same x c) v (f x)

also_at : (c : Side) (v : ℕ) (f : Side → ℕ) (x : Side) → x ≡ c → named_also c v f x ≡ v
also_at c v f x e = cond-true (same x c) v (f x) (ap (same x) (sym e) ∙ same_refl x)

also_off : (c : Side) (v : ℕ) (f : Side → ℕ) (x : Side) → x ≢ c → named_also c v f x ≡ f x
also_off c v f x n = cond-false (same x c) v (f x) (not_same x c n)

abbrev pub With : (Side → Type 0) → Side → Side → Type 0
With D c x = D x ⊎ (x ≡ c)

-- one more corner, of a class that has a name
pub add_known : (R : Side → Side → Type 0) (D : Side → Type 0) (k : ℕ) (f : Side → ℕ) → IsSorting R → IsNaming R D k f → (c d : Side) → D d → R c d → IsNaming R (With D c) k (named_also c (f d) f)
add_known R D k f S N c d has r = record { bounded = bounded; used = used; one = one; fan = fan }
  where
    -- each corner is named as one that had a name
    held : (x : Side) → With D c x → (y : Side) × D y × R x y × (named_also c (f d) f x ≡ f y)
    held x i = elim (same_tells x c) [
      | inl e ↦ (d, has, subst (λ (z : Side). R z d) (sym e) r, also_at c (f d) f x e)
      | inr n ↦ elim i [ inl a ↦ (x, a, S.stays x, also_off c (f d) f x n) | inr e ↦ absurd (n e) ]
    ]

    bounded : (x : Side) → With D c x → named_also c (f d) f x < k
    bounded x i =
        let t = held x i in
        let b : f t.0 < k = N.bounded t.0 t.1 in
        let e : named_also c (f d) f x ≡ f t.0 = t.3 in
        subst (λ (n : ℕ). n < k) (sym e) b

    used : (j : ℕ) → j < k → (x : Side) × With D c x × (named_also c (f d) f x ≡ j)
    used j h =
        let t = N.used j h in
        let u = held t.0 (inl t.1) in
        (t.0, inl t.1, u.3 ∙ sym (N.one t.0 u.0 t.1 u.1 u.2) ∙ t.2)

    one : (x y : Side) → With D c x → With D c y → R x y → named_also c (f d) f x ≡ named_also c (f d) f y
    one x y i j p =
        let t = held x i in
        let u = held y j in
        t.3 ∙ N.one t.0 u.0 t.1 u.1 (S.through t.0 x u.0 (S.back x t.0 t.2) (S.through x y u.0 p u.2)) ∙ sym u.3

    fan : (x y : Side) → With D c x → With D c y → named_also c (f d) f x ≡ named_also c (f d) f y → R x y
    fan x y i j e =
        let t = held x i in
        let u = held y j in
        S.through x t.0 y t.2 (S.through t.0 u.0 y (N.fan t.0 u.0 t.1 u.1 (sym t.3 ∙ e ∙ u.3)) (S.back y u.0 u.2))

-- the new corner has the new name, and any other its own
abbrev Told : (Side → Type 0) → ℕ → (Side → ℕ) → Side → Side → Type 0
Told D k f c x = ((x ≡ c) × (named_also c k f x ≡ k)) ⊎ (D x × (named_also c k f x ≡ f x))

-- one more corner, of a new class
pub add_new : (R : Side → Side → Type 0) (D : Side → Type 0) (k : ℕ) (f : Side → ℕ) → IsSorting R → IsNaming R D k f → (c : Side) → ((d : Side) → D d → R c d → ⊥) → IsNaming R (With D c) (suc k) (named_also c k f)
add_new R D k f S N c new = record { bounded = bounded; used = used; one = one; fan = fan }
  where
    told : (x : Side) → With D c x → Told D k f c x
    told x i = elim (same_tells x c) [
      | inl e ↦ inl (e, also_at c k f x e)
      | inr n ↦ elim i [ inl a ↦ inr (a, also_off c k f x n) | inr e ↦ absurd (n e) ]
    ]

    bounded : (x : Side) → With D c x → named_also c k f x < suc k
    bounded x i = elim (told x i) [
      | inl t ↦ subst (λ (n : ℕ). n < suc k) (sym t.1) (omega arith)
      | inr t ↦ (let b : f x < k = N.bounded x t.0 in subst (λ (n : ℕ). n < suc k) (sym t.1) (omega arith))
    ]

    used : (j : ℕ) → j < suc k → (x : Side) × With D c x × (named_also c k f x ≡ j)
    used j h = elim (cases_lt j k) [
      | inl l ↦ (
          let t = N.used j l in
          elim (told t.0 (inl t.1)) [
            | inl u ↦ absurd (new t.0 t.1 (subst (λ (z : Side). R z t.0) u.0 (S.stays t.0)))
            | inr u ↦ (t.0, inl t.1, u.1 ∙ t.2)
          ])
      | inr l ↦ (let e : k ≡ j = omega arith in (c, inr refl, also_at c k f c refl ∙ e))
    ]

    one : (x y : Side) → With D c x → With D c y → R x y → named_also c k f x ≡ named_also c k f y
    one x y i j p = elim (told x i) [
      | inl t ↦ elim (told y j) [
        | inl u ↦ t.1 ∙ sym u.1
        | inr u ↦ absurd (new y u.0 (subst (λ (z : Side). R z y) t.0 p))
      ]
      | inr t ↦ elim (told y j) [
        | inl u ↦ absurd (new x t.0 (subst (λ (z : Side). R z x) u.0 (S.back x y p)))
        | inr u ↦ t.1 ∙ N.one x y t.0 u.0 p ∙ sym u.1
      ]
    ]

    fan : (x y : Side) → With D c x → With D c y → named_also c k f x ≡ named_also c k f y → R x y
    fan x y i j e = elim (told x i) [
      | inl t ↦ elim (told y j) [
        | inl u ↦ subst (λ (z : Side). R x z) (t.0 ∙ sym u.0) (S.stays x)
        | inr u ↦ (
            let b : f y < k = N.bounded y u.0 in
            let q : k ≡ f y = sym t.1 ∙ e ∙ u.1 in
            absurd (omega arith))
      ]
      | inr t ↦ elim (told y j) [
        | inl u ↦ (
            let b : f x < k = N.bounded x t.0 in
            let q : f x ≡ k = sym t.1 ∙ e ∙ u.1 in
            absurd (omega arith))
        | inr u ↦ N.fan x y t.0 u.0 (sym t.1 ∙ e ∙ u.1)
      ]
    ]

-- the same corners, stated otherwise
pub of_equal : (R : Side → Side → Type 0) (D E : Side → Type 0) (k : ℕ) (f : Side → ℕ) → IsNaming R D k f → ((c : Side) → D c → E c) → ((c : Side) → E c → D c) → IsNaming R E k f
of_equal R D E k f N there back = record {
  bounded = λ c e. N.bounded c (back c e);
  used = λ j h. (let t = N.used j h in (t.0, there t.0 t.1, t.2));
  one = λ c d a b p. N.one c d (back c a) (back d b) p;
  fan = λ c d a b p. N.fan c d (back c a) (back d b) p;
}
