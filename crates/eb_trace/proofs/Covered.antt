-- A walk comes to all that it can reach: each part of the unvisited faces that touches a visited one has the current corner's face or one
-- of a kept corner.
use Rattle.std.proofs.Common.{◌≡◌, ◌≢◌, ℕ, zero, suc, ◌+◌, ◌<◌, ◌≤◌, Bool, true, false, not, cond, List, [], ◌∷◌, Some, ◌⊎◌, inl, inr, sym, refl, ap, ◌∙◌, arith}
use Rattle.std.proofs.lemmas.Bool.{cases_Bool, cases_eq, not_from_false, false_from_ne_true}
use Rattle.corner_table.specs.Sides.{Side, Place, first, second, third, side, next, prev, place_after, place_before, Gluing, IsGluing}
use Rattle.corner_table.specs.Fans.{InFan, here, leftwards, rightwards}
use Rattle.corner_table.proofs.Walks.{left_crosses, right_crosses}
use Rattle.eb_trace.proofs.Rings.{Through, at, by}

-- no pair joins a visited and an unvisited face
abbrev pub IsClosed : Gluing → (ℕ → Bool) → Type 0
IsClosed g V = (x y : Side) → g x ≡ Some y → V x.face ≡ false → V y.face ≡ false

-- a face is one of some corners'
abbrev pub IsFaceOf : ℕ → List Side → Type 0
IsFaceOf f [] = ⊥
IsFaceOf f (c ∷ corners) = (c.face ≡ f) ⊎ IsFaceOf f corners

-- a set of unvisited faces that has all unvisited neighbours of its faces, and none of the faces of some corners
pub record IsPart (g : Gluing) (V : ℕ → Bool) (corners : List Side) (T : ℕ → Bool) : Type 0 where
  pub unvisited : (f : ℕ) → T f ≡ true → V f ≡ false
  pub spreads : (x y : Side) → g x ≡ Some y → T x.face ≡ true → V y.face ≡ false → T y.face ≡ true
  pub apart : (f : ℕ) → IsFaceOf f corners → T f ≡ false

-- no such set touches a visited face
abbrev pub IsCovered : Gluing → (ℕ → Bool) → List Side → Type 0
IsCovered g V corners = (T : ℕ → Bool) → IsPart g V corners T → (x y : Side) → g x ≡ Some y → T x.face ≡ true → V y.face ≡ false

true_not_false : (b : Bool) → b ≡ true → b ≡ false → ⊥
true_not_false b e f = (let no : true ≡ false = sym e ∙ f in cc)

-- with nothing left to go on at, all is closed
pub covered_closed : (g : Gluing) (V : ℕ → Bool) → IsCovered g V [] → IsClosed g V
covered_closed g V cover x y e h = cover (λ f. not (V f)) part x y e (not_from_false _ h)
  where
    back : (b : Bool) → not b ≡ true → b ≡ false
    back true q = absurd (let no : false ≡ true = q in cc)
    back false q = refl

    part : IsPart g V [] (λ f. not (V f))
    part = record {
      unvisited = λ f q. back (V f) q;
      spreads = λ a b i t u. not_from_false _ u;
      apart = λ f q. absurd q;
    }

pub closed_covered : (g : Gluing) (V : ℕ → Bool) (corners : List Side) → IsClosed g V → IsCovered g V corners
closed_covered g V corners C T part x y e t = C x y e (part.unvisited x.face t)

-- one more face is visited
pub record IsVisiting (V : ℕ → Bool) (f : ℕ) (W : ℕ → Bool) : Type 0 where
  pub old : (x : ℕ) → V x ≡ true → W x ≡ true
  pub new : W f ≡ true
  pub only : (x : ℕ) → W x ≡ true → (V x ≡ true) ⊎ (x ≡ f)

pub still_unvisited : {V W : ℕ → Bool} {f : ℕ} → IsVisiting V f W → (x : ℕ) → W x ≡ false → (V x ≡ false) × (x ≢ f)
still_unvisited {V} {W} {f} N x h = (
  false_from_ne_true (V x) (λ t. true_not_false (W x) (N.old x t) h),
  λ e. true_not_false (W x) (ap W e ∙ N.new) h,
)

pub not_yet : {V W : ℕ → Bool} {f : ℕ} → IsVisiting V f W → (x : ℕ) → V x ≡ false → x ≢ f → W x ≡ false
not_yet {V} {W} {f} N x h ne = false_from_ne_true (W x) (λ t. elim (N.only x t) [ inl v ↦ true_not_false (V x) v h | inr e ↦ ne e ])

-- no part touches a side of the new face
abbrev pub IsBlocked : Gluing → (ℕ → Bool) → List Side → Side → Type 0
IsBlocked g W corners s = (T : ℕ → Bool) → IsPart g W corners T → (x : Side) → g s ≡ Some x → T x.face ≡ true → ⊥

pub blocked_visited : (g : Gluing) (W : ℕ → Bool) (corners : List Side) (s : Side) → ((x : Side) → g s ≡ Some x → W x.face ≡ true) → IsBlocked g W corners s
blocked_visited g W corners s h T part x e t = true_not_false (W x.face) (h x e) (part.unvisited x.face t)

pub blocked_ahead : (g : Gluing) (W : ℕ → Bool) (corners : List Side) (s : Side) → ((x : Side) → g s ≡ Some x → IsFaceOf x.face corners) → IsBlocked g W corners s
blocked_ahead g W corners s h T part x e t = true_not_false (T x.face) t (part.apart x.face (h x e))

-- the three sides of a corner's face
abbrev OneOf : Place → Place → Type 0
OneOf p q = (q ≡ p) ⊎ ((q ≡ place_after p) ⊎ (q ≡ place_before p))

places : (p q : Place) → OneOf p q
places first first = inl refl
places first second = inr (inl refl)
places first third = inr (inr refl)
places second second = inl refl
places second third = inr (inl refl)
places second first = inr (inr refl)
places third third = inl refl
places third first = inr (inl refl)
places third second = inr (inr refl)

pub three_sides : (c y : Side) → y.face ≡ c.face → (y ≡ c) ⊎ ((y ≡ next c) ⊎ (y ≡ prev c))
three_sides c y e = elim (places c.place y.place) [
  | inl q ↦ inl (ap (λ (f : ℕ). side f y.place) e ∙ ap (side c.face) q)
  | inr t ↦ elim t [
    | inl q ↦ inr (inl (ap (λ (f : ℕ). side f y.place) e ∙ ap (side c.face) q))
    | inr q ↦ inr (inr (ap (λ (f : ℕ). side f y.place) e ∙ ap (side c.face) q))
  ]
]

-- a face is visited: what is ahead is covered again, if its sides are blocked and each kept face is still ahead, or visited
pub covered_step : {faces : ℕ} {g : Gluing} → IsGluing faces g → (V W : ℕ → Bool) (c : Side) (kept ahead : List Side) → IsVisiting V c.face W → IsCovered g V (c ∷ kept) →
    ((f : ℕ) → IsFaceOf f kept → IsFaceOf f ahead ⊎ (W f ≡ true)) → IsBlocked g W ahead c → IsBlocked g W ahead (next c) → IsBlocked g W ahead (prev c) → IsCovered g W ahead
covered_step {faces} {g} G V W c kept ahead N cover still gate right left T part x y e t = elim (cases_Bool (W y.face)) [
  | inr f ↦ f
  | inl v ↦ elim (N.only y.face v) [
    | inl u ↦ absurd (true_not_false (V y.face) u (cover T before x y e t))
    | inr f ↦ absurd (touches x y e t f)
  ]
]
  where
    touches : (x y : Side) → g x ≡ Some y → T x.face ≡ true → y.face ≡ c.face → ⊥
    touches x y e t f =
        let back : g y ≡ Some x = G.paired x y e in
        elim (three_sides c y f) [
          | inl q ↦ gate T part x (ap g (sym q) ∙ back) t
          | inr o ↦ elim o [
            | inl q ↦ right T part x (ap g (sym q) ∙ back) t
            | inr q ↦ left T part x (ap g (sym q) ∙ back) t
          ]
        ]

    before : IsPart g V (c ∷ kept) T
    before = record {
      unvisited = λ f q. (still_unvisited N f (part.unvisited f q)).0;
      spreads = λ a b i u v. elim (cases_Bool (W b.face)) [
        | inr w ↦ part.spreads a b i u w
        | inl w ↦ elim (N.only b.face w) [
          | inl z ↦ absurd (true_not_false (V b.face) z v)
          | inr z ↦ absurd (touches a b i u z)
        ]
      ];
      apart = λ f q. elim q [
        | inl z ↦ false_from_ne_true (T f) (λ u. true_not_false (W f) (ap W (sym z) ∙ N.new) (part.unvisited f u))
        | inr z ↦ elim (still f z) [
          | inl o ↦ part.apart f o
          | inr o ↦ false_from_ne_true (T f) (λ u. true_not_false (W f) o (part.unvisited f u))
        ]
      ];
    }

-- a part goes along a walk over unvisited faces, both ways
pub part_back : {faces : ℕ} {g : Gluing} → IsGluing faces g → (V : ℕ → Bool) (corners : List Side) (T : ℕ → Bool) → IsPart g V corners T → (P : Side → Type 0) → ((x : Side) → P x → V x.face ≡ false) → {c d : Side} → Through g P c d → T d.face ≡ true → T c.face ≡ true
part_back G V corners T part P free (at p) t = t
part_back {faces} {g} G V corners T part P free (by {c = c} {d = d} p s w) t =
    part.spreads (prev d) (next c) (G.paired (next c) (prev d) (left_crosses g c d s)) (part_back G V corners T part P free w t) (free c p)

through_head : {g : Gluing} {P : Side → Type 0} {c d : Side} → Through g P c d → P c
through_head (at p) = p
through_head (by p s w) = p

pub part_forth : {g : Gluing} (V : ℕ → Bool) (corners : List Side) (T : ℕ → Bool) → IsPart g V corners T → (P : Side → Type 0) → ((x : Side) → P x → V x.face ≡ false) → {c d : Side} → Through g P c d → T c.face ≡ true → T d.face ≡ true
part_forth V corners T part P free (at p) t = t
part_forth {g} V corners T part P free (by {c = c} {d = d} p s w) t =
    part_forth V corners T part P free w (part.spreads (next c) (prev d) (left_crosses g c d s) t (free d (through_head w)))

-- a closed set has all of a fan or nothing
pub fan_unvisited : {g : Gluing} (V : ℕ → Bool) → IsClosed g V → {c d : Side} → InFan g c d → V c.face ≡ false → V d.face ≡ false
fan_unvisited V C here h = h
fan_unvisited {g} V C (leftwards {c = c} {d = d} s p) h = fan_unvisited V C p (C (next c) (prev d) (left_crosses g c d s) h)
fan_unvisited {g} V C (rightwards {c = c} {d = d} s p) h = fan_unvisited V C p (C (prev c) (next d) (right_crosses g c d s) h)

pub closed_visited : {faces : ℕ} {g : Gluing} → IsGluing faces g → (V : ℕ → Bool) → IsClosed g V → (x y : Side) → g x ≡ Some y → V x.face ≡ true → V y.face ≡ true
closed_visited {faces} {g} G V C x y e h = elim (cases_Bool (V y.face)) [ inl t ↦ t | inr f ↦ absurd (true_not_false (V x.face) h (C y x (G.paired x y e) f)) ]

-- along a walk from a visited face all is visited
pub through_visited : {faces : ℕ} {g : Gluing} → IsGluing faces g → (V : ℕ → Bool) → IsClosed g V → (P : Side → Type 0) → {c d : Side} → Through g P c d → V c.face ≡ true → Through g (λ x. P x × (V x.face ≡ true)) c d
through_visited G V C P (at p) h = at (p, h)
through_visited {faces} {g} G V C P (by {c = c} {d = d} p s w) h = by (p, h) s (through_visited G V C P w (closed_visited G V C (next c) (prev d) (left_crosses g c d s) h))

-- how many of the first n faces are unvisited
unfoldable pub unvisited_count : (ℕ → Bool) → ℕ → ℕ
unvisited_count V zero = 0
unvisited_count V (suc n) = unvisited_count V n + cond (V n) 0 1

when_false : (b : Bool) → b ≡ false → ◌≡◌ {A = ℕ} (cond b 0 1) 1
when_false b e = ap (λ (t : Bool). let n : ℕ = cond t 0 1 in n) e

when_true : (b : Bool) → b ≡ true → ◌≡◌ {A = ℕ} (cond b 0 1) 0
when_true b e = ap (λ (t : Bool). let n : ℕ = cond t 0 1 in n) e

one_le : (a b : Bool) → (a ≡ true → b ≡ true) → cond b 0 1 ≤ cond a 0 1
one_le true true h = omega arith
one_le true false h = absurd (let no : false ≡ true = h refl in cc)
one_le false true h = omega arith
one_le false false h = omega arith

count_suc : (V : ℕ → Bool) (n : ℕ) → unvisited_count V (suc n) ≡ unvisited_count V n + cond (V n) 0 1
unfolding unvisited_count
count_suc V n = refl

count_zero : (V : ℕ → Bool) → unvisited_count V zero ≡ 0
unfolding unvisited_count
count_zero V = refl

pub count_most : (V : ℕ → Bool) (n : ℕ) → unvisited_count V n ≤ n
count_most V zero = (let e = count_zero V in omega arith)
count_most V (suc n) =
    let e = count_suc V n in
    let r = count_most V n in
    let o = one_le false (V n) (λ q. (let no : false ≡ true = q in absurd (cc))) in
    omega arith

pub count_le : (V W : ℕ → Bool) (n : ℕ) → ((x : ℕ) → V x ≡ true → W x ≡ true) → unvisited_count W n ≤ unvisited_count V n
count_le V W zero h = (let e = count_zero V in let d = count_zero W in omega arith)
count_le V W (suc n) h =
    let e = count_suc V n in
    let d = count_suc W n in
    let r = count_le V W n h in
    let o = one_le (V n) (W n) (h n) in
    omega arith

pub count_less : (V W : ℕ → Bool) (n f : ℕ) → ((x : ℕ) → V x ≡ true → W x ≡ true) → f < n → V f ≡ false → W f ≡ true → unvisited_count W n < unvisited_count V n
count_less V W zero f h l a b = absurd (omega arith)
count_less V W (suc n) f h l a b =
    let e = count_suc V n in
    let d = count_suc W n in
    elim (cases_eq f n) [
      | inl q ↦ (
          let r = count_le V W n h in
          let u = when_false (V n) (ap V (sym q) ∙ a) in
          let v = when_true (W n) (ap W (sym q) ∙ b) in
          omega arith)
      | inr q ↦ (
          let r = count_less V W n f h (omega arith) a b in
          let o = one_le (V n) (W n) (h n) in
          omega arith)
    ]

-- an unvisited face is counted
pub count_some : (V : ℕ → Bool) (n f : ℕ) → f < n → V f ≡ false → 0 < unvisited_count V n
count_some V n f l a = (let r = count_less V (λ x. true) n f (λ x q. refl) l a refl in omega arith)
