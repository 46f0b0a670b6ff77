-- Roots of joined names: what a halved way, a join and a new name change, and how roots are numbered.
use Rattle.std.proofs.Common.{◌≡◌, ◌≢◌, ℕ, zero, suc, ◌<◌, ◌≤◌, ◌==◌, max, min, cond, List, [], ◌∷◌, ◌++◌, length, get_or, set, inl, inr, sym, refl, ap, ◌∙◌, subst, arith, eq-eqb, ne_eqb, get_or-set_other, get_or-set_same}
use Rattle.std.proofs.lemmas.Bool.{cases_eq, cases_lt, cond-true, cond-false}
use Rattle.std.proofs.lemmas.List.{get_or_append_left, get_or_past, get_or_push, get_or_default, length-append, length-set}
use Rattle.eb_machine.specs.Named.{renamed}
use Rattle.eb_machine.proofs.NamedRules.{renamed_from, renamed_to, renamed_case}
use Rattle.eb_rebuild.specs.JoinedNames.{climbed, root_in, Falls, IsPlain, joined, roots_below, number_of, IsNumbering}

-- a name that is joined to none is where it was
fixed : (up : List ℕ) (n x : ℕ) → get_or up x x ≡ x → climbed up n x ≡ x
unfolding climbed
fixed up zero x e = refl
fixed up (suc n) x e = ap (climbed up n) e ∙ fixed up n x e

climbed_low : (up : List ℕ) → Falls up → (n x : ℕ) → climbed up n x ≤ x
unfolding climbed
climbed_low up F zero x = omega arith
climbed_low up F (suc n) x = let h = climbed_low up F n (get_or up x x) in let l = F.low x in omega arith

-- more steps than a name's number lead no further
enough : (up : List ℕ) → Falls up → (n m x : ℕ) → x ≤ n → x ≤ m → climbed up n x ≡ climbed up m x
unfolding climbed
enough up F zero m x h k = sym (fixed up m x (let l = F.low x in omega arith))
enough up F (suc n) zero x h k = fixed up (suc n) x (let l = F.low x in omega arith)
enough up F (suc n) (suc m) x h k = elim (cases_eq (get_or up x x) x) [
  | inl e ↦ fixed up (suc n) x e ∙ sym (fixed up (suc m) x e)
  | inr ne ↦ (let l = F.low x in enough up F n m (get_or up x x) (omega arith) (omega arith))
]

pub root_fixed : (up : List ℕ) (x : ℕ) → get_or up x x ≡ x → root_in up x ≡ x
root_fixed up x e = fixed up x x e

pub root_low : (up : List ℕ) → Falls up → (x : ℕ) → root_in up x ≤ x
root_low up F x = climbed_low up F x x

one_more : (up : List ℕ) (n x : ℕ) → climbed up n (get_or up x x) ≡ climbed up (suc n) x
unfolding climbed
one_more up n x = refl

-- a step keeps the root
pub root_step : (up : List ℕ) → Falls up → (x : ℕ) → root_in up (get_or up x x) ≡ root_in up x
root_step up F x =
    let l = F.low x in
    enough up F (get_or up x x) x (get_or up x x) (omega arith) l ∙ one_more up x x ∙ enough up F (suc x) x x (omega arith) (omega arith)

top_at : (up : List ℕ) → Falls up → (n x : ℕ) → x ≤ n → get_or up (root_in up x) (root_in up x) ≡ root_in up x
top_at up F zero x h =
    let e : get_or up x x ≡ x = (let l = F.low x in omega arith) in
    subst (λ (r : ℕ). get_or up r r ≡ r) (sym (root_fixed up x e)) e
top_at up F (suc n) x h = elim (cases_eq (get_or up x x) x) [
  | inl e ↦ subst (λ (r : ℕ). get_or up r r ≡ r) (sym (root_fixed up x e)) e
  | inr ne ↦ (let l = F.low x in subst (λ (r : ℕ). get_or up r r ≡ r) (root_step up F x) (top_at up F n (get_or up x x) (omega arith)))
]

-- a root is joined to none, and is its own root
pub root_top : (up : List ℕ) → Falls up → (x : ℕ) → get_or up (root_in up x) (root_in up x) ≡ root_in up x
root_top up F x = top_at up F x x (omega arith)

pub root_root : (up : List ℕ) → Falls up → (x : ℕ) → root_in up (root_in up x) ≡ root_in up x
root_root up F x = root_fixed up (root_in up x) (root_top up F x)

-- what is at each name itself where it is joined to none, and stays along a step, is the root
unique_at : (up : List ℕ) → Falls up → (f : ℕ → ℕ) → ((x : ℕ) → get_or up x x ≡ x → f x ≡ x) → ((x : ℕ) → f (get_or up x x) ≡ f x) → (n x : ℕ) → x ≤ n → root_in up x ≡ f x
unique_at up F f a b zero x h = let e : get_or up x x ≡ x = (let l = F.low x in omega arith) in root_fixed up x e ∙ sym (a x e)
unique_at up F f a b (suc n) x h = elim (cases_eq (get_or up x x) x) [
  | inl e ↦ root_fixed up x e ∙ sym (a x e)
  | inr ne ↦ (let l = F.low x in sym (root_step up F x) ∙ unique_at up F f a b n (get_or up x x) (omega arith) ∙ b x)
]

pub root_unique : (up : List ℕ) → Falls up → (f : ℕ → ℕ) → ((x : ℕ) → get_or up x x ≡ x → f x ≡ x) → ((x : ℕ) → f (get_or up x x) ≡ f x) → (x : ℕ) → root_in up x ≡ f x
root_unique up F f a b x = unique_at up F f a b x x (omega arith)

-- what a list gives after one change
set_here : (up : List ℕ) (x v : ℕ) → x < length up → get_or (set up x v) x x ≡ v
set_here up x v h = get_or-set_same up x v x h

set_there : (up : List ℕ) (x v z : ℕ) → z ≢ x → get_or (set up x v) z z ≡ get_or up z z
set_there up x v z ne = get_or-set_other up x z v z ne

set_falls : (up : List ℕ) → Falls up → (x v : ℕ) → x < length up → v ≤ x → Falls (set up x v)
set_falls up F x v h l = record { low = at }
  where
    at : (z : ℕ) → get_or (set up x v) z z ≤ z
    at z = elim (cases_eq z x) [
      | inl e ↦ subst (λ (y : ℕ). get_or (set up x v) y y ≤ y) (sym e) (let q = set_here up x v h in omega arith)
      | inr ne ↦ (let q = set_there up x v z ne in let k = F.low z in omega arith)
    ]

-- a way is halved: first is what x was joined to, second what first was
pub halved_falls : (up : List ℕ) → Falls up → (x first second : ℕ) → x < length up → first ≡ get_or up x x → second ≡ get_or up first first → Falls (set up x second)
halved_falls up F x first second h a b = set_falls up F x second h (let k = F.low x in let l = F.low first in omega arith)

pub halved_roots : (up : List ℕ) → Falls up → (x first second : ℕ) → x < length up → first ≡ get_or up x x → second ≡ get_or up first first → (z : ℕ) → root_in (set up x second) z ≡ root_in up z
halved_roots up F x first second h a b = root_unique (set up x second) (halved_falls up F x first second h a b) (root_in up) own along
  where
    two : root_in up second ≡ root_in up x
    two = ap (root_in up) b ∙ root_step up F first ∙ ap (root_in up) a ∙ root_step up F x

    own : (z : ℕ) → get_or (set up x second) z z ≡ z → root_in up z ≡ z
    own z e = elim (cases_eq z x) [
      | inl q ↦ (
          let s : second ≡ z = sym (set_here up x second h) ∙ sym (ap (λ (y : ℕ). get_or (set up x second) y y) q) ∙ e in
          let k = F.low x in
          let l = F.low first in
          let i : get_or up x x ≡ x = omega arith in
          ap (root_in up) q ∙ root_fixed up x i ∙ sym q)
      | inr ne ↦ root_fixed up z (sym (set_there up x second z ne) ∙ e)
    ]

    along : (z : ℕ) → root_in up (get_or (set up x second) z z) ≡ root_in up z
    along z = elim (cases_eq z x) [
      | inl q ↦ ap (root_in up) (ap (λ (y : ℕ). get_or (set up x second) y y) q ∙ set_here up x second h) ∙ two ∙ sym (ap (root_in up) q)
      | inr ne ↦ ap (root_in up) (set_there up x second z ne) ∙ root_step up F z
    ]

-- and the root of the name beyond the next is that of the name
pub halved_here : (up : List ℕ) → Falls up → (x first second : ℕ) → first ≡ get_or up x x → second ≡ get_or up first first → root_in up second ≡ root_in up x
halved_here up F x first second a b = ap (root_in up) b ∙ root_step up F first ∙ ap (root_in up) a ∙ root_step up F x

-- root m is joined to root p
pub linked_roots : (up : List ℕ) → Falls up → (m p : ℕ) → m < length up → p ≤ m → get_or up m m ≡ m → get_or up p p ≡ p → (z : ℕ) → root_in (set up m p) z ≡ renamed m p (root_in up z)
linked_roots up F m p h l em ep = root_unique (set up m p) (set_falls up F m p h l) (λ (z : ℕ). renamed m p (root_in up z)) own along
  where
    at_m : renamed m p (root_in up m) ≡ p
    at_m = ap (renamed m p) (root_fixed up m em) ∙ renamed_from m p

    at_p : renamed m p (root_in up p) ≡ p
    at_p = ap (renamed m p) (root_fixed up p ep) ∙ renamed_to m p

    own : (z : ℕ) → get_or (set up m p) z z ≡ z → renamed m p (root_in up z) ≡ z
    own z e = elim (cases_eq z m) [
      | inl q ↦ (
          let s : p ≡ z = sym (set_here up m p h) ∙ sym (ap (λ (y : ℕ). get_or (set up m p) y y) q) ∙ e in
          ap (λ (y : ℕ). renamed m p (root_in up y)) q ∙ at_m ∙ s)
      | inr ne ↦ (
          let r : root_in up z ≡ z = root_fixed up z (sym (set_there up m p z ne) ∙ e) in
          ap (renamed m p) r ∙ elim (renamed_case m p z) [ inl c ↦ absurd (ne c.0) | inr c ↦ c ])
    ]

    along : (z : ℕ) → renamed m p (root_in up (get_or (set up m p) z z)) ≡ renamed m p (root_in up z)
    along z = elim (cases_eq z m) [
      | inl q ↦ ap (λ (y : ℕ). renamed m p (root_in up y)) (ap (λ (y : ℕ). get_or (set up m p) y y) q ∙ set_here up m p h) ∙ at_p ∙ sym at_m ∙ sym (ap (λ (y : ℕ). renamed m p (root_in up y)) q)
      | inr ne ↦ ap (λ (y : ℕ). renamed m p (root_in up y)) (set_there up m p z ne) ∙ ap (renamed m p) (root_step up F z)
    ]

-- a name more, joined to none
pushed_at : (up : List ℕ) (n z : ℕ) → n ≡ length up → get_or (up ++ (n ∷ [])) z z ≡ get_or up z z
pushed_at up n z e = elim (cases_lt z (length up)) [
  | inl l ↦ get_or_append_left up (n ∷ []) z z l
  | inr l ↦ elim (cases_eq z (length up)) [
    | inl q ↦ get_or_push up n z z (sym q) ∙ e ∙ sym q ∙ sym (get_or_past up z z l)
    | inr ne ↦ get_or_past (up ++ (n ∷ [])) z z (let k = length-append up (n ∷ []) in omega arith) ∙ sym (get_or_past up z z l)
  ]
]

pub pushed_falls : (up : List ℕ) → Falls up → (n : ℕ) → n ≡ length up → Falls (up ++ (n ∷ []))
pushed_falls up F n e = record { low = λ z. let q = pushed_at up n z e in let l = F.low z in omega arith }

pub pushed_roots : (up : List ℕ) → Falls up → (n : ℕ) → n ≡ length up → (z : ℕ) → root_in (up ++ (n ∷ [])) z ≡ root_in up z
pushed_roots up F n e = root_unique (up ++ (n ∷ [])) (pushed_falls up F n e) (root_in up)
    (λ z q. root_fixed up z (sym (pushed_at up n z e) ∙ q))
    (λ z. ap (root_in up) (pushed_at up n z e) ∙ root_step up F z)

-- nothing is joined at first
pub none_falls : (up : List ℕ) → up ≡ [] → Falls up
none_falls up e = record { low = λ x. subst (λ (l : List ℕ). get_or l x x ≤ x) (sym e) (omega arith) }

pub plain_roots : (up : List ℕ) → IsPlain up → (x : ℕ) → root_in up x ≡ x
plain_roots up P x = root_fixed up x (P x)

-- roots and their numbers
pub below_root : (root : ℕ → ℕ) (n : ℕ) → root n ≡ n → roots_below root (suc n) ≡ suc (roots_below root n)
unfolding roots_below
below_root root n e = let c : ◌≡◌ {A = ℕ} (cond (root n == n) 1 0) 1 = cond-true (root n == n) 1 0 (eq-eqb (root n) n e) in omega arith

pub below_other : (root : ℕ → ℕ) (n : ℕ) → root n ≢ n → roots_below root (suc n) ≡ roots_below root n
unfolding roots_below
below_other root n ne = let c : ◌≡◌ {A = ℕ} (cond (root n == n) 1 0) 0 = cond-false (root n == n) 1 0 (ne_eqb (root n) n ne) in omega arith

below_zero : (root : ℕ → ℕ) → roots_below root zero ≡ 0
unfolding roots_below
below_zero root = refl

below_step : (root : ℕ → ℕ) (n : ℕ) → roots_below root n ≤ roots_below root (suc n)
below_step root n = elim (cases_eq (root n) n) [
  | inl e ↦ (let h = below_root root n e in omega arith)
  | inr ne ↦ (let h = below_other root n ne in omega arith)
]

pub below_rises : (root : ℕ → ℕ) (n m : ℕ) → n ≤ m → roots_below root n ≤ roots_below root m
below_rises root n zero h = subst (λ (k : ℕ). roots_below root n ≤ roots_below root k) (let q : n ≡ 0 = omega arith in q) (omega arith)
below_rises root n (suc m) h = elim (cases_eq n (suc m)) [
  | inl e ↦ subst (λ (k : ℕ). roots_below root n ≤ roots_below root k) e (omega arith)
  | inr ne ↦ (let a = below_rises root n m (omega arith) in let b = below_step root m in omega arith)
]

-- a root has fewer before it than a later number has
pub below_more : (root : ℕ → ℕ) (r m : ℕ) → root r ≡ r → r < m → roots_below root r < roots_below root m
below_more root r m e h = let a = below_root root r e in let b = below_rises root (suc r) m h in omega arith

-- so roots of one number are one
pub below_tells : (root : ℕ → ℕ) (r s : ℕ) → root r ≡ r → root s ≡ s → roots_below root r ≡ roots_below root s → r ≡ s
below_tells root r s e f q = elim (cases_lt r s) [
  | inl l ↦ absurd (let h = below_more root r s e l in omega arith)
  | inr l ↦ elim (cases_lt s r) [
    | inl k ↦ absurd (let h = below_more root s r f k in omega arith)
    | inr k ↦ omega arith
  ]
]

-- each lesser number is that of a root
pub below_found : (root : ℕ → ℕ) (n k : ℕ) → k < roots_below root n → (r : ℕ) × (r < n) × (root r ≡ r) × (roots_below root r ≡ k)
below_found root zero k h = absurd (let z = below_zero root in omega arith)
below_found root (suc n) k h = elim (cases_eq (root n) n) [
  | inl e ↦ elim (cases_eq k (roots_below root n)) [
    | inl q ↦ (n, omega arith, e, sym q)
    | inr q ↦ (let a = below_root root n e in let u = below_found root n k (omega arith) in let l = u.1 in (u.0, omega arith, u.2, u.3))
  ]
  | inr ne ↦ (let a = below_other root n ne in let u = below_found root n k (omega arith) in let l = u.1 in (u.0, omega arith, u.2, u.3))
]

pub below_few : (root : ℕ → ℕ) (n : ℕ) → roots_below root n ≤ n
below_few root zero = let z = below_zero root in omega arith
below_few root (suc n) = elim (cases_eq (root n) n) [
  | inl e ↦ (let a = below_root root n e in let b = below_few root n in omega arith)
  | inr ne ↦ (let a = below_other root n ne in let b = below_few root n in omega arith)
]

-- where none is joined, each name has its own number
pub below_plain : (root : ℕ → ℕ) → ((x : ℕ) → root x ≡ x) → (n : ℕ) → roots_below root n ≡ n
below_plain root P zero = below_zero root
below_plain root P (suc n) = below_root root n (P n) ∙ ap suc (below_plain root P n)

-- the numbering
pub numbers_begin : (up : List ℕ) → IsNumbering up 0 0 up
numbers_begin up = record { long = refl; counted = sym (below_zero (root_in up)); done = λ x h. absurd (omega arith); left = λ x h. refl }

pub numbers_root : (up : List ℕ) → Falls up → (i count first : ℕ) (numbers : List ℕ) → IsNumbering up i count numbers → i < length up → first ≡ get_or numbers i 0 → first ≡ i → IsNumbering up (suc i) (suc count) (set numbers i count)
numbers_root up F i count first numbers N h e q = record {
  long = length-set numbers i count ∙ N.long;
  counted = ap suc N.counted ∙ sym (below_root (root_in up) i r);
  done = done;
  left = λ x k. get_or-set_other numbers i x count 0 (omega arith) ∙ N.left x (omega arith);
}
  where
    r : root_in up i ≡ i
    r = root_fixed up i (get_or_default up i i 0 h ∙ sym (N.left i (omega arith)) ∙ sym e ∙ q)

    done : (x : ℕ) → x < suc i → get_or (set numbers i count) x 0 ≡ number_of (root_in up) x
    done x k = elim (cases_eq x i) [
      | inl p ↦ ap (λ (y : ℕ). get_or (set numbers i count) y 0) p ∙ get_or-set_same numbers i count 0 (let l = N.long in omega arith) ∙ N.counted ∙ ap (roots_below (root_in up)) (sym r) ∙ ap (number_of (root_in up)) (sym p)
      | inr ne ↦ get_or-set_other numbers i x count 0 ne ∙ N.done x (omega arith)
    ]

pub numbers_other : (up : List ℕ) → Falls up → (i count first number : ℕ) (numbers : List ℕ) → IsNumbering up i count numbers → i < length up → first ≡ get_or numbers i 0 → first ≢ i → number ≡ get_or numbers first 0 → IsNumbering up (suc i) count (set numbers i number)
numbers_other up F i count first number numbers N h e ne f = record {
  long = length-set numbers i number ∙ N.long;
  counted = N.counted ∙ sym (below_other (root_in up) i (λ r. apart r));
  done = done;
  left = λ x k. get_or-set_other numbers i x number 0 (omega arith) ∙ N.left x (omega arith);
}
  where
    is : first ≡ get_or up i i
    is = e ∙ N.left i (omega arith) ∙ sym (get_or_default up i i 0 h)

    less : first < i
    less = let q = is in let l = F.low i in omega arith

    apart : root_in up i ≡ i → ⊥
    apart r =
        let q = is in
        let l = less in
        let a = root_step up F i in
        let b = root_low up F (get_or up i i) in
        absurd (omega arith)

    done : (x : ℕ) → x < suc i → get_or (set numbers i number) x 0 ≡ number_of (root_in up) x
    done x k = elim (cases_eq x i) [
      | inl p ↦ ap (λ (y : ℕ). get_or (set numbers i number) y 0) p ∙ get_or-set_same numbers i number 0 (let l = N.long in omega arith) ∙ f ∙ N.done first less ∙ ap (roots_below (root_in up)) (ap (root_in up) is ∙ root_step up F i) ∙ ap (number_of (root_in up)) (sym p)
      | inr q ↦ get_or-set_other numbers i x number 0 q ∙ N.done x (omega arith)
    ]

-- what a name was joined to is no greater, while it has no number
pub numbers_first : (up : List ℕ) → Falls up → (i count first : ℕ) (numbers : List ℕ) → IsNumbering up i count numbers → i < length up → first ≡ get_or numbers i 0 → first ≤ i
numbers_first up F i count first numbers N h e =
    let is : first ≡ get_or up i i = e ∙ N.left i (omega arith) ∙ sym (get_or_default up i i 0 h) in
    let l = F.low i in
    omega arith

-- one of two numbers is the greater, and the other the lesser
of_max : (P : ℕ → Type 0) (r s : ℕ) → P r → P s → P (max r s)
of_max P r s a b = elim (cases_lt r s) [
  | inl l ↦ subst P (let e : s ≡ max r s = omega arith in e) b
  | inr l ↦ subst P (let e : r ≡ max r s = omega arith in e) a
]

of_min : (P : ℕ → Type 0) (r s : ℕ) → P r → P s → P (min r s)
of_min P r s a b = elim (cases_lt r s) [
  | inl l ↦ subst P (let e : r ≡ min r s = omega arith in e) a
  | inr l ↦ subst P (let e : s ≡ min r s = omega arith in e) b
]

-- two names are joined: their roots were found, which changed no root, and the greater one is joined to the lesser
pub joined_roots : (old two new : List ℕ) → Falls old → Falls two → (a b r s : ℕ) → r ≡ root_in old a → s ≡ root_in old b → ((x : ℕ) → root_in two x ≡ root_in old x) →
    r < length two → s < length two → new ≡ set two (max r s) (min r s) → (x : ℕ) → root_in new x ≡ joined (root_in old) a b x
joined_roots old two new G F a b r s er es same lr ls e x =
    ap (λ (l : List ℕ). root_in l x) e
    ∙ linked_roots two F (max r s) (min r s) (of_max (λ (y : ℕ). y < length two) r s lr ls) (omega arith) (of_max (λ (y : ℕ). get_or two y y ≡ y) r s top_r top_s) (of_min (λ (y : ℕ). get_or two y y ≡ y) r s top_r top_s) x
    ∙ ap (renamed (max r s) (min r s)) (same x)
    ∙ ap (λ (y : ℕ). renamed (max y s) (min y s) (root_in old x)) er
    ∙ ap (λ (y : ℕ). renamed (max (root_in old a) y) (min (root_in old a) y) (root_in old x)) es
  where
    own : (y z : ℕ) → y ≡ root_in old z → get_or two y y ≡ y
    own y z q =
        let i : root_in two y ≡ y = same y ∙ ap (root_in old) q ∙ root_root old G z ∙ sym q in
        subst (λ (v : ℕ). get_or two v v ≡ v) i (root_top two F y)

    top_r : get_or two r r ≡ r
    top_r = own r a er

    top_s : get_or two s s ≡ s
    top_s = own s b es
