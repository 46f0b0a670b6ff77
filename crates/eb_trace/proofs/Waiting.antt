-- The sides that wait: the free sides 0, the last first.
use Rattle.std.proofs.Common.{◌≡◌, ℕ, zero, suc, ◌<◌, ◌≤◌, is_none, List, [], ◌∷◌, Option, Some, None, inl, inr, sym, refl, ap, ◌∙◌, arith}
use Rattle.std.proofs.lemmas.Bool.{cases_eq, cond-true, cond-false}
use Rattle.corner_table.specs.Sides.{Side, first, side, Gluing}
use Rattle.corner_table.specs.Prefixes.{prefix}
use Rattle.corner_table.proofs.Places.{option_tells}
use Rattle.corner_table.proofs.Prefixing.{prefix-free, prefix_none}
use Rattle.eb_trace.specs.Readable.{IsPast}
use Rattle.eb_trace.specs.Front.{free_firsts}

pub firsts_none : (h : Gluing) → free_firsts h zero ≡ []
unfolding free_firsts
firsts_none h = refl

pub firsts_free : (h : Gluing) (j : ℕ) → h (side j first) ≡ None → free_firsts h (suc j) ≡ side j first ∷ free_firsts h j
unfolding free_firsts
firsts_free h j e = cond-true (is_none (h (side j first))) _ _ (ap {A = Option Side} is_none e)

pub firsts_glued : (h : Gluing) (j : ℕ) (z : Side) → h (side j first) ≡ Some z → free_firsts h (suc j) ≡ free_firsts h j
unfolding free_firsts
firsts_glued h j z e = cond-false (is_none (h (side j first))) _ _ (ap {A = Option Side} is_none e)

-- two gluings that are alike on sides 0
pub firsts_alike : (h k : Gluing) (m : ℕ) → ((j : ℕ) → j < m → h (side j first) ≡ k (side j first)) → free_firsts h m ≡ free_firsts k m
firsts_alike h k zero same = firsts_none h ∙ sym (firsts_none k)
firsts_alike h k (suc m) same =
    let rest = firsts_alike h k m (λ j l. same j (omega arith)) in
    elim (option_tells (k (side m first))) [
      | inl n ↦ firsts_free h m (same m (omega arith) ∙ n) ∙ ap (λ (t : List Side). side m first ∷ t) rest ∙ sym (firsts_free k m n)
      | inr z ↦ firsts_glued h m z.0 (same m (omega arith) ∙ z.1) ∙ rest ∙ sym (firsts_glued k m z.0 z.1)
    ]

-- glued ones are passed over
pub firsts_skip : (h : Gluing) (low high : ℕ) → low ≤ high → ((j : ℕ) → low ≤ j → j < high → (z : Side) × (h (side j first) ≡ Some z)) → free_firsts h high ≡ free_firsts h low
firsts_skip h low zero l glued = ap (free_firsts h) (let e : zero ≡ low = omega arith in e)
firsts_skip h low (suc n) l glued = elim (cases_eq low (suc n)) [
  | inl e ↦ ap (free_firsts h) (sym e)
  | inr e ↦ (
      let z = glued n (omega arith) (omega arith) in
      firsts_glued h n z.0 z.1 ∙ firsts_skip h low n (omega arith) (λ j a b. glued j a (omega arith)))
]

-- the last one
pub firsts_last : (h : Gluing) (m p : ℕ) → m ≡ suc p → h (side p first) ≡ None → free_firsts h m ≡ side p first ∷ free_firsts h p
firsts_last h m p e n = ap (free_firsts h) e ∙ firsts_free h p n

pub firsts_unlast : (h : Gluing) (m p : ℕ) (z : Side) → m ≡ suc p → h (side p first) ≡ Some z → free_firsts h m ≡ free_firsts h p
firsts_unlast h m p z e n = ap (free_firsts h) e ∙ firsts_glued h p z n

-- a past side is free
pub past_free : (m : ℕ) (g : Gluing) (x : Side) → x.face < m → m ≤ suc x.face → IsPast g x → prefix m g x ≡ None
past_free m g x h k p = elim (option_tells (g x)) [
  | inl n ↦ prefix_none m g x n
  | inr y ↦ prefix-free m g x y.0 y.1 (let l = p y.0 y.1 in omega arith)
]
