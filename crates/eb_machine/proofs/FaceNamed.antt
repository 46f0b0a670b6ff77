-- A map of corners is alike exactly along fans, and stays so when a face is added, some of whose sides are glued.
use Rattle.std.proofs.Common.{◌≡◌, ℕ, suc, ◌<◌, ◌⊎◌, inl, inr, sym, refl, ap, ◌∙◌, subst, arith}
use Rattle.std.proofs.lemmas.Bool.{cases_lt}
use Rattle.corner_table.specs.Sides.{Side, Place, side, Gluing, IsGluing}
use Rattle.corner_table.specs.Fans.{InFan, here}
use Rattle.corner_table.proofs.Walks.{fan_trans, fan_sym}
use Rattle.eb_machine.specs.OneFaceMore.{Pairs, glue_all, PairsAreApart, Touches}
use Rattle.eb_machine.proofs.ManyGlued.{all_gluing, Meet, all_alike, Meeting, all_meet, fan_within}

-- a corner of the new face that has its name alone
abbrev pub IsAlone : ℕ → (Side → ℕ) → Place → Type 0
IsAlone f new k = (d : Side) → d.face < suc f → new d ≡ new (side f k) → side f k ≡ d

-- the names before the face and after it
pub record NamesAround (f : ℕ) (g : Gluing) (old new : Side → ℕ) (rename : ℕ → ℕ) (ps : Pairs) : Type 0 where
  pub gluing : IsGluing f g
  pub apart : PairsAreApart f g ps
  pub one_name : (c d : Side) → InFan g c d → old c ≡ old d
  pub stay : (c : Side) → c.face < f → new c ≡ rename (old c)
  pub meets : Meet f new ps
  pub corners : (k : Place) → Touches k ps ⊎ IsAlone f new k
  pub merged : (c d : Side) → c.face < f → d.face < f → rename (old c) ≡ rename (old d) → InFan (glue_all f ps g) c d

pub alike_around : {f : ℕ} {g : Gluing} {old new : Side → ℕ} {rename : ℕ → ℕ} {ps : Pairs} → NamesAround f g old new rename ps → (c d : Side) → InFan (glue_all f ps g) c d → new c ≡ new d
alike_around {f} {g} {old} {new} {rename} {ps} N = all_alike f new ps before N.meets
  where
    before : (c d : Side) → InFan g c d → new c ≡ new d
    before c d w = elim (fan_within N.gluing w) [
      | inl e ↦ ap new e
      | inr l ↦ N.stay c l.0 ∙ ap rename (N.one_name c d w) ∙ sym (N.stay d l.1)
    ]

pub together_around : {f : ℕ} {g : Gluing} {old new : Side → ℕ} {rename : ℕ → ℕ} {ps : Pairs} → NamesAround f g old new rename ps → (c d : Side) → c.face < suc f → d.face < suc f → new c ≡ new d → InFan (glue_all f ps g) c d
together_around {f} {g} {old} {new} {rename} {ps} N c d l k e = elim (stands c l) [
  | inr n ↦ subst (InFan h c) (n d k (sym e)) here
  | inl m ↦ elim (stands d k) [
    | inr n ↦ subst (InFan h c) (sym (n c l e)) here
    | inl n ↦ joined m n
  ]
]
  where
    h : Gluing
    h = glue_all f ps g

    -- each corner is in a fan with an old one of its name, or has its name alone
    Stands : Side → Type 0
    Stands c = Meeting f h new c ⊎ ((d : Side) → d.face < suc f → new d ≡ new c → c ≡ d)

    stands_new : (k : Place) → Stands (side f k)
    stands_new k = elim (N.corners k) [
      | inl m ↦ inl (all_meet N.gluing new ps N.apart N.meets k m)
      | inr n ↦ inr n
    ]

    face_of : (x : Side) → x.face ≡ f → x ≡ side f x.place
    face_of x q = ap (λ (n : ℕ). side n x.place) q

    stands : (c : Side) → c.face < suc f → Stands c
    stands c l = elim (cases_lt c.face f) [
      | inl m ↦ inl (record { old = c; within = m; in_fan = here; one_name = refl })
      | inr m ↦ subst Stands (sym (face_of c (omega arith))) (stands_new c.place)
    ]

    joined : Meeting f h new c → Meeting f h new d → InFan h c d
    joined m n =
        fan_trans m.in_fan
        (fan_trans
        (N.merged m.old n.old m.within n.within (sym (N.stay m.old m.within) ∙ sym m.one_name ∙ e ∙ n.one_name ∙ N.stay n.old n.within))
        (fan_sym (all_gluing N.gluing ps N.apart) n.in_fan))
