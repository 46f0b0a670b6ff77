-- The tests of heads are their equality.
use Rattle.std.proofs.Common.{◌≡◌, ◌↔◌, ◌==◌, ℕ, Bool, true, List, Some, None, Option, ap, ◌∙◌, refl}
use Rattle.std.specs.Bool.{Decides}
use Rattle.std.proofs.lemmas.Bool.{false≢true}
use Rattle.std.proofs.lemmas.Bool.Decides.{Decides-and, Decides-like, Decides-eqb, same_from_decides}
use Rattle.std.proofs.lemmas.Slice.Eq.{bytes_eq-Decides, slice_eq-Decides}
use Rattle.attr_heads.specs.declared.quants.Quant.{Quant}
use Rattle.attr_heads.specs.declared.heads.Head.{Head}
use Rattle.drc_verify.specs.HeadTests.{same_quant, same_quants, same_squares, same_head, same_heads}

quant-is : (a b : Quant) → a.bits ≡ b.bits → a.range ≡ b.range → a.min ≡ b.min → a ≡ b
quant-is a b bits range min =
    let first : ℕ → Quant = λ x. record { bits = x; range = a.range; min = a.min } in
    let second : ℕ → Quant = λ x. record { bits = b.bits; range = x; min = a.min } in
    let third : List ℕ → Quant = λ x. record { bits = b.bits; range = b.range; min = x } in
    ap first bits ∙ ap second range ∙ ap third min

quant-decides : (a b : Quant) → Decides (same_quant a b) (a ≡ b)
quant-decides a b =
    Decides-like (same_quant a b)
    (λ h. quant-is a b h.0.0 h.0.1 h.1)
    (λ e. ((ap (λ (q : Quant). q.bits) e, ap (λ (q : Quant). q.range) e), ap (λ (q : Quant). q.min) e))
    (Decides-and _ _ (Decides-and _ _ (Decides-eqb a.bits b.bits) (Decides-eqb a.range b.range)) (bytes_eq-Decides a.min b.min))

quants-decide : (a b : Option Quant) → Decides (same_quants a b) (a ≡ b)
quants-decide None None = (λ _. refl, λ _. refl)
quants-decide (Some a) (Some b) =
    Decides-like (same_quant a b) (λ e. ap Some e) (λ (e : Some a ≡ Some b). cc) (quant-decides a b)
quants-decide None (Some b) = (λ t. absurd (false≢true t), λ (e : None ≡ Some b). cc)
quants-decide (Some a) None = (λ t. absurd (false≢true t), λ (e : Some a ≡ None). cc)

squares-decide : (a b : Option ℕ) → Decides (same_squares a b) (a ≡ b)
squares-decide None None = (λ _. refl, λ _. refl)
squares-decide (Some a) (Some b) =
    Decides-like (a == b) (λ e. ap Some e) (λ (e : Some a ≡ Some b). cc) (Decides-eqb a b)
squares-decide None (Some b) = (λ t. absurd (false≢true t), λ (e : None ≡ Some b). cc)
squares-decide (Some a) None = (λ t. absurd (false≢true t), λ (e : Some a ≡ None). cc)

head-is : (a b : Head) → a.usage ≡ b.usage → a.dtype ≡ b.dtype → a.comps ≡ b.comps → a.normalized ≡ b.normalized → a.id ≡ b.id
    → a.quant ≡ b.quant → a.octa ≡ b.octa → a ≡ b
head-is a b e0 e1 e2 e3 e4 e5 e6 =
    let with : ℕ → ℕ → ℕ → ℕ → ℕ → Option Quant → Option ℕ → Head =
    λ u d c n i q o. record { usage = u; dtype = d; comps = c; normalized = n; id = i; quant = q; octa = o } in
    ap (λ x. with x a.dtype a.comps a.normalized a.id a.quant a.octa) e0
    ∙ ap (λ x. with b.usage x a.comps a.normalized a.id a.quant a.octa) e1
    ∙ ap (λ x. with b.usage b.dtype x a.normalized a.id a.quant a.octa) e2
    ∙ ap (λ x. with b.usage b.dtype b.comps x a.id a.quant a.octa) e3
    ∙ ap (λ x. with b.usage b.dtype b.comps b.normalized x a.quant a.octa) e4
    ∙ ap (λ x. with b.usage b.dtype b.comps b.normalized b.id x a.octa) e5
    ∙ ap (λ x. with b.usage b.dtype b.comps b.normalized b.id b.quant x) e6

head-decides : (a b : Head) → Decides (same_head a b) (a ≡ b)
head-decides a b =
    Decides-like (same_head a b)
    (λ h. head-is a b h.0.0.0.0.0.0 h.0.0.0.0.0.1 h.0.0.0.0.1 h.0.0.0.1 h.0.0.1 h.0.1 h.1)
    (λ e. (
      (
        (
          (
            ((ap (λ (h : Head). h.usage) e, ap (λ (h : Head). h.dtype) e), ap (λ (h : Head). h.comps) e),
            ap (λ (h : Head). h.normalized) e,
          ),
          ap (λ (h : Head). h.id) e,
        ),
        ap (λ (h : Head). h.quant) e,
      ),
      ap (λ (h : Head). h.octa) e,
    ))
    (Decides-and _ _ (Decides-and _ _ (Decides-and _ _ (Decides-and _ _ (Decides-and _ _ (Decides-and _ _ (Decides-eqb a.usage b.usage)
    (Decides-eqb a.dtype b.dtype)) (Decides-eqb a.comps b.comps)) (Decides-eqb a.normalized b.normalized)) (Decides-eqb a.id b.id))
    (quants-decide a.quant b.quant)) (squares-decide a.octa b.octa))

pub same_heads-decides : (a b : List Head) → Decides (same_heads a b) (a ≡ b)
unfolding same_heads
same_heads-decides a b = slice_eq-Decides head-decides a b (same_heads a b) refl

-- a test that is their equality is this one
pub heads_told : (a b : List Head) (r : Bool) → ((r ≡ true) ↔ (a ≡ b)) → r ≡ same_heads a b
heads_told a b r told = same_from_decides r (same_heads a b) told (same_heads-decides a b)
