-- The test of partners is what it says, and no side that differs is one gluing.
use Rattle.std.proofs.Common.{◌≡◌, ℕ, ◌*◌, ◌<◌, ◌≤◌, eqb, List, get_or, Option, Some, None, ap, sym, ◌∙◌, refl, inl, inr, arith}
use mathlib.Core.Path.{fun_ext}
use Rattle.std.specs.Bool.{Decides}
use Rattle.std.proofs.lemmas.Bool.{false≢true, cases_lt, cases_Bool, eqb-true, eq-eqb, cond-true, cond-false}
use Rattle.std.proofs.lemmas.Bool.Decides.{Decides-eqb, Decides-like, same_from_decides}
use Rattle.corner_table.specs.Sides.{Side, same, number, side_at, Gluing, IsGluing}
use Rattle.corner_table.specs.Table.{free_entry, other_at, glued_in}
use Rattle.corner_table.proofs.Places.{same-true, same_refl, option_tells}
use Rattle.corner_table.proofs.Numbers.{side_at-number, number-side_at, number-lt}
use Rattle.drc_verify.specs.SideTests.{same_partner, is_glued_alike, first_other}
use Rattle.drc_verify.specs.Laws.{SaysSides, SidesAreTold}
use Rattle.drc_verify.proofs.FirstsFound.{first_failing-none, first_failing-all, first_failing-found}

some_is : {A : Type 0} (a b : A) → Some a ≡ Some b → a ≡ b
some_is a b e = cc

pub partners-decide : (a b : Option Side) → Decides (same_partner a b) (a ≡ b)
partners-decide None None = (λ _. refl, λ _. refl)
partners-decide (Some a) (Some b) = (
  λ t. ap Some (same-true a b t),
  λ e. ap (same a) (sym (some_is a b e)) ∙ same_refl a,
)
partners-decide None (Some b) = (λ t. absurd (false≢true t), λ (e : None ≡ Some b). cc)
partners-decide (Some a) None = (λ t. absurd (false≢true t), λ (e : Some a ≡ None). cc)

-- ---- entries

other-free : other_at free_entry ≡ None
other-free = cond-true (eqb free_entry free_entry) None (Some (side_at free_entry)) (eq-eqb free_entry free_entry refl)

other-some : (v : ℕ) → (v ≡ free_entry → ⊥) → other_at v ≡ Some (side_at v)
other-some v not_free = elim (cases_Bool (eqb v free_entry)) [
  | inl t ↦ absurd (not_free (eqb-true v free_entry t))
  | inr f ↦ cond-false (eqb v free_entry) None (Some (side_at v)) f
]

other-injective : (v w : ℕ) → other_at v ≡ other_at w → v ≡ w
other-injective v w e = elim (cases_Bool (eqb v free_entry)) [
  | inl tv ↦ elim (cases_Bool (eqb w free_entry)) [
    | inl tw ↦ eqb-true v free_entry tv ∙ sym (eqb-true w free_entry tw)
    | inr fw ↦
        let no : ◌≡◌ {A = Option Side} None (Some (side_at w)) =
        sym (cond-true (eqb v free_entry) None (Some (side_at v)) tv) ∙ e ∙ cond-false (eqb w free_entry) None (Some (side_at w)) fw in
        absurd cc
  ]
  | inr fv ↦ elim (cases_Bool (eqb w free_entry)) [
    | inl tw ↦
        let no : ◌≡◌ {A = Option Side} None (Some (side_at v)) =
        sym (cond-true (eqb w free_entry) None (Some (side_at w)) tw) ∙ sym e ∙ cond-false (eqb v free_entry) None (Some (side_at v)) fv in
        absurd cc
    | inr fw ↦
        let one : side_at v ≡ side_at w = some_is (side_at v) (side_at w)
        (sym (cond-false (eqb v free_entry) None (Some (side_at v)) fv) ∙ e ∙ cond-false (eqb w free_entry) None (Some (side_at w)) fw) in
        sym (number-side_at v) ∙ ap number one ∙ number-side_at w
  ]
]

-- partners are the same exactly where entries are
pub entries-decide : (v w : ℕ) → same_partner (other_at v) (other_at w) ≡ eqb v w
entries-decide v w =
    same_from_decides (same_partner (other_at v) (other_at w)) (eqb v w)
    (Decides-like (same_partner (other_at v) (other_at w)) (other-injective v w) (ap other_at) (partners-decide (other_at v) (other_at w)))
    (Decides-eqb v w)

-- a side's partner, by its entry
pub entry-at : (entries : List ℕ) (s : ℕ) → glued_in entries (side_at s) ≡ other_at (get_or entries s free_entry)
entry-at entries s = ap (λ n. other_at (get_or entries n free_entry)) (number-side_at s)

pub partners_by_entries : (a b : List ℕ) (s : ℕ)
    → same_partner (glued_in a (side_at s)) (glued_in b (side_at s)) ≡ eqb (get_or a s free_entry) (get_or b s free_entry)
partners_by_entries a b s =
    ap (λ x. same_partner x (glued_in b (side_at s))) (entry-at a s)
    ∙ ap (same_partner (other_at (get_or a s free_entry))) (entry-at b s)
    ∙ entries-decide (get_or a s free_entry) (get_or b s free_entry)

-- ---- the first side

-- what is known of the first side that isn't glued alike
pub sides-told : SidesAreTold
sides-told sides g h = told (first_other sides g h) refl
  where
    told : (found : Option ℕ) → first_other sides g h ≡ found → SaysSides sides g h found
    told None is = λ s below.
        (partners-decide (g (side_at s)) (h (side_at s))).0 (first_failing-none (is_glued_alike g h) sides is s below)
    told (Some s) is =
        let at = first_failing-found (is_glued_alike g h) sides s is in (
          at.0,
          λ e. false≢true (sym at.1 ∙ (partners-decide (g (side_at s)) (h (side_at s))).1 e),
          λ j before. (partners-decide (g (side_at j)) (h (side_at j))).0 (at.2 j before),
        )

pub first_other-none : (sides : ℕ) (g h : Gluing) → first_other sides g h ≡ None → (s : ℕ) → s < sides → g (side_at s) ≡ h (side_at s)
first_other-none sides g h none s below =
    (partners-decide (g (side_at s)) (h (side_at s))).0 (first_failing-none (is_glued_alike g h) sides none s below)

-- ---- gluings

-- a gluing of the sides of some faces has no pair beyond them
none-beyond : (faces : ℕ) (g : Gluing) → IsGluing faces g → (x : Side) → faces ≤ x.face → g x ≡ None
none-beyond faces g is x past = elim (option_tells (g x)) [
  | inl none ↦ none
  | inr some ↦ absurd (let within = is.within x some.0 some.1 in omega (arith, within))
]

-- where no side differs, one gluing is the other, which has no pair beyond the faces either
pub one-gluing : (faces : ℕ) (g h : Gluing) → IsGluing faces g → ((x : Side) → faces ≤ x.face → h x ≡ None)
    → first_other (3 * faces) g h ≡ None → g ≡ h
one-gluing faces g h is beyond none = fun_ext (λ x. elim (cases_lt x.face faces) [
  | inl below ↦
      ap g (sym (side_at-number x)) ∙ first_other-none (3 * faces) g h none (number x) (number-lt x faces below)
      ∙ ap h (side_at-number x)
  | inr past ↦ none-beyond faces g is x past ∙ sym (beyond x past)
])

pub none-other : (faces : ℕ) (g h : Gluing) → g ≡ h → first_other (3 * faces) g h ≡ None
none-other faces g h e =
    first_failing-all (is_glued_alike g h) (3 * faces) (λ s below. (partners-decide (g (side_at s)) (h (side_at s))).1 (ap (λ (k : Gluing). k (side_at s)) e))
