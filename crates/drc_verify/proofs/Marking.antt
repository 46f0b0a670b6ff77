-- Marks of the numbers that rows have named.
use Rattle.std.proofs.Common.{◌≡◌, ℕ, ◌+◌, ◌<◌, ◌≤◌, Bool, true, false, eqb, ltb, ◌||◌, length, get_or, set, take, replicate, List, sym, ◌∙◌, subst, refl, inl, inr, arith}
use Rattle.std.specs.List.{list_any}
use Rattle.std.proofs.lemmas.Bool.{cases_eq, eq-eqb, ne_eqb, or_right, lt-ltb, le-ltb, and_left, and_from, and_right, not_from_true, not_from_false}
use Rattle.std.proofs.lemmas.List.{length-set, get_or-replicate, length-replicate, get_or-set_same, get_or-set_other}
use Rattle.std.proofs.lemmas.List.Folds.{list_any_more}
use Rattle.mesh_model.specs.Same.{Rows, named}
use Rattle.drc_verify.specs.RowTests.{AreSeen, names_new}

-- no row, no mark
pub marked-none : (count : ℕ) (rows : Rows) → AreSeen rows 0 (replicate count false)
marked-none count rows = record {
  at = λ f below. get_or-replicate count f false false (omega (arith, length-replicate count false));
}

-- the number of row i is marked
pub marked_more : (rows : Rows) (i : ℕ) (seen : List Bool) → i < length rows → AreSeen rows i seen → named rows i < length seen
    → AreSeen rows (i + 1) (set seen (named rows i) true)
marked_more rows i seen inside marks within = record {
  at = λ f below.
      let fits : f < length seen = omega (arith, length-set seen (named rows i) true) in
      elim (cases_eq (named rows i) f) [
        | inl same ↦
            subst (λ n. get_or (set seen (named rows i) true) n false ≡ true) same (get_or-set_same seen (named rows i) true false within)
            ∙ sym (list_any_more (names f) rows i (0, 0) inside
            ∙ or_right (list_any (names f) (take i rows)) (eqb (named rows i) f) (eq-eqb (named rows i) f same))
        | inr other ↦
            get_or-set_other seen (named rows i) f true false (λ e. other (sym e))
            ∙ marks.at f fits
            ∙ sym (list_any_more (names f) rows i (0, 0) inside ∙ unless-here (list_any (names f) (take i rows)) (eqb (named rows i) f) (ne_eqb (named rows i) f other))
      ];
}
  where
    names : ℕ → ℕ × ℕ → Bool
    names f row = eqb row.0 f

    unless-here : (b c : Bool) → c ≡ false → (b || c) ≡ b
    unless-here true c e = refl
    unless-here false c e = e

-- a number past the end is not new
pub past-end : (count : ℕ) (rows : Rows) (i : ℕ) → count ≤ named rows i → names_new count rows i ≡ false
unfolding names_new
past-end count rows i past = and_left (ltb (named rows i) count) _ (le-ltb (named rows i) count past)

-- a marked number is not new
pub marked-before : (rows : Rows) (i : ℕ) (seen : List Bool) → AreSeen rows i seen → named rows i < length seen
    → get_or seen (named rows i) false ≡ true → names_new (length seen) rows i ≡ false
unfolding names_new
marked-before rows i seen marks within marked =
    and_right (ltb (named rows i) (length seen)) _ (not_from_true _ (sym (marks.at (named rows i) within) ∙ marked))

-- and one that isn't marked is
pub unmarked : (rows : Rows) (i : ℕ) (seen : List Bool) → AreSeen rows i seen → named rows i < length seen
    → get_or seen (named rows i) false ≡ false → names_new (length seen) rows i ≡ true
unfolding names_new
unmarked rows i seen marks within free =
    and_from (ltb (named rows i) (length seen)) _ (lt-ltb (named rows i) (length seen) within)
    (not_from_false _ (sym (marks.at (named rows i) within) ∙ free))
