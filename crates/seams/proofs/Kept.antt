-- The list of the pairs that a surface keeps when it is cut.
use Rattle.std.proofs.Common.{◌≡◌, ℕ, ◌+◌, ◌*◌, ◌<◌, Bool, true, false, eqb, List, [], ◌∷◌, ◌++◌, length, get_or, Some, None, inl, inr, refl, ap, sym, ◌∙◌, subst, arith, length-append}
use mathlib.Core.Path.{fun_ext}
use Rattle.std.proofs.lemmas.Bool.{cases_lt, cases_eq, cond-true, eq-eqb}
use Rattle.std.proofs.lemmas.List.{get_or_past, get_or_push, get_or_append_left}
use Rattle.std.proofs.lemmas.Grind.{get_or_default_zero}
use Rattle.corner_table.specs.Sides.{number, side_at, Gluing, IsGluing}
use Rattle.corner_table.specs.Table.{free_entry, other_at, glued_in}
use Rattle.corner_table.proofs.Places.{option_tells}
use Rattle.corner_table.proofs.Numbers.{number-lt, number-side_at, side_at-number}
use Rattle.seams.specs.Seams.{AreFlags, flag_at, unseamed}
use Rattle.seams.specs.Pairs.{TellPairs}
use Rattle.seams.proofs.Chains.{uncut, cut_is_gluing}

-- the entry of no side gives no pair
no_side : other_at free_entry ≡ None
no_side = cond-true (eqb free_entry free_entry) None (Some (side_at free_entry)) (eq-eqb free_entry free_entry refl)

-- the flag of a side, by its number
flag_number : (flags : List Bool) (n : ℕ) (b : Bool) → get_or flags n true ≡ b → flag_at flags (side_at n) ≡ b
flag_number flags n b e = ap (λ k. get_or flags k true) (number-side_at n) ∙ e

-- the entry of a side that is no seam gives its pair
pub kept_some : (entries : List ℕ) (flags : List Bool) (n : ℕ) → n < length entries → get_or flags n true ≡ false → other_at (get_or entries n 0) ≡ unseamed (flag_at flags) (glued_in entries) (side_at n)
kept_some entries flags n below h =
    ap other_at (sym (ap (λ (k : ℕ). get_or entries k free_entry) (number-side_at n) ∙ get_or_default_zero entries n free_entry below))
    ∙ sym (uncut (flag_at flags) (glued_in entries) (side_at n) (flag_number flags n false h))

-- one entry more
pub tell_more : (g : Gluing) (n e : ℕ) (entries : List ℕ) → TellPairs g n entries → other_at e ≡ g (side_at n) → TellPairs g (n + 1) (entries ++ e ∷ [])
tell_more g n e entries T is = record {
  each = length-append entries (e ∷ []) ∙ (let l = T.each in omega arith);
  pairs = λ k h. elim (cases_eq k n) [
    | inl q ↦ ap other_at (get_or_push entries e free_entry k (let l = T.each in omega arith)) ∙ is ∙ ap (λ (m : ℕ). g (side_at m)) (sym q)
    | inr ne ↦ ap other_at (get_or_append_left entries (e ∷ []) free_entry k (let l = T.each in omega arith)) ∙ T.pairs k (omega arith)
  ];
}

-- all entries give the surface
pub tell_all : (faces : ℕ) (g : Gluing) (entries : List ℕ) → IsGluing faces g → TellPairs g (3 * faces) entries → glued_in entries ≡ g
tell_all faces g entries G T = fun_ext (λ x. elim (cases_lt x.face faces) [
  | inl h ↦ T.pairs (number x) (number-lt x faces h) ∙ ap g (side_at-number x)
  | inr h ↦ ap other_at (get_or_past entries (number x) free_entry (let l = T.each in omega arith)) ∙ no_side ∙ sym (elim (option_tells (g x)) [
    | inl e ↦ e
    | inr y ↦ absurd (let w = G.within x y.0 y.1 in omega arith)
  ])
])

-- so the entries that are kept give the surface that is cut
pub kept_told : (faces : ℕ) (g : Gluing) (flags : List Bool) (entries : List ℕ) → IsGluing faces g → AreFlags faces g flags → TellPairs (unseamed (flag_at flags) g) (3 * faces) entries →
    (glued_in entries ≡ unseamed (flag_at flags) g) × IsGluing faces (glued_in entries)
kept_told faces g flags entries G A T =
    let H = cut_is_gluing faces g (flag_at flags) G A.alike in
    let e = tell_all faces (unseamed (flag_at flags) g) entries H T in
    (e, subst (IsGluing faces) (sym e) H)
