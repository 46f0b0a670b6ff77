-- Rows that are among others: after a filter, a map or an append, and what a search finds.
use Rattle.std.proofs.Common.{◌≡◌, Bool, true, false, cond, List, [], ◌∷◌, ◌++◌, map, filter, find, Some, None, ◌⊎◌, inl, inr, sym, refl, ap, ◌∙◌, subst}
use Rattle.std.proofs.lemmas.Bool.{cond-true, cond-false}
use Rattle.eb_machine.specs.Named.{Row}
use Rattle.eb_machine.specs.Shown.{Among}

among_more : (b : Bool) (r x : Row) (rows : List Row) → Among r rows → Among r (cond b (x ∷ rows) rows)
among_more true r x rows h = inr h
among_more false r x rows h = h

pub among_filter : (p : Row → Bool) (r : Row) (rows : List Row) → Among r rows → p r ≡ true → Among r (filter p rows)
among_filter p r [] h t = h
among_filter p r (x ∷ rows) h t = elim h [
  | inl e ↦ subst (Among r) (sym (cond-true (p x) _ _ (ap p e ∙ t))) (inl e)
  | inr m ↦ among_more (p x) r x (filter p rows) (among_filter p r rows m t)
]

filter_case : (p : Row → Bool) (r x : Row) (rows : List Row) (b : Bool) → p x ≡ b → (Among r (filter p rows) → Among r rows × (p r ≡ true)) → Among r (cond b (x ∷ filter p rows) (filter p rows)) → Among r (x ∷ rows) × (p r ≡ true)
filter_case p r x rows true e back h = elim h [
  | inl q ↦ (inl q, ap p (sym q) ∙ e)
  | inr m ↦ (let t = back m in (inr t.0, t.1))
]
filter_case p r x rows false e back h = let t = back h in (inr t.0, t.1)

pub from_filter : (p : Row → Bool) (r : Row) (rows : List Row) → Among r (filter p rows) → Among r rows × (p r ≡ true)
from_filter p r [] h = absurd h
from_filter p r (x ∷ rows) h = filter_case p r x rows (p x) refl (from_filter p r rows) h

pub among_map : (f : Row → Row) (r : Row) (rows : List Row) → Among r rows → Among (f r) (map f rows)
among_map f r [] h = h
among_map f r (x ∷ rows) h = elim h [ inl e ↦ inl (ap f e) | inr m ↦ inr (among_map f r rows m) ]

pub from_map : (f : Row → Row) (q : Row) (rows : List Row) → Among q (map f rows) → (r : Row) × Among r rows × (f r ≡ q)
from_map f q [] h = absurd h
from_map f q (x ∷ rows) h = elim h [
  | inl e ↦ (x, inl refl, e)
  | inr m ↦ (let t = from_map f q rows m in (t.0, inr t.1, t.2))
]

pub among_first : (r : Row) (rows more : List Row) → Among r rows → Among r (rows ++ more)
among_first r [] more h = absurd h
among_first r (x ∷ rows) more h = elim h [ inl e ↦ inl e | inr m ↦ inr (among_first r rows more m) ]

pub among_last : (r : Row) (rows more : List Row) → Among r more → Among r (rows ++ more)
among_last r [] more h = h
among_last r (x ∷ rows) more h = inr (among_last r rows more h)

pub from_append : (r : Row) (rows more : List Row) → Among r (rows ++ more) → Among r rows ⊎ Among r more
from_append r [] more h = inr h
from_append r (x ∷ rows) more h = elim h [
  | inl e ↦ inl (inl e)
  | inr m ↦ elim (from_append r rows more m) [ inl u ↦ inl (inr u) | inr w ↦ inr w ]
]

-- a search finds nothing that passes, or a row that does
abbrev pub Found : (Row → Bool) → List Row → Type 0
Found p rows = ((find p rows ≡ None) × ((r : Row) → Among r rows → p r ≡ false)) ⊎ ((r : Row) × (find p rows ≡ Some r) × Among r rows × (p r ≡ true))

find_case : (p : Row → Bool) (x : Row) (rows : List Row) (b : Bool) → p x ≡ b → Found p rows → Found p (x ∷ rows)
find_case p x rows true e h = inr (x, cond-true (p x) _ _ e, inl refl, e)
find_case p x rows false e h = elim h [
  | inl n ↦ inl (cond-false (p x) _ _ e ∙ n.0, λ r m. elim m [ inl q ↦ ap p (sym q) ∙ e | inr w ↦ n.1 r w ])
  | inr s ↦ inr (s.0, cond-false (p x) _ _ e ∙ s.1, inr s.2, s.3)
]

pub found : (p : Row → Bool) (rows : List Row) → Found p rows
found p [] = inl (refl, λ r h. absurd h)
found p (x ∷ rows) = find_case p x rows (p x) refl (found p rows)
