-- How the lines of a text begin.
use Rattle.std.proofs.Common.{◌≡◌, ℕ, suc, ◌+◌, ◌-◌, ◌<◌, ◌≤◌, Bool, false, eqb, List, [], ◌∷◌, ◌++◌, length, take, drop, get_or, All, refl, sym, ap, ◌∙◌, inl, inr, arith}
use Rattle.std.specs.List.{slice_split, onto_first}
use Rattle.std.specs.Str.Lines.{lines, lines_of_parts, strip_carriage_return}
use Rattle.std.proofs.lemmas.Bool.{cond-false, cond_both, ne_eqb, cases_lt, cases_Bool}
use Rattle.std.proofs.lemmas.List.{drop_more, take-append-drop, length-take, get_or-take, get_or_default}
use Rattle.std.proofs.lemmas.List.Splits.{slice_split-cons_yes, slice_split-cons_no, slice_split_none, slice_split_at, length-slice_split}

abbrev is_lf : ℕ → Bool
is_lf b = eqb b 10

-- no LF stands in it
abbrev pub IsOneLine : List ℕ → Type 0
IsOneLine t = All (λ c. is_lf c ≡ false) t

pub lines-nil : lines [] ≡ []
lines-nil = refl

more_parts : (x : List ℕ) (parts : List (List ℕ)) → 0 < length parts → lines_of_parts (x ∷ parts) ≡ strip_carriage_return x ∷ lines_of_parts parts
more_parts x [] h = absurd (omega arith)
more_parts x (y ∷ more) h = refl

-- a line before an LF
pub lines-first : (t rest : List ℕ) → IsOneLine t → lines (t ++ 10 ∷ rest) ≡ strip_carriage_return t ∷ lines rest
lines-first t rest h = ap lines_of_parts (slice_split_at is_lf t 10 rest h refl) ∙ more_parts t (slice_split is_lf rest) (omega (arith, length-slice_split is_lf rest))

one_part : (t : List ℕ) → 0 < length t → lines_of_parts (t ∷ []) ≡ t ∷ []
one_part [] h = absurd (omega arith)
one_part (c ∷ cs) h = cond-false (eqb (suc (length cs)) 0) [] ((c ∷ cs) ∷ []) (ne_eqb (suc (length cs)) 0 (λ e. omega arith))

-- a last line
pub lines-last : (t : List ℕ) → 0 < length t → IsOneLine t → lines t ≡ t ∷ []
lines-last t long h = ap lines_of_parts (slice_split_none is_lf t h) ∙ one_part t long

-- no LF stands below i
pub record IsPlain (text : List ℕ) (i : ℕ) : Type 0 where
  pub plain : (k : ℕ) → k < i → (get_or text k 0 ≡ 10 → ⊥)

pub none_plain : (text : List ℕ) → IsPlain text 0
none_plain text = record { plain = λ k below. absurd (omega arith) }

pub more_plain : (text : List ℕ) (i : ℕ) → IsPlain text i → (get_or text i 0 ≡ 10 → ⊥) → IsPlain text (i + 1)
more_plain text i p h = record { plain = λ k below. elim (cases_lt k i) [ inl lt ↦ p.plain k lt | inr le ↦ let e : k ≡ i = omega arith in rw e h ] }

front_plain : (text : List ℕ) (i : ℕ) → i ≤ length text → IsPlain text i → IsOneLine (take i text)
front_plain text i le p k d h =
    let short : k < i = omega (arith, length-take i text) in
    let inside : k < length text = omega arith in
    let e : get_or (take i text) k d ≡ get_or text k 0 = get_or-take i text k d short ∙ get_or_default text k d 0 inside in
    ap is_lf e ∙ ne_eqb (get_or text k 0) 10 (p.plain k short)

pub cuts_line : (text : List ℕ) (i : ℕ) → i < length text → IsPlain text i → get_or text i 0 ≡ 10 → lines text ≡ strip_carriage_return (take i text) ∷ lines (drop (i + 1) text)
cuts_line text i lt p e =
    let rest : drop i text ≡ 10 ∷ drop (i + 1) text = drop_more text i 0 lt ∙ ap (λ c. c ∷ drop (i + 1) text) e in
    let whole : text ≡ take i text ++ 10 ∷ drop (i + 1) text = sym (take-append-drop i text) ∙ ap (λ (r : List ℕ). take i text ++ r) rest in
    ap lines whole ∙ lines-first (take i text) (drop (i + 1) text) (front_plain text i (omega arith) p)

no_return : (t : List ℕ) → (get_or t (length t - 1) 0 ≡ 13 → ⊥) → strip_carriage_return t ≡ t
no_return t ne = cond-false (eqb (get_or t (length t - 1) 0) 13) (take (length t - 1) t) t (ne_eqb (get_or t (length t - 1) 0) 13 ne)

-- a line whose last byte is no CR
pub cuts_plain : (text : List ℕ) (i : ℕ) → i < length text → 0 < i → IsPlain text i → get_or text i 0 ≡ 10 → 14 ≤ get_or text (i - 1) 0 → lines text ≡ take i text ∷ lines (drop (i + 1) text)
cuts_plain text i lt some p e last =
    let long : length (take i text) ≡ i = omega (arith, length-take i text) in
    let end : get_or (take i text) (length (take i text) - 1) 0 ≡ get_or text (i - 1) 0 = ap (λ n. get_or (take i text) (n - 1) 0) long ∙ get_or-take i text (i - 1) 0 (omega arith) in
    cuts_line text i lt p e ∙ ap (λ (t : List ℕ). t ∷ lines (drop (i + 1) text)) (no_return (take i text) (λ r. omega (arith, end)))

pub ends_line : (text : List ℕ) (i : ℕ) → length text ≤ i → IsPlain text i → 0 < length text → lines text ≡ text ∷ []
ends_line text i le p long = lines-last text long (λ k d h. ap is_lf (get_or_default text k d 0 h) ∙ ne_eqb (get_or text k 0) 10 (p.plain k (omega arith)))

few_parts : (parts : List (List ℕ)) → length (lines_of_parts parts) ≤ length parts
few_parts [] = omega arith
few_parts (x ∷ []) = cond_both (eqb (length x) 0) [] (x ∷ []) (λ (ls : List (List ℕ)). length ls ≤ 1) (λ _. omega arith) (λ _. omega arith)
few_parts (x ∷ y ∷ more) = omega (arith, few_parts (y ∷ more))

count_le : (t : List ℕ) → length (slice_split is_lf t) ≤ length t + 1
count_le [] = omega arith
count_le (c ∷ cs) = elim (cases_Bool (is_lf c)) [
  | inl yes' ↦ omega (arith, count_le cs, ap length (slice_split-cons_yes is_lf c cs yes'))
  | inr no' ↦ omega (arith, count_le cs, ap length (slice_split-cons_no is_lf c cs no'), length-onto c (slice_split is_lf cs), length-slice_split is_lf cs)
] where
  length-onto : (c : ℕ) (parts : List (List ℕ)) → 0 < length parts → length (onto_first c parts) ≡ length parts
  length-onto c [] h = absurd (omega arith)
  length-onto c (p ∷ ps) h = refl

-- a text has at most one line for each byte, and one more
pub few_lines : (t : List ℕ) → length (lines t) ≤ length t + 1
few_lines t = omega (arith, few_parts (slice_split is_lf t), count_le t)
