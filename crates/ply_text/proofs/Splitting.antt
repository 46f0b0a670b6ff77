-- How the tokens of a line begin at a place of it.
use Rattle.std.proofs.Common.{◌≡◌, ℕ, ◌+◌, ◌-◌, ◌<◌, ◌≤◌, Bool, true, false, ltb, List, [], ◌∷◌, ◌++◌, length, take, drop, get_or, All, refl, sym, ap, ◌∙◌, inl, inr, arith}
use Rattle.std.specs.List.{filter, slice_split, onto_first}
use Rattle.std.proofs.lemmas.Bool.{lt-ltb, cases_lt}
use Rattle.std.proofs.lemmas.List.{append-nil, take_at, take_all, at_drop_more, drop_more, drop_all, take-append-drop, drop-drop, length-take, length-drop, get_or-take, get_or-drop, get_or_default}
use Rattle.std.proofs.lemmas.List.Splits.{slice_split-cons_yes, slice_split-cons_no, slice_split_none, slice_split_at}
use Rattle.ply_text.specs.Tokens.{is_blank, tokens_of}

abbrev pub HasNoBlank : List ℕ → Type 0
HasNoBlank t = All (λ c. is_blank c ≡ false) t

abbrev filled : List ℕ → Bool
filled part = ltb 0 (length part)

pub tokens_of-nil : tokens_of [] ≡ []
unfolding tokens_of
tokens_of-nil = refl

-- a blank before a line changes nothing
pub tokens_of-blank : (c : ℕ) (cs : List ℕ) → is_blank c ≡ true → tokens_of (c ∷ cs) ≡ tokens_of cs
unfolding tokens_of
tokens_of-blank c cs h = ap (filter filled) (slice_split-cons_yes is_blank c cs h)

kept : (t : List ℕ) (parts : List (List ℕ)) → 0 < length t → filter filled (t ∷ parts) ≡ t ∷ filter filled parts
kept t parts h = rw (lt-ltb 0 (length t) h) refl

-- a token alone
pub tokens_of-one : (t : List ℕ) → 0 < length t → HasNoBlank t → tokens_of t ≡ t ∷ []
unfolding tokens_of
tokens_of-one t long h = ap (filter filled) (slice_split_none is_blank t h) ∙ kept t [] long

-- a token before a blank
pub tokens_of-first : (t : List ℕ) (c : ℕ) (cs : List ℕ) → 0 < length t → HasNoBlank t → is_blank c ≡ true → tokens_of (t ++ c ∷ cs) ≡ t ∷ tokens_of cs
unfolding tokens_of
tokens_of-first t c cs long h b = ap (filter filled) (slice_split_at is_blank t c cs h b) ∙ kept t (slice_split is_blank cs) long

pub skips_blank : (line : List ℕ) (i : ℕ) → i < length line → is_blank (get_or line i 0) ≡ true → tokens_of (drop i line) ≡ tokens_of (drop (i + 1) line)
skips_blank line i lt b = at_drop_more tokens_of line i 0 lt ∙ tokens_of-blank (get_or line i 0) (drop (i + 1) line) b

-- from i to j there is no blank
pub record IsSolid (line : List ℕ) (i j : ℕ) : Type 0 where
  pub solid : (k : ℕ) → i ≤ k → k < j → is_blank (get_or line k 0) ≡ false

part_solid : (line : List ℕ) (i j : ℕ) → i < j → j ≤ length line → IsSolid line i j → HasNoBlank (take (j - i) (drop i line))
part_solid line i j lt le s k d h =
    let short : k < j - i = omega (arith, length-take (j - i) (drop i line)) in
    let inside : i + k < length line = omega arith in
    let e : get_or (take (j - i) (drop i line)) k d ≡ get_or line (i + k) 0 = get_or-take (j - i) (drop i line) k d short ∙ get_or-drop i line k d ∙ get_or_default line (i + k) d 0 inside in
    ap is_blank e ∙ s.solid (i + k) (omega arith) (omega arith)

-- the token from i to j, where a blank or the end follows
pub takes_token : (line : List ℕ) (i j : ℕ) → i < j → j ≤ length line → IsSolid line i j → (j < length line → is_blank (get_or line j 0) ≡ true) → tokens_of (drop i line) ≡ take (j - i) (drop i line) ∷ tokens_of (drop j line)
takes_token line i j lt le s stops =
    let t = take (j - i) (drop i line) in
    let long : 0 < length t = omega (arith, length-take (j - i) (drop i line), length-drop i line) in
    let solid = part_solid line i j lt le s in
    let step : i + (j - i) ≡ j = omega arith in
    let after : drop (j - i) (drop i line) ≡ drop j line = drop-drop (j - i) i line ∙ ap (λ n. drop n line) step in
    let whole : drop i line ≡ t ++ drop j line = sym (take-append-drop (j - i) (drop i line)) ∙ ap (λ (r : List ℕ). t ++ r) after in
    elim (cases_lt j (length line)) [
      | inl more ↦
          let rest : drop j line ≡ get_or line j 0 ∷ drop (j + 1) line = drop_more line j 0 more in
          ap tokens_of (whole ∙ ap (λ (r : List ℕ). t ++ r) rest) ∙ tokens_of-first t (get_or line j 0) (drop (j + 1) line) long solid (stops more) ∙ ap (λ (ts : List (List ℕ)). t ∷ ts) (sym (skips_blank line j more (stops more)))
      | inr none ↦
          let rest : drop j line ≡ [] = drop_all j line none in
          let alone : drop i line ≡ t = whole ∙ ap (λ (r : List ℕ). t ++ r) rest ∙ append-nil t in
          ap tokens_of alone ∙ tokens_of-one t long solid ∙ ap (λ (ts : List (List ℕ)). t ∷ ts) (sym (ap tokens_of rest ∙ tokens_of-nil))
    ]

pub one_solid : (line : List ℕ) (i : ℕ) → is_blank (get_or line i 0) ≡ false → IsSolid line i (i + 1)
one_solid line i h = record { solid = λ k from below. let e : k ≡ i = omega arith in rw e h }

pub more_solid : (line : List ℕ) (i j : ℕ) → IsSolid line i j → is_blank (get_or line j 0) ≡ false → IsSolid line i (j + 1)
more_solid line i j s h = record { solid = λ k from below. elim (cases_lt k j) [ inl lt ↦ s.solid k from lt | inr le ↦ let e : k ≡ j = omega arith in rw e h ] }

-- past the end there is no token
pub no_token : (line : List ℕ) (i : ℕ) → length line ≤ i → tokens_of (drop i line) ≡ []
no_token line i h = ap tokens_of (drop_all i line h) ∙ tokens_of-nil

-- with none left, those in front are all
pub all_taken : (front whole : List (List ℕ)) (line : List ℕ) (i : ℕ) → length line ≤ i → front ++ tokens_of (drop i line) ≡ whole → front ≡ whole
all_taken front whole line i h e = sym (append-nil front) ∙ ap (λ (ts : List (List ℕ)). front ++ ts) (sym (no_token line i h)) ∙ e

-- with enough in front, these are the first
pub enough_taken : (front rest whole : List (List ℕ)) (most : ℕ) → length front ≡ most → front ++ rest ≡ whole → front ≡ take most whole
enough_taken front rest whole most many e = sym (take_at front rest most many) ∙ ap (take most) e

pub few_taken : (front whole : List (List ℕ)) (most : ℕ) → length front ≤ most → front ≡ whole → front ≡ take most whole
few_taken front whole most few e = sym (take_all most front few) ∙ ap (take most) e

some_part : (c : ℕ) (parts : List (List ℕ)) → 0 < length (filter filled (onto_first c parts))
some_part c [] = omega arith
some_part c (part ∷ parts) = rw (lt-ltb 0 (length (c ∷ part)) (omega arith)) (omega arith)

-- what is no blank begins a token
pub some_token : (line : List ℕ) (i : ℕ) → i < length line → is_blank (get_or line i 0) ≡ false → 0 < length (tokens_of (drop i line))
unfolding tokens_of
some_token line i lt b =
    let cut : drop i line ≡ get_or line i 0 ∷ drop (i + 1) line = drop_more line i 0 lt in
    let split = slice_split-cons_no is_blank (get_or line i 0) (drop (i + 1) line) b in
    let n : length (tokens_of (drop i line)) ≡ length (filter filled (onto_first (get_or line i 0) (slice_split is_blank (drop (i + 1) line)))) = ap (λ (t : List ℕ). length (tokens_of t)) cut ∙ ap (λ (ps : List (List ℕ)). length (filter filled ps)) split in
    omega (arith, n, some_part (get_or line i 0) (slice_split is_blank (drop (i + 1) line)))
