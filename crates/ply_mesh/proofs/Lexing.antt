-- What is written is cut into its lines and tokens again.
use Rattle.std.proofs.Common.{◌≡◌, ℕ, zero, suc, ◌-◌, Bool, true, ◌&&◌, ltb, eqb, List, [], ◌∷◌, ◌++◌, length, get_or, take, map, refl, sym, ap, ◌∙◌, append_assoc, arith}
use Rattle.std.specs.List.{list_all}
use Rattle.std.specs.Str.Lines.{lines, strip_carriage_return}
use Rattle.std.proofs.lemmas.Bool.{ltb-true, ne_eqb, and_parts, and_from, lt-ltb, cond-false}
use Rattle.std.proofs.lemmas.List.{append-nil}
use Rattle.std.proofs.lemmas.List.Sums.{AllPass-from_list_all}
use Rattle.ply_text.specs.Tokens.{tokens_of, token_lines}
use Rattle.ply_text.proofs.Splitting.{HasNoBlank, tokens_of-nil, tokens_of-one, tokens_of-first}
use Rattle.ply_text.proofs.Cutting.{IsOneLine, lines-nil, lines-first}
use Rattle.ply_mesh.specs.Text.{spaced, line_text, text_of}
use Rattle.ply_mesh.proofs.LineTexts.{rest_is}

-- one byte or more, each above the space
abbrev pub is_token : List ℕ → Bool
is_token t = ltb 0 (length t) && list_all (λ c. ltb 32 c) t

abbrev pub are_tokens : List (List ℕ) → Bool
are_tokens line = list_all is_token line

abbrev pub are_lines : List (List (List ℕ)) → Bool
are_lines ls = list_all are_tokens ls

pub list_all-append : {X : Type 0} (p : X → Bool) (xs ys : List X) → list_all p xs ≡ true → list_all p ys ≡ true → list_all p (xs ++ ys) ≡ true
list_all-append p [] ys h k = k
list_all-append p (x ∷ xs) ys h k = let q = and_parts (p x) (list_all p xs) h in and_from (p x) (list_all p (xs ++ ys)) q.0 (list_all-append p xs ys q.1 k)

-- a line without its LF
abbrev joined : List (List ℕ) → List ℕ
joined [] = []
joined (token ∷ tokens) = token ++ spaced tokens

line_is : (line : List (List ℕ)) → line_text line ≡ joined line ++ 10 ∷ []
unfolding line_text
line_is [] = refl
line_is (t ∷ ts) = ap (λ (r : List ℕ). t ++ r) (sym (rest_is ts)) ∙ sym (append_assoc t (spaced ts) (10 ∷ []))

-- no byte of it is below the space
abbrev is_printed : List ℕ → Bool
is_printed t = list_all (λ c. ltb 31 c) t

printed : (t : List ℕ) → list_all (λ c. ltb 32 c) t ≡ true → is_printed t ≡ true
printed [] h = refl
printed (c ∷ cs) h = let q = and_parts (ltb 32 c) (list_all (λ c. ltb 32 c) cs) h in and_from (ltb 31 c) (is_printed cs) (lt-ltb 31 c (omega (arith, ltb-true 32 c q.0))) (printed cs q.1)

spaced_printed : (ts : List (List ℕ)) → are_tokens ts ≡ true → is_printed (spaced ts) ≡ true
spaced_printed [] h = refl
spaced_printed (t ∷ ts) h =
    let q = and_parts (is_token t) (are_tokens ts) h in
    let r = and_parts (ltb 0 (length t)) (list_all (λ c. ltb 32 c) t) q.0 in
    list_all-append (λ c. ltb 31 c) (32 ∷ t) (spaced ts) (printed t r.1) (spaced_printed ts q.1)

joined_printed : (ts : List (List ℕ)) → are_tokens ts ≡ true → is_printed (joined ts) ≡ true
joined_printed [] h = refl
joined_printed (t ∷ ts) h =
    let q = and_parts (is_token t) (are_tokens ts) h in
    let r = and_parts (ltb 0 (length t)) (list_all (λ c. ltb 32 c) t) q.0 in
    list_all-append (λ c. ltb 31 c) t (spaced ts) (printed t r.1) (spaced_printed ts q.1)

one_line : (t : List ℕ) → is_printed t ≡ true → IsOneLine t
one_line t h k d lt = ne_eqb (get_or t k d) 10 (λ e. omega (arith, ltb-true 31 (get_or t k d) (AllPass-from_list_all (λ c. ltb 31 c) t h k d lt)))

no_return : (t : List ℕ) (j : ℕ) → is_printed t ≡ true → get_or t j 0 ≡ 13 → ⊥
no_return [] j h e = omega arith
no_return (c ∷ cs) zero h e = let q = and_parts (ltb 31 c) (is_printed cs) h in omega (arith, ltb-true 31 c q.0)
no_return (c ∷ cs) (suc j) h e = let q = and_parts (ltb 31 c) (is_printed cs) h in no_return cs j q.1 e

stays : (t : List ℕ) → is_printed t ≡ true → strip_carriage_return t ≡ t
stays t h = cond-false (eqb (get_or t (length t - 1) 0) 13) (take (length t - 1) t) t (ne_eqb (get_or t (length t - 1) 0) 13 (no_return t (length t - 1) h))

solid : (t : List ℕ) → list_all (λ c. ltb 32 c) t ≡ true → HasNoBlank t
solid t h k d lt =
    let above = ltb-true 32 (get_or t k d) (AllPass-from_list_all (λ c. ltb 32 c) t h k d lt) in
    rw (ne_eqb (get_or t k d) 32 (λ e. omega arith)) (ne_eqb (get_or t k d) 9 (λ e. omega arith))

tokens_again : (t : List ℕ) (ts : List (List ℕ)) → is_token t ≡ true → are_tokens ts ≡ true → tokens_of (t ++ spaced ts) ≡ t ∷ ts
tokens_again t [] ht hts =
    let r = and_parts (ltb 0 (length t)) (list_all (λ c. ltb 32 c) t) ht in
    ap tokens_of (append-nil t) ∙ tokens_of-one t (ltb-true 0 (length t) r.0) (solid t r.1)
tokens_again t (u ∷ us) ht hts =
    let r = and_parts (ltb 0 (length t)) (list_all (λ c. ltb 32 c) t) ht in
    let q = and_parts (is_token u) (are_tokens us) hts in
    tokens_of-first t 32 (u ++ spaced us) (ltb-true 0 (length t) r.0) (solid t r.1) refl ∙ ap (λ (xs : List (List ℕ)). t ∷ xs) (tokens_again u us q.0 q.1)

line_again : (line : List (List ℕ)) → are_tokens line ≡ true → tokens_of (joined line) ≡ line
line_again [] h = tokens_of-nil
line_again (t ∷ ts) h = let q = and_parts (is_token t) (are_tokens ts) h in tokens_again t ts q.0 q.1

pub lines_again : (ls : List (List (List ℕ))) → are_lines ls ≡ true → token_lines (text_of ls) ≡ ls
unfolding token_lines
lines_again [] h = ap (map tokens_of) lines-nil
lines_again (l ∷ ls) h =
    let q = and_parts (are_tokens l) (are_lines ls) h in
    let p = joined_printed l q.0 in
    let cut : text_of (l ∷ ls) ≡ joined l ++ 10 ∷ text_of ls = ap (λ (t : List ℕ). t ++ text_of ls) (line_is l) ∙ append_assoc (joined l) (10 ∷ []) (text_of ls) in
    ap (λ (t : List ℕ). map tokens_of (lines t)) cut
    ∙ ap (map tokens_of) (lines-first (joined l) (text_of ls) (one_line (joined l) p))
    ∙ ap (λ (t : List ℕ). tokens_of t ∷ map tokens_of (lines (text_of ls))) (stays (joined l) p)
    ∙ ap (λ (t : List (List ℕ)). t ∷ map tokens_of (lines (text_of ls))) (line_again l q.0)
    ∙ ap (λ (rest : List (List (List ℕ))). l ∷ rest) (lines_again ls q.1)
