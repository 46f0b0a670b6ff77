-- Rows that are read number by number.
use Rattle.std.proofs.Common.{◌≡◌, ℕ, suc, ◌+◌, ◌<◌, ◌≤◌, true, List, [], ◌∷◌, ◌++◌, length, take, drop, get_or, Option, Some, None, Err, refl, sym, ap, subst, ◌∙◌, append_assoc, arith}
use Rattle.std.specs.Prelude.{ℤ, option_map, option_and_then}
use Rattle.std.proofs.lemmas.List.{append-nil, drop_more, drop_all, take_at, take_all, length-take, length-map, get_or-map}
use Rattle.std.proofs.lemmas.Option.{some_pair_parts}
use Rattle.ply_text.specs.Tokens.{tokens_of}
use Rattle.attr_heads.specs.declared.bounds.Bounds.{Bounds}
use Rattle.attr_heads.specs.Bounds.{in_bounds}
use Rattle.ply_text.specs.Numbers.{integer_of, first_integer}
use Rattle.std.specs.Borrow.{Bor}
use Rattle.std.proofs.lemmas.Bool.{eq-eqb, ne_eqb}
use Rattle.drc_base.specs.declared.kinds.Kind.TheVariants.{PlyRow, PlyNumber}
use Rattle.ply_text.specs.Faults.{or_refuse}
use Rattle.ply_mesh.specs.Body.{token_number, numbers_of, row_read, texts, Appends, AppendsSome}
use Rattle.ply_mesh.proofs.BoundedNumbers.{number_in}

-- what was appended so far, and what is still read, are what is due
pub record IsRowSoFar (due : Option (List ℤ)) (old out : List ℤ) (now : Option (List ℤ)) : Type 0 where
  pub front : List ℤ
  pub out-is : out ≡ old ++ front
  pub whole : option_map (λ vs. front ++ vs) now ≡ due

same_map : (o : Option (List ℤ)) → option_map (λ vs. [] ++ vs) o ≡ o
same_map None = refl
same_map (Some vs) = refl

pub row_begun : (due : Option (List ℤ)) (old : List ℤ) → IsRowSoFar due old old due
row_begun due old = record { front = []; out-is = sym (append-nil old); whole = same_map due }

regroup : (front : List ℤ) (v : ℤ) (o : Option (List ℤ)) → option_map (λ vs. front ++ vs) (option_and_then (λ others. Some (v ∷ others)) o) ≡ option_map (λ vs. (front ++ v ∷ []) ++ vs) o
regroup front v None = refl
regroup front v (Some vs) = ap (λ (ws : List ℤ). Some ws) (sym (append_assoc front (v ∷ []) vs))

pub row_step : (due : Option (List ℤ)) (old out : List ℤ) (bounds : Bounds) (columns : List Bounds) (token : List ℕ) (tokens : List (List ℕ)) (v : ℤ) → token_number bounds token ≡ Some v → IsRowSoFar due old out (numbers_of (bounds ∷ columns) (token ∷ tokens)) → IsRowSoFar due old (out ++ v ∷ []) (numbers_of columns tokens)
row_step due old out bounds columns token tokens v e h = record {
  front = h.front ++ v ∷ [];
  out-is = ap (λ (xs : List ℤ). xs ++ v ∷ []) h.out-is ∙ append_assoc old h.front (v ∷ []);
  whole = sym (regroup h.front v (numbers_of columns tokens)) ∙ ap (λ (o : Option ℤ). option_map (λ vs. h.front ++ vs) (option_and_then (λ first. option_and_then (λ others. Some (first ∷ others)) (numbers_of columns tokens)) o)) (sym e) ∙ h.whole;
}

pub first_parts : (ts rest : List (List ℕ)) (v : ℤ) → first_integer ts ≡ Some (v, rest) → (t : List ℕ) × (ts ≡ t ∷ rest) × (integer_of t ≡ Some v)
first_parts [] rest v e = absurd cc
first_parts (t ∷ ts) rest v e = go (integer_of t) refl e where
  go : (o : Option ℤ) → integer_of t ≡ o → option_map {U = ℤ × List (List ℕ)} (λ w. (w, ts)) o ≡ Some (v, rest) → (u : List ℕ) × ((t ∷ ts) ≡ u ∷ rest) × (integer_of u ≡ Some v)
  go None i e = absurd cc
  go (Some w) i e =
      let p = some_pair_parts w v ts rest e in
      (t, ap (λ (xs : List (List ℕ)). t ∷ xs) p.1, i ∙ ap (λ (x : ℤ). Some x) p.0)

pub row_more : (due : Option (List ℤ)) (old out : List ℤ) (columns : List Bounds) (line : List ℕ) (j place next : ℕ) (bounds d : Bounds) (v : ℤ) → j < length columns → bounds ≡ get_or columns j d → in_bounds bounds v ≡ true
    → first_integer (tokens_of (drop place line)) ≡ Some (v, tokens_of (drop next line)) → IsRowSoFar due old out (numbers_of (drop j columns) (tokens_of (drop place line))) → IsRowSoFar due old (out ++ v ∷ []) (numbers_of (drop (j + 1) columns) (tokens_of (drop next line)))
row_more due old out columns line j place next bounds d v lt is inside e h =
    let p = first_parts (tokens_of (drop place line)) (tokens_of (drop next line)) v e in
    let cut : drop j columns ≡ bounds ∷ drop (j + 1) columns = drop_more columns j d lt ∙ ap (λ (b : Bounds). b ∷ drop (j + 1) columns) (sym is) in
    let n = number_in bounds p.0 v p.2 inside in
    let now : numbers_of (drop j columns) (tokens_of (drop place line)) ≡ numbers_of (bounds ∷ drop (j + 1) columns) (p.0 ∷ tokens_of (drop next line)) = ap (λ (bs : List Bounds). numbers_of bs (tokens_of (drop place line))) cut ∙ ap (numbers_of (bounds ∷ drop (j + 1) columns)) p.1 in
    row_step due old out bounds (drop (j + 1) columns) p.0 (tokens_of (drop next line)) v n (subst (IsRowSoFar due old out) now h)

pub row_done : (due : Option (List ℤ)) (old out : List ℤ) (columns : List Bounds) (tokens : List (List ℕ)) (j : ℕ) → length columns ≤ j → tokens ≡ [] → IsRowSoFar due old out (numbers_of (drop j columns) tokens) → AppendsSome due old out
row_done due old out columns tokens j le none h =
    let now : numbers_of (drop j columns) tokens ≡ Some [] = ap (λ (bs : List Bounds). numbers_of bs tokens) (drop_all j columns le) ∙ ap (numbers_of []) none in
    (h.front, sym h.whole ∙ ap (option_map (λ vs. h.front ++ vs)) now ∙ ap (λ (vs : List ℤ). Some vs) (append-nil h.front), h.out-is)

pub row_undone : (due now : Option (List ℤ)) (old out : List ℤ) (n : ℕ) → n ≡ length old → IsRowSoFar due old out now → take n out ≡ old
row_undone due now old out n e h = ap (take n) h.out-is ∙ take_at old h.front n (sym e)

-- ---- tokens in a list

pub both : (columns : List Bounds) (found : List (Bor (List ℕ))) (j : ℕ) (b : Bounds) (d : Bor (List ℕ)) → j < length columns → j < length found
    → numbers_of (drop j columns) (drop j (texts found)) ≡ numbers_of (get_or columns j b ∷ drop (j + 1) columns) ((get_or found j d).now ∷ drop (j + 1) (texts found))
both columns found j b d lt in' =
    let token = get_or found j d in
    let cut : drop j columns ≡ get_or columns j b ∷ drop (j + 1) columns = drop_more columns j b lt in
    let inside : j < length (texts found) = omega (arith, length-map found (λ (t : Bor (List ℕ)). t.now)) in
    let here : get_or (texts found) j token.now ≡ token.now = get_or-map (λ (t : Bor (List ℕ)). t.now) found j d token.now in' in
    let cut2 : drop j (texts found) ≡ token.now ∷ drop (j + 1) (texts found) = drop_more (texts found) j token.now inside ∙ ap (λ (t : List ℕ). t ∷ drop (j + 1) (texts found)) here in
    ap (λ (bs : List Bounds). numbers_of bs (drop j (texts found))) cut ∙ ap (numbers_of (get_or columns j b ∷ drop (j + 1) columns)) cut2

pub token_more : (due : Option (List ℤ)) (old out : List ℤ) (columns : List Bounds) (found : List (Bor (List ℕ))) (j : ℕ) (b : Bounds) (d : Bor (List ℕ)) (v : ℤ) → j < length columns → j < length found
    → token_number (get_or columns j b) (get_or found j d).now ≡ Some v → IsRowSoFar due old out (numbers_of (drop j columns) (drop j (texts found))) → IsRowSoFar due old (out ++ v ∷ []) (numbers_of (drop (j + 1) columns) (drop (j + 1) (texts found)))
token_more due old out columns found j b d v lt in' n h =
    row_step due old out (get_or columns j b) (drop (j + 1) columns) (get_or found j d).now (drop (j + 1) (texts found)) v n (subst (IsRowSoFar due old out) (both columns found j b d lt in') h)

ahead : (columns : ℕ) (tokens : ℕ) (more : Option (List ℤ)) (o : Option ℤ) (vs : List ℤ) → ((ws : List ℤ) → more ≡ Some ws → tokens ≡ columns) → option_and_then (λ first. option_and_then (λ others. Some (first ∷ others)) more) o ≡ Some vs → suc tokens ≡ suc columns
ahead columns tokens more None vs h e = absurd cc
ahead columns tokens None (Some v) vs h e = absurd cc
ahead columns tokens (Some ws) (Some v) vs h e = ap suc (h ws refl)

pub numbers-length : (columns : List Bounds) (tokens : List (List ℕ)) (vs : List ℤ) → numbers_of columns tokens ≡ Some vs → length tokens ≡ length columns
numbers-length [] [] vs e = refl
numbers-length [] (t ∷ ts) vs e = absurd cc
numbers-length (b ∷ bs) [] vs e = absurd cc
numbers-length (b ∷ bs) (t ∷ ts) vs e = ahead (length bs) (length ts) (numbers_of bs ts) (token_number b t) vs (λ ws m. numbers-length bs ts ws m) e

-- a row whose tokens are as many as the columns
pub row_is : (columns : List Bounds) (at : ℕ) (tokens : List (List ℕ)) → length tokens ≡ length columns → row_read columns at tokens ≡ or_refuse PlyNumber at (numbers_of columns tokens)
unfolding row_read
row_is columns at tokens e = rw (eq-eqb (length tokens) (length columns) e) refl

-- the first tokens, one more than the columns, show how many there are
first_are_all : (n : ℕ) (tokens : List (List ℕ)) → length (take (n + 1) tokens) ≡ n → take (n + 1) tokens ≡ tokens
first_are_all n tokens e = take_all (n + 1) tokens (omega (arith, length-take (n + 1) tokens))

pub row_counts : (columns : List Bounds) (at : ℕ) (line : List ℕ) (found : List (Bor (List ℕ))) → texts found ≡ take (length columns + 1) (tokens_of line) → (length found ≡ length columns → ⊥) → row_read columns at (tokens_of line) ≡ Err (record { kind = PlyRow; at = at })
unfolding row_read
row_counts columns at line found e ne =
    let n : length found ≡ length (take (length columns + 1) (tokens_of line)) = sym (length-map found (λ (t : Bor (List ℕ)). t.now)) ∙ ap length e in
    rw (ne_eqb (length (tokens_of line)) (length columns) (λ h. ne (omega (arith, n, length-take (length columns + 1) (tokens_of line))))) refl

pub row_whole : (columns : List Bounds) (at : ℕ) (tokens : List (List ℕ)) (old out : List ℤ) → AppendsSome (numbers_of columns tokens) old out → Appends (row_read columns at tokens) old out
row_whole columns at tokens old out h = (h.0, row_is columns at tokens (numbers-length columns tokens h.0 h.1) ∙ ap (or_refuse PlyNumber at) h.1, h.2)

pub tokens_done : (columns : List Bounds) (at : ℕ) (found : List (Bor (List ℕ))) (old out : List ℤ) (j : ℕ) → length found ≡ length columns → length columns ≤ j → IsRowSoFar (numbers_of columns (texts found)) old out (numbers_of (drop j columns) (drop j (texts found)))
    → Appends (or_refuse PlyNumber at (numbers_of columns (texts found))) old out
tokens_done columns at found old out j same le h =
    let none : drop j (texts found) ≡ [] = drop_all j (texts found) (omega (arith, length-map found (λ (t : Bor (List ℕ)). t.now))) in
    let w = row_done (numbers_of columns (texts found)) old out columns (drop j (texts found)) j le none h in
    (w.0, ap (or_refuse PlyNumber at) w.1, w.2)

-- a token that is no number
pub token_none : (columns : List Bounds) (found : List (Bor (List ℕ))) (old out : List ℤ) (j : ℕ) (b : Bounds) (d : Bor (List ℕ)) → length found ≡ length columns → j < length columns
    → token_number (get_or columns j b) (get_or found j d).now ≡ None → IsRowSoFar (numbers_of columns (texts found)) old out (numbers_of (drop j columns) (drop j (texts found)))
    → numbers_of columns (texts found) ≡ None
token_none columns found old out j b d same lt n h =
    let now : numbers_of (drop j columns) (drop j (texts found)) ≡ None = both columns found j b d lt (omega arith) ∙ ap (λ (o : Option ℤ). option_and_then (λ first. option_and_then (λ others. Some (first ∷ others)) (numbers_of (drop (j + 1) columns) (drop (j + 1) (texts found)))) o) n in
    sym h.whole ∙ ap (option_map (λ vs. h.front ++ vs)) now

-- the row of a line whose tokens were found
pub row_of_tokens : (columns : List Bounds) (at : ℕ) (line : List ℕ) (found : List (Bor (List ℕ))) → texts found ≡ take (length columns + 1) (tokens_of line) → length found ≡ length columns → or_refuse PlyNumber at (numbers_of columns (texts found)) ≡ row_read columns at (tokens_of line)
row_of_tokens columns at line found e same =
    let count : length (texts found) ≡ length columns = length-map found (λ (t : Bor (List ℕ)). t.now) ∙ same in
    let all = first_are_all (length columns) (tokens_of line) (sym (ap length e) ∙ count) in
    sym (row_is columns at (texts found) count) ∙ ap (row_read columns at) (e ∙ all)
