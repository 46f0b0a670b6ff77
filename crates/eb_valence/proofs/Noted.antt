-- What is noted in the order of decoding are the lists of the contexts, from back to front.
use Rattle.std.proofs.Common.{◌≡◌, ◌≢◌, ℕ, ◌+◌, ◌-◌, ◌<◌, ◌≤◌, Bool, true, false, cond, ◌==◌, List, [], ◌∷◌, ◌++◌, length, map, reverse, replicate, sum_by, take, get_or, slice_index_or, set, Result, Ok, Err, arith, refl, sym, ap, ◌∙◌, subst, inl, inr, append_assoc, eq-eqb, ne_eqb, zero-add}
use Rattle.std.proofs.lemmas.Bool.{cases_eq}
use Rattle.std.proofs.lemmas.List.{length-set, length-map, ext_get_or, get_or-map, get_or-replicate, get_or-set_other, append-nil, take_more, reverse-append}
use Rattle.std.proofs.lemmas.Grind.{get_or-set_at}
use Rattle.std.proofs.lemmas.List.FromFn.{length-map-range_with_len, get_or-map-range_with_len}
use Rattle.std.proofs.lemmas.List.Sums.{sum_by_more}
use Rattle.std.specs.List.{filter}
use Rattle.eb_valence.specs.declared.context_lists.TheConstants.{CONTEXTS}
use Rattle.corner_table.specs.declared.symbols.Symbol.{Symbol}
use Rattle.drc_base.specs.declared.faults.Fault.{Fault}
use Rattle.drc_base.specs.declared.faults.Refusal.{Refusal}
use Rattle.drc_base.specs.declared.faults.Refusal.TheVariants as refusal
use Rattle.drc_base.specs.Steps.{◌>>=◌}
use Rattle.eb_machine.specs.Machine.{State, step, take_symbols}
use Rattle.eb_rebuild.specs.Calls.{symbol_calls}
use Rattle.eb_rebuild.specs.Rebuilding.{Moves}
use Rattle.eb_valence.specs.Numbers.{symbol_number}
use Rattle.eb_valence.specs.Contexts.{CodedSymbol, coded, context, context_coded_at, context_list, lists_of}
use Rattle.eb_valence.specs.Noting.{context_put, noted, TakesWord}
use Rattle.eb_valence.proofs.ReadBack.{coded_more}

-- the numbers of one context, in the order of decoding
abbrev numbers_in : ℕ → List CodedSymbol → List ℕ
numbers_in k codes = map (λ c. c.number) (filter (λ c. c.context == k) codes)

length-noted : (lists : List (List ℕ)) (codes : List CodedSymbol) → length (noted lists codes) ≡ length lists
unfolding noted
length-noted lists [] = refl
length-noted lists (c ∷ codes) = length-noted (context_put lists c) codes ∙ length-set lists c.context _

put_at : (lists : List (List ℕ)) (c : CodedSymbol) (k : ℕ) → k < length lists → get_or (context_put lists c) k [] ≡ get_or lists k [] ++ cond (c.context == k) (c.number ∷ []) []
put_at lists c k h = elim (cases_eq k c.context) [
  | inl is ↦
      get_or-set_at lists c.context k _ [] is (subst (λ n. n < length lists) is h) ∙ ap (λ i. get_or lists i [] ++ c.number ∷ []) (sym is)
      ∙ ap (λ (b : Bool). get_or lists k [] ++ cond b (c.number ∷ []) []) (sym (eq-eqb c.context k (sym is)))
  | inr other ↦
      get_or-set_other lists c.context k _ [] other ∙ sym (append-nil (get_or lists k []))
      ∙ ap (λ (b : Bool). get_or lists k [] ++ cond b (c.number ∷ []) []) (sym (ne_eqb c.context k (λ (e : c.context ≡ k). other (sym e))))
]

noted_at : (lists : List (List ℕ)) (codes : List CodedSymbol) (k : ℕ) → k < length lists → get_or (noted lists codes) k [] ≡ get_or lists k [] ++ numbers_in k codes
unfolding noted
noted_at lists [] k h = sym (append-nil (get_or lists k []))
noted_at lists (c ∷ codes) k h =
    noted_at (context_put lists c) codes k (subst (λ n. k < n) (sym (length-set lists c.context _)) h)
    ∙ ap (λ l. l ++ numbers_in k codes) (put_at lists c k h)
    ∙ append_assoc (get_or lists k []) (cond (c.context == k) (c.number ∷ []) []) (numbers_in k codes)
    ∙ ap (λ l. get_or lists k [] ++ l) (
    elim (c.context == k) as (λ (b : Bool). cond b (c.number ∷ []) [] ++ numbers_in k codes ≡ map (λ x. x.number) (cond b (c ∷ filter (λ x. x.context == k) codes) (filter (λ x. x.context == k) codes))) [
      | true ↦ refl
      | false ↦ refl
    ])

-- the first symbol isn't coded
pub noted_none : (lists : List (List ℕ)) (s : State) (x : Symbol) → (s.built == 0) ≡ true → lists ≡ noted lists (context_coded_at s x)
unfolding noted
noted_none lists s x first = ap (λ (b : Bool). noted lists (cond b [] (record { context = context s; number = symbol_number x } ∷ []))) (sym first)

-- any other is put behind the list of its context
pub noted_one : (lists more : List (List ℕ)) (s : State) (x : Symbol) (k n : ℕ) → (s.built == 0) ≡ false → k ≡ context s → n ≡ symbol_number x →
    more ≡ set lists k (get_or lists k [] ++ n ∷ []) → more ≡ noted lists (context_coded_at s x)
unfolding noted
noted_one lists more s x k n later p q e =
    e ∙ ap (λ i. set lists i (get_or lists i [] ++ n ∷ [])) p ∙ ap (λ m. set lists (context s) (get_or lists (context s) [] ++ m ∷ [])) q
    ∙ ap (λ (b : Bool). noted lists (cond b [] (record { context = context s; number = symbol_number x } ∷ []))) (sym later)

-- codes are put in turn, the first ones first
noted-append : (lists : List (List ℕ)) (xs ys : List CodedSymbol) → noted lists (xs ++ ys) ≡ noted (noted lists xs) ys
unfolding noted
noted-append lists [] ys = refl
noted-append lists (c ∷ xs) ys = noted-append (context_put lists c) xs ys

-- the symbols before a number, the last of them first
pub word_at : (xs : List Symbol) (i : ℕ) (d : Symbol) → 0 < i → i ≤ length xs → reverse (take i xs) ≡ slice_index_or xs (i - 1) d ∷ reverse (take (i - 1) xs)
word_at xs i d some within =
    let back : i - 1 + 1 ≡ i = omega arith in
    ap (λ k. reverse (take k xs)) (sym back) ∙ ap reverse (take_more xs (i - 1) d (omega arith)) ∙ reverse-append (take (i - 1) xs) (get_or xs (i - 1) d ∷ [])

-- the calls of the symbols before a number are those of the ones before the last of these, and its own
pub called : (xs : List Symbol) (i : ℕ) (d : Symbol) → 0 < i → i ≤ length xs → sum_by symbol_calls (take i xs) ≡ sum_by symbol_calls (take (i - 1) xs) + symbol_calls (slice_index_or xs (i - 1) d)
called xs i d some within =
    let back : i - 1 + 1 ≡ i = omega arith in
    ap (λ k. sum_by symbol_calls (take k xs)) (sym back) ∙ sum_by_more symbol_calls xs (i - 1) d (omega arith)

-- one symbol is taken
pub takes_on : (n : ℕ) (word rest : List Symbol) (x : Symbol) (s t : State) → word ≡ x ∷ rest → step n x s ≡ Ok t → TakesWord n word s → TakesWord n rest t
unfolding take_symbols
takes_on n word rest x s t w e (u, h) = (u, sym (ap (λ (r : Result State Fault). r >>= take_symbols n rest) e) ∙ sym (ap (λ v. take_symbols n v s) w) ∙ h)

-- and noted
pub told_on : (n : ℕ) (word rest : List Symbol) (x : Symbol) (s t : State) (lists more whole : List (List ℕ)) → word ≡ x ∷ rest → step n x s ≡ Ok t →
    more ≡ noted lists (context_coded_at s x) → noted lists (coded n word s) ≡ whole → noted more (coded n rest t) ≡ whole
told_on n word rest x s t lists more whole w e m h =
    ap (λ l. noted l (coded n rest t)) m ∙ sym (noted-append lists (context_coded_at s x) (coded n rest t))
    ∙ sym (ap (noted lists) (ap (λ v. coded n v s) w ∙ coded_more n x rest s t e)) ∙ h

-- at the end none is left
pub told_all : (n i : ℕ) (xs : List Symbol) (s : State) (lists whole : List (List ℕ)) → i ≡ 0 → noted lists (coded n (reverse (take i xs)) s) ≡ whole → lists ≡ whole
unfolding noted coded
told_all n i xs s lists whole z h = ap (λ j. noted lists (coded n (reverse (take j xs)) s)) (sym z) ∙ h

-- what the machine takes it doesn't refuse
pub takes_first : (n : ℕ) (word rest : List Symbol) (x : Symbol) (s new : State) (live : Bool) (r : Refusal) → word ≡ x ∷ rest → TakesWord n word s →
    Moves (step n x s) new live (Err r) → (let answer : Result (Unit {0}) Refusal = Err r in answer ≢ Err refusal.Memory) → ⊥
unfolding take_symbols
takes_first n word rest x s new live (refusal.Fault f) w (u, h) moves memory =
    let refused : (step n x s >>= take_symbols n rest) ≡ Err f = ap (λ (r : Result State Fault). r >>= take_symbols n rest) moves in
    let both = sym refused ∙ sym (ap (λ v. take_symbols n v s) w) ∙ h in cc
takes_first n word rest x s new live refusal.Memory w h moves memory = memory refl

pub noted_all : (codes : List CodedSymbol) → map reverse (noted (replicate CONTEXTS []) codes) ≡ lists_of codes
unfolding context_list
noted_all codes =
    let none : List (List ℕ) = replicate CONTEXTS [] in
    let long : length (map reverse (noted none codes)) ≡ CONTEXTS = length-map (noted none codes) reverse ∙ length-noted none codes in
    ext_get_or [] (map reverse (noted none codes)) (lists_of codes) (long ∙ sym (length-map-range_with_len (context_list codes) 0 CONTEXTS)) (λ k h.
    let within : k < CONTEXTS = subst (λ n. k < n) long h in
    get_or-map reverse (noted none codes) k [] [] (subst (λ n. k < n) (sym (length-noted none codes)) within)
    ∙ ap reverse (noted_at none codes k within ∙ ap (λ l. l ++ numbers_in k codes) (get_or-replicate CONTEXTS k [] [] within))
    ∙ sym (get_or-map-range_with_len (context_list codes) 0 CONTEXTS k k [] within (zero-add k)))
