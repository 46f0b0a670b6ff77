-- A symbol is read from the back of the list in which it is coded, and the lists of those behind it are left.
use Rattle.std.proofs.Common.{◌≡◌, ℕ, ◌-◌, ◌<◌, Bool, true, false, cond, ◌==◌, List, [], ◌∷◌, ◌++◌, length, map, reverse, take, get_or, set, slice_get, Option, Some, None, Result, Ok, Err, refl, sym, ap, ◌∙◌, subst, arith, inl, inr, eq-eqb, ne_eqb, zero-add}
use Rattle.std.proofs.lemmas.Bool.{cases_eq}
use Rattle.std.proofs.lemmas.List.{length-append, length-set, ext_get_or, get_or-set_other, append-nil, reverse-append}
use Rattle.std.proofs.lemmas.Grind.{get_or-set_at}
use Rattle.std.proofs.lemmas.List.FromFn.{length-map-range_with_len, get_or-map-range_with_len}
use Rattle.std.proofs.Math.Seq.{take-append_seam}
use Rattle.std.specs.List.{filter, range_with_len}
use Rattle.drc_base.specs.declared.kinds.Kind.{Kind}
use Rattle.drc_base.specs.declared.kinds.Kind.TheVariants as kind
use Rattle.drc_base.specs.declared.faults.Fault.{Fault}
use Rattle.drc_base.specs.Steps.{◌>>=◌}
use Rattle.corner_table.specs.Sides.{Side}
use Rattle.corner_table.specs.declared.symbols.Symbol.{Symbol}
use Rattle.corner_table.specs.declared.symbols.Symbol.TheVariants.{C, S, L, R, E}
use Rattle.eb_machine.specs.Machine.{State, step, take_symbols, top}
use Rattle.eb_machine.specs.Degree.{top_degree}
use Rattle.eb_machine.proofs.Counts.{step_counts}
use Rattle.eb_valence.specs.declared.context_lists.TheConstants.{CONTEXTS}
use Rattle.eb_valence.specs.Numbers.{symbol_number, symbol_numbered, context_of}
use Rattle.eb_valence.specs.Reading.{last_of, all_but_last, symbol_taken, taken_at}
use Rattle.eb_valence.specs.Contexts.{CodedSymbol, coded, context_coded_at, context_list, lists_of, symbol_at, fed_by_context, EachReadsBack, WordsReadBack}

-- the last item of a list is the one that was put behind it
slice_last : (xs : List ℕ) (n : ℕ) → slice_get (xs ++ n ∷ []) (length xs) ≡ Some n
slice_last [] n = refl
slice_last (x ∷ xs) n = slice_last xs n

one_more : (xs : List ℕ) (n : ℕ) → length (xs ++ n ∷ []) - 1 ≡ length xs
one_more xs n = let e = length-append xs (n ∷ []) in grind (arith, e)

pub last_is : (xs : List ℕ) (n : ℕ) → last_of (xs ++ n ∷ []) ≡ Some n
last_is xs n = ap (slice_get (xs ++ n ∷ [])) (one_more xs n) ∙ slice_last xs n

pub all_but_last_is : (xs : List ℕ) (n : ℕ) → all_but_last (xs ++ n ∷ []) ≡ xs
all_but_last_is xs n = ap (λ k. take k (xs ++ n ∷ [])) (one_more xs n) ∙ take-append_seam xs (n ∷ [])

-- what one code adds to the list of a context
abbrev in_context : ℕ → CodedSymbol → List ℕ
in_context k c = cond (c.context == k) (c.number ∷ []) []

pub list_more : (codes : List CodedSymbol) (c : CodedSymbol) (k : ℕ) → context_list (c ∷ codes) k ≡ context_list codes k ++ in_context k c
unfolding context_list
list_more codes c k =
    let rest : List CodedSymbol = filter (λ x. x.context == k) codes in
    elim (c.context == k) as (λ (b : Bool). reverse (map (λ x. x.number) (cond b (c ∷ rest) rest)) ≡ reverse (map (λ x. x.number) rest) ++ cond b (c.number ∷ []) []) [
      | true ↦ reverse-append (c.number ∷ []) (map (λ x. x.number) rest)
      | false ↦ sym (append-nil (reverse (map (λ x. x.number) rest)))
    ]

-- the list of one context is replaced
set_is : (F G : ℕ → List ℕ) (v : List ℕ) (k : ℕ) → k < CONTEXTS → G k ≡ v → ((j : ℕ) → (j ≡ k → ⊥) → F j ≡ G j) →
    set (map F (range_with_len 0 CONTEXTS)) k v ≡ map G (range_with_len 0 CONTEXTS)
set_is F G v k h e same =
    let xs : List (List ℕ) = map F (range_with_len 0 CONTEXTS) in
    let long : length xs ≡ CONTEXTS = length-map-range_with_len F 0 CONTEXTS in
    let each : (i : ℕ) → i < length (set xs k v) → get_or (set xs k v) i [] ≡ get_or (map G (range_with_len 0 CONTEXTS)) i [] = λ i below.
    let inside : i < CONTEXTS = subst (λ n. i < n) (length-set xs k v ∙ long) below in
    elim (cases_eq i k) [
      | inl is ↦ get_or-set_at xs k i v [] is (subst (λ n. k < n) (sym long) h) ∙ sym e ∙ sym (get_or-map-range_with_len G 0 CONTEXTS i k [] inside (zero-add i ∙ is))
      | inr other ↦ get_or-set_other xs k i v [] other ∙ get_or-map-range_with_len F 0 CONTEXTS i i [] inside (zero-add i) ∙ same i other
          ∙ sym (get_or-map-range_with_len G 0 CONTEXTS i i [] inside (zero-add i))
    ] in
    ext_get_or [] (set xs k v) (map G (range_with_len 0 CONTEXTS)) (length-set xs k v ∙ long ∙ sym (length-map-range_with_len G 0 CONTEXTS)) each

-- what is taken from a context is the code that was put behind its list, and the others are left
taken_is : (codes : List CodedSymbol) (k n : ℕ) (x : Symbol) → k < CONTEXTS → symbol_numbered n ≡ Some x →
    symbol_taken k (lists_of (record { context = k; number = n } ∷ codes)) ≡ Ok (x, lists_of codes)
taken_is codes k n x h s =
    let c : CodedSymbol = record { context = k; number = n } in
    let lists : List (List ℕ) = lists_of (c ∷ codes) in
    let here : in_context k c ≡ n ∷ [] = ap (λ (b : Bool). cond b (n ∷ []) []) (eq-eqb k k refl) in
    let items : get_or lists k [] ≡ context_list codes k ++ n ∷ [] =
    get_or-map-range_with_len (context_list (c ∷ codes)) 0 CONTEXTS k k [] h (zero-add k) ∙ list_more codes c k ∙ ap (λ l. context_list codes k ++ l) here in
    let elsewhere : (j : ℕ) → (j ≡ k → ⊥) → context_list (c ∷ codes) j ≡ context_list codes j = λ j other.
    let not : (k == j) ≡ false = ne_eqb k j (λ (e : k ≡ j). other (sym e)) in
    list_more codes c j ∙ ap (λ (b : Bool). context_list codes j ++ cond b (n ∷ []) []) not ∙ append-nil (context_list codes j) in
    let left : set lists k (all_but_last (get_or lists k [])) ≡ lists_of codes =
    set_is (context_list (c ∷ codes)) (context_list codes) (all_but_last (get_or lists k [])) k h (sym (ap all_but_last items ∙ all_but_last_is (context_list codes k) n)) elsewhere in
    let read : Option Symbol → List (List ℕ) → Result (Symbol × List (List ℕ)) Kind = λ o rest. elim o [ None ↦ Err kind.BadSymbol | Some y ↦ Ok (y, rest) ] in
    let rest : List (List ℕ) = set lists k (all_but_last (get_or lists k [])) in
    let found : Option ℕ → Result (Symbol × List (List ℕ)) Kind = λ o. elim o [ None ↦ Err kind.ContextEmpty | Some m ↦ read (symbol_numbered m) rest ] in
    ap found (ap last_of items ∙ last_is (context_list codes k) n) ∙ ap (λ o. read o rest) s ∙ ap (read (Some x)) left

numbered : (x : Symbol) → symbol_numbered (symbol_number x) ≡ Some x
numbered C = refl
numbered S = refl
numbered L = refl
numbered R = refl
numbered E = refl

context_within : (degree : ℕ) → context_of degree < CONTEXTS
context_within degree = omega arith

-- where no side waits, the machine takes an E alone
top_first : {A : Type 0} (s : State) (f : Side × List Side → Result A Fault) (t : A) → s.stack ≡ [] → (top s.built s.glued s.stack >>= f) ≡ Ok t → ⊥
top_first s f t e h =
    let refused = ap (λ (stack : List Side). top s.built s.glued stack >>= f) e in
    let both = sym refused ∙ h in cc

only_end : (n : ℕ) (x : Symbol) (s t : State) → s.stack ≡ [] → step n x s ≡ Ok t → E ≡ x
unfolding step
only_end n E s t e h = refl
only_end n C s t e h = absurd (top_first s _ t e h)
only_end n S s t e h = absurd (top_first s _ t e h)
only_end n L s t e h = absurd (top_first s _ t e h)
only_end n R s t e h = absurd (top_first s _ t e h)

-- what is coded of the first symbol of a word
pub coded_more : (n : ℕ) (x : Symbol) (word : List Symbol) (s t : State) → step n x s ≡ Ok t → coded n (x ∷ word) s ≡ context_coded_at s x ++ coded n word t
unfolding coded
coded_more n x word s t e = ap (λ (r : Result State Fault). let y : List CodedSymbol = elim r [ Err f ↦ [] | Ok u ↦ context_coded_at s x ++ coded n word u ] in y) e

-- one symbol
at_number : ℕ → Result (Symbol × List (List ℕ)) Kind → Result (Symbol × List (List ℕ)) Fault
at_number i r = elim r [ Ok x ↦ Ok x | Err k ↦ Err (record { kind = k; at = i }) ]

one_read : (b : Bool) (i : ℕ) (x : Symbol) (degree : ℕ) (codes : List CodedSymbol) → (b ≡ true → E ≡ x) →
    at_number i (taken_at (cond b None (Some degree)) (lists_of (cond b [] (record { context = context_of degree; number = symbol_number x } ∷ []) ++ codes)))
    ≡ Ok (x, lists_of codes)
unfolding at_number
one_read true i x degree codes is = ap (λ (y : Symbol). Ok (y, lists_of codes)) (is refl)
one_read false i x degree codes is = ap (at_number i) (taken_is codes (context_of degree) (symbol_number x) x (context_within degree) (numbered x))

pub each_reads_back : EachReadsBack
unfolding at_number
each_reads_back n x word s t first e =
    ap (λ codes. symbol_at (lists_of codes) s) (coded_more n x word s t e)
    ∙ one_read (s.built == 0) s.built x (top_degree s) (coded n word t)
    (λ is. only_end n x s t (first (elim (cases_eq s.built 0) [ inl none ↦ none | inr other ↦ absurd (let no = sym (ne_eqb s.built 0 other) ∙ is in cc) ])) e)

-- a word, symbol by symbol
pub words_read_back : WordsReadBack
unfolding take_symbols fed_by_context
words_read_back n [] s t first e = e
words_read_back n (x ∷ word) s t first e =
    elim (step n x s) as (λ (r : Result State Fault). step n x s ≡ r → (r >>= take_symbols n word) ≡ Ok t → fed_by_context n (length (x ∷ word)) (lists_of (coded n (x ∷ word) s)) s ≡ Ok t) [
      | Err f ↦ λ is no. absurd (cc)
      | Ok u ↦ λ is rest.
          let more : (u.built ≡ 0 → u.stack ≡ []) = λ none. absurd (let one = (step_counts n x s u is).0 in omega arith) in
          ap (λ (r : Result (Symbol × List (List ℕ)) Fault). r >>= λ y. step n y.0 s >>= fed_by_context n (length word) y.1) (each_reads_back n x word s u first is)
          ∙ ap (λ (r : Result State Fault). r >>= fed_by_context n (length word) (lists_of (coded n word u))) is
          ∙ words_read_back n word u t more rest
    ] refl e
