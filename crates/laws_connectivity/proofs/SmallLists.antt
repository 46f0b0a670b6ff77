-- The numbers in the lists of contexts have 32 bits.
use Rattle.std.proofs.Common.{ℕ, ◌^◌, ◌<◌, ◌==◌, Bool, true, false, cond, List, [], ◌∷◌, ◌++◌, length, map, reverse, Result, Ok, Err, sym, subst, arith}
use Rattle.std.specs.List.{All, filter, range_with_len}
use Rattle.std.proofs.lemmas.List.{reverse-append}
use Rattle.std.proofs.lemmas.List.Elements.{All-nil, All-cons, All-head, All-tail, All-append, All-map, All-filter}
use Rattle.drc_base.specs.declared.faults.Fault.{Fault}
use Rattle.corner_table.specs.declared.symbols.Symbol.{Symbol}
use Rattle.corner_table.specs.declared.symbols.Symbol.TheVariants.{C, S, L, R, E}
use Rattle.corner_table.specs.declared.symbols.Event.{Event}
use Rattle.eb_machine.specs.Machine.{State, start, step}
use Rattle.eb_valence.specs.declared.context_lists.TheConstants.{CONTEXTS}
use Rattle.eb_valence.specs.Numbers.{symbol_number}
use Rattle.eb_valence.specs.Contexts.{CodedSymbol, context, coded, context_coded_at, context_list, context_lists}

-- what is coded has a number of 32 bits
abbrev IsSmall : CodedSymbol → Type 0
IsSmall c = c.number < 2 ^ 32

small-number : (x : Symbol) → symbol_number x < 2 ^ 32
small-number C = omega arith
small-number S = omega arith
small-number L = omega arith
small-number R = omega arith
small-number E = omega arith

small-coded_at : (s : State) (x : Symbol) → All IsSmall (context_coded_at s x)
small-coded_at s x = is (s.built == 0) (record { context = context s; number = symbol_number x }) (small-number x)
  where
    is : (b : Bool) (c : CodedSymbol) → IsSmall c → All IsSmall (let l : List CodedSymbol = cond b [] (c ∷ []) in l)
    is true c small = All-nil IsSmall
    is false c small = All-cons IsSmall c [] small (All-nil IsSmall)

small-coded : (n : ℕ) (word : List Symbol) (s : State) → All IsSmall (coded n word s)
unfolding coded
small-coded n [] s = All-nil IsSmall
small-coded n (x ∷ word) s =
    elim (step n x s) as (λ (r : Result State Fault). All IsSmall (let l : List CodedSymbol = elim r [ Err f ↦ [] | Ok t ↦ context_coded_at s x ++ coded n word t ] in l)) [
      | Err f ↦ All-nil IsSmall
      | Ok t ↦ All-append IsSmall (context_coded_at s x) (coded n word t) (small-coded_at s x) (small-coded n word t)
    ]

All-reverse : {A : Type 0} (P : A → Type 0) (xs : List A) → All P xs → All P (reverse xs)
All-reverse P [] each = All-nil P
All-reverse P (x ∷ xs) each =
    subst (λ l. All P l) (sym (reverse-append (x ∷ []) xs))
    (All-append P (reverse xs) (x ∷ []) (All-reverse P xs (All-tail P x xs each)) (All-cons P x [] (All-head P x xs each) (All-nil P)))

small-list : (codes : List CodedSymbol) (k : ℕ) → All IsSmall codes → All (λ v. v < 2 ^ 32) (context_list codes k)
unfolding context_list
small-list codes k each =
    let chosen : List CodedSymbol = filter (λ c. c.context == k) codes in
    All-reverse (λ v. v < 2 ^ 32) (map (λ c. c.number) chosen)
    (All-map (λ v. v < 2 ^ 32) (λ (c : CodedSymbol). c.number) chosen (All-filter (λ c. c.context == k) IsSmall codes each))

pub small-lists : (symbols : List Symbol) (events : List Event) → All (λ numbers. All (λ v. v < 2 ^ 32) numbers) (context_lists symbols events)
small-lists symbols events =
    let codes : List CodedSymbol = coded (length symbols) (reverse symbols) (start (reverse events)) in
    All-map (λ numbers. All (λ v. v < 2 ^ 32) numbers) (context_list codes) (range_with_len 0 CONTEXTS)
    (λ k d below. small-list codes _ (small-coded (length symbols) (reverse symbols) (start (reverse events))))
