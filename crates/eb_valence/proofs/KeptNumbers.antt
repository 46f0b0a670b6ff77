-- A reader of kept numbers gives the symbols that the numbers stand for.
use Rattle.std.proofs.Common.{◌≡◌, ℕ, zero, suc, ◌-◌, min, List, [], ◌∷◌, length, take, get_or, set, slice_get, sum_by, Option, Some, None, Result, Ok, Err, refl, sym, ap, ◌∙◌, inl, inr, arith}
use Rattle.std.proofs.lemmas.Bool.{cases_lt}
use Rattle.std.proofs.lemmas.List.{map-set, get_or-map, get_or_past, length-map, take-map}
use Rattle.std.proofs.lemmas.List.Sums.{sum_by-cons}
use Rattle.std.proofs.lemmas.Option.{slice_get-map}
use Rattle.std.specs.Option.{option_map}
use Rattle.drc_base.specs.declared.kinds.Kind.{Kind}
use Rattle.drc_base.specs.declared.kinds.Kind.TheVariants as kind
use Rattle.drc_base.specs.declared.faults.Fault.{Fault}
use Rattle.corner_table.specs.declared.symbols.Symbol.{Symbol}
use Rattle.eb_machine.specs.Machine.{State}
use Rattle.eb_valence.specs.Numbers.{symbol_numbered, kept_number, context_of}
use Rattle.eb_valence.specs.Reading.{last_of, all_but_last, symbol_taken, taken_at, kept_list, kept_lists}
use Rattle.eb_valence.specs.Contexts.{degree_before, symbol_at}

-- what is drawn, with the lists that are left as a reader keeps them
abbrev pub with_kept : {E : Type 0} → Result (Symbol × List (List ℕ)) E → Result (Symbol × List (List ℕ)) E
with_kept (Ok x) = Ok (x.0, kept_lists x.1)
with_kept (Err e) = Err e

pub numbered_kept : (n : ℕ) → symbol_numbered (kept_number n) ≡ symbol_numbered n
numbered_kept zero = refl
numbered_kept (suc zero) = refl
numbered_kept (suc (suc zero)) = refl
numbered_kept (suc (suc (suc zero))) = refl
numbered_kept (suc (suc (suc (suc zero)))) = refl
numbered_kept (suc (suc (suc (suc (suc n))))) =
    let e : kept_number (suc (suc (suc (suc (suc n))))) ≡ suc (suc (suc (suc (suc (min n 250))))) = omega arith in
    ap symbol_numbered e

list_kept : (lists : List (List ℕ)) (k : ℕ) → get_or (kept_lists lists) k [] ≡ kept_list (get_or lists k [])
list_kept lists k = elim (cases_lt k (length lists)) [
  | inl l ↦ get_or-map kept_list lists k [] [] l
  | inr l ↦ (
      let m : length (kept_lists lists) ≡ length lists = length-map lists kept_list in
      get_or_past (kept_lists lists) k [] (omega arith) ∙ ap kept_list (sym (get_or_past lists k [] (omega arith))))
]

last_kept : (items : List ℕ) → last_of (kept_list items) ≡ option_map kept_number (last_of items)
last_kept items =
    ap (λ (n : ℕ). slice_get (kept_list items) (n - 1)) (length-map items kept_number)
    ∙ slice_get-map kept_number items (length items - 1)

front_kept : (items : List ℕ) → all_but_last (kept_list items) ≡ kept_list (all_but_last items)
front_kept items =
    ap (λ (n : ℕ). take (n - 1) (kept_list items)) (length-map items kept_number)
    ∙ take-map kept_number (length items - 1) items

set_kept : (lists : List (List ℕ)) (k : ℕ) (items : List ℕ) → set (kept_lists lists) k (kept_list items) ≡ kept_lists (set lists k items)
set_kept lists k items = sym (map-set kept_list lists k items)

-- the symbol of a number, with the lists that are left; a number that stands for none is refused
abbrev drawn : Option Symbol → List (List ℕ) → Result (Symbol × List (List ℕ)) Kind
drawn x left = elim x [ None ↦ Err kind.BadSymbol | Some x ↦ Ok (x, left) ]

drawn_kept : (x : Option Symbol) (left : List (List ℕ)) → drawn x (kept_lists left) ≡ with_kept (drawn x left)
drawn_kept None left = refl
drawn_kept (Some x) left = refl

-- the symbol of the last number, where there is one
abbrev taken : Option ℕ → List (List ℕ) → Result (Symbol × List (List ℕ)) Kind
taken n left = elim n [ None ↦ Err kind.ContextEmpty | Some n ↦ drawn (symbol_numbered n) left ]

taken_number : (n : Option ℕ) (left : List (List ℕ)) → taken (option_map kept_number n) (kept_lists left) ≡ with_kept (taken n left)
taken_number None left = refl
taken_number (Some n) left = ap (λ (x : Option Symbol). drawn x (kept_lists left)) (numbered_kept n) ∙ drawn_kept (symbol_numbered n) left

pub taken_kept : (k : ℕ) (lists : List (List ℕ)) → symbol_taken k (kept_lists lists) ≡ with_kept (symbol_taken k lists)
taken_kept k lists =
    let items : List ℕ = get_or lists k [] in
    ap (λ (l : List ℕ). taken (last_of l) (set (kept_lists lists) k (all_but_last l))) (list_kept lists k)
    ∙ ap (λ (n : Option ℕ). taken n (set (kept_lists lists) k (all_but_last (kept_list items)))) (last_kept items)
    ∙ ap (λ (l : List ℕ). taken (option_map kept_number (last_of items)) (set (kept_lists lists) k l)) (front_kept items)
    ∙ ap (λ (l : List (List ℕ)). taken (option_map kept_number (last_of items)) l) (set_kept lists k (all_but_last items))
    ∙ taken_number (last_of items) (set lists k (all_but_last items))

taken_at_kept : (degree : Option ℕ) (lists : List (List ℕ)) → taken_at degree (kept_lists lists) ≡ with_kept (taken_at degree lists)
taken_at_kept None lists = refl
taken_at_kept (Some degree) lists = taken_kept (context_of degree) lists

-- the fault at the machine's number
abbrev placed : ℕ → Result (Symbol × List (List ℕ)) Kind → Result (Symbol × List (List ℕ)) Fault
placed n r = elim r [ Ok x ↦ Ok x | Err k ↦ Err (record { kind = k; at = n }) ]

placed_kept : (n : ℕ) (r : Result (Symbol × List (List ℕ)) Kind) → placed n (with_kept r) ≡ with_kept (placed n r)
placed_kept n (Ok x) = refl
placed_kept n (Err k) = refl

-- the next symbol of the machine is the same, or its fault
pub symbol_kept : (lists : List (List ℕ)) (s : State) → symbol_at (kept_lists lists) s ≡ with_kept (symbol_at lists s)
symbol_kept lists s =
    ap (placed s.built) (taken_at_kept (degree_before s) lists)
    ∙ placed_kept s.built (taken_at (degree_before s) lists)

-- as many numbers are kept as there were
pub count_kept : (lists : List (List ℕ)) → sum_by length (kept_lists lists) ≡ sum_by length lists
count_kept [] = refl
count_kept (items ∷ lists) =
    let kept = sum_by-cons {X = List ℕ} length (kept_list items) (kept_lists lists) in
    let were = sum_by-cons {X = List ℕ} length items lists in
    let each : length (kept_list items) ≡ length items = length-map items kept_number in
    let rest = count_kept lists in
    omega arith
