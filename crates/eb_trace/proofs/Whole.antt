-- The whole run over a readable table and word, and the tests at the end.
use Rattle.std.proofs.Common.{◌≡◌, ℕ, zero, suc, ◌+◌, ◌-◌, ◌<◌, ◌≤◌, Bool, false, List, [], ◌∷◌, length, take, get_or, is_some, None, Ok, inl, inr, sym, refl, ap, ◌∙◌, arith}
use Rattle.std.proofs.lemmas.Bool.{cases_lt, cond-false, false_from_ne_true, or_from}
use Rattle.std.proofs.lemmas.List.{length-map, length-take-le, take_all, get_or-take}
use Rattle.drc_base.specs.Steps.{◌>>=◌}
use mathlib.Core.Path.{fun_ext}
use Rattle.corner_table.specs.declared.symbols.Symbol.{Symbol}
use Rattle.corner_table.specs.declared.symbols.Symbol.TheVariants.{E}
use Rattle.corner_table.specs.Sides.{Side, first, second, third, side, next, Gluing}
use Rattle.corner_table.specs.Fans.{HasThreeFans, meets}
use Rattle.corner_table.specs.Prefixes.{prefix}
use Rattle.corner_table.proofs.Meeting.{meets-fan}
use Rattle.corner_table.proofs.Prefixing.{prefix_nothing, prefix_whole}
use Rattle.eb_machine.specs.Machine.{State, Plan, start, step, take_symbols, close_all, finish, rebuild, is_degenerate, first_degenerate}
use Rattle.eb_machine.proofs.Steps.{Next, the_state, same_state, then_ok}
use Rattle.eb_machine.proofs.Ends.{finish_done, finish_vertices}
use Rattle.eb_trace.specs.Readable.{IsReadable}
use Rattle.eb_trace.specs.Front.{free_firsts, reserved_for, events_left, made_by, front, start_bits}
use Rattle.eb_trace.specs.Rebuilt.{word_symbol, EachStepReads, PassesFronts, ClosesLast, finished, ReadsWord, RebuildsWord, RefusesFewer}
use Rattle.eb_trace.proofs.Waiting.{firsts_none}
use Rattle.eb_trace.proofs.Reserved.{reserved_early, reserved_late, reserved_none_yet}
use Rattle.eb_trace.proofs.Events.{left_zero}
use Rattle.eb_trace.proofs.StepLaws.{step_reads}
use Rattle.eb_trace.proofs.Closing.{closes_all}

pub each_step_reads : EachStepReads
each_step_reads faces g n word T m h = step_reads faces g n word T m h

taken_none : (n : ℕ) (s : State) → take_symbols n [] s ≡ Ok s
unfolding take_symbols
taken_none n s = refl

taken_more : (n : ℕ) (x : Symbol) (xs : List Symbol) (s t : State) → step n x s ≡ Ok t → take_symbols n (x ∷ xs) s ≡ take_symbols n xs t
unfolding take_symbols
taken_more n x xs s t e = then_ok (step n x s) t (take_symbols n xs) e

-- some symbols from number i on
symbols_from : (faces : ℕ) (g : Gluing) (n : ℕ) (word : ℕ → Symbol) → IsReadable faces g n word → (xs : List Symbol) (i : ℕ) → i + length xs ≤ n → ((k : ℕ) → k < length xs → get_or xs k E ≡ word (i + k)) →
    take_symbols n xs (front n g word i) ≡ Ok (front n g word (i + length xs))
symbols_from faces g n word T [] i e same =
    taken_none n (front n g word i) ∙ ap (λ (m : ℕ). let x : Next = Ok (front n g word m) in x) (let z : i ≡ i + 0 = omega arith in z)
symbols_from faces g n word T (x ∷ xs) i e same =
    let sum : i + suc (length xs) ≤ n = e in
    let at : x ≡ word i = same 0 (omega arith) ∙ ap word (let z : i + 0 ≡ i = omega arith in z) in
    let reads : step n x (front n g word i) ≡ Ok (front n g word (suc i)) = ap (λ (s : Symbol). step n s (front n g word i)) at ∙ step_reads faces g n word T i (omega arith) in
    taken_more n x xs (front n g word i) (front n g word (suc i)) reads
    ∙ symbols_from faces g n word T xs (suc i) (omega arith) (λ k h. same (suc k) (omega arith) ∙ ap word (let z : i + suc k ≡ suc i + k = omega arith in z))
    ∙ ap (λ (m : ℕ). let y : Next = Ok (front n g word m) in y) (let z : suc i + length xs ≡ i + suc (length xs) = omega arith in z)

made_none : (word : ℕ → Symbol) → made_by word 0 ≡ 0
unfolding made_by
made_none word = refl

-- nothing is built at first
front_first : (g : Gluing) (n : ℕ) (word : ℕ → Symbol) → start (events_left n g word n) ≡ front n g word 0
front_first g n word = same_state refl (sym (prefix_nothing g)) (sym (firsts_none (prefix 0 g))) (sym (fun_ext (reserved_none_yet n g word))) (ap (events_left n g word) (let e : n ≡ n - 0 = omega arith in e)) (sym (made_none word)) refl

-- nothing is kept after the last symbol
front_last : (g : Gluing) (n : ℕ) (word : ℕ → Symbol) → front n g word n ≡ the_state n (prefix n g) (free_firsts (prefix n g) n) (λ k. None) [] (made_by word n) 0
front_last g n word = same_state refl refl refl (fun_ext kept) (ap (events_left n g word) (let e : n - n ≡ 0 = omega arith in e) ∙ left_zero n g word) refl refl
  where
    kept : (k : ℕ) → reserved_for n g word n k ≡ None
    kept k = elim (cases_lt k n) [ inl h ↦ reserved_early n g word n k h | inr h ↦ reserved_late n g word n k h ]

abbrev bits_of : ℕ → Gluing → ℕ → Bool
bits_of n g k = get_or (start_bits n g) k false

module _ (p : Plan) (g : Gluing) (word : List Symbol) (T : IsReadable p.faces g (length word) (word_symbol word)) where
  passed : (m : ℕ) → m ≤ length word → take_symbols (length word) (take m word) (start (events_left (length word) g (word_symbol word) (length word))) ≡ Ok (front (length word) g (word_symbol word) m)
  passed m h =
      let n = length word in
      let long = length-take-le m word h in
      ap (take_symbols n (take m word)) (front_first g n (word_symbol word))
      ∙ symbols_from p.faces g n (word_symbol word) T (take m word) 0 (omega arith) (λ k l. get_or-take m word k E (omega arith) ∙ ap (word_symbol word) (let e : k ≡ 0 + k = omega arith in e))
      ∙ ap (λ (k : ℕ). let x : Next = Ok (front n g (word_symbol word) k) in x) (let e : 0 + length (take m word) ≡ m = omega arith in e)

  symbols_taken : take_symbols (length word) word (start (events_left (length word) g (word_symbol word) (length word))) ≡ Ok (front (length word) g (word_symbol word) (length word))
  symbols_taken = ap (λ (xs : List Symbol). take_symbols (length word) xs (start (events_left (length word) g (word_symbol word) (length word)))) (sym (take_all (length word) word (omega arith))) ∙ passed (length word) (omega arith)

  all_closed : close_all p (bits_of (length word) g) (length (free_firsts (prefix (length word) g) (length word))) (front (length word) g (word_symbol word) (length word)) ≡ Ok (finished p.faces g word)
  all_closed =
      ap (close_all p (bits_of (length word) g) (length (free_firsts (prefix (length word) g) (length word)))) (front_last g (length word) (word_symbol word))
      ∙ closes_all p g (length word) (word_symbol word) T (bits_of (length word) g) (made_by (word_symbol word) (length word)) (λ k. ap (bits_of (length word) g) (let e : k ≡ 0 + k = omega arith in e))
      ∙ ap {A = State} (λ s. let x : Next = Ok s in x) (same_state refl (prefix_whole T.gluing) refl refl refl refl count)
    where
      count : 0 + length (free_firsts (prefix (length word) g) (length word)) ≡ length (start_bits (length word) g)
      count = (let e : 0 + length (free_firsts (prefix (length word) g) (length word)) ≡ length (free_firsts (prefix (length word) g) (length word)) = omega arith in e) ∙ sym (length-map (free_firsts (prefix (length word) g) (length word)) (λ (a : Side). is_some (g a)))

  read : (take_symbols (length word) word (start (events_left (length word) g (word_symbol word) (length word))) >>= λ s. close_all p (bits_of (length word) g) (length s.stack) s) ≡ Ok (finished p.faces g word)
  read =
      then_ok (take_symbols (length word) word (start (events_left (length word) g (word_symbol word) (length word)))) (front (length word) g (word_symbol word) (length word)) (λ s. close_all p (bits_of (length word) g) (length s.stack) s) symbols_taken
      ∙ all_closed

pub passes_fronts : PassesFronts
passes_fronts faces g word T m h = passed (record { faces = faces; created = 0; symbols = 0 }) g word T m h

pub closes_last : ClosesLast
closes_last p g word T = all_closed p g word T

pub reads_word : ReadsWord
reads_word p g word T count = read p g word T

-- no face has two corners of one vertex
degenerate_zero : (faces : ℕ) (g : Gluing) → first_degenerate faces g zero ≡ None
unfolding first_degenerate
degenerate_zero faces g = refl

degenerate_not : (faces : ℕ) (g : Gluing) (n : ℕ) → first_degenerate faces g n ≡ None → is_degenerate faces g n ≡ false → first_degenerate faces g (suc n) ≡ None
unfolding first_degenerate
degenerate_not faces g n h e = rw (h, first_degenerate) (cond-false _ _ _ e)

three_fans : (faces : ℕ) (g : Gluing) → HasThreeFans faces g → (f : ℕ) → f < faces → is_degenerate faces g f ≡ false
three_fans faces g F f h = or_from _ _ (or_from _ _ (apart (side f first) h) (apart (side f second) h)) (apart (side f third) h)
  where
    apart : (c : Side) → c.face < faces → meets faces g c (next c) ≡ false
    apart c l = false_from_ne_true _ (λ t. F.at_next c l (meets-fan faces g c (next c) t))

none_degenerate : (faces : ℕ) (g : Gluing) → HasThreeFans faces g → (n : ℕ) → n ≤ faces → first_degenerate faces g n ≡ None
none_degenerate faces g F zero h = degenerate_zero faces g
none_degenerate faces g F (suc n) h = degenerate_not faces g n (none_degenerate faces g F n (omega arith)) (three_fans faces g F n (omega arith))

-- the run comes to the tests at the end with the table built
pub comes_to_end : (p : Plan) (g : Gluing) (word : List Symbol) → IsReadable p.faces g (length word) (word_symbol word) → p.symbols ≡ length word →
    rebuild p word (events_left (length word) g (word_symbol word) (length word)) (bits_of (length word) g) ≡ finish p (finished p.faces g word)
unfolding rebuild
comes_to_end p g word T count =
    let n = length word in
    let events = events_left n g (word_symbol word) n in
    let bits = bits_of n g in
    ap (λ (k : ℕ). take_symbols k word (start events) >>= λ s. close_all p bits (length s.stack) s >>= finish p) count
    ∙ then_ok (take_symbols n word (start events)) (front n g (word_symbol word) n) (λ s. close_all p bits (length s.stack) s >>= finish p) (symbols_taken p g word T)
    ∙ then_ok (close_all p bits (length (free_firsts (prefix n g) n)) (front n g (word_symbol word) n)) (finished p.faces g word) (finish p) (all_closed p g word T)

pub rebuilds_word : RebuildsWord
rebuilds_word p g word T count F made = comes_to_end p g word T count ∙ finish_done p (finished p.faces g word) refl made (none_degenerate p.faces g F p.faces (omega arith))

pub refuses_fewer : RefusesFewer
refuses_fewer p g word T count few = comes_to_end p g word T count ∙ finish_vertices p (finished p.faces g word) (made_by (word_symbol word) (length word)) refl few refl
