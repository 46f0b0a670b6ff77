-- A trace is as a writer needs it.
use Rattle.std.proofs.Common.{◌≡◌, ℕ, zero, suc, ◌+◌, ◌<◌, ◌≤◌, Bool, false, is_none, List, [], ◌∷◌, length, reverse, get_or, All, inl, inr, sym, ap, ◌∙◌, arith, Result, Ok, count_by}
use Rattle.std.proofs.lemmas.Bool.{cases_Bool, cond-true, cond-false}
use Rattle.std.proofs.lemmas.List.{length-map}
use Rattle.std.specs.Prelude.{is_some}
use Rattle.drc_base.specs.declared.faults.Fault.{Fault}
use Rattle.corner_table.specs.declared.symbols.Symbol.{Symbol}
use Rattle.corner_table.specs.declared.symbols.Event.{Event}
use Rattle.corner_table.specs.Sides.{Side, first, side, Gluing}
use Rattle.corner_table.specs.Prefixes.{prefix}
use Rattle.eb_machine.specs.Machine.{State}
use Rattle.eb_machine.specs.Events.{IsEventOf}
use Rattle.eb_machine.specs.Shown.{is_split}
use Rattle.eb_machine.proofs.Closes.{run_closes_all}
use Rattle.eb_trace.specs.Front.{free_firsts, start_bits}
use Rattle.eb_trace.specs.Rebuilt.{finished}
use Rattle.eb_trace.specs.Events.{ComesBefore, AreInOrder}
use Rattle.eb_trace.specs.FromTrace.{CarriesOne, IsRebuiltFrom, AreStartBits}
use Rattle.eb_trace.specs.Writable.{RiseFrom, AsManyWait, IsReadBack, IsWritable}

-- no more sides 0 are free than there are faces
few_firsts : (h : Gluing) (n : ℕ) → length (free_firsts h n) ≤ n
unfolding free_firsts
few_firsts h zero = omega arith
few_firsts h (suc j) =
    let few = few_firsts h j in
    elim (cases_Bool (is_none (h (side j first)))) [
      | inl t ↦ (let e = ap (λ (l : List Side). length l) (cond-true (is_none (h (side j first))) (side j first ∷ free_firsts h j) (free_firsts h j) t) in omega arith)
      | inr f ↦ (let e = ap (λ (l : List Side). length l) (cond-false (is_none (h (side j first))) (side j first ∷ free_firsts h j) (free_firsts h j) f) in omega arith)
    ]

-- so there are no more start bits than symbols
pub few_starts : (faces : ℕ) (g : Gluing) (symbols : List Symbol) (starts : List Bool) (order : List (ℕ × ℕ)) → CarriesOne faces g order → AreStartBits faces g symbols starts order → length starts ≤ length symbols
few_starts faces g symbols starts order one bits =
    let n = length symbols in
    let e : length starts ≡ length (free_firsts (prefix (length symbols) one.carried) (length symbols)) =
    ap (λ (l : List Bool). length l) (bits one.carried one.is_carried) ∙ length-map (free_firsts (prefix (length symbols) one.carried) (length symbols)) (λ (a : Side). is_some (one.carried a)) in
    let few = few_firsts (prefix (length symbols) one.carried) (length symbols) in
    omega arith

-- events in order have rising sources
source_le : (d e : Event) → ComesBefore d e → d.source ≤ e.source
source_le d e (inl l) = omega arith
source_le d e (inr p) = let q = p.0 in omega arith

rises : (least : ℕ) (events : List Event) → ((d : Event) → 0 < length events → least ≤ (get_or events 0 d).source) → AreInOrder events → RiseFrom least events
rises least [] low P = tt
rises least (e ∷ events) low P = (
  low e (omega arith),
  rises e.source events (λ d h. source_le e (get_or events 0 d) (P 0 1 d (omega arith) (omega arith))) (λ i j d l h. P (suc i) (suc j) d (omega arith) (omega arith)),
)

-- the run that is read back, and what waits in it
module _ (faces vertices : ℕ) (g : Gluing) (symbols : List Symbol) (events : List Event) (starts : List Bool) (order : List (ℕ × ℕ)) (one : CarriesOne faces g order)
    (kept : IsRebuiltFrom faces g symbols events starts order vertices) (bits : AreStartBits faces g symbols starts order) (long : length (reverse symbols) ≡ length symbols) where
  read_back : (created : ℕ) → vertices + count_by is_split (reverse symbols) ≤ created → IsReadBack (record { faces = faces; created = created; symbols = length symbols }) symbols events starts
  read_back created enough = record {
    last = finished faces one.carried (reverse symbols);
    no_fault = kept created one.carried one.is_carried enough;
    closes = ap (λ (n : ℕ). length (start_bits n one.carried)) long ∙ sym (ap (λ (l : List Bool). length l) (bits one.carried one.is_carried));
  }

  as_many_wait : AsManyWait symbols events starts
  as_many_wait s e =
      let r = read_back (vertices + count_by is_split (reverse symbols)) (omega arith) in
      let w = run_closes_all (record { faces = faces; created = vertices + count_by is_split (reverse symbols); symbols = length symbols }) (reverse symbols) (reverse events) (λ k. get_or starts k false) r.last r.no_fault in
      let q : s ≡ w.between = one_answer s w.between (sym e ∙ w.symbols_taken) in
      ap (λ (x : State). length x.stack) q ∙ w.waiting ∙ r.closes
    where
      one_answer : (s t : State) → (let r : Result State Fault = Ok s in r) ≡ Ok t → s ≡ t
      one_answer s t h = cc

pub is_writable : (faces vertices : ℕ) (g : Gluing) (symbols : List Symbol) (events : List Event) (starts : List Bool) (order : List (ℕ × ℕ)) → CarriesOne faces g order →
    IsRebuiltFrom faces g symbols events starts order vertices → AreStartBits faces g symbols starts order → length (reverse symbols) ≡ length symbols →
    length symbols ≤ faces → length events ≤ length symbols → All (IsEventOf (length symbols)) events → AreInOrder events → IsWritable faces vertices symbols events starts
is_writable faces vertices g symbols events starts order one kept bits long few few_events fit in_order = record {
  few_symbols = few;
  few_events = few_events;
  few_starts = few_starts faces g symbols starts order one bits;
  events_fit = fit;
  events_in_order = in_order;
  sources_rise = rises 0 events (λ d h. omega arith) in_order;
  waiting = as_many_wait faces vertices g symbols events starts order one kept bits long;
  read_back = read_back faces vertices g symbols events starts order one kept bits long;
}
