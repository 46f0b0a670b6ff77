-- Symbols build a face each and close no side; closes take a side each.
use Rattle.std.proofs.Common.{◌≡◌, ℕ, ◌+◌, Bool, ◌==◌, nat_le, List, [], ◌∷◌, length, Option, Some, None, Result, Ok, Err, sym, refl, ap, ◌∙◌, arith}
use Rattle.drc_base.specs.declared.kinds.Kind.TheVariants as kind
use Rattle.drc_base.specs.declared.faults.Fault.{Fault}
use Rattle.drc_base.specs.Steps.{◌>>=◌}
use Rattle.corner_table.specs.Sides.{Side}
use Rattle.eb_machine.specs.Machine.{State, Plan, start, step, close, finish, must_be, fault, first_degenerate, take_symbols, close_all, rebuild}
use Rattle.eb_machine.specs.Closes.{SymbolsCloseNone, CloseTakesOne, AllAreClosed, FinishKeepsState, RunClosesAll}
use Rattle.eb_machine.proofs.Steps.{Next}
use Rattle.eb_machine.proofs.Counts.{If, if_ok, if_then, step_counts, close_counts}

-- what came between, where two steps went well
between : {A : Type 0} (r : Result A Fault) (f : A → Next) (t : State) → (r >>= f) ≡ Ok t → (x : A) × (r ≡ Ok x) × (f x ≡ Ok t)
between (Ok x) f t e = (x, refl, e)
between (Err g) f t e = absurd (no e)
  where
    no : (let r : Next = Err g in r) ≡ Ok t → ⊥
    no q = cc

ok_injective : (s t : State) → (let r : Next = Ok s in r) ≡ Ok t → s ≡ t
ok_injective s t e = cc

pub symbols_close_none : SymbolsCloseNone
unfolding take_symbols
symbols_close_none n [] s t e = let q : s ≡ t = ok_injective s t e in (sym (ap (λ (x : State). x.built) q) ∙ sym (add_none s.built), sym (ap (λ (x : State). x.closes) q))
  where
    add_none : (m : ℕ) → m + 0 ≡ m
    add_none m = omega arith
symbols_close_none n (x ∷ xs) s t e =
    let m = between (step n x s) (take_symbols n xs) t e in
    let one = step_counts n x s m.0 m.1 in
    let rest = symbols_close_none n xs m.0 t m.2 in
    let a = one.0 in
    let b = rest.0 in
    (omega arith, rest.1 ∙ one.1)

pub close_takes_one : CloseTakesOne
close_takes_one p b s t a rest q e = let k = close_counts p b s t a rest q e in (k.0, k.2)

-- any number of closes, of no more sides than wait
closed : (p : Plan) (bits : ℕ → Bool) (sides : List Side) (s t : State) → s.stack ≡ sides → close_all p bits (length sides) s ≡ Ok t → (t.stack ≡ []) × (t.closes ≡ s.closes + length sides)
unfolding close_all
closed p bits [] s t q e = let w : s ≡ t = ok_injective s t e in (sym (ap (λ (x : State). x.stack) w) ∙ q, (let k = ap (λ (x : State). x.closes) w in omega arith))
closed p bits (a ∷ sides) s t q e =
    let m = between (close p (bits s.closes) s) (close_all p bits (length sides)) t e in
    let one = close_counts p (bits s.closes) s m.0 a sides q m.1 in
    let rest = closed p bits sides m.0 t one.0 m.2 in
    let c = one.2 in
    let d = rest.1 in
    (rest.0, omega arith)

pub all_are_closed : AllAreClosed
all_are_closed p bits s t e = closed p bits s.stack s t refl e

-- the tests at the end
kept_where_tested : (p : Plan) (s : State) → If (λ (t : State). t ≡ s) (finish p s)
unfolding finish
kept_where_tested p s =
    if_then (λ (t : State). t ≡ s) (must_be (s.built == p.faces) kind.FaceCount s.built) (λ u. must_be (nat_le s.made p.created) kind.VertexCount s.made >>= λ v. last (first_degenerate s.built s.glued s.built))
    (λ u. if_then (λ (t : State). t ≡ s) (must_be (nat_le s.made p.created) kind.VertexCount s.made) (λ v. last (first_degenerate s.built s.glued s.built))
    (λ v. kept (first_degenerate s.built s.glued s.built)))
  where
    last : Option ℕ → Next
    last o = elim o [ None ↦ Ok s | Some f ↦ Err (fault kind.Degenerate f) ]

    kept : (o : Option ℕ) → If (λ (t : State). t ≡ s) (last o)
    kept None = refl
    kept (Some f) = tt

pub finish_keeps_state : FinishKeepsState
finish_keeps_state p s t e = if_ok (λ (x : State). x ≡ s) (finish p s) t e (kept_where_tested p s)

pub run_closes_all : RunClosesAll
unfolding rebuild
run_closes_all p symbols events bits t e =
    let first = between (take_symbols p.symbols symbols (start events)) (λ s. close_all p bits (length s.stack) s >>= finish p) t e in
    let all = between (close_all p bits (length first.0.stack) first.0) (finish p) t first.2 in
    let none : first.0.closes ≡ 0 = (symbols_close_none p.symbols symbols (start events) first.0 first.1).1 in
    let each = (all_are_closed p bits first.0 all.0 all.1).1 in
    let same : t.closes ≡ all.0.closes = ap (λ (x : State). x.closes) (finish_keeps_state p all.0 t all.2) in
    record { between = first.0; symbols_taken = first.1; waiting = omega arith }
