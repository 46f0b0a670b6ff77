-- How the machine notes events, one at a time.
use Rattle.std.proofs.Common.{◌≡◌, ℕ, suc, ◌-◌, ◌<◌, Bool, not, is_none, List, [], ◌∷◌, Option, Some, None, Result, Ok, Err, refl, ap, ◌∙◌, arith, lt-ltb, le-ltb}
use Rattle.std.proofs.lemmas.Bool.{cond-true, cond-false}
use Rattle.drc_base.specs.declared.kinds.Kind.TheVariants as kind
use Rattle.drc_base.specs.declared.faults.Fault.{Fault}
use Rattle.drc_base.specs.Steps.{◌>>=◌}
use Rattle.corner_table.specs.declared.symbols.Event.{Event}
use Rattle.corner_table.specs.Sides.{Side, side}
use Rattle.eb_machine.specs.Machine.{note_events, must_be, fault, reserve, event_place}

abbrev pub Noted : Type 0
Noted = Result (List Event × (ℕ → Option Side)) Fault

-- nothing is left
pub note_none : (n i : ℕ) (kept : ℕ → Option Side) → note_events n i [] kept ≡ Ok ([], kept)
unfolding note_events
note_none n i kept = refl

-- the last event is due later
pub note_later : (n i : ℕ) (e : Event) (es : List Event) (kept : ℕ → Option Side) → e.source < n - suc i → note_events n i (e ∷ es) kept ≡ Ok (e ∷ es, kept)
unfolding note_events
note_later n i e es kept h = cond-true _ _ _ (lt-ltb e.source (n - suc i) h)

-- its source is passed
pub note_passed : (n i : ℕ) (e : Event) (es : List Event) (kept : ℕ → Option Side) → n - suc i < e.source → note_events n i (e ∷ es) kept ≡ Err (fault kind.EventOrder i)
unfolding note_events
note_passed n i e es kept h =
    cond-false _ _ _ (le-ltb e.source (n - suc i) (omega arith))
    ∙ ap (λ (t : Bool). must_be (not t) kind.EventOrder i >>= λ u. must_be (is_none (kept (n - suc e.split))) kind.Taken i >>= λ v. note_events n i es (reserve (n - suc e.split) (side i (event_place e.right)) kept)) (lt-ltb (n - suc i) e.source h)

-- it is due: what is kept for its split decides
pub note_due : (n i : ℕ) (e : Event) (es : List Event) (kept : ℕ → Option Side) → e.source ≡ n - suc i → note_events n i (e ∷ es) kept ≡ (must_be (is_none (kept (n - suc e.split))) kind.Taken i >>= λ v. note_events n i es (reserve (n - suc e.split) (side i (event_place e.right)) kept))
unfolding note_events
note_due n i e es kept h =
    cond-false _ _ _ (le-ltb e.source (n - suc i) (omega arith))
    ∙ ap (λ (t : Bool). must_be (not t) kind.EventOrder i >>= λ u. must_be (is_none (kept (n - suc e.split))) kind.Taken i >>= λ v. note_events n i es (reserve (n - suc e.split) (side i (event_place e.right)) kept)) (le-ltb (n - suc i) e.source (omega arith))

pub note_taken : (n i : ℕ) (e : Event) (es : List Event) (kept : ℕ → Option Side) (a : Side) → e.source ≡ n - suc i → kept (n - suc e.split) ≡ Some a → note_events n i (e ∷ es) kept ≡ Err (fault kind.Taken i)
note_taken n i e es kept a h k =
    note_due n i e es kept h ∙ ap (λ (o : Option Side). must_be (is_none o) kind.Taken i >>= λ v. note_events n i es (reserve (n - suc e.split) (side i (event_place e.right)) kept)) k

pub note_more : (n i : ℕ) (e : Event) (es : List Event) (kept : ℕ → Option Side) → e.source ≡ n - suc i → kept (n - suc e.split) ≡ None → note_events n i (e ∷ es) kept ≡ note_events n i es (reserve (n - suc e.split) (side i (event_place e.right)) kept)
note_more n i e es kept h k =
    note_due n i e es kept h ∙ ap (λ (o : Option Side). must_be (is_none o) kind.Taken i >>= λ v. note_events n i es (reserve (n - suc e.split) (side i (event_place e.right)) kept)) k
