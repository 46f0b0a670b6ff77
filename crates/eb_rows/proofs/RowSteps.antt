-- A rebuilding by rows after a step, seen without its names.
use Rattle.std.proofs.Common.{◌≡◌, ℕ, suc, ◌+◌, ◌*◌, ◌∷◌, Result, Ok, Err, sym, refl, ap, ◌∙◌, subst, arith}
use Rattle.drc_base.specs.declared.faults.Fault.{Fault}
use Rattle.drc_base.specs.declared.faults.Refusal.{Refusal}
use Rattle.corner_table.specs.declared.symbols.Symbol.TheVariants.{E}
use Rattle.corner_table.specs.Table.{gluing_of}
use Rattle.eb_machine.specs.Machine.{State, step}
use Rattle.eb_machine.proofs.Steps.{Next, same_state, end_steps, end_refused}
use Rattle.eb_rows.specs.declared.active_rows.Row.{Row as NumberedRow}
use Rattle.eb_rebuild.specs.Kept.{kept_in}
use Rattle.eb_rebuild.specs.Linked.{LinkValue, state_of, Does, refused_by}
use Rattle.eb_rows.specs.Rowed.{RowValue, IsRowIn, plain_of, Tries}
use Rattle.eb_rebuild.proofs.Linking.{noted_does, NotedBy, raised, Taken}

-- a fault is a refusal
pub tries_of : (next : Next) (new : State) (r : Result (Unit {0}) Fault) (q : Result (Unit {0}) Refusal) → q ≡ refused_by r → Does next new r → Tries next new q
tries_of next new r q e h = subst (Tries next new) (sym e) (go r h)
  where
    go : (r : Result (Unit {0}) Fault) → Does next new r → Tries next new (refused_by r)
    go (Ok u) h = h
    go (Err f) h = h

pub end_does : (value new : LinkValue) (m i : ℕ) (r : Result (Unit {0}) Fault) → new.table.faces ≡ suc value.table.faces → gluing_of new.table ≡ gluing_of value.table → new.stack.sides ≡ (3 * value.table.faces) ∷ value.stack.sides → new.made ≡ value.made + 3 → new.closes ≡ value.closes →
    m ≡ value.plan.symbols → i ≡ value.table.faces → NotedBy value new m i r → Does (step value.plan.symbols E (state_of value)) (state_of new) r
end_does value new m i r faces glued stack made closes p q h =
    noted_does (step value.plan.symbols E (state_of value)) (state_of new) value.plan.symbols value.table.faces m i value.splits.events new.splits.events (kept_in value.splits.kept) (kept_in new.splits.kept) r p q h
    (λ e. end_steps value.plan.symbols (state_of value) new.splits.events (kept_in new.splits.kept) e ∙ ap {A = State} Ok (same_state (sym faces) (sym glued) (raised value.table.faces value.stack.sides new.stack.sides stack) refl refl (sym made) (sym closes)))
    (λ x e. end_refused value.plan.symbols (state_of value) x e)

-- the row just taken off
pub taken_row : (old mid value : RowValue) (a : NumberedRow) → mid ≡ record old { stack = mid.stack } → value ≡ mid → old.stack.sides ≡ a.side ∷ mid.stack.sides → IsRowIn old.named a → Taken (plain_of old) (plain_of mid) (plain_of value) a.side
taken_row old mid value a r v e R = record {
  rest = ap plain_of r;
  view = ap plain_of v;
  sides = e;
  free = R.free.free;
  below = (let w = R.free.within in omega arith);
}
