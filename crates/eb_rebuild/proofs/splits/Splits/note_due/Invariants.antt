-- What is left to note, with what is kept so far, comes to the same.
use Rattle.std.proofs.Common.{◌≡◌, suc, ◌≤◌, length, vec_len, All}
use Rattle.drc_base.specs.declared.limits.TheConstants.{MAX_FACES}
use Rattle.eb_machine.specs.Machine.{note_events}
use Rattle.eb_machine.specs.Events.{IsEventOf}
use Rattle.eb_rebuild.specs.Kept.{counted_down, no_event, kept_in, HasRoomFor, AreKeptBelow}
use Rattle.eb_rebuild.proofs.splits.Splits.note_due.Given as goal

abbrev pub invariant-noting : goal.invariant-noting
invariant-noting l = record {
  left : l.self-inside.left ≤ vec_len l.self-inside.events;
  small : length l.self-inside.kept.sides ≤ MAX_FACES;
  valid : All (IsEventOf (length l.self-inside.kept.sides)) l.self-inside.events.items;
  roomy : All (HasRoomFor l.self-inside.kept.numbers (length l.self-inside.kept.sides)) l.self-inside.events.items;
  long : length l.self-inside.kept.sides ≡ l.symbols;
  fewer : l.symbols ≡ length l.fn.self.kept;
  same : note_events l.symbols l.face l.fn.self.events (kept_in l.fn.self.kept) ≡ note_events l.symbols l.face (counted_down no_event l.self-inside.left l.self-inside.events.items) (kept_in l.self-inside.kept.sides);
  below : AreKeptBelow l.face l.fn.self.kept → AreKeptBelow (suc l.face) l.self-inside.kept.sides;
}

abbrev pub decreases-noting : goal.decreases-noting
decreases-noting l = l.self-inside.left
