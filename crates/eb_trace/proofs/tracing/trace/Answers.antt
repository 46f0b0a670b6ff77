-- What is given out is the walk's.
use Rattle.std.proofs.Common.{ℕ, sym, subst, List, map, reverse, ap, ◌∙◌}
use Rattle.std.proofs.lemmas.List.{reverse-reverse, length-reverse}
use Rattle.corner_table.specs.Carried.{IsRenumbering}
use Rattle.eb_trace.specs.Trace.{TraceWalk, word_of, order_of}
use Rattle.eb_trace.specs.declared.notes.Entered.{Entered}
use Rattle.corner_table.specs.Table.{gluing_of}
use Rattle.eb_trace.proofs.Given.{vertices_are, rebuilt_from, bits_given, named_given, events_given, events_taken, few_events, few_symbols, carried_given}
use Rattle.eb_trace.proofs.StartBits.{walk_orders}
use Rattle.eb_trace.proofs.Writable.{few_starts, is_writable}
use Rattle.eb_trace.proofs.Going.{few_of, trace_same, symbols_are}
use Rattle.eb_trace.proofs.tracing.trace.Goals as goal

pub walk_all-requires-clause-few : goal.walk_all-requires-clause-few
walk_all-requires-clause-few c = few_of _ _ _ _ c.in_ok-surface.ensures.faces c.in_ok-surface.ensures.gluing c.requires.proper.gluing c.requires.proper.three_fans

pub returns-clause-symbols : goal.returns-clause-symbols
returns-clause-symbols c =
    c.from_vec.ensures ∙ c.in_ok-symbols.ensures ∙ ap (λ (l : List Entered). map (λ (e : Entered). e.symbol) l) c.as_slice.ensures.value ∙ symbols_are c.in_ok-notes.notes.entries.items
    ∙ ap (λ (w : TraceWalk). reverse (word_of w)) (trace_same _ _ _ _ _ c.in_ok-surface.ensures.faces c.in_ok-surface.ensures.gluing c.in_ok-notes.ensures)

pub returns-clause-events : goal.returns-clause-events
returns-clause-events c =
    c.from_vec-2.ensures ∙ sym (reverse-reverse c.in_ok-notes.notes.events.items)
    ∙ ap (λ (w : TraceWalk). reverse w.events) (trace_same _ _ _ _ _ c.in_ok-surface.ensures.faces c.in_ok-surface.ensures.gluing c.in_ok-notes.ensures)

pub returns-clause-events_fit : goal.returns-clause-events_fit
returns-clause-events_fit c = events_taken _ _ (events_given c.args.t.now.faces (gluing_of c.args.t.now) c.requires.proper.gluing c.requires.proper.three_fans _ _ (returns-clause-symbols c) (returns-clause-events c))

pub returns-clause-events_split : goal.returns-clause-events_split
returns-clause-events_split c = (events_given c.args.t.now.faces (gluing_of c.args.t.now) c.requires.proper.gluing c.requires.proper.three_fans _ _ (returns-clause-symbols c) (returns-clause-events c)).fit

pub returns-clause-events_in_order : goal.returns-clause-events_in_order
returns-clause-events_in_order c = (events_given c.args.t.now.faces (gluing_of c.args.t.now) c.requires.proper.gluing c.requires.proper.three_fans _ _ (returns-clause-symbols c) (returns-clause-events c)).in_order

pub returns-clause-split_once : goal.returns-clause-split_once
returns-clause-split_once c = (events_given c.args.t.now.faces (gluing_of c.args.t.now) c.requires.proper.gluing c.requires.proper.three_fans _ _ (returns-clause-symbols c) (returns-clause-events c)).once

pub returns-clause-few_events : goal.returns-clause-few_events
returns-clause-few_events c = few_events _ _ (events_given c.args.t.now.faces (gluing_of c.args.t.now) c.requires.proper.gluing c.requires.proper.three_fans _ _ (returns-clause-symbols c) (returns-clause-events c))

pub returns-clause-few : goal.returns-clause-few
returns-clause-few c = few_symbols c.args.t.now.faces (gluing_of c.args.t.now) c.requires.proper.gluing c.requires.proper.three_fans _ (returns-clause-symbols c)

pub returns-clause-vertices : goal.returns-clause-vertices
returns-clause-vertices c = vertices_are c.in_ok-surface.surface c.args.t.now.faces (gluing_of c.args.t.now) c.in_ok-surface.ensures.surface c.in_ok-surface.ensures.faces c.in_ok-surface.ensures.gluing

pub returns-clause-order : goal.returns-clause-order
returns-clause-order c = c.from_vec-4.ensures ∙ c.in_ok-order.ensures ∙ ap order_of (trace_same _ _ _ _ _ c.in_ok-surface.ensures.faces c.in_ok-surface.ensures.gluing c.in_ok-notes.ensures)

pub returns-clause-once : goal.returns-clause-once
returns-clause-once c = subst (λ (x : List (ℕ × ℕ)). IsRenumbering c.args.t.now.faces x) (sym (returns-clause-order c)) (walk_orders c.args.t.now.faces (gluing_of c.args.t.now) c.requires.proper.gluing c.requires.proper.three_fans)

pub returns-clause-carried : goal.returns-clause-carried
returns-clause-carried c = (carried_given c.args.t.now.faces (gluing_of c.args.t.now) c.requires.proper.gluing c.requires.proper.three_fans _ _ (returns-clause-order c) (returns-clause-vertices c)).0

pub returns-clause-counted : goal.returns-clause-counted
returns-clause-counted c = (carried_given c.args.t.now.faces (gluing_of c.args.t.now) c.requires.proper.gluing c.requires.proper.three_fans _ _ (returns-clause-order c) (returns-clause-vertices c)).1

pub returns-clause-starts : goal.returns-clause-starts
returns-clause-starts c =
    c.from_vec-3.ensures ∙ sym (reverse-reverse c.in_ok-notes.notes.bits.items)
    ∙ ap (λ (w : TraceWalk). reverse w.bits) (trace_same _ _ _ _ _ c.in_ok-surface.ensures.faces c.in_ok-surface.ensures.gluing c.in_ok-notes.ensures)

pub returns-clause-kept : goal.returns-clause-kept
returns-clause-kept c = rebuilt_from c.args.t.now.faces (gluing_of c.args.t.now) c.requires.proper.gluing c.requires.proper.three_fans _ _ _ _ _ (returns-clause-symbols c) (returns-clause-events c) (returns-clause-starts c) (returns-clause-order c) (returns-clause-vertices c)

pub returns-clause-bits : goal.returns-clause-bits
returns-clause-bits c = bits_given c.args.t.now.faces (gluing_of c.args.t.now) c.requires.proper.gluing c.requires.proper.three_fans _ _ _ (returns-clause-symbols c) (returns-clause-starts c) (returns-clause-order c)

pub returns-clause-named : goal.returns-clause-named
returns-clause-named c = named_given c.args.t.now.faces (gluing_of c.args.t.now) c.requires.proper.gluing c.requires.proper.three_fans _ _ _ _ _ (returns-clause-symbols c) (returns-clause-events c) (returns-clause-starts c) (returns-clause-order c) (returns-clause-vertices c)

pub returns-clause-few_starts : goal.returns-clause-few_starts
returns-clause-few_starts c = few_starts c.args.t.now.faces (gluing_of c.args.t.now) _ _ _ (returns-clause-carried c) (returns-clause-bits c)

pub returns-clause-writable : goal.returns-clause-writable
returns-clause-writable c =
    is_writable c.args.t.now.faces _ (gluing_of c.args.t.now) _ _ _ _ (returns-clause-carried c) (returns-clause-kept c) (returns-clause-bits c) (length-reverse _)
    (returns-clause-few c) (returns-clause-few_events c) (returns-clause-events_fit c) (returns-clause-events_in_order c)
