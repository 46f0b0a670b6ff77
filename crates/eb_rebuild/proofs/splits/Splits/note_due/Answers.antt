-- Each turn of the loop is one event of the machine.
use Rattle.std.proofs.Common.{◌≡◌, suc, ◌<◌, ℕ, List, length, get_or, All, ap, sym, refl, subst, ◌∙◌, arith, rules}
use Rattle.std.proofs.lemmas.List.{length-set}
use Rattle.std.proofs.lemmas.List.Elements.{All-get_or}
use Rattle.corner_table.specs.declared.symbols.Event.{Event}
use Rattle.eb_rebuild.specs.Kept.{no_event, HasRoomFor, AreKeptBelow}
use Rattle.eb_rebuild.proofs.Noting.{left_none, left_later, left_passed, left_taken, left_more, still_events, still_room, kept_below-set_more}
use Rattle.eb_rebuild.proofs.splits.Splits.note_due.Goals as goal

-- there is room for the side of the last event left
last_room : (numbers : List ℕ) (n left : ℕ) (events : List Event) (e : Event) → e ≡ get_or events left no_event → left < length events → All (HasRoomFor numbers n) events → HasRoomFor numbers n e
last_room numbers n left events e q within h = subst (HasRoomFor numbers n) (sym q) (All-get_or (HasRoomFor numbers n) events left no_event within h)

pub returns-then-self-eq0-clause-noted : goal.returns-then-self-eq0-clause-noted
returns-then-self-eq0-clause-noted c =
    rw (← c.noting.invariant.fewer) (c.noting.invariant.same ∙ left_none _ _ _ _ _ c.if-self-eq0.true)

pub returns-then-event-due-clause-noted : goal.returns-then-event-due-clause-noted
returns-then-event-due-clause-noted c =
    rw (← c.noting.invariant.fewer) (c.noting.invariant.same ∙ left_later _ _ _ _ _ c.event_at-event.result c.if-self-eq0.false c.event_at-event.ensures c.if-event-due.true)

pub returns-then-due-event-clause-noted : goal.returns-then-due-event-clause-noted
returns-then-due-event-clause-noted c =
    rw (← c.noting.invariant.fewer, c.new.ensures, c.from.ensures) (c.noting.invariant.same ∙ left_passed _ _ _ _ _ c.event_at-event.result c.if-self-eq0.false c.event_at-event.ensures c.if-due-event.true)

pub keep-requires : goal.keep-requires
keep-requires c =
    rw (c.split_number-split.ensures, ← c.noting.invariant.long)
    (last_room _ _ _ _ _ c.event_at-event.ensures (let l = c.noting.invariant.left in let some = c.if-self-eq0.false in let k = c.noting.self-inside.events.ok.0 in omega arith) c.noting.invariant.roomy)

pub invariant_of-self-then-not-keep : goal.invariant_of-self-then-not-keep
invariant_of-self-then-not-keep c =
    let same = c.if-not-keep.ensures.sides in
    let long = ap (λ (l : List ℕ). length l) same in
    let small = c.noting.invariant.small in
    (c.noting.invariant.left, omega arith, still_events _ _ _ long c.noting.invariant.valid, still_room _ _ _ _ _ long c.keep.ensures.numbers c.noting.invariant.roomy)

pub returns-then-not-keep-clause-noted : goal.returns-then-not-keep-clause-noted
returns-then-not-keep-clause-noted c =
    rw (← c.noting.invariant.fewer, c.new-then-not-keep.ensures, c.from-then-not-keep.ensures)
    (c.noting.invariant.same ∙ left_taken _ _ _ _ _ c.event_at-event.result c.split_number-split.result c.if-self-eq0.false c.event_at-event.ensures
    (λ h. (let f = c.if-event-due.false in absurd (omega arith))) (λ h. (let f = c.if-due-event.false in absurd (omega arith))) c.split_number-split.ensures
    (λ h. absurd (search (rules))))

pub noting-preserved : goal.noting-preserved
noting-preserved c =
    let old = c.noting.self-inside.kept.sides in
    let more = c.keep.new.self.sides in
    let fewer = c.noting.invariant.fewer in
    let at_most = c.requires.face in
    let written = c.if-not-keep.ensures.sides in
    let long : length more ≡ length old = ap (λ (l : List ℕ). length l) written ∙ length-set old c.split_number-split.result c.event_side.result in
    let within : c.split_number-split.result < length old = (let l = c.noting.invariant.long in let s = c.split_number-split.ensures in omega arith) in
    record {
      left = (let l = c.noting.invariant.left in omega arith);
      small = (let s = c.noting.invariant.small in omega arith);
      valid = still_events old more _ long c.noting.invariant.valid;
      roomy = still_room old more _ _ _ long c.keep.ensures.numbers c.noting.invariant.roomy;
      long = long ∙ c.noting.invariant.long;
      fewer = c.noting.invariant.fewer;
      same = c.noting.invariant.same ∙ left_more _ _ _ _ old more c.event_at-event.result c.split_number-split.result c.event_side.result c.if-self-eq0.false c.event_at-event.ensures
          (λ h. (let f = c.if-event-due.false in absurd (omega arith))) (λ h. (let f = c.if-due-event.false in absurd (omega arith))) c.split_number-split.ensures (c.if-not-keep.ensures.free.0 refl)
          c.event_side.ensures.side written within (let m = c.requires.limit in omega arith);
      below = λ K. subst (λ (l : List ℕ). AreKeptBelow (suc c.args.face) l) (sym written) (kept_below-set_more c.args.face _ _ _ within (c.noting.invariant.below K) (let b = c.event_side.ensures.within in omega arith));
    }
