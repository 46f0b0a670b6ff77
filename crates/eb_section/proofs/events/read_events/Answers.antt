use Rattle.std.proofs.Common.{All, sym, subst}
use Rattle.eb_machine.specs.Events.{IsEventOf}
use Rattle.eb_section.specs.Events.{AreNumbersOf}
use Rattle.eb_section.proofs.EventLists.{each_event}
use Rattle.eb_section.proofs.events.read_events.Goals as goal

pub returns-clause-within : goal.returns-clause-within
returns-clause-within c =
    let within : All (AreNumbersOf c.args.opening.symbols) c.as_slice.result.now = subst (All (AreNumbersOf c.args.opening.symbols)) (sym c.as_slice.ensures.value) c.in_ok-numbers.ensures.within in
    subst (All (IsEventOf c.args.opening.symbols)) (sym c.in_ok-with_sides.ensures.events) (each_event c.args.opening.symbols c.as_slice.result.now _ within)
