use Rattle.std.proofs.Common.{◌∙◌, sym}
use Rattle.symbol_coding.proofs.Values.{bits-taken}
use Rattle.eb_section.proofs.EventLists.{side_taken}
use Rattle.eb_section.proofs.events.next_side.Goals as goal

pub returns : goal.returns
returns c =
    let taken = bits-taken 1 c.unwrap.result c.args.sides.now c.bits.new.self (sym c.unwrap.ensures ∙ c.bits.ensures.value) c.bits.ensures.after in
    side_taken c.unwrap.result c.args.sides.now c.bits.new.self _ taken c.is_right.ensures
