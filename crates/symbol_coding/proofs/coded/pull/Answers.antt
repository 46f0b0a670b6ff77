use Rattle.symbol_coding.proofs.Slots.{next_symbol-is, after_symbol-is, slot-within}
use Rattle.symbol_coding.proofs.coded.pull.Goals as goal

pub find-symbol-requires : goal.find-symbol-requires
find-symbol-requires c = slot-within c.args.table.now c.args.decoder.now c.slot-slot.new.self c.slot-slot.result c.slot-slot.ensures.slot c.requires

pub returns-clause-symbol : goal.returns-clause-symbol
returns-clause-symbol c =
    next_symbol-is c.args.table.now c.args.decoder.now c.slot-slot.new.self c.slot-slot.result c.find-symbol.result c.slot-slot.ensures.refilled c.slot-slot.ensures.slot c.find-symbol.ensures.symbol

pub returns-clause-after : goal.returns-clause-after
returns-clause-after c =
    after_symbol-is c.args.table.now c.args.decoder.now c.slot-slot.new.self c.take.new.self _ c.cum.result c.prob.result c.slot-slot.ensures.refilled
    (next_symbol-is c.args.table.now c.args.decoder.now c.slot-slot.new.self c.slot-slot.result c.find-symbol.result c.slot-slot.ensures.refilled c.slot-slot.ensures.slot c.find-symbol.ensures.symbol)
    c.cum.ensures c.prob.ensures c.take.ensures
