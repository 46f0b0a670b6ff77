use Rattle.std.proofs.Common.{length, ap, sym, ◌∙◌}
use Rattle.symbol_coding.proofs.Slots.{next_count}
use Rattle.symbol_coding.proofs.symbols.CodedSymbols.len.Goals as goal

pub returns : goal.returns
returns c =
    let i = c.self.inside in
    sym (next_count i.left i.decoder.bits i.table i.decoder.state) ∙ ap (λ xs. length xs) c.self.view_is
