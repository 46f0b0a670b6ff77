use Rattle.std.proofs.Common.{◌≡◌, ℕ, ◌+◌, ◌-◌, length, ap, sym, ◌∙◌, arith}
use Rattle.symbol_coding.proofs.Slots.{next_count, symbols-taken}
use Rattle.symbol_coding.proofs.symbols.CodedSymbols.next.Goals as goal

pub overflow_sub-self : goal.overflow_sub-self
overflow_sub-self c =
    let i = c.self.inside in
    let n : i.left ≡ length c.args.self.now = sym (next_count i.left i.decoder.bits i.table i.decoder.state) ∙ ap (λ xs. length xs) c.self.view_is in
    omega (arith, n, c.requires)

pub returns : goal.returns
returns c =
    let i = c.self.inside in
    let n : i.left ≡ length c.args.self.now = sym (next_count i.left i.decoder.bits i.table i.decoder.state) ∙ ap (λ xs. length xs) c.self.view_is in
    let count : i.left ≡ (i.left - 1) + 1 = omega (arith, n, c.requires) in
    sym c.self.view_is
    ∙ symbols-taken i.left (i.left - 1) c.pull-symbol.result i.table i.decoder c.pull-symbol.new.decoder count c.pull-symbol.ensures.symbol c.pull-symbol.ensures.after
