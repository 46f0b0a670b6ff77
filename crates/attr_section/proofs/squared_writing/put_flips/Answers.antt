use Rattle.std.proofs.Common.{◌∙◌, sym, ap}
use Rattle.std.proofs.lemmas.Bool.{false≢true}
use Rattle.attr_section.specs.declared.square_predictions.SquareFacts.{SquareFacts}
use Rattle.attr_section.proofs.SpelledValues.{on_ok}
use Rattle.attr_section.proofs.squared_writing.put_flips.Goals as goal

pub returns-then-facts-clause-again : goal.returns-then-facts-clause-again
returns-then-facts-clause-again c = on_ok c.put_bits.result (λ is takes. is) c.put_bits.ensures.again

pub returns-else-facts-clause-again : goal.returns-else-facts-clause-again
returns-else-facts-clause-again c = λ takes.
    absurd (false≢true (sym c.if-facts.false ∙ ap (λ (f : SquareFacts). f.takes_positions) c.facts.ensures ∙ takes))
