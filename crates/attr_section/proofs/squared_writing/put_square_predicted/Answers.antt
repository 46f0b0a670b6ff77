-- Values of a prediction that corrects are read back from their corrections, and those of any other from integers.
use Rattle.std.proofs.Common.{◌≡◌, ◌∙◌, sym, true, false, ap}
use Rattle.std.specs.Option.{option_map}
use Rattle.predict.specs.Surfaces.{surface_of}
use Rattle.attr_section.specs.declared.square_predictions.SquareFacts.{SquareFacts}
use Rattle.attr_section.specs.TablePositions.{positions_in}
use Rattle.attr_section.specs.Squared.{square_facts}
use Rattle.attr_section.proofs.SpelledValues.{on_ok}
use Rattle.attr_section.proofs.SpelledSquares.{square-corrected_spelled, square-uncorrected_spelled, there-both}
use Rattle.attr_section.proofs.squared_writing.put_square_predicted.Goals as goal

pub returns-then-facts-clause-again : goal.returns-then-facts-clause-again
returns-then-facts-clause-again c =
    let w = surface_of (option_map (λ t. t.now) c.args.on) in
    let ps = option_map (λ p. positions_in p.now) c.args.positions in
    let q = c.args.prediction in
    let corrects : (square_facts q).corrects ≡ true = sym (ap (λ (f : SquareFacts). f.corrects) c.facts.ensures) ∙ c.if-facts.true in
    on_ok c.put_square_corrected.result
    (λ spelled. square-corrected_spelled c.args.plain q w ps c.args.bits c.args.values.now (λ takes. (there-both c.args.on c.args.positions (c.requires.there takes)).1) corrects spelled)
    c.put_square_corrected.ensures.again

pub returns-else-facts-clause-again : goal.returns-else-facts-clause-again
returns-else-facts-clause-again c =
    let w = surface_of (option_map (λ t. t.now) c.args.on) in
    let ps = option_map (λ p. positions_in p.now) c.args.positions in
    let q = c.args.prediction in
    let none : (square_facts q).corrects ≡ false = sym (ap (λ (f : SquareFacts). f.corrects) c.facts.ensures) ∙ c.if-facts.false in
    on_ok c.put_integers.result
    (λ spelled. square-uncorrected_spelled c.args.plain q w ps c.args.bits c.args.values.now (λ takes. (there-both c.args.on c.args.positions (c.requires.there takes)).1) none spelled)
    c.put_integers.ensures.again
