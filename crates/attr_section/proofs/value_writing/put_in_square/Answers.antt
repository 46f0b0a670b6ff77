-- The prediction is the one whose number the values have.
use Rattle.std.proofs.Common.{◌≡◌, ℕ, ℤ, List, Option, sym, subst}
use Rattle.std.specs.Option.{option_map}
use Rattle.predict.specs.Surfaces.{surface_of}
use Rattle.attr_section.specs.TablePositions.{positions_in}
use Rattle.attr_section.specs.WrittenSquares.{square_code, settled_square, SquareSpelled}
use Rattle.attr_section.specs.Written.{CanAsk}
use Rattle.attr_section.proofs.SpelledSquares.{square_told, square_values_spelled}
use Rattle.attr_section.proofs.value_writing.put_in_square.Goals as goal

pub returns-clause-again : goal.returns-clause-again
returns-clause-again c = λ found is.
    let w = surface_of (option_map (λ t. t.now) c.args.on) in
    let ps = option_map (λ p. positions_in p.now) c.args.positions in
    let v = c.args.v.now in
    let a = c.square_prediction_of-asked.result in
    let (q, told, can) = subst (λ (o : Option ℕ). CanAsk w o c.args.head.now.comps v.predict v.values) c.requires.octa c.requires.values.asked in
    let code : square_code a ≡ v.predict = square_told q v.predict (square_code a) c.square_prediction_of-asked.ensures told in
    square_values_spelled c.args.plain w ps found c.args.head.now v c.args.bits a is c.requires.octa (sym code)
    (subst (λ (vs : List ℤ). SquareSpelled c.args.plain (settled_square w ps c.args.bits vs a) w ps c.args.bits vs) c.as_slice-values.ensures.items c.in_ok-put_squared.ensures.again)
