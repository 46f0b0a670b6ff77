-- What a settled prediction needs is there, and values that it corrects are in canonical spelling.
use Rattle.std.specs.Option.{option_map}
use Rattle.predict.specs.Surfaces.{surface_of}
use Rattle.attr_section.specs.TablePositions.{positions_in}
use Rattle.attr_section.proofs.SpelledSquares.{bits_within, bounded_values, settled-needs, settled-canonical, both-there}
use Rattle.attr_section.proofs.squared_writing.put_squared.Goals as goal

pub settled-prediction-requires-clause-values : goal.settled-prediction-requires-clause-values
settled-prediction-requires-clause-values c =
    bounded_values c.args.bits c.args.values.now (bits_within c.args.bits c.requires.bits).0 c.requires.within

pub put_square_predicted-requires-clause-there : goal.put_square_predicted-requires-clause-there
put_square_predicted-requires-clause-there c = λ takes.
    let w = surface_of (option_map (λ t. t.now) c.args.on) in
    let ps = option_map (λ p. positions_in p.now) c.args.positions in
    let needs = settled-needs w ps c.args.bits c.args.values.now c.args.asked c.settled-prediction.result c.settled-prediction.ensures.settled takes in
    both-there c.args.on c.args.positions needs.0 needs.1

pub put_square_predicted-requires-clause-points : goal.put_square_predicted-requires-clause-points
put_square_predicted-requires-clause-points c = λ takes.
    let w = surface_of (option_map (λ t. t.now) c.args.on) in
    let ps = option_map (λ p. positions_in p.now) c.args.positions in
    c.requires.points (settled-needs w ps c.args.bits c.args.values.now c.args.asked c.settled-prediction.result c.settled-prediction.ensures.settled takes).2

pub put_square_predicted-requires-clause-values : goal.put_square_predicted-requires-clause-values
put_square_predicted-requires-clause-values c =
    bounded_values c.args.bits c.args.values.now (bits_within c.args.bits c.requires.bits).0 c.requires.within

pub put_square_predicted-requires-clause-canonical : goal.put_square_predicted-requires-clause-canonical
put_square_predicted-requires-clause-canonical c = λ corrects.
    let w = surface_of (option_map (λ t. t.now) c.args.on) in
    let ps = option_map (λ p. positions_in p.now) c.args.positions in
    settled-canonical w ps c.args.bits c.args.values.now c.args.asked c.settled-prediction.result c.settled-prediction.ensures.settled corrects
