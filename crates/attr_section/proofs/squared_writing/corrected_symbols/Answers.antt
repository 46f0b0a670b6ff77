use Rattle.std.specs.Option.{option_map}
use Rattle.predict.specs.Surfaces.{surface_of}
use Rattle.attr_section.specs.TablePositions.{positions_in}
use Rattle.attr_section.proofs.SpelledSquares.{bits_within, squared-made}
use Rattle.attr_section.proofs.squared_writing.corrected_symbols.Goals as goal

pub returns-clause-again : goal.returns-clause-again
returns-clause-again c =
    squared-made c.args.prediction (surface_of (option_map (λ t. t.now) c.args.on)) (option_map (λ p. positions_in p.now) c.args.positions) c.args.bits c.square_of-square.result.centre
    c.in_ok-corrections.flips.items c.in_ok-corrections.corrections.items c.deref.result.now c.args.values.now c.in_ok-symbols.symbols.items
    (bits_within c.args.bits c.requires.bits).0 c.square_of-square.ensures c.deref.ensures.value c.in_ok-symbols.ensures c.in_ok-corrections.ensures.within c.in_ok-corrections.ensures.restores c.requires.canonical
