use Rattle.std.proofs.Common.{◌≡◌, ◌<◌, ◌^◌, ◌∙◌, true, Bool, List, length, sym, subst}
use Rattle.std.specs.Option.{option_map}
use Rattle.rans_binary.specs.Blocks.{block, IsBlockOf}
use Rattle.predict.specs.Surfaces.{surface_of}
use Rattle.attr_section.specs.TablePositions.{positions_in}
use Rattle.attr_section.specs.Squared.{square_facts, centre_of}
use Rattle.attr_section.proofs.SpelledSquares.{square-put, flips-few, there-both}
use Rattle.attr_section.proofs.squared_writing.put_square_corrected.Goals as goal

pub put_flips-requires : goal.put_flips-requires
put_flips-requires c =
    let w = surface_of (option_map (λ t. t.now) c.args.on) in
    let ps = option_map (λ p. positions_in p.now) c.args.positions in
    subst (λ (f : List Bool). length f < 2 ^ 31) (sym (c.deref.ensures.value ∙ c.in_ok-symbols.ensures.flips))
    (flips-few c.args.prediction w ps (centre_of c.args.bits) c.args.values.now c.requires.few
    (λ takes. there-both c.args.on c.args.positions (c.requires.there takes)))

pub returns-clause-again : goal.returns-clause-again
returns-clause-again c = λ at.
    let w = surface_of (option_map (λ t. t.now) c.args.on) in
    let ps = option_map (λ p. positions_in p.now) c.args.positions in
    square-put c.args.plain at c.args.prediction w ps c.args.bits c.args.values.now c.in_ok-symbols.symbols.items c.in_ok-symbols.flips.items
    c.in_ok-symbols.ensures.symbols c.in_ok-symbols.ensures.flips c.in_ok-symbols.ensures.each
    c.in_ok-put_symbols.ensures.again c.in_ok-put_square.ensures.again
    (subst (λ (f : List Bool). (square_facts c.args.prediction).takes_positions ≡ true → IsBlockOf f (block f)) c.deref.ensures.value c.in_ok-put_flips.ensures.again)
    (λ takes. there-both c.args.on c.args.positions (c.requires.there takes))
    c.in_ok-symbols.ensures.again
