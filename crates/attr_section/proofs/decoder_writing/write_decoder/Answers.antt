use Rattle.std.proofs.Common.{◌≡◌, true}
use Rattle.std.specs.List.{list_all, zip}
use Rattle.std.specs.Option.{option_map}
use Rattle.std.proofs.lemmas.List.Elements.{All-weaker}
use Rattle.attr_heads.specs.Bounds.{in_bounds, bounds_of}
use Rattle.predict.specs.Surfaces.{surface_of}
use Rattle.attr_section.specs.TablePositions.{read_in}
use Rattle.attr_section.specs.Written.{ValuesPass}
use Rattle.attr_section.proofs.SpelledValues.{decoder_spelled}
use Rattle.attr_section.proofs.decoder_writing.write_decoder.Goals as goal

pub put_decoder-requires-clause-values : goal.put_decoder-requires-clause-values
put_decoder-requires-clause-values c = rw c.as_slice.ensures.items c.requires.values

pub returns-clause-again : goal.returns-clause-again
returns-clause-again c = λ flags n before entries spent place rest by counts few.
    let w = surface_of (option_map (λ t. t.now) c.args.on) in
    decoder_spelled c.args.plain w n (read_in c.args.found) before flags entries spent c.args.h.now c.args.v.now c.requires.values.each_head
    (All-weaker (λ (h, v). ValuesPass w h v) (λ (h, v). list_all (in_bounds (bounds_of h)) v.values ≡ true) (λ x pass. pass.bounded) (zip c.args.h.now.heads c.args.v.now) c.requires.values.each)
    (rw c.as_slice.ensures.items at c.in_ok-put_decoder.ensures.again) (rw c.as_slice.ensures.items at c.in_ok-put_decoder.ensures.ends) by counts few place rest
