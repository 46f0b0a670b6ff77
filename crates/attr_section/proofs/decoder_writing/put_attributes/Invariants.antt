use Rattle.std.proofs.Common.{◌≡◌, ◌++◌, drop}
use Rattle.std.specs.Option.{option_map}
use Rattle.predict.specs.Surfaces.{surface_of}
use Rattle.attr_section.specs.TablePositions.{read_in}
use Rattle.attr_section.specs.Written.{attributes_bytes, AttributesSpelled}
use Rattle.attr_section.proofs.decoder_writing.put_attributes.Given as goal

-- what is still to be written stands behind what was written
abbrev pub invariant-loop-i : goal.invariant-loop-i
invariant-loop-i l =
    let w = surface_of (option_map (λ t. t.now) l.on) in
    (l.out.items ++ attributes_bytes l.plain w (read_in l.positions) (drop l.i l.heads) (drop l.i l.attributes) ≡ l.fn.out.items ++ attributes_bytes l.plain w (read_in l.found) l.heads l.attributes)
    × (AttributesSpelled l.plain w (read_in l.positions) (drop l.i l.heads) (drop l.i l.attributes) → AttributesSpelled l.plain w (read_in l.found) l.heads l.attributes)
