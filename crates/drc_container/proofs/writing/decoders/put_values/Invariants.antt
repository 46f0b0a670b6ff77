use Rattle.std.proofs.Common.{◌≡◌, ◌++◌, take}
use Rattle.std.specs.List.{All, flat_map, enumerate_from}
use Rattle.drc_container.specs.writing.WrittenOnSurface.{positions_before, attribute_bytes}
use Rattle.attr_section.specs.TablePositions.{read_in}
use Rattle.drc_container.specs.choice.Predicts.{needed_number}
use Rattle.drc_container.specs.writing.Encoded.{AttributeSpelled}
use Rattle.drc_container.specs.surface.AttributeSurfaces.{glued_on}
use Rattle.drc_container.proofs.writing.decoders.put_values.Given as goal

abbrev pub invariant-loop-attr : goal.invariant-loop-attr
invariant-loop-attr l = record {
  bytes : l.out.items ≡ l.fn.out.items ++ flat_map (λ (k, h). attribute_bytes l.coding (glued_on l.s) k h) (enumerate_from 0 (take l.attr l.s.mesh.heads));
  again : All (λ (k, h). AttributeSpelled (needed_number l.coding.predict l.s.mesh.heads) l.coding (glued_on l.s) k h) (enumerate_from 0 (take l.attr l.s.mesh.heads));
  found : read_in l.found ≡ positions_before l.coding (glued_on l.s) l.attr;
}
