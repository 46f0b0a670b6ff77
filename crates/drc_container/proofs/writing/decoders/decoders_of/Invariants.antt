use Rattle.std.proofs.Common.{◌≡◌, map, take}
use Rattle.std.specs.List.{enumerate_from}
use Rattle.drc_container.specs.writing.WrittenOnSurface.{decoder_for}
use Rattle.drc_container.specs.surface.AttributeSurfaces.{glued_on}
use Rattle.drc_container.proofs.writing.decoders.decoders_of.Given as goal

abbrev pub invariant-loop-attr : goal.invariant-loop-attr
invariant-loop-attr l = l.decoders.items ≡ map (λ (k, h). decoder_for l.coding (glued_on l.s) k h) (enumerate_from 0 (take l.attr l.s.mesh.heads))
