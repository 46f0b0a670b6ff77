use Rattle.std.proofs.Common.{◌≡◌, ◌-◌, map}
use Rattle.std.specs.Prelude.{option_map}
use Rattle.std.specs.List.{range_with_len}
use Rattle.drc_container.specs.writing.WrittenOnSurface.{seam_bits_of}
use Rattle.drc_container.specs.surface.AttributeSurfaces.{glued_by, corner_flags_of}
use Rattle.drc_container.proofs.surface.seam_lists.seams_on.Given as goal

abbrev pub invariant-loop-attr : goal.invariant-loop-attr
invariant-loop-attr l = record {
  bits : map (λ v. v.items) l.lists.bits.items ≡ map (seam_bits_of (glued_by l.mesh l.sides)) (range_with_len 1 (l.attr - 1));
  flags : map (option_map (λ v. v.items)) l.lists.flags.items ≡ map (corner_flags_of (glued_by l.mesh l.sides)) (range_with_len 0 l.attr);
}
