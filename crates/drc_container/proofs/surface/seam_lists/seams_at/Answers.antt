use Rattle.std.proofs.Common.{◌≡◌, ap, sym, ◌∙◌}
use Rattle.std.specs.List.{list_any}
use Rattle.drc_container.specs.writing.WrittenOnSurface.{seam_bits_of}
use Rattle.drc_container.specs.surface.AttributeSurfaces.{glued_by}
use Rattle.drc_container.proofs.lemmas.surface.Flags.{bits-are, flags-none, flags-some}
use Rattle.drc_container.proofs.surface.seam_lists.seams_at.Goals.{After-has_seam}
use Rattle.drc_container.proofs.surface.seam_lists.seams_at.Goals as goal

-- the bits are those of the attribute
bits : (c : After-has_seam) → c.in_ok-bits.bits.items ≡ seam_bits_of (glued_by c.args.mesh.now c.args.sides.now) c.args.attr
bits c =
    bits-are (glued_by c.args.mesh.now c.args.sides.now) c.args.attr c.args.sides.now.faces c.in_ok-flags.flags.items c.as_slice.result.now c.in_ok-bits.bits.items
    c.face_count-faces.ensures.gluing c.requires.faces c.in_ok-flags.ensures.seams c.as_slice.ensures.value c.in_ok-bits.ensures.bits

-- whether there is one that says so
found : (c : After-has_seam) → c.has_seam.result ≡ list_any (λ bit. bit) (seam_bits_of (glued_by c.args.mesh.now c.args.sides.now) c.args.attr)
found c = c.has_seam.ensures ∙ ap (list_any (λ bit. bit)) (c.as_slice-2.ensures.value ∙ bits c)

pub returns-then-not-has_seam-clause-bits : goal.returns-then-not-has_seam-clause-bits
returns-then-not-has_seam-clause-bits c = bits (goal.at.returns-then-not-has_seam-clause-bits c).After-has_seam

pub returns-then-not-has_seam-clause-flags : goal.returns-then-not-has_seam-clause-flags
returns-then-not-has_seam-clause-flags c =
    flags-none (glued_by c.args.mesh.now c.args.sides.now) c.args.attr (sym (found (goal.at.returns-then-not-has_seam-clause-flags c).After-has_seam) ∙ c.if-not-has_seam.true)

pub returns-clause-bits : goal.returns-clause-bits
returns-clause-bits c = bits (goal.at.returns-clause-bits c).After-has_seam

pub returns-clause-flags : goal.returns-clause-flags
returns-clause-flags c =
    flags-some (glued_by c.args.mesh.now c.args.sides.now) c.args.attr c.args.sides.now.faces c.in_ok-flags.flags.items c.requires.later c.requires.faces c.in_ok-flags.ensures.seams
    (sym (found (goal.at.returns-clause-flags c).After-has_seam) ∙ c.if-not-has_seam.false)
