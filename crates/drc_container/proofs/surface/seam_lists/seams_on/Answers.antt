use Rattle.std.proofs.Common.{◌≡◌, ◌-◌, ◌<◌, ◌∷◌, [], ℕ, Bool, List, Option, Vec, Global, map, length, refl, ap, sym, ◌∙◌, arith}
use Rattle.std.specs.Prelude.{option_map}
use Rattle.std.specs.List.{range_with_len}
use Rattle.attr_heads.proofs.Passing.{heads_say}
use Rattle.drc_container.specs.writing.WrittenOnSurface.{seam_bits_of, seam_lists}
use Rattle.drc_container.specs.surface.AttributeSurfaces.{glued_by, corner_flags_of}
use Rattle.drc_container.proofs.lemmas.surface.Flags.{flags-first, flags-more, lists-more, pushed}
use Rattle.drc_container.proofs.lemmas.writing.SurfaceParts.{lists-few, lists-short}
use Rattle.drc_container.proofs.surface.seam_lists.seams_on.Goals.{After-loop-attr}
use Rattle.drc_container.proofs.surface.seam_lists.seams_on.Goals as goal

pub overflow_cast-attr-end : goal.overflow_cast-attr-end
overflow_cast-attr-end c =
    let say = heads_say c.args.mesh.now.heads c.heads.ensures.sound.points.heads_pass in
    rw c.heads.ensures.value (omega (arith, say.few))

pub loop-attr-init : goal.loop-attr-init
loop-attr-init c = record {
  bits = rw c.in_ok-lists.ensures.bits refl;
  flags = rw c.in_ok-lists.ensures.flags (ap (λ (o : Option (List Bool)). o ∷ []) (flags-first (glued_by c.args.mesh.now c.args.sides.now)));
}

pub loop-attr-preserved : goal.loop-attr-preserved
loop-attr-preserved c =
    let d = glued_by c.args.mesh.now c.args.sides.now in
    let k = c.loop-attr.attr in
    let later : 0 < k = omega arith in
    record {
      bits =
          pushed (λ (v : Vec Bool Global). v.items) c.loop-attr.lists.bits.items _ c.in_ok-seams.seams.bits _ (seam_bits_of d k)
          c.in_ok-add_seams.ensures.bits c.loop-attr.invariant.bits c.in_ok-seams.ensures.bits
          ∙ sym (lists-more d k later);
      flags =
          pushed (option_map (λ (v : Vec Bool Global). v.items)) c.loop-attr.lists.flags.items _ c.in_ok-seams.seams.flags _ (corner_flags_of d k)
          c.in_ok-add_seams.ensures.flags c.loop-attr.invariant.flags c.in_ok-seams.ensures.flags
          ∙ sym (flags-more d k);
    }

-- the bits of all attributes
bits-told : (c : After-loop-attr) → map (λ (v : Vec Bool Global). v.items) c.loop-attr.lists.bits.items ≡ seam_lists (glued_by c.args.mesh.now c.args.sides.now)
bits-told c =
    let d = glued_by c.args.mesh.now c.args.sides.now in
    let say = heads_say d.mesh.heads c.heads.ensures.sound.points.heads_pass in
    let end : c.loop-attr.attr ≡ length d.mesh.heads = omega (arith, say.some, ap length c.heads.ensures.value) in
    c.loop-attr.invariant.bits ∙ ap (λ (n : ℕ). map (seam_bits_of d) (range_with_len 1 (n - 1))) end

pub returns-clause-bits : goal.returns-clause-bits
returns-clause-bits c = bits-told (goal.at.returns-clause-bits c).After-loop-attr

pub returns-clause-flags : goal.returns-clause-flags
returns-clause-flags c =
    let d = glued_by c.args.mesh.now c.args.sides.now in
    let say = heads_say d.mesh.heads c.heads.ensures.sound.points.heads_pass in
    let end : c.loop-attr.attr ≡ length d.mesh.heads = omega (arith, say.some, ap length c.heads.ensures.value) in
    c.loop-attr.invariant.flags ∙ ap (λ (n : ℕ). map (corner_flags_of d) (range_with_len 0 n)) end

pub returns-clause-few : goal.returns-clause-few
returns-clause-few c =
    lists-few (glued_by c.args.mesh.now c.args.sides.now) c.loop-attr.lists.bits.items c.heads.ensures.sound (bits-told (goal.at.returns-clause-few c).After-loop-attr)

pub returns-clause-short : goal.returns-clause-short
returns-clause-short c =
    lists-short (glued_by c.args.mesh.now c.args.sides.now) c.loop-attr.lists.bits.items c.heads.ensures.sound (bits-told (goal.at.returns-clause-short c).After-loop-attr)
