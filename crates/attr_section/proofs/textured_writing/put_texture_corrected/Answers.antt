use Rattle.std.proofs.Common.{FitsSigned, w32, ℤ, List, length, subst}
use Rattle.std.proofs.lemmas.Int.{to_z-of_z}
use Rattle.drc_bits.specs.Spells.{Spells}
use Rattle.attr_section.specs.Values.{integers_at}
use Rattle.attr_section.specs.WrittenParts.{integers_bytes}
use Rattle.attr_section.proofs.SpelledTexture.{texture-corrected}
use Rattle.attr_section.proofs.textured_writing.put_texture_corrected.Goals as goal

pub returns-clause-again : goal.returns-clause-again
returns-clause-again c =
    let low : FitsSigned w32 c.args.low = c.ranges.low in
    let high : FitsSigned w32 c.args.high = c.ranges.high in
    let range = simp to_z-of_z at c.in_ok-put_range.ensures.again in
    texture-corrected c.args.plain (record { low = c.args.low; high = c.args.high }) c.args.orientations.items c.args.corrections.items c.requires.short
    (subst (λ (l : List ℤ). Spells (integers_at 2 (length l)) (integers_bytes c.args.plain 2 l) l) c.deref.ensures.value c.in_ok-put_integers.ensures.again)
    c.in_ok-put_orientations.ensures.again range
