use Rattle.std.proofs.Common.{rules, ◌<◌, ◌∙◌, FitsSigned, w32, ℤ, pos, length, get_or, set, ap, arith}
use Rattle.std.proofs.lemmas.Int.{to_z-of_z}
use Rattle.std.proofs.lemmas.List.{get_or_default}
use Rattle.std.proofs.lemmas.List.Edits.{map_over_more}
use Rattle.attr_section.specs.Squared.{correction_of}
use Rattle.attr_section.proofs.squared_reading.take_corrections.Goals as goal

pub loop-k-preserved : goal.loop-k-preserved
loop-k-preserved c =
    let fits : FitsSigned w32 c.correction_of.result = search rules in
    let fits_before : FitsSigned w32 (get_or c.loop-k.integers c.loop-k.k (pos 0)) = search rules in
    let inside : c.loop-k.k < length c.args.integers.now = c.loop-k-test.true in
    simp to_z-of_z (ap (λ (v : ℤ). set c.loop-k.integers c.loop-k.k v) (simp to_z-of_z at c.correction_of.ensures)
    ∙ map_over_more correction_of c.args.integers.now c.loop-k.integers c.loop-k.k (get_or c.loop-k.integers c.loop-k.k (pos 0)) inside c.loop-k.invariant
    (get_or_default c.loop-k.integers c.loop-k.k (pos 0) (get_or c.loop-k.integers c.loop-k.k (pos 0)) (omega (arith, inside, c.loop-k.auto.integers))))
