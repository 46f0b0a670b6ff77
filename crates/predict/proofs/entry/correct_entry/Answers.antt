-- Correction after correction is put.
use Rattle.std.proofs.Common.{rules, refl, ◌≡◌, ◌+◌, ◌*◌, ◌<◌, ◌≤◌, length, set, FitsSigned, w32, arith}
use Rattle.std.proofs.lemmas.Int.{to_z-of_z}
use Rattle.predict.specs.Multi.{by_many}
use Rattle.predict.proofs.Entries.{corrected_none, corrected_more, corrected_all}
use Rattle.predict.proofs.entry.correct_entry.Goals as goal

pub loop-j-init : goal.loop-j-init
loop-j-init c = λ f foretells so. corrected_none f c.args.w.now c.args.v.now c.args.out.now (c.args.e * c.args.comps) so

pub loop-j-preserved : goal.loop-j-preserved
loop-j-preserved c =
    let value_fits : FitsSigned w32 c.component_corrected-correction.result = search rules in
    let has : c.args.e * c.args.comps + c.args.comps ≤ length c.args.v.now = omega arith in
    let room : length c.loop-j.out ≡ length c.args.v.now = omega arith in
    let below : c.loop-j.j < c.args.comps = omega arith in
    simp to_z-of_z (λ f foretells so. corrected_more f c.args.w.now c.args.v.now c.loop-j.out
    (set c.loop-j.out (c.args.e * c.args.comps + c.loop-j.j) c.component_corrected-correction.result) c.args.comps c.args.e c.loop-j.j
    (by_many c.args.comps c.args.faces.now) c.component_corrected-correction.result foretells below has room c.component_corrected-correction.ensures refl
    (c.loop-j.invariant f foretells so))

pub returns : goal.returns
returns c =
    let all : c.loop-j.j ≡ c.args.comps = omega arith in
    λ f foretells so. corrected_all f c.args.w.now c.args.v.now c.loop-j.out (c.args.e * c.args.comps) c.loop-j.j c.args.comps all (c.loop-j.invariant f foretells so)
