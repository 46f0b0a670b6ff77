use Rattle.std.proofs.Common.{◌<◌, ◌-◌, nat_lt, length, ℕ, ap, ◌∙◌, arith}
use Rattle.corner_table.specs.declared.corner_lists.FaceAcross.{FaceAcross}
use Rattle.predict.specs.Multi.{off_by, is_left_out}
use Rattle.predict.specs.Parallelogram.{component}
use Rattle.predict.proofs.Kept.{mark_more}
use Rattle.predict.proofs.flags.marks_of.Goals as goal

blank : FaceAcross
blank = record { across = 0; after = 0; before = 0 }

pub off_before-before-requires-clause-later : goal.off_before-before-requires-clause-later
off_before-before-requires-clause-later c =
    let some : 0 < length c.args.found.now = omega arith in
    let below = c.requires.below 0 (record { across = 0; after = 0; before = 0 }) some in
    omega (arith, below.across)

pub loop-i-preserved : goal.loop-i-preserved
unfolding blank
loop-i-preserved c =
    mark_more (is_left_out c.args.comps c.args.v.now c.args.e) c.args.found.now c.loop-i.i blank c.loop-i.marks.items c.push.new.self.items (nat_lt c.off_before-before.result c.off_fourth.result)
    c.loop-i-test.true c.loop-i.invariant (ap (λ (n : ℕ). nat_lt n c.off_fourth.result) c.off_before-before.ensures ∙ ap (λ (n : ℕ). nat_lt (off_by (component c.args.comps c.args.v.now (c.args.e - 1)) (component c.args.comps c.args.v.now c.args.e) c.args.comps) n) c.off_fourth.ensures) c.push.ensures.items
