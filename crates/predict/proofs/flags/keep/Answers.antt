use Rattle.std.proofs.Common.{◌≡◌, take, ◌<◌, ◌+◌, length, ◌∙◌, arith}
use Rattle.std.proofs.lemmas.List.Elements.{All-same}
use Rattle.corner_table.specs.Ordered.{IsBelow}
use Rattle.predict.specs.Multi.{kept}
use Rattle.predict.proofs.Kept.{keep_more, kept_all, kept_below, kept_long}
use Rattle.predict.proofs.flags.keep.Goals as goal

pub loop-i-preserved : goal.loop-i-preserved
loop-i-preserved c =
    let has : c.loop-i.i < length c.args.flags.now = omega arith in
    let faces : c.keep_one.new.faces.items ≡ kept (take (c.loop-i.i + 1) c.args.flags.now) (take (c.loop-i.i + 1) c.args.found.now) =
    keep_more c.args.flags.now c.args.found.now c.loop-i.i _ _ c.loop-i.faces.items c.keep_one.new.faces.items has c.requires.same c.loop-i.invariant.faces c.keep_one.ensures in
    record { few = kept_long c.args.flags.now c.args.found.now (c.loop-i.i + 1) c.keep_one.new.faces.items faces; faces = faces }

pub returns-clause-below : goal.returns-clause-below
returns-clause-below c = λ e below. All-same (IsBelow e) c.loop-i.faces.items (kept c.args.flags.now c.args.found.now)
    (c.loop-i.invariant.faces ∙ kept_all c.args.flags.now c.args.found.now c.loop-i.i c.requires.same c.loop-i-test.false) (kept_below e c.args.flags.now c.args.found.now below)
