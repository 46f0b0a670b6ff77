-- The face that is kept is the one that foretells the entry.
use Rattle.std.proofs.Common.{Option, None, Some, ap}
use Rattle.corner_table.specs.declared.corner_lists.FaceAcross.{FaceAcross}
use Rattle.corner_table.specs.Ordered.{kept_face}
use Rattle.predict.specs.Parallelogram.{by_one}
use Rattle.predict.proofs.Entries.{foretells_alike, kept_nothing, kept_some}
use Rattle.predict.proofs.from_source.put_entry.Goals as goal

pub returns-then-face-eq-FREE-clause-values : goal.returns-then-face-eq-FREE-clause-values
returns-then-face-eq-FREE-clause-values g c = λ f foretells. c.put_by_difference.ensures.values f
    (foretells_alike f c.args.comps c.args.e (by_one c.args.comps (kept_face c.args.face)) (by_one c.args.comps None)
    (λ j before. ap (λ (o : Option FaceAcross). by_one c.args.comps o j before) (kept_nothing c.args.face c.if-face-eq-FREE.true)) foretells)

pub returns-else-face-eq-FREE-clause-values : goal.returns-else-face-eq-FREE-clause-values
returns-else-face-eq-FREE-clause-values g c = λ f foretells. c.put_by_parallelogram.ensures.values f
    (foretells_alike f c.args.comps c.args.e (by_one c.args.comps (kept_face c.args.face)) (by_one c.args.comps (Some c.args.face))
    (λ j before. ap (λ (o : Option FaceAcross). by_one c.args.comps o j before) (kept_some c.args.face c.if-face-eq-FREE.false)) foretells)
