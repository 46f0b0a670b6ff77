-- The face that is kept is the one that foretells the entry.
use Rattle.std.proofs.Common.{[], ◌∷◌, Option, ap, ◌∙◌}
use Rattle.corner_table.specs.declared.corner_lists.FaceAcross.{FaceAcross}
use Rattle.corner_table.specs.Ordered.{kept_face}
use Rattle.predict.specs.Parallelogram.{by_one}
use Rattle.predict.specs.Multi.{by_many}
use Rattle.predict.proofs.Entries.{foretells_alike, kept_nothing, kept_some}
use Rattle.predict.proofs.Means.{mean_of_one}
use Rattle.predict.proofs.entry.correct_by_one.Goals as goal

pub returns-then-face-eq-FREE : goal.returns-then-face-eq-FREE
returns-then-face-eq-FREE c = λ f foretells so. c.correct_entry.ensures f
    (foretells_alike f c.args.comps c.args.e (by_one c.args.comps (kept_face c.args.face)) (by_many c.args.comps [])
    (λ j before. ap (λ (o : Option FaceAcross). by_one c.args.comps o j before) (kept_nothing c.args.face c.if-face-eq-FREE.true)) foretells) so

pub returns-else-face-eq-FREE : goal.returns-else-face-eq-FREE
returns-else-face-eq-FREE c = λ f foretells so. c.correct_entry-else-face-eq-FREE.ensures f
    (foretells_alike f c.args.comps c.args.e (by_one c.args.comps (kept_face c.args.face)) (by_many c.args.comps (c.args.face ∷ []))
    (λ j before. ap (λ (o : Option FaceAcross). by_one c.args.comps o j before) (kept_some c.args.face c.if-face-eq-FREE.false) ∙ mean_of_one c.args.comps c.args.face j before) foretells) so
