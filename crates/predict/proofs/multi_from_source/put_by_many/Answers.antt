-- Where no face is kept, the entry before foretells.
use Rattle.std.proofs.Common.{None, sym, refl}
use Rattle.predict.specs.Parallelogram.{by_one}
use Rattle.predict.specs.Multi.{by_many}
use Rattle.predict.proofs.Entries.{foretells_alike}
use Rattle.predict.proofs.Means.{predicted_none}
use Rattle.predict.proofs.multi_from_source.put_by_many.Goals as goal

pub returns-then-faces-eq0-clause-values : goal.returns-then-faces-eq0-clause-values
returns-then-faces-eq0-clause-values g c = λ f foretells. c.put_by_difference.ensures.values f
    (foretells_alike f c.args.comps c.args.e (by_many c.args.comps c.args.faces.now) (by_one c.args.comps None)
    (λ j before. sym (predicted_none c.args.comps c.args.faces.now j before (by_one c.args.comps None j before) c.if-faces-eq0.true refl)) foretells)
