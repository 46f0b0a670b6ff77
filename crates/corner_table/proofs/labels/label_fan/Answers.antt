-- Where the walk to the left comes to an end, both walks label the fan; where it comes round, it does alone.
use Rattle.std.proofs.Common.{sym, subst}
use Rattle.corner_table.specs.Labelling.{IsLeftDone, IsFanLabelled}
use Rattle.corner_table.proofs.Labelling.{open_labelled, closed_labelled}
use Rattle.corner_table.proofs.labels.label_fan.Goals as goal

pub returns-then-open-clause-fan : goal.returns-then-open-clause-fan
returns-then-open-clause-fan c = λ R.
    let D = subst (IsLeftDone _ _ _ _ _) c.if-open.true (c.label_left-open.ensures.left R) in
    subst (IsFanLabelled _ _ _ _ _) (sym c.if-open.true) (open_labelled c.requires.gluing _ _ _ _ _ R D (c.label_right.ensures.right _ R D))

pub returns-else-open-clause-fan : goal.returns-else-open-clause-fan
returns-else-open-clause-fan c = λ R.
    subst (IsFanLabelled _ _ _ _ _) (sym c.if-open.false) (closed_labelled c.requires.gluing _ _ _ _ R (subst (IsLeftDone _ _ _ _ _) c.if-open.false (c.label_left-open.ensures.left R)))
