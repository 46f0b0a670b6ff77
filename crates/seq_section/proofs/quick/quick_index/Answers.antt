use Rattle.seq_section.proofs.Faces.{short-number}
use Rattle.seq_section.proofs.quick.quick_index.Goals as goal

pub returns-in_err-index-clause-seen : goal.returns-in_err-index-clause-seen
returns-in_err-index-clause-seen c = λ has few r here k short.
    rw c.from_residual.ensures (c.in_err-index.ensures.seen has few r here k (short-number c.args.points k r short))
