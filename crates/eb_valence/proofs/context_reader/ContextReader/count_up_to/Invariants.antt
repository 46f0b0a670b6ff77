-- The numbers of the lists so far.
use Rattle.std.proofs.Common.{◌≡◌, min, length, sum_by, take}
use Rattle.eb_valence.proofs.context_reader.ContextReader.count_up_to.Given as goal

abbrev pub invariant-loop-list : goal.invariant-loop-list
invariant-loop-list l = l.count ≡ min l.most (sum_by (λ v. length v.items) (take l.list-index l.list-items))
