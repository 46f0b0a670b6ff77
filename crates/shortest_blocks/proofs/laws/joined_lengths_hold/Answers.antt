use Rattle.shortest_blocks.proofs.Joined.{joined-hold}
use Rattle.shortest_blocks.proofs.laws.joined_lengths_hold.Goals as goal

pub returns : goal.returns
returns c = λ comps lengths few. joined-hold comps lengths few
