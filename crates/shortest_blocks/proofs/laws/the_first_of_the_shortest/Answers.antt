use Rattle.shortest_blocks.proofs.Shortest.{first-shortest}
use Rattle.shortest_blocks.proofs.laws.the_first_of_the_shortest.Goals as goal

pub returns : goal.returns
returns c = λ values comps some. first-shortest values comps some
