use Rattle.shortest_blocks.proofs.LeastCuts.{none-cheaper}
use Rattle.shortest_blocks.proofs.laws.no_cut_costs_less.Goals as goal

pub returns : goal.returns
returns c = λ comps lengths lasts are. none-cheaper comps lengths lasts are
