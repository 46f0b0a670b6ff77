-- Where no names were joined, each name is its own number.
use Rattle.std.proofs.Common.{sym}
use Rattle.eb_rebuild.specs.JoinedNames.{root_in}
use Rattle.eb_rebuild.proofs.Roots.{below_plain}
use Rattle.eb_rebuild.proofs.CornerLabels.{numbers_plain}
use Rattle.eb_rebuild.proofs.corner_names.labels_of.Goals as goal

pub returns-in-None-clause-labels : goal.returns-in-None-clause-labels
returns-in-None-clause-labels c = numbers_plain c.args.names.items c.args.joined.up c.in-None.ensures.none

pub returns-in-None-clause-count : goal.returns-in-None-clause-count
returns-in-None-clause-count c = sym (below_plain (root_in c.args.joined.up) c.in-None.ensures.none c.args.made)
