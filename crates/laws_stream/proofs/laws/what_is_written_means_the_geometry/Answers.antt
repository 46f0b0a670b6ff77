use Rattle.laws_stream.proofs.Whole.{written-means, written-laid_out}
use Rattle.laws_stream.proofs.laws.what_is_written_means_the_geometry.Goals as goal

pub returns-clause-means : goal.returns-clause-means
returns-clause-means c = written-means

pub returns-clause-layout : goal.returns-clause-layout
returns-clause-layout c = written-laid_out
