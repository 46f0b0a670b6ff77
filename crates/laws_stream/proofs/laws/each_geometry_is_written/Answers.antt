use Rattle.laws_stream.proofs.Whole.{written-means, written-laid_out}
use Rattle.laws_stream.proofs.bytes.Streams.{written-bytes}
use Rattle.laws_stream.proofs.laws.each_geometry_is_written.Goals as goal

pub returns-clause-means : goal.returns-clause-means
returns-clause-means c = written-means c.args.g.now c.args.choice.now c.geometry_fits.ensures.geometry c.geometry_fits.ensures.heads

pub returns-clause-layout : goal.returns-clause-layout
returns-clause-layout c = written-laid_out c.args.g.now c.args.choice.now c.geometry_fits.ensures.geometry c.geometry_fits.ensures.heads

pub returns-clause-bytes : goal.returns-clause-bytes
returns-clause-bytes c = written-bytes c.args.g.now c.args.choice.now c.geometry_fits.ensures.geometry c.geometry_fits.ensures.flags
