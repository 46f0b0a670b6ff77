-- the steps give a recoding
use Rattle.drc_base.specs.Profile.{profile_numbered}
use Rattle.drc_c.proofs.RecodedStreams.{recoding-is}
use Rattle.drc_c.proofs.recoding.recode_stream.Goals as goal

pub returns-clause-means : goal.returns-clause-means
returns-clause-means c =
    recoding-is (profile_numbered c.args.profile.number) c.args.bytes.now c.args.choice.now c.in_ok-written.written.items
    c.in_ok-written.renumber.rows c.in_ok-rows.rows.items c.in_ok-written.ensures.answer c.in_ok-rows.ensures
    c.in_ok-written.ensures.means c.in_ok-written.ensures.layout
