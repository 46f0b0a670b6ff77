-- The entries added for a face are those written into the room for it.
use Rattle.std.proofs.Common.{◌∙◌}
use Rattle.corner_table.proofs.TableSteps.{after_added, before_added}
use Rattle.corner_table.proofs.links.link_face.Goals as goal

pub returns-clause-after : goal.returns-clause-after
returns-clause-after c = c.add.ensures.items ∙ after_added c.args.face c.args.after.now.items c.args.before.now.items c.requires.each_after

pub returns-clause-before : goal.returns-clause-before
returns-clause-before c = c.add-2.ensures.items ∙ before_added c.args.face c.args.after.now.items c.args.before.now.items c.requires.each_before
