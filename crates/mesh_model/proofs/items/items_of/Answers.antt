use Rattle.mesh_model.proofs.StoredItems.{groups_some}
use Rattle.mesh_model.proofs.items.items_of.Goals as goal

pub vertex_items-requires-clause-some : goal.vertex_items-requires-clause-some
vertex_items-requires-clause-some c = groups_some c.args.heads.now c.args.groups.now c.args.faces c.requires.groups

pub corner_items-requires-clause-some : goal.corner_items-requires-clause-some
corner_items-requires-clause-some c = groups_some c.args.heads.now c.args.groups.now c.args.faces c.requires.groups
