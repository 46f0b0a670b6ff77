use Rattle.std.proofs.Common.{length}
use Rattle.attr_section.proofs.Corrections.{entries_below}
use Rattle.attr_section.proofs.squared_reading.restore_by_normals.Goals as goal

pub normals_on-requires-clause-entries : goal.normals_on-requires-clause-entries
normals_on-requires-clause-entries c =
    let o = c.args.on.now.order.now in
    entries_below (length o.corner_of_entry) c.args.on.now.classes.now.of_corner o.entry_of_class c.requires.on.over.classes c.requires.entries
