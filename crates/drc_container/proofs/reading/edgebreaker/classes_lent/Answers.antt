-- the classes are those of the fans of the table's surface
use Rattle.std.proofs.Common.{◌∙◌}
use Rattle.drc_container.proofs.lemmas.reading.AsRead.{classes-lent}
use Rattle.drc_container.proofs.reading.edgebreaker.classes_lent.Goals as goal

pub returns : goal.returns
returns c =
    let labels = c.classes.result.now in
    c.as_slice.ensures.items
    ∙ classes-lent c.table.result.now c.args.sides.now.table labels.of_corner labels.count labels.ends c.table.ensures c.face_count-faces.ensures.gluing c.classes.ensures
