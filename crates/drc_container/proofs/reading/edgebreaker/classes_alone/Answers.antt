-- the classes are those of the fans of the table's surface
use Rattle.drc_container.proofs.lemmas.reading.AsRead.{classes-lent}
use Rattle.drc_container.proofs.reading.edgebreaker.classes_alone.Goals as goal

pub returns : goal.returns
returns c =
    let labels = c.into_classes-of_corner.result in
    classes-lent c.table.result.now c.args.sides.table labels.of_corner labels.count labels.ends c.table.ensures c.face_count-faces.ensures.gluing c.into_classes-of_corner.ensures
