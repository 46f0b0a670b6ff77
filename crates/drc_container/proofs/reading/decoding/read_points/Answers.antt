-- the points that were read are whole rows, and in their types
use Rattle.drc_container.proofs.lemmas.reading.Lengths.{cells_at-whole}
use Rattle.drc_container.proofs.lemmas.reading.Whole.{typed_pass}
use Rattle.drc_container.proofs.reading.decoding.read_points.Goals as goal

pub returns-clause-rows : goal.returns-clause-rows
returns-clause-rows c passes =
    rw (c.from_vec.ensures, c.in_ok-cells.ensures, c.as_slice.ensures.items, c.into_vec.ensures) (cells_at-whole c.args.points c.in_ok-attributes.attributes.heads c.in_ok-attributes.attributes.values c.in_ok-attributes.ensures.columns)

pub returns-clause-typed : goal.returns-clause-typed
returns-clause-typed c =
    rw (c.from_vec.ensures, c.in_ok-cells.ensures, c.as_slice.ensures.items, c.into_vec.ensures) (typed_pass c.args.profile.number _ _ (c.in_ok-attributes.attributes, _) c.in_ok-attributes.ensures.attributes)
