use Rattle.std.proofs.Common.{◌∙◌}
use Rattle.mesh_model.proofs.Spreads.{Unlike-chosen, Twins-spread}
use Rattle.mesh_model.proofs.row_index.twins_among.Goals as goal

pub returns-in-Some-false-clause-found : goal.returns-in-Some-false-clause-found
returns-in-Some-false-clause-found c =
    let table = c.args.rows.now.table in
    Unlike-chosen table.rows table.count c.args.chosen.now c.requires.chosen (c.in-Some-false.ensures.twins.1 c.in-Some-false.field-0-test)

pub returns-in_ok-spread-in-Some-true-clause-found : goal.returns-in_ok-spread-in-Some-true-clause-found
returns-in_ok-spread-in-Some-true-clause-found c =
    let table = c.args.rows.now.table in (
      Twins-spread table.rows table.count c.args.chosen.now c.keep_twins.new.links c.in_ok-spread-in-Some-true.field-0.items c.requires.chosen c.in-Some-true.ensures.twins.0
          c.in_ok-spread-in-Some-true.ensures.spread,
      c.in_ok-spread-in-Some-true.ensures.long ∙ c.count-count.ensures.value,
    )
