use Rattle.std.proofs.Common.{◌≡◌, ◌<◌, ◌≤◌, None, rules}
use Rattle.attr_heads.specs.Head.{width_of, heads_fault}
use Rattle.mesh_model.proofs.Made.{whole-rows}
use Rattle.mesh_model.proofs.geometry_rules.test_shape.Goals as goal

pub returns-clause-stored : goal.returns-clause-stored
returns-clause-stored c =
    let heads = c.args.heads.now in
    let width = c.in_ok-width.width in
    let pass : heads_fault heads ≡ None = search rules in
    let width_is : width ≡ width_of heads = search rules in
    let wide : 0 < width = search rules in
    let narrow : width ≤ 128 = search rules in
    record { width_is = width_is; wide = wide; narrow = narrow; whole = whole-rows heads c.args.points.now width c.requires pass width_is }
