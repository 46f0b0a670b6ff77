use Rattle.std.proofs.Common.{arith}
use Rattle.drc_app.proofs.MapEnds.{map_end}
use Rattle.drc_app.proofs.map_inputs.behind_map.Goals as goal

pub slice_bounds-result-count : goal.slice_bounds-result-count
slice_bounds-result-count c = omega (arith, map_end c.args.input.now c.args.map.now c.requires)

pub slice_bounds-result-start : goal.slice_bounds-result-start
slice_bounds-result-start c = omega (arith, map_end c.args.input.now c.args.map.now c.requires)
