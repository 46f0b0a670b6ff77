use Rattle.std.proofs.Common.{◌++◌, [], ◌∷◌, ap, ◌∙◌}
use Rattle.kd_tree.specs.Keys.{Key}
use Rattle.kd_points.specs.Extents.{offset_of}
use Rattle.kd_points.proofs.Numbered.{key-numbered}
use Rattle.kd_points.proofs.keys.push_key.Goals as goal

pub push_number-requires-clause-number : goal.push_number-requires-clause-number
push_number-requires-clause-number c = (key-numbered c.args.axes.now (offset_of c.args.extents.now c.args.row.now) c.args.keys.now.depth c.key_number.result c.requires.depth c.key_number.ensures).0

pub returns-then-axes-lt64 : goal.returns-then-axes-lt64
returns-then-axes-lt64 c =
    c.in_ok-push_number.ensures.added
    ∙ ap (λ (k : Key). record { depth = c.args.keys.now.depth; rows = c.args.keys.now.rows ++ k ∷ [] })
    (key-numbered c.args.axes.now (offset_of c.args.extents.now c.args.row.now) c.args.keys.now.depth c.key_number.result c.requires.depth c.key_number.ensures).1
