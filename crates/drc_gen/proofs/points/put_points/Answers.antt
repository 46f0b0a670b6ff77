use Rattle.std.proofs.Common.{◌≡◌, ◌++◌, sym, subst, OnOk}
use Rattle.mesh_model.specs.Parts.{cells_of}
use Rattle.drc_gen.specs.declared.kinds.GenKind.{GenKind}
use Rattle.drc_gen.specs.Turns.{points_at}
use Rattle.drc_gen.proofs.points.put_points.Goals as goal

pub returns-in-Seams : goal.returns-in-Seams
returns-in-Seams c =
    let put = c.put_patch_at in
    subst (λ (kind : GenKind). OnOk put.result (put.new.cells.items ≡ c.args.cells.now.items ++ cells_of (points_at kind c.args.size c.args.k c.args.drawn)))
    (sym c.in-Seams.is) put.ensures
