use Rattle.std.proofs.Common.{length, sym, ap, ◌∙◌, subst}
use Rattle.kd_tree.specs.Packing.{AreClean, keys_in}
use Rattle.kd_tree.proofs.Packed.{table-clean, table-length, table-rows}
use Rattle.kd_tree.proofs.keys.Keys.words.Goals as goal

pub returns-clause-rows : goal.returns-clause-rows
returns-clause-rows c = table-rows _ _ _ _ c.self.view_is ∙ ap (keys_in c.args.self.now.depth (length c.args.self.now.rows)) (sym c.as_slice.ensures.value)

pub returns-clause-len : goal.returns-clause-len
returns-clause-len c = ap length c.as_slice.ensures.value ∙ table-length _ _ _ _ _ c.self.view_is c.self.invariant.0

pub returns-clause-clean : goal.returns-clause-clean
returns-clause-clean c =
    subst (AreClean c.args.self.now.depth (length c.args.self.now.rows)) (sym c.as_slice.ensures.value) (table-clean _ _ _ _ c.self.view_is c.self.invariant.1)
