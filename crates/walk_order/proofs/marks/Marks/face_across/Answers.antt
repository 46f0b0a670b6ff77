-- The entries of a face come before the next one, so none of them is free.
use Rattle.std.proofs.Common.{◌≡◌, ◌/◌, ◌<◌, ℕ, List, length, sym, subst, arith}
use Rattle.corner_table.specs.Table.{free_entry}
use Rattle.corner_table.specs.Ordered.{FitTogether}
use Rattle.corner_table.proofs.Orders.{entry_real}
use Rattle.walk_order.proofs.Stored.{fit_together, items_fit}
use Rattle.walk_order.proofs.marks.Marks.face_across.Goals as goal

pub face_across-requires-clause-fit : goal.face_across-requires-clause-fit
face_across-requires-clause-fit c =
    let s = c.args.s.now in
    subst (FitTogether (length s.labels.now / 3) s.across.now s.labels.now) (sym c.as_slice-table.ensures.value) (fit_together c.requires.surface c.requires.stored)

pub kept-requires : goal.kept-requires
kept-requires c =
    let f = items_fit c.requires.surface c.requires.stored in
    let few : c.len-next.result < free_entry = omega (arith, c.len-next.ensures) in
    entry_real c.face_across.result c.len-next.result few c.face_across.ensures.below
