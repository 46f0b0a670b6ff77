-- The number across is that of the side there.
use Rattle.std.proofs.Common.{ℕ, get_or, sym, ap, ◌∙◌, arith}
use Rattle.corner_table.specs.Sides.{side_at}
use Rattle.corner_table.specs.Table.{free_entry}
use Rattle.corner_table.specs.Ordered.{ordered_from}
use Rattle.corner_table.proofs.Numbers.{number-side_at}
use Rattle.corner_table.proofs.Across.{glued_some, found_within, at_found}
use Rattle.corner_table.proofs.faces_across.face_across.Goals as goal

pub face_below-requires-clause-corner : goal.face_below-requires-clause-corner
face_below-requires-clause-corner c =
    let is = c.number_across-found.ensures ∙ sym (ap (λ (n : ℕ). get_or c.args.across.now n free_entry) (number-side_at c.args.corner)) in
    let below = found_within c.args.across.now c.requires.fit.gluing (side_at c.args.corner) c.number_across-found.result is c.if-found.false in
    let whole = c.requires.fit.whole in
    omega (arith, below, whole)

pub returns-clause-face : goal.returns-clause-face
returns-clause-face c = λ corners.
    let is = c.number_across-found.ensures ∙ sym (ap (λ (n : ℕ). get_or c.args.across.now n free_entry) (number-side_at c.args.corner)) in
    let w = ordered_from c.args.across.now c.args.labels.now c.args.entry_of_class.now corners in
    c.face_below.ensures.face c.args.across.now corners
    ∙ sym (at_found w c.args.e (side_at c.args.corner) (side_at c.number_across-found.result) (glued_some c.args.across.now (side_at c.args.corner) c.number_across-found.result is c.if-found.false))
