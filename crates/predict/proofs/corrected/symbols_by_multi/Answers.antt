-- The flags of the entries, one after another, are the lists that are written.
use Rattle.std.proofs.Common.{ℕ, List, Bool, sym, subst}
use Rattle.std.proofs.lemmas.List.{length-map}
use Rattle.corner_table.specs.Sides.{side_at}
use Rattle.predict.specs.Multi.{AreMarked}
use Rattle.predict.specs.Surfaces.{surface}
use Rattle.predict.proofs.Foretold.{lists_are}
use Rattle.predict.proofs.corrected.symbols_by_multi.Goals as goal

pub returns-clause-flags : goal.returns-clause-flags
returns-clause-flags c =
    let w = surface c.args.on.now in
    let lists : List (List Bool) = c.in_ok-corrections.flags.lists in
    let corners = c.args.on.now.order.now.corner_of_entry in
    lists_are w c.args.comps c.args.v.now lists c.in_ok-corrections.ensures.four
    (subst (λ (n : ℕ). AreMarked w c.args.comps c.args.v.now lists n) (sym (length-map corners side_at)) c.in_ok-corrections.ensures.flags)
