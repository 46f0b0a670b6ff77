-- what is delivered is done, or there is no room
use Rattle.std.proofs.Common.{lit<, sym, inl, inr}
use Rattle.drc_c.proofs.restoring.drc_restore_into.Goals as goal

pub returns-in-Ok-clause-statuses : goal.returns-in-Ok-clause-statuses
returns-in-Ok-clause-statuses c =
    elim c.place.ensures.statuses [ inl done ↦ (0, lit< tt, sym done) | inr room ↦ (4, lit< tt, sym room) ]
