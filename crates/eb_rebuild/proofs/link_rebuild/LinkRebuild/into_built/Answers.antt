-- The machine answers the last state, or that a face is degenerate.
use Rattle.std.proofs.Common.{sym, ap, ◌∙◌}
use Rattle.corner_table.specs.Table.{Table, gluing_of}
use Rattle.eb_machine.specs.Machine.{first_degenerate}
use Rattle.eb_machine.proofs.Ends.{finish_degenerate, finish_done}
use Rattle.eb_rebuild.specs.Linked.{state_of}
use Rattle.eb_rebuild.proofs.link_rebuild.LinkRebuild.into_built.Goals as goal

pub returns-in-None-clause-ends : goal.returns-in-None-clause-ends
returns-in-None-clause-ends g c =
    let is = c.in_ok-built.ensures.table ∙ c.finished_parts-table.ensures.table in (
      finish_done c.args.self.plan (state_of c.args.self) c.requires.faces c.requires.made (ap (λ (t : Table). first_degenerate t.faces (gluing_of t) t.faces) (sym is) ∙ sym c.in-None.ensures),
      record { faces = ap (λ (t : Table). t.faces) is; glued = ap gluing_of is },
    )

pub returns-in-Some-clause-ends : goal.returns-in-Some-clause-ends
returns-in-Some-clause-ends g c =
    let is = c.in_ok-built.ensures.table ∙ c.finished_parts-table.ensures.table in
    rw c.new.ensures (finish_degenerate c.args.self.plan (state_of c.args.self) c.in-Some.face _ c.requires.faces c.requires.made
    (ap (λ (t : Table). first_degenerate t.faces (gluing_of t) t.faces) (sym is) ∙ sym c.in-Some.ensures) c.from.ensures)
