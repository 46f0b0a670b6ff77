-- Nothing is built.
use Rattle.std.proofs.Common.{Bool, IsTrue, min, reverse, ap, sym, subst, ◌∙◌, arith}
use Rattle.eb_rebuild.proofs.TableDegrees.{list_start, start_state, start_link}
use Rattle.eb_rebuild.proofs.CornersNamed.{names_start}
use Rattle.eb_rebuild.proofs.link_rebuild.LinkRebuildRebuild.new.Goals as goal

pub invariant_of-result : goal.invariant_of-result
invariant_of-result g c =
    let waits = c.in_ok-stack.ensures in
    let noted = c.in_ok-degrees.ensures in
    let degrees = c.in_ok-degrees.degrees in
    let room = c.in_ok-table.ensures.room in (
      start_link (record { faces = c.args.faces; created = c.args.created; symbols = c.args.symbols }) c.in_ok-table.table c.in_ok-stack.stack c.in_ok-stack.splits degrees.kept c.requires.faces c.requires.symbols
          (let m = c.requires.most in omega arith) waits.sides (waits.room ∙ ap (min c.args.symbols) (sym room)) waits.kept,
      λ t e. list_start c.in_ok-table.table degrees c.in_ok-table.ensures.none c.in_ok-table.ensures.unglued noted.degrees
          (let d = noted.room (subst (λ (b : Bool). IsTrue b) noted.kept t) in omega arith),
      names_start c.in_ok-table.table c.in_ok-degrees.names c.args.most c.in_ok-table.ensures.none c.in_ok-table.ensures.unglued room noted.names noted.none noted.names_room,
    )

pub returns-clause-state : goal.returns-clause-state
returns-clause-state g c =
    let waits = c.in_ok-stack.ensures in
    start_state c.in_ok-table.table c.in_ok-stack.stack.sides c.in_ok-stack.splits.kept c.in_ok-stack.splits.events (reverse c.args.events.items) c.args.symbols c.in_ok-table.ensures.none c.in_ok-table.ensures.unglued
    waits.sides waits.kept waits.events
