-- No degree is too great to grow.
use Rattle.std.proofs.Common.{IsTrue, subst, sym, vec_capacity}
use Rattle.corner_table.specs.Sides.{side_at}
use Rattle.corner_table.specs.Table.{side_of}
use Rattle.corner_table.proofs.Numbers.{number-side_at}
use Rattle.eb_rebuild.specs.KeptDegrees.{DegreesValue, IsReady}
use Rattle.eb_rebuild.proofs.TableDegrees.{small_ready}
use Rattle.eb_rebuild.proofs.kept_degrees.KeptDegrees.note_beside.Goals as goal

pub beside_degrees-requires-clause-small : goal.beside_degrees-requires-clause-small
beside_degrees-requires-clause-small g c =
    let d : DegreesValue = record { kept = c.self.inside.kept; list = c.self.inside.list.items; room = vec_capacity c.self.inside.list } in
    let ready = subst (λ (d : DegreesValue). IsTrue d.kept → IsReady c.args.table.now d) (sym c.self.view_is) c.requires.ready c.if-self.true in
    small_ready {d = d} ready (side_at c.args.a) c.args.a (sym (number-side_at c.args.a)) c.requires.free _ c.add_places.ensures.items

pub beside_degrees-requires-clause-small_next : goal.beside_degrees-requires-clause-small_next
beside_degrees-requires-clause-small_next g c =
    let d : DegreesValue = record { kept = c.self.inside.kept; list = c.self.inside.list.items; room = vec_capacity c.self.inside.list } in
    let ready = subst (λ (d : DegreesValue). IsTrue d.kept → IsReady c.args.table.now d) (sym c.self.view_is) c.requires.ready c.if-self.true in
    small_ready {d = d} ready (side_of c.next_open.result) c.number_of-next.result c.number_of-next.ensures.number c.next_open.ensures.follows.free _ c.add_places.ensures.items
