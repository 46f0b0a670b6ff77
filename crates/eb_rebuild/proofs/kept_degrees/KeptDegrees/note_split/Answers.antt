-- No degree is too great to grow.
use Rattle.std.proofs.Common.{IsTrue, subst, sym, vec_capacity}
use Rattle.corner_table.specs.Sides.{side_at}
use Rattle.corner_table.specs.Table.{side_of}
use Rattle.corner_table.proofs.Numbers.{number-side_at}
use Rattle.eb_rebuild.specs.KeptDegrees.{DegreesValue, IsReady}
use Rattle.eb_rebuild.proofs.TableDegrees.{small_ready}
use Rattle.eb_rebuild.proofs.kept_degrees.KeptDegrees.note_split.Goals as goal

pub split_degrees-requires-clause-small : goal.split_degrees-requires-clause-small
split_degrees-requires-clause-small g c =
    let d : DegreesValue = record { kept = c.self.inside.kept; list = c.self.inside.list.items; room = vec_capacity c.self.inside.list } in
    let ready = subst (λ (d : DegreesValue). IsTrue d.kept → IsReady c.args.table.now d) (sym c.self.view_is) c.requires.ready c.if-self.true in
    small_ready {d = d} ready (side_at c.args.b) c.args.b (sym (number-side_at c.args.b)) c.requires.free _ c.add_places.ensures.items

pub split_degrees-requires-clause-small_second : goal.split_degrees-requires-clause-small_second
split_degrees-requires-clause-small_second g c =
    let d : DegreesValue = record { kept = c.self.inside.kept; list = c.self.inside.list.items; room = vec_capacity c.self.inside.list } in
    let ready = subst (λ (d : DegreesValue). IsTrue d.kept → IsReady c.args.table.now d) (sym c.self.view_is) c.requires.ready c.if-self.true in
    small_ready {d = d} ready (side_at c.args.a) c.args.a (sym (number-side_at c.args.a)) c.requires.free_second _ c.add_places.ensures.items

pub split_degrees-requires-clause-small_third : goal.split_degrees-requires-clause-small_third
split_degrees-requires-clause-small_third g c =
    let d : DegreesValue = record { kept = c.self.inside.kept; list = c.self.inside.list.items; room = vec_capacity c.self.inside.list } in
    let ready = subst (λ (d : DegreesValue). IsTrue d.kept → IsReady c.args.table.now d) (sym c.self.view_is) c.requires.ready c.if-self.true in
    small_ready {d = d} ready (side_of c.next_open.result) c.number_of-next_b.result c.number_of-next_b.ensures.number c.next_open.ensures.follows.free _ c.add_places.ensures.items

pub split_degrees-requires-clause-small_fourth : goal.split_degrees-requires-clause-small_fourth
split_degrees-requires-clause-small_fourth g c =
    let d : DegreesValue = record { kept = c.self.inside.kept; list = c.self.inside.list.items; room = vec_capacity c.self.inside.list } in
    let ready = subst (λ (d : DegreesValue). IsTrue d.kept → IsReady c.args.table.now d) (sym c.self.view_is) c.requires.ready c.if-self.true in
    small_ready {d = d} ready (side_of c.next_open-then-self.result) c.number_of-next_a.result c.number_of-next_a.ensures.number c.next_open-then-self.ensures.follows.free _ c.add_places.ensures.items
