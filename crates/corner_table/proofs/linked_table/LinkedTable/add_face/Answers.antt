-- The lists with one more face are those of a table with links.
use Rattle.std.proofs.Common.{◌<◌, sym, subst, arith, add-one}
use Rattle.corner_table.specs.Table.{Table, room_of}
use Rattle.corner_table.proofs.TableSteps.{links_grown}
use Rattle.corner_table.proofs.linked_table.LinkedTable.add_face.Goals as goal

pub invariant_of-self : goal.invariant_of-self
invariant_of-self g c =
    let room = subst (λ (t : Table). t.faces < room_of t) (sym c.self.view_is) c.requires in
    rw (c.add_face-face.ensures.faces, c.add_face-face.ensures.entries, add-one, c.link_face.ensures.after, c.link_face.ensures.before, c.add_face-face.ensures.face)
    (links_grown c.self.invariant.0 (omega arith), (let r = c.link_face.ensures.after_room in let i = c.self.invariant.1 in omega arith), (let r = c.link_face.ensures.before_room in let i = c.self.invariant.2 in omega arith))
