-- A face more beside a free side: that side's links are in range, and the new links are those of the new boundary.
use Rattle.std.proofs.Common.{◌≡◌, ℕ, ◌<◌, List, length, sym, ap, ◌∙◌, subst, arith, add-one}
use Rattle.corner_table.specs.Sides.{Side, side, number, place_of, place_after, place_before, glue}
use Rattle.corner_table.specs.Table.{Table, side_of, glued_in, room_of, IsFreeIn}
use Rattle.corner_table.proofs.Places.{face_apart}
use Rattle.corner_table.proofs.TableSteps.{next_within, previous_within, free_more, links_grown}
use Rattle.corner_table.proofs.Replacing.{links_beside, still_free}
use Rattle.corner_table.proofs.linked_table.LinkedTable.add_beside.Goals as goal

pub replace-requires-clause-next : goal.replace-requires-clause-next
replace-requires-clause-next g c =
    let free = subst (λ (t : Table). IsFreeIn t (side_of c.args.top)) (sym c.self.view_is) c.requires.top in
    let room = subst (λ (t : Table). t.faces < room_of t) (sym c.self.view_is) c.requires.more in
    let grown_table = links_grown c.self.invariant.0 (omega arith) in
    rw (c.link_face.ensures.after, c.link_face.ensures.before, c.number_of-across.ensures.number, c.grow-face.ensures.face)
    (let h = next_within grown_table (side_of c.args.top) (free_more (side_of c.args.top) free) in let e = grown_table.each_before in omega arith)

pub replace-requires-clause-previous : goal.replace-requires-clause-previous
replace-requires-clause-previous g c =
    let free = subst (λ (t : Table). IsFreeIn t (side_of c.args.top)) (sym c.self.view_is) c.requires.top in
    let room = subst (λ (t : Table). t.faces < room_of t) (sym c.self.view_is) c.requires.more in
    let grown_table = links_grown c.self.invariant.0 (omega arith) in
    rw (c.link_face.ensures.after, c.link_face.ensures.before, c.number_of-across.ensures.number, c.grow-face.ensures.face)
    (let h = previous_within grown_table (side_of c.args.top) (free_more (side_of c.args.top) free) in let e = grown_table.each_after in omega arith)

pub invariant_of-self : goal.invariant_of-self
invariant_of-self g c =
    let free = subst (λ (t : Table). IsFreeIn t (side_of c.args.top)) (sym c.self.view_is) c.requires.top in
    let room = subst (λ (t : Table). t.faces < room_of t) (sym c.self.view_is) c.requires.more in
    let first = c.number_of-first.ensures.number ∙ ap number c.next_of.ensures ∙ ap (λ (f : ℕ). number (side f (place_after (place_of c.args.k)))) c.grow-face.ensures.face in
    let second = c.number_of-second.ensures.number ∙ ap number c.previous_of.ensures ∙ ap (λ (f : ℕ). number (side f (place_before (place_of c.args.k)))) c.grow-face.ensures.face in
    rw (c.pair.ensures.faces, c.replace.ensures.after, c.replace.ensures.before, c.link_face.ensures.after, c.link_face.ensures.before, c.number_of-across.ensures.number, first, second, c.grow-face.ensures.faces, c.grow-face.ensures.face, add-one c.self.inside.sides.faces) (
      links_beside (place_of c.args.k) (side_of c.args.top) c.self.invariant.0 free (omega arith) (c.pair.ensures.entries ∙ ap length c.grow-face.ensures.entries)
          (c.pair.ensures.glued ∙ ap (λ (l : List ℕ). glue (side c.grow-face.result (place_of c.args.k)) (side_of c.args.top) (glued_in l)) c.grow-face.ensures.entries
          ∙ ap (λ (f : ℕ). glue (side f (place_of c.args.k)) (side_of c.args.top) (glued_in c.self.inside.sides.entries)) c.grow-face.ensures.face),
      (let e = c.pair.ensures.entries in let h = ap length c.grow-face.ensures.entries in let r = c.replace.ensures.after_room in let q = c.link_face.ensures.after_room in let i = c.self.invariant.1 in omega arith),
      (let e = c.pair.ensures.entries in let h = ap length c.grow-face.ensures.entries in let r = c.replace.ensures.before_room in let q = c.link_face.ensures.before_room in let i = c.self.invariant.2 in omega arith),
    )

pub returns-clause-free : goal.returns-clause-free
returns-clause-free g c =
    let free = subst (λ (t : Table). IsFreeIn t (side_of c.args.top)) (sym c.self.view_is) c.requires.top in
    let w = free.within in
    let f = c.grow-face.ensures.face in
    λ j h. still_free (side c.grow-face.result (place_of c.args.k)) (side_of c.args.top) (side c.grow-face.result j) c.pair.ensures.faces c.pair.ensures.glued (c.grow-face.ensures.free j)
    (λ e. h (ap (λ (x : Side). x.place) e))
    (face_apart _ _ (λ e. (let no : c.grow-face.result ≡ c.args.top.face = e in absurd (omega arith))))
