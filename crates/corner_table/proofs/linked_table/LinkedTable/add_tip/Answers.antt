-- A face more in a corner of the boundary: the links of the two sides are in range, and the new links are those of the new boundary.
use Rattle.std.proofs.Common.{◌≡◌, ℕ, ◌<◌, List, length, sym, ap, ◌∙◌, subst, arith, add-one}
use Rattle.corner_table.specs.Sides.{Side, first, second, third, side, glue}
use Rattle.corner_table.specs.Fans.{side_before}
use Rattle.corner_table.specs.Table.{Table, side_of, glued_in, gluing_of, room_of, IsFreeIn}
use Rattle.corner_table.proofs.Places.{face_apart}
use Rattle.corner_table.proofs.Numbers.{number-lt}
use Rattle.corner_table.proofs.TableSteps.{next_within, previous_within, free_more, links_grown}
use Rattle.corner_table.proofs.Replacing.{links_tip, previous_free, grown_free, still_free}
use Rattle.corner_table.proofs.linked_table.LinkedTable.add_tip.Goals as goal

pub number_of-right-requires : goal.number_of-right-requires
number_of-right-requires g c =
    let free = subst (λ (t : Table). IsFreeIn t (side_of c.args.top)) (sym c.self.view_is) c.requires.top in
    let is = subst (λ (t : Table). side_of c.args.previous ≡ side_before t.faces (gluing_of t) (side_of c.args.top)) (sym c.self.view_is) c.requires.previous in
    let before = previous_free c.self.invariant.0.table.gluing (side_of c.args.top) (side_of c.args.previous) free is in
    let w = before.within in
    let fits = c.self.invariant.0.table.fits in
    let limit = c.self.invariant.0.table.limit in
    omega arith

pub close_up-requires-clause-previous : goal.close_up-requires-clause-previous
close_up-requires-clause-previous g c =
    let free = subst (λ (t : Table). IsFreeIn t (side_of c.args.top)) (sym c.self.view_is) c.requires.top in
    let is = subst (λ (t : Table). side_of c.args.previous ≡ side_before t.faces (gluing_of t) (side_of c.args.top)) (sym c.self.view_is) c.requires.previous in
    let before = previous_free c.self.invariant.0.table.gluing (side_of c.args.top) (side_of c.args.previous) free is in
    let room = subst (λ (t : Table). t.faces < room_of t) (sym c.self.view_is) c.requires.more in
    let grown_table = links_grown c.self.invariant.0 (omega arith) in
    rw (c.link_face.ensures.before, c.number_of-right.ensures.number, c.grow-face.ensures.face)
    (let n = number-lt (side_of c.args.previous) c.self.inside.sides.faces before.within in let e = grown_table.each_before in omega arith)

pub close_up-requires-clause-next : goal.close_up-requires-clause-next
close_up-requires-clause-next g c =
    let free = subst (λ (t : Table). IsFreeIn t (side_of c.args.top)) (sym c.self.view_is) c.requires.top in
    let room = subst (λ (t : Table). t.faces < room_of t) (sym c.self.view_is) c.requires.more in
    let grown_table = links_grown c.self.invariant.0 (omega arith) in
    rw (c.link_face.ensures.after, c.link_face.ensures.before, c.number_of-left.ensures.number, c.grow-face.ensures.face)
    (let h = next_within grown_table (side_of c.args.top) (free_more (side_of c.args.top) free) in let e = grown_table.each_before in omega arith)

pub close_up-requires-clause-earlier : goal.close_up-requires-clause-earlier
close_up-requires-clause-earlier g c =
    let free = subst (λ (t : Table). IsFreeIn t (side_of c.args.top)) (sym c.self.view_is) c.requires.top in
    let is = subst (λ (t : Table). side_of c.args.previous ≡ side_before t.faces (gluing_of t) (side_of c.args.top)) (sym c.self.view_is) c.requires.previous in
    let before = previous_free c.self.invariant.0.table.gluing (side_of c.args.top) (side_of c.args.previous) free is in
    let room = subst (λ (t : Table). t.faces < room_of t) (sym c.self.view_is) c.requires.more in
    let grown_table = links_grown c.self.invariant.0 (omega arith) in
    rw (c.link_face.ensures.after, c.link_face.ensures.before, c.number_of-right.ensures.number, c.grow-face.ensures.face)
    (let h = previous_within grown_table (side_of c.args.previous) (free_more (side_of c.args.previous) before) in let e = grown_table.each_after in omega arith)

pub pair-requires-clause-first : goal.pair-requires-clause-first
pair-requires-clause-first g c = c.grow-face.ensures.free second

pub pair-requires-2-clause-first : goal.pair-requires-2-clause-first
pair-requires-2-clause-first g c =
    let free = subst (λ (t : Table). IsFreeIn t (side_of c.args.top)) (sym c.self.view_is) c.requires.top in
    let w = free.within in
    let f = c.grow-face.ensures.face in
    still_free (side c.grow-face.result second) (side_of c.args.top) (side c.grow-face.result third) c.pair.ensures.faces c.pair.ensures.glued (c.grow-face.ensures.free third)
    (λ e. (let no = ap (λ (x : Side). x.place) e in cc))
    (face_apart _ _ (λ e. (let no : c.grow-face.result ≡ c.args.top.face = e in absurd (omega arith))))

pub pair-requires-2-clause-second : goal.pair-requires-2-clause-second
pair-requires-2-clause-second g c =
    let free = subst (λ (t : Table). IsFreeIn t (side_of c.args.top)) (sym c.self.view_is) c.requires.top in
    let is = subst (λ (t : Table). side_of c.args.previous ≡ side_before t.faces (gluing_of t) (side_of c.args.top)) (sym c.self.view_is) c.requires.previous in
    let before = previous_free c.self.invariant.0.table.gluing (side_of c.args.top) (side_of c.args.previous) free is in
    let w = before.within in
    let f = c.grow-face.ensures.face in
    still_free (side c.grow-face.result second) (side_of c.args.top) (side_of c.args.previous) c.pair.ensures.faces c.pair.ensures.glued
    (grown_free (side_of c.args.previous) c.grow-face.ensures.faces c.grow-face.ensures.entries before)
    (face_apart _ _ (λ e. (let no : c.args.previous.face ≡ c.grow-face.result = e in absurd (omega arith)))) c.requires.apart

pub pair-requires-2-clause-apart : goal.pair-requires-2-clause-apart
pair-requires-2-clause-apart g c =
    let free = subst (λ (t : Table). IsFreeIn t (side_of c.args.top)) (sym c.self.view_is) c.requires.top in
    let is = subst (λ (t : Table). side_of c.args.previous ≡ side_before t.faces (gluing_of t) (side_of c.args.top)) (sym c.self.view_is) c.requires.previous in
    let before = previous_free c.self.invariant.0.table.gluing (side_of c.args.top) (side_of c.args.previous) free is in
    let w = before.within in
    let f = c.grow-face.ensures.face in
    λ e. absurd (omega arith)

pub invariant_of-self : goal.invariant_of-self
invariant_of-self g c =
    let free = subst (λ (t : Table). IsFreeIn t (side_of c.args.top)) (sym c.self.view_is) c.requires.top in
    let is = subst (λ (t : Table). side_of c.args.previous ≡ side_before t.faces (gluing_of t) (side_of c.args.top)) (sym c.self.view_is) c.requires.previous in
    let before = previous_free c.self.invariant.0.table.gluing (side_of c.args.top) (side_of c.args.previous) free is in
    let room = subst (λ (t : Table). t.faces < room_of t) (sym c.self.view_is) c.requires.more in
    rw (c.pair-2.ensures.faces, c.pair.ensures.faces, c.close_up.ensures.after, c.close_up.ensures.before, c.link_face.ensures.after, c.link_face.ensures.before, c.number_of-left.ensures.number, c.number_of-right.ensures.number, c.number_of-open.ensures.number, c.grow-face.ensures.faces, c.grow-face.ensures.face, add-one c.self.inside.sides.faces) (
      links_tip (side_of c.args.top) (side_of c.args.previous) c.self.invariant.0 free is c.requires.apart (omega arith)
          (c.pair-2.ensures.entries ∙ c.pair.ensures.entries ∙ ap length c.grow-face.ensures.entries)
          (c.pair-2.ensures.glued ∙ ap (glue (side c.grow-face.result third) (side_of c.args.previous)) (c.pair.ensures.glued ∙ ap (λ (l : List ℕ). glue (side c.grow-face.result second) (side_of c.args.top) (glued_in l)) c.grow-face.ensures.entries)
          ∙ ap (λ (f : ℕ). glue (side f third) (side_of c.args.previous) (glue (side f second) (side_of c.args.top) (glued_in c.self.inside.sides.entries))) c.grow-face.ensures.face),
      (let e = c.pair-2.ensures.entries in let d = c.pair.ensures.entries in let h = ap length c.grow-face.ensures.entries in let r = c.close_up.ensures.after_room in let q = c.link_face.ensures.after_room in let i = c.self.invariant.1 in omega arith),
      (let e = c.pair-2.ensures.entries in let d = c.pair.ensures.entries in let h = ap length c.grow-face.ensures.entries in let r = c.close_up.ensures.before_room in let q = c.link_face.ensures.before_room in let i = c.self.invariant.2 in omega arith),
    )

pub returns-clause-free : goal.returns-clause-free
returns-clause-free g c =
    let free = subst (λ (t : Table). IsFreeIn t (side_of c.args.top)) (sym c.self.view_is) c.requires.top in
    let is = subst (λ (t : Table). side_of c.args.previous ≡ side_before t.faces (gluing_of t) (side_of c.args.top)) (sym c.self.view_is) c.requires.previous in
    let before = previous_free c.self.invariant.0.table.gluing (side_of c.args.top) (side_of c.args.previous) free is in
    let w = free.within in
    let v = before.within in
    let f = c.grow-face.ensures.face in
    still_free (side c.grow-face.result third) (side_of c.args.previous) (side c.grow-face.result first) c.pair-2.ensures.faces c.pair-2.ensures.glued
    (still_free (side c.grow-face.result second) (side_of c.args.top) (side c.grow-face.result first) c.pair.ensures.faces c.pair.ensures.glued (c.grow-face.ensures.free first)
    (λ e. (let no = ap (λ (x : Side). x.place) e in cc))
    (face_apart _ _ (λ e. (let no : c.grow-face.result ≡ c.args.top.face = e in absurd (omega arith)))))
    (λ e. (let no = ap (λ (x : Side). x.place) e in cc))
    (face_apart _ _ (λ e. (let no : c.grow-face.result ≡ c.args.previous.face = e in absurd (omega arith))))
