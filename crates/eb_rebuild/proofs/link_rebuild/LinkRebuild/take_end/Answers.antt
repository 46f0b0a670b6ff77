-- A face more, its side 0 on top, and its events noted.
use Rattle.std.proofs.Common.{ℕ, Bool, IsTrue, ◌≡◌, suc, ◌*◌, ◌<◌, ◌∷◌, List, length, map, sym, refl, ap, ◌∙◌, subst, arith, add-one, Ok, ◌/◌}
use Rattle.corner_table.specs.Sides.{side_at, first}
use Rattle.corner_table.specs.Table.{glued_in, room_of}
use Rattle.eb_machine.proofs.Steps.{same_state, end_steps, end_refused}
use Rattle.eb_rebuild.specs.Linked.{LinkValue}
use Rattle.eb_rebuild.specs.Kept.{AreKeptBelow}
use Rattle.eb_rebuild.specs.KeptDegrees.{HasPlaces, with_room, after_end}
use Rattle.eb_rebuild.proofs.Linking.{link_grown, noted_does, side_at_first}
use Rattle.eb_rebuild.proofs.TableDegrees.{ready_at, list_end, live_top}
use Rattle.eb_rebuild.proofs.CornersNamed.{names_end, names_corners, names_vertices}
use Rattle.eb_rebuild.proofs.link_rebuild.LinkRebuild.take_end.Goals as goal

pub invariant_of-self : goal.invariant_of-self
invariant_of-self g c =
    let more = subst (λ (v : LinkValue). v.table.faces < v.plan.symbols) (sym c.self.view_is) c.requires.more in
    let F = c.add_face-face.ensures.face in
    let wide = subst (λ (v : LinkValue). v.table.faces < room_of v.table) (sym c.self.view_is) c.requires.room in
    let as_wide : room_of c.add_face-face.new.self ≡ room_of c.self.inside.table = ap (λ (l : List ℕ). length l / 3) c.add_face-face.ensures.entries in (
      link_grown c.self.invariant.0 (record {
        plan = refl;
        more = more;
        faces = c.add_face-face.ensures.faces ∙ add-one _;
        room = as_wide;
        stack_room = c.push.ensures.room;
        rest = c.self.inside.stack.sides;
        below = c.self.invariant.0.sides;
        shorter = omega arith;
        sides = c.push.ensures.sides ∙ ap (λ (n : ℕ). (3 * n) ∷ c.self.inside.stack.sides) c.add_face-face.ensures.face;
        slots = c.note.ensures.long;
        kept = subst (λ (n : ℕ). AreKeptBelow (suc n) c.note.new.self.kept) c.add_face-face.ensures.face (c.note.ensures.below (subst (λ (n : ℕ). AreKeptBelow n c.self.inside.splits.kept) (sym c.add_face-face.ensures.face) c.self.invariant.0.kept));
        made = omega arith;
        closes = refl;
      }),
      λ t e. list_end c.self.inside.table c.add_face-face.new.self c.self.inside.made c.self.inside.degrees c.note_end.new.self (c.self.invariant.1 (subst (λ (b : Bool). IsTrue b) c.note_end.ensures.kept t) e) c.self.invariant.0.made
          (c.add_face-face.ensures.faces ∙ add-one _) (ap glued_in c.add_face-face.ensures.entries) as_wide c.note_end.ensures.room
          (c.note_end.ensures.list (subst (λ (b : Bool). IsTrue b) c.note_end.ensures.kept t) ∙ ap (λ (n : ℕ). after_end n (with_room c.self.inside.degrees.list)) F),
      names_end c.self.inside.table c.add_face-face.new.self c.self.inside.made c.self.inside.names c.add_end.new.self c.self.invariant.2 (c.add_face-face.ensures.faces ∙ add-one _) (ap glued_in c.add_face-face.ensures.entries) as_wide
          c.add_end.ensures.names c.add_end.ensures.up c.add_end.ensures.room,
    )

pub returns-clause-does : goal.returns-clause-does
returns-clause-does g c =
    rw (← c.self.view_is)
    (noted_does _ _ c.self.inside.symbols c.self.inside.table.faces (length c.self.inside.splits.kept) c.add_face-face.result _ _ _ _ c.note.result c.self.invariant.0.slots c.add_face-face.ensures.face c.note.ensures.noted
    (λ h. end_steps _ _ _ _ h ∙ ap Ok (same_state
    (sym (c.add_face-face.ensures.faces ∙ add-one _))
    (ap glued_in (sym c.add_face-face.ensures.entries))
    (sym (ap (map side_at) c.push.ensures.sides ∙ ap (λ (n : ℕ). side_at (3 * n) ∷ map side_at c.self.inside.stack.sides) c.add_face-face.ensures.face ∙ ap (λ x. x ∷ map side_at c.self.inside.stack.sides) (side_at_first _)))
    refl refl refl refl))
    (λ x h. end_refused _ _ x h))

pub returns-clause-live : goal.returns-clause-live
returns-clause-live g c =
    live_top c.add_face-face.new.self c.push.new.self.sides c.self.inside.closes c.add_face-face.result c.self.inside.stack.sides c.note.result c.push.ensures.sides (c.add_face-face.ensures.free first).free

pub add_end-requires-clause-next : goal.add_end-requires-clause-next
add_end-requires-clause-next g c = sym c.self.invariant.2.as_many

pub add_end-requires-clause-limit : goal.add_end-requires-clause-limit
add_end-requires-clause-limit g c =
    let m = c.self.invariant.0.made in
    let l = c.self.invariant.0.limit in
    let r = c.self.invariant.0.room in
    let f = subst (λ (v : LinkValue). v.table.faces < room_of v.table) (sym c.self.view_is) c.requires.room in
    omega arith

pub add_end-requires-clause-corners : goal.add_end-requires-clause-corners
add_end-requires-clause-corners g c =
    names_corners c.self.invariant.2 (subst (λ (v : LinkValue). v.table.faces < room_of v.table) (sym c.self.view_is) c.requires.room)

pub add_end-requires-clause-vertices : goal.add_end-requires-clause-vertices
add_end-requires-clause-vertices g c =
    names_vertices c.self.invariant.2 c.self.invariant.0.made (subst (λ (v : LinkValue). v.table.faces < room_of v.table) (sym c.self.view_is) c.requires.room)

pub note_end-requires-clause-places : goal.note_end-requires-clause-places
note_end-requires-clause-places g c =
    let value : LinkValue = (record { plan = record { faces = c.self.inside.faces; created = c.self.inside.created; symbols = c.self.inside.symbols }; table = c.self.inside.table; stack = c.self.inside.stack; splits = c.self.inside.splits; made = c.self.inside.made; closes = c.self.inside.closes; has_degrees = c.self.inside.degrees.kept }) in
    λ t. subst (λ (n : ℕ). HasPlaces n c.self.inside.degrees) (sym c.add_face-face.ensures.face)
    (ready_at {v = value} c.self.invariant.0 (subst (λ (v : LinkValue). v.table.faces < v.plan.symbols) (sym c.self.view_is) c.requires.more) (subst (λ (v : LinkValue). v.table.faces < room_of v.table) (sym c.self.view_is) c.requires.room)
    (c.self.invariant.1 t (ap (λ (v : LinkValue). v.closes) c.self.view_is ∙ c.requires.unclosed))).places
