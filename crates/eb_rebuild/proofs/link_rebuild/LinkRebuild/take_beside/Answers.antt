-- A face more, glued to the top side, its side 0 on top, and its events noted.
use Rattle.std.proofs.Common.{◌≡◌, ℕ, Bool, IsTrue, suc, ◌+◌, ◌*◌, ◌<◌, ◌∷◌, length, sym, refl, ap, ◌∙◌, subst, arith, add-one}
use Rattle.corner_table.specs.Sides.{Side, Place, side, side_at, first, place_of, glue}
use Rattle.corner_table.specs.Table.{side_of, gluing_of, room_of}
use Rattle.eb_machine.specs.Beside.{glued_place}
use Rattle.eb_machine.proofs.Steps.{beside_no_top}
use Rattle.eb_rebuild.specs.Linked.{LinkValue, state_of}
use Rattle.eb_rebuild.specs.Kept.{AreKeptBelow}
use Rattle.eb_rebuild.proofs.Linking.{link_grown, beside_does, first_apart, Taken, taken_free}
use Rattle.eb_rebuild.proofs.TableDegrees.{ready_at, list_beside, live_top}
use Rattle.eb_rebuild.proofs.CornersNamed.{names_beside, names_corners, names_vertices, has_face, is_real}
use Rattle.eb_rebuild.proofs.link_rebuild.LinkRebuild.take_beside.Goals as goal

pub returns-in-Err-clause-does : goal.returns-in-Err-clause-does
returns-in-Err-clause-does g c = beside_no_top c.args.beside _ (state_of c.args.self.now) _ c.in-Err.ensures.err

pub invariant_of-self : goal.invariant_of-self
invariant_of-self g c =
    let taken = c.in-Ok.ensures.ok in
    let value : LinkValue = (record { plan = record { faces = c.self.inside.faces; created = c.self.inside.created; symbols = c.self.inside.symbols }; table = c.self.inside.table; stack = c.self.inside.stack; splits = c.self.inside.splits; made = c.self.inside.made; closes = c.self.inside.closes; has_degrees = c.self.inside.degrees.kept }) in
    let T : Taken c.args.self.now c.take_side.new.self value c.in-Ok.a = record { rest = c.take_side.ensures.rest; view = c.self.view_is; sides = taken.0; free = taken.1; below = taken.2 } in
    let whole = c.self.view_is ∙ c.take_side.ensures.rest in
    let more : value.table.faces < value.plan.symbols = subst (λ (v : LinkValue). v.table.faces < v.plan.symbols) (sym whole) c.requires.more in
    let F = c.add_beside-face.ensures.face in
    let wide = subst (λ (v : LinkValue). v.table.faces < room_of v.table) (sym whole) c.requires.room in
    let as_wide : room_of c.add_beside-face.new.self ≡ room_of c.self.inside.table = c.add_beside-face.ensures.room in
    let faces = c.add_beside-face.ensures.faces ∙ add-one _ in
    let glued = c.add_beside-face.ensures.glued
    ∙ ap (λ (n : ℕ). glue (side n (place_of c.glued-k.result)) (side_of c.side_with-top.result) (gluing_of c.self.inside.table)) F
    ∙ ap (λ (k : Place). glue (side c.self.inside.table.faces k) (side_of c.side_with-top.result) (gluing_of c.self.inside.table)) c.glued-k.ensures.place
    ∙ ap (λ (x : Side). glue (side c.self.inside.table.faces (glued_place c.args.beside)) x (gluing_of c.self.inside.table)) c.side_with-top.ensures.side in (
      link_grown c.self.invariant.0 (record {
        plan = refl;
        more = more;
        faces = c.add_beside-face.ensures.faces ∙ add-one _;
        room = as_wide;
        stack_room = c.push.ensures.room;
        rest = c.self.inside.stack.sides;
        below = c.self.invariant.0.sides;
        shorter = omega arith;
        sides = c.push.ensures.sides ∙ ap (λ (n : ℕ). (3 * n) ∷ c.self.inside.stack.sides) c.add_beside-face.ensures.face;
        slots = c.note.ensures.long;
        kept = subst (λ (n : ℕ). AreKeptBelow (suc n) c.note.new.self.kept) c.add_beside-face.ensures.face (c.note.ensures.below (subst (λ (n : ℕ). AreKeptBelow n c.self.inside.splits.kept) (sym c.add_beside-face.ensures.face) c.self.invariant.0.kept));
        made = omega arith;
        closes = refl;
      }),
      λ t e. (let u = subst (λ (b : Bool). IsTrue b) c.note_beside.ensures.kept t in
          list_beside c.args.beside c.self.inside.table c.add_beside-face.new.self c.self.inside.made c.self.inside.degrees c.note_beside.new.self c.in-Ok.a (c.self.invariant.1 u e) c.self.invariant.0.made faces glued as_wide (taken_free T)
          c.note_beside.ensures.room (c.note_beside.ensures.list u)),
      names_beside c.args.beside c.self.inside.table c.add_beside-face.new.self c.self.inside.made c.self.inside.names c.add_beside.new.self (side_at c.in-Ok.a) c.self.invariant.2 faces glued as_wide (taken_free T)
          c.add_beside.ensures.names c.add_beside.ensures.up c.add_beside.ensures.room,
    )

pub returns-clause-does : goal.returns-clause-does
returns-clause-does g c =
    let taken = c.in-Ok.ensures.ok in
    beside_does c.args.beside c.args.self.now c.take_side.new.self
    (record { plan = record { faces = c.self.inside.faces; created = c.self.inside.created; symbols = c.self.inside.symbols }; table = c.self.inside.table; stack = c.self.inside.stack; splits = c.self.inside.splits; made = c.self.inside.made; closes = c.self.inside.closes; has_degrees = c.self.inside.degrees.kept })
    (record { plan = record { faces = c.self.inside.faces; created = c.self.inside.created; symbols = c.self.inside.symbols }; table = c.add_beside-face.new.self; stack = c.push.new.self; splits = c.note.new.self; made = c.self.inside.made + 1; closes = c.self.inside.closes; has_degrees = c.self.inside.degrees.kept })
    c.in-Ok.a
    (record {
      rest = c.take_side.ensures.rest;
      view = c.self.view_is;
      sides = taken.0;
      free = taken.1;
      faces = c.add_beside-face.ensures.faces ∙ add-one _;
      glued = c.add_beside-face.ensures.glued
          ∙ ap (λ (n : ℕ). glue (side n (place_of c.glued-k.result)) (side_of c.side_with-top.result) (gluing_of c.self.inside.table)) c.add_beside-face.ensures.face
          ∙ ap (λ (k : Place). glue (side c.self.inside.table.faces k) (side_of c.side_with-top.result) (gluing_of c.self.inside.table)) c.glued-k.ensures.place
          ∙ ap (λ (x : Side). glue (side c.self.inside.table.faces (glued_place c.args.beside)) x (gluing_of c.self.inside.table)) c.side_with-top.ensures.side;
      stack = c.push.ensures.sides ∙ ap (λ (n : ℕ). (3 * n) ∷ c.self.inside.stack.sides) c.add_beside-face.ensures.face;
      made = refl;
      closes = refl;
    })
    (length c.self.inside.splits.kept) c.add_beside-face.result c.note.result c.self.invariant.0.slots c.add_beside-face.ensures.face c.note.ensures.noted

pub note_beside-requires-clause-free : goal.note_beside-requires-clause-free
note_beside-requires-clause-free g c =
    let taken = c.in-Ok.ensures.ok in
    let value : LinkValue = (record { plan = record { faces = c.self.inside.faces; created = c.self.inside.created; symbols = c.self.inside.symbols }; table = c.self.inside.table; stack = c.self.inside.stack; splits = c.self.inside.splits; made = c.self.inside.made; closes = c.self.inside.closes; has_degrees = c.self.inside.degrees.kept }) in
    let T : Taken c.args.self.now c.take_side.new.self value c.in-Ok.a = record { rest = c.take_side.ensures.rest; view = c.self.view_is; sides = taken.0; free = taken.1; below = taken.2 } in
    taken_free T

pub note_beside-requires-clause-ready : goal.note_beside-requires-clause-ready
note_beside-requires-clause-ready g c =
    let value : LinkValue = (record { plan = record { faces = c.self.inside.faces; created = c.self.inside.created; symbols = c.self.inside.symbols }; table = c.self.inside.table; stack = c.self.inside.stack; splits = c.self.inside.splits; made = c.self.inside.made; closes = c.self.inside.closes; has_degrees = c.self.inside.degrees.kept }) in
    let whole = c.self.view_is ∙ c.take_side.ensures.rest in
    λ t. ready_at {v = value} c.self.invariant.0 (subst (λ (v : LinkValue). v.table.faces < v.plan.symbols) (sym whole) c.requires.more) (subst (λ (v : LinkValue). v.table.faces < room_of v.table) (sym whole) c.requires.room)
    (c.self.invariant.1 t (ap (λ (v : LinkValue). v.closes) whole ∙ c.requires.unclosed))

pub returns-clause-live : goal.returns-clause-live
returns-clause-live g c =
    let f = c.add_beside-face.ensures.face in
    let below = c.in-Ok.ensures.ok.2 in
    let is = ap (λ (v : LinkValue). v.table.faces) (c.self.view_is ∙ c.take_side.ensures.rest) in
    let at = c.side_with-top.ensures.face in
    live_top c.add_beside-face.new.self c.push.new.self.sides c.self.inside.closes c.add_beside-face.result c.self.inside.stack.sides c.note.result c.push.ensures.sides
    (c.add_beside-face.ensures.free first (λ e. first_apart c.args.beside (e ∙ c.glued-k.ensures.place))).free

pub add_beside-requires-clause-next : goal.add_beside-requires-clause-next
add_beside-requires-clause-next g c = sym c.self.invariant.2.as_many

pub add_beside-requires-clause-real : goal.add_beside-requires-clause-real
add_beside-requires-clause-real g c =
    let whole = c.self.view_is ∙ c.take_side.ensures.rest in
    is_real c.self.invariant.0 c.in-Ok.a (subst (λ (v : LinkValue). c.in-Ok.a < 3 * v.table.faces) (sym whole) c.in-Ok.ensures.ok.2) (subst (λ (v : LinkValue). v.table.faces < room_of v.table) (sym whole) c.requires.room)

pub add_beside-requires-clause-face : goal.add_beside-requires-clause-face
add_beside-requires-clause-face g c =
    has_face c.self.invariant.2 c.in-Ok.a (subst (λ (v : LinkValue). c.in-Ok.a < 3 * v.table.faces) (sym (c.self.view_is ∙ c.take_side.ensures.rest)) c.in-Ok.ensures.ok.2)

pub add_beside-requires-clause-corners : goal.add_beside-requires-clause-corners
add_beside-requires-clause-corners g c =
    names_corners c.self.invariant.2 (subst (λ (v : LinkValue). v.table.faces < room_of v.table) (sym (c.self.view_is ∙ c.take_side.ensures.rest)) c.requires.room)

pub add_beside-requires-clause-vertices : goal.add_beside-requires-clause-vertices
add_beside-requires-clause-vertices g c =
    let r = names_vertices c.self.invariant.2 c.self.invariant.0.made (subst (λ (v : LinkValue). v.table.faces < room_of v.table) (sym (c.self.view_is ∙ c.take_side.ensures.rest)) c.requires.room) in
    omega arith
