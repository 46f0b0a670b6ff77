-- A face more, glued to the top side and to the side before it.
use Rattle.std.proofs.Common.{◌≡◌, ℕ, Bool, IsTrue, Ok, ◌*◌, ◌<◌, ◌∷◌, sym, refl, ap, ◌∙◌, subst, arith, add-one}
use Rattle.corner_table.specs.Sides.{Side, side, side_at, next, prev, second, third, glue, IsFree}
use Rattle.corner_table.specs.Fans.{side_before, Follows}
use Rattle.corner_table.specs.Table.{side_of, gluing_of, room_of}
use Rattle.corner_table.proofs.Places.{same-true, same-false}
use Rattle.eb_machine.proofs.Steps.{tip_no_top}
use Rattle.eb_rebuild.specs.Linked.{LinkValue, state_of}
use Rattle.eb_rebuild.proofs.Noting.{kept_below_more}
use Rattle.eb_rebuild.proofs.Linking.{link_grown, tip_does, tip_alone_does, Taken, taken_free}
use Rattle.eb_rebuild.proofs.TableDegrees.{ready_at, list_tip, live_top}
use Rattle.eb_rebuild.proofs.CornersNamed.{names_tip, names_corners, has_face, is_real}
use Rattle.eb_rebuild.specs.CornerNames.{with_face, name_at}
use Rattle.corner_table.proofs.Numbers.{side_at-number, number-lt}
use Rattle.eb_rebuild.proofs.link_rebuild.LinkRebuild.take_tip.Goals as goal

pub returns-in-Err-clause-does : goal.returns-in-Err-clause-does
returns-in-Err-clause-does g c = tip_no_top _ (state_of c.args.self.now) _ c.in-Err.ensures.err

pub returns-then-is_same-clause-does : goal.returns-then-is_same-clause-does
returns-then-is_same-clause-does g c =
    let taken = c.in-Ok.ensures.ok in
    rw c.new.ensures (tip_alone_does c.args.self.now c.take_side.new.self
    (record { plan = record { faces = c.self.inside.faces; created = c.self.inside.created; symbols = c.self.inside.symbols }; table = c.self.inside.table; stack = c.self.inside.stack; splits = c.self.inside.splits; made = c.self.inside.made; closes = c.self.inside.closes; has_degrees = c.self.inside.degrees.kept })
    c.in-Ok.a (side_of c.prev_open-before.result) c.from.result
    (record { rest = c.take_side.ensures.rest; view = c.self.view_is; sides = taken.0; free = taken.1; below = taken.2 })
    (c.prev_open-before.ensures.previous ∙ ap (side_before c.self.inside.table.faces (gluing_of c.self.inside.table)) c.side_with-top.ensures.side)
    (same-true _ _ (sym c.is_same.ensures ∙ c.if-is_same.true) ∙ c.side_with-top.ensures.side)
    (c.from.ensures ∙ c.face_count.ensures.count))

pub invariant_of-self : goal.invariant_of-self
invariant_of-self g c =
    let taken = c.in-Ok.ensures.ok in
    let value : LinkValue = (record { plan = record { faces = c.self.inside.faces; created = c.self.inside.created; symbols = c.self.inside.symbols }; table = c.self.inside.table; stack = c.self.inside.stack; splits = c.self.inside.splits; made = c.self.inside.made; closes = c.self.inside.closes; has_degrees = c.self.inside.degrees.kept }) in
    let T : Taken c.args.self.now c.take_side.new.self value c.in-Ok.a = record { rest = c.take_side.ensures.rest; view = c.self.view_is; sides = taken.0; free = taken.1; below = taken.2 } in
    let whole = c.self.view_is ∙ c.take_side.ensures.rest in
    let more : value.table.faces < value.plan.symbols = subst (λ (v : LinkValue). v.table.faces < v.plan.symbols) (sym whole) c.requires.more in
    let F = c.add_tip-face.ensures.face in
    let wide = subst (λ (v : LinkValue). v.table.faces < room_of v.table) (sym whole) c.requires.room in
    let as_wide : room_of c.add_tip-face.new.self ≡ room_of c.self.inside.table = c.add_tip-face.ensures.room in
    let before = side_of c.prev_open-before.result in
    let faces = c.add_tip-face.ensures.faces ∙ add-one _ in
    let glued = c.add_tip-face.ensures.glued
    ∙ ap (λ (n : ℕ). glue (side n third) before (glue (side n second) (side_of c.side_with-top.result) (gluing_of c.self.inside.table))) F
    ∙ ap (λ (x : Side). glue (side c.self.inside.table.faces third) before (glue (side c.self.inside.table.faces second) x (gluing_of c.self.inside.table))) c.side_with-top.ensures.side in
    let comes = subst (Follows c.self.inside.table.faces (gluing_of c.self.inside.table) before) c.side_with-top.ensures.side c.prev_open-before.ensures.follows in (
      link_grown c.self.invariant.0 (record {
        plan = refl;
        more = more;
        faces = c.add_tip-face.ensures.faces ∙ add-one _;
        room = as_wide;
        stack_room = c.push.ensures.room;
        rest = c.self.inside.stack.sides;
        below = c.self.invariant.0.sides;
        shorter = omega arith;
        sides = c.push.ensures.sides ∙ ap (λ (n : ℕ). (3 * n) ∷ c.self.inside.stack.sides) c.add_tip-face.ensures.face;
        slots = refl;
        kept = kept_below_more _ _ c.self.invariant.0.kept;
        made = omega arith;
        closes = refl;
      }),
      λ t e. (let u = subst (λ (b : Bool). IsTrue b) c.note_tip.ensures.kept t in
          list_tip c.self.inside.table c.add_tip-face.new.self c.self.inside.made c.self.inside.degrees c.note_tip.new.self c.in-Ok.a c.number_of-tip.result before c.number_of-tip.ensures.number (c.self.invariant.1 u e) c.self.invariant.0.made faces glued as_wide (taken_free T) c.prev_open-before.ensures.free
          (λ q. same-false _ _ (sym c.is_same.ensures ∙ c.if-is_same.false) (q ∙ sym c.side_with-top.ensures.side)) comes c.note_tip.ensures.room (c.note_tip.ensures.list u)),
      names_tip c.self.inside.table c.add_tip-face.new.self c.self.inside.made c.self.inside.names c.add_tip.new.self (side_at c.in-Ok.a) before c.self.invariant.2 faces glued as_wide (taken_free T) c.prev_open-before.ensures.free
          (λ q. same-false _ _ (sym c.is_same.ensures ∙ c.if-is_same.false) (q ∙ sym c.side_with-top.ensures.side)) comes
          (c.add_tip.ensures ∙ ap (λ (x : Side). record c.self.inside.names { names = with_face c.self.inside.names.names (name_at c.self.inside.names (next (side_at c.in-Ok.a)), name_at c.self.inside.names (next x), name_at c.self.inside.names (prev (side_at c.in-Ok.a))) })
          (ap side_at c.number_of-tip.ensures.number ∙ side_at-number before)),
    )

pub returns-clause-does : goal.returns-clause-does
returns-clause-does g c =
    let taken = c.in-Ok.ensures.ok in
    tip_does c.args.self.now c.take_side.new.self
    (record { plan = record { faces = c.self.inside.faces; created = c.self.inside.created; symbols = c.self.inside.symbols }; table = c.self.inside.table; stack = c.self.inside.stack; splits = c.self.inside.splits; made = c.self.inside.made; closes = c.self.inside.closes; has_degrees = c.self.inside.degrees.kept })
    (record { plan = record { faces = c.self.inside.faces; created = c.self.inside.created; symbols = c.self.inside.symbols }; table = c.add_tip-face.new.self; stack = c.push.new.self; splits = c.self.inside.splits; made = c.self.inside.made; closes = c.self.inside.closes; has_degrees = c.self.inside.degrees.kept })
    c.in-Ok.a (side_of c.prev_open-before.result)
    (record { rest = c.take_side.ensures.rest; view = c.self.view_is; sides = taken.0; free = taken.1; below = taken.2 })
    (record {
      faces = c.add_tip-face.ensures.faces ∙ add-one _;
      glued = c.add_tip-face.ensures.glued
          ∙ ap (λ (n : ℕ). glue (side n third) (side_of c.prev_open-before.result) (glue (side n second) (side_of c.side_with-top.result) (gluing_of c.self.inside.table))) c.add_tip-face.ensures.face
          ∙ ap (λ (x : Side). glue (side c.self.inside.table.faces third) (side_of c.prev_open-before.result) (glue (side c.self.inside.table.faces second) x (gluing_of c.self.inside.table))) c.side_with-top.ensures.side;
      stack = c.push.ensures.sides ∙ ap (λ (n : ℕ). (3 * n) ∷ c.self.inside.stack.sides) c.add_tip-face.ensures.face;
      splits = refl;
      made = refl;
      closes = refl;
    })
    (c.prev_open-before.ensures.previous ∙ ap (side_before c.self.inside.table.faces (gluing_of c.self.inside.table)) c.side_with-top.ensures.side)
    (λ e. same-false _ _ (sym c.is_same.ensures ∙ c.if-is_same.false) (e ∙ sym c.side_with-top.ensures.side))

pub note_tip-requires-clause-free : goal.note_tip-requires-clause-free
note_tip-requires-clause-free g c =
    let taken = c.in-Ok.ensures.ok in
    let value : LinkValue = (record { plan = record { faces = c.self.inside.faces; created = c.self.inside.created; symbols = c.self.inside.symbols }; table = c.self.inside.table; stack = c.self.inside.stack; splits = c.self.inside.splits; made = c.self.inside.made; closes = c.self.inside.closes; has_degrees = c.self.inside.degrees.kept }) in
    let T : Taken c.args.self.now c.take_side.new.self value c.in-Ok.a = record { rest = c.take_side.ensures.rest; view = c.self.view_is; sides = taken.0; free = taken.1; below = taken.2 } in
    taken_free T

pub note_tip-requires-clause-ready : goal.note_tip-requires-clause-ready
note_tip-requires-clause-ready g c =
    let value : LinkValue = (record { plan = record { faces = c.self.inside.faces; created = c.self.inside.created; symbols = c.self.inside.symbols }; table = c.self.inside.table; stack = c.self.inside.stack; splits = c.self.inside.splits; made = c.self.inside.made; closes = c.self.inside.closes; has_degrees = c.self.inside.degrees.kept }) in
    let whole = c.self.view_is ∙ c.take_side.ensures.rest in
    λ t. ready_at {v = value} c.self.invariant.0 (subst (λ (v : LinkValue). v.table.faces < v.plan.symbols) (sym whole) c.requires.more) (subst (λ (v : LinkValue). v.table.faces < room_of v.table) (sym whole) c.requires.room)
    (c.self.invariant.1 t (ap (λ (v : LinkValue). v.closes) whole ∙ c.requires.unclosed))

pub note_tip-requires-clause-free_before : goal.note_tip-requires-clause-free_before
note_tip-requires-clause-free_before g c =
    subst (IsFree c.self.inside.table.faces (gluing_of c.self.inside.table)) (sym (ap side_at c.number_of-tip.ensures.number ∙ side_at-number (side_of c.prev_open-before.result))) c.prev_open-before.ensures.free

pub returns-clause-live : goal.returns-clause-live
returns-clause-live g c =
    let f = c.add_tip-face.ensures.face in
    let below = c.in-Ok.ensures.ok.2 in
    let is = ap (λ (v : LinkValue). v.table.faces) (c.self.view_is ∙ c.take_side.ensures.rest) in
    let at = c.side_with-top.ensures.face in
    let w = c.prev_open-before.ensures.free.within in
    live_top c.add_tip-face.new.self c.push.new.self.sides c.self.inside.closes c.add_tip-face.result c.self.inside.stack.sides (Ok tt) c.push.ensures.sides
    c.add_tip-face.ensures.free.free

pub add_tip-requires-clause-real : goal.add_tip-requires-clause-real
add_tip-requires-clause-real g c =
    let whole = c.self.view_is ∙ c.take_side.ensures.rest in
    is_real c.self.invariant.0 c.in-Ok.a (subst (λ (v : LinkValue). c.in-Ok.a < 3 * v.table.faces) (sym whole) c.in-Ok.ensures.ok.2) (subst (λ (v : LinkValue). v.table.faces < room_of v.table) (sym whole) c.requires.room)

pub add_tip-requires-clause-real_before : goal.add_tip-requires-clause-real_before
add_tip-requires-clause-real_before g c =
    let whole = c.self.view_is ∙ c.take_side.ensures.rest in
    is_real c.self.invariant.0 c.number_of-tip.result (subst (λ (n : ℕ). n < 3 * c.self.inside.table.faces) (sym c.number_of-tip.ensures.number) (number-lt (side_of c.prev_open-before.result) c.self.inside.table.faces c.prev_open-before.ensures.free.within))
    (subst (λ (v : LinkValue). v.table.faces < room_of v.table) (sym whole) c.requires.room)

pub add_tip-requires-clause-face : goal.add_tip-requires-clause-face
add_tip-requires-clause-face g c =
    has_face c.self.invariant.2 c.in-Ok.a (subst (λ (v : LinkValue). c.in-Ok.a < 3 * v.table.faces) (sym (c.self.view_is ∙ c.take_side.ensures.rest)) c.in-Ok.ensures.ok.2)

pub add_tip-requires-clause-face_before : goal.add_tip-requires-clause-face_before
add_tip-requires-clause-face_before g c =
    has_face c.self.invariant.2 c.number_of-tip.result (subst (λ (n : ℕ). n < 3 * c.self.inside.table.faces) (sym c.number_of-tip.ensures.number) (number-lt (side_of c.prev_open-before.result) c.self.inside.table.faces c.prev_open-before.ensures.free.within))

pub add_tip-requires-clause-corners : goal.add_tip-requires-clause-corners
add_tip-requires-clause-corners g c =
    names_corners c.self.invariant.2 (subst (λ (v : LinkValue). v.table.faces < room_of v.table) (sym (c.self.view_is ∙ c.take_side.ensures.rest)) c.requires.room)
