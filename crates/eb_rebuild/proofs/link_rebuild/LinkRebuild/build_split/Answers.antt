-- A face more, glued to two free sides.
use Rattle.std.proofs.Common.{◌≡◌, ℕ, suc, Bool, IsTrue, Ok, ◌*◌, ◌/◌, ◌<◌, [], ◌∷◌, List, length, sym, refl, ap, ◌∙◌, subst, arith, add-one}
use Rattle.corner_table.specs.Sides.{side_at, side, first, second, third, glue, IsFree}
use Rattle.corner_table.specs.Table.{side_of, glued_in, gluing_of, room_of, IsFreeIn}
use Rattle.eb_machine.specs.OneFaceMore.{Pairs}
use Rattle.eb_machine.proofs.ManyGlued.{glued_by, place_free, old_free}
use Rattle.eb_rebuild.specs.Linked.{LinkValue}
use Rattle.eb_rebuild.proofs.Noting.{kept_below_more}
use Rattle.eb_rebuild.proofs.Linking.{link_grown}
use Rattle.eb_rebuild.proofs.TableDegrees.{ready_at, list_split, live_top}
use Rattle.eb_rebuild.proofs.CornersNamed.{names_split, names_corners, has_face, is_real, start_below, end_below}
use Rattle.eb_rebuild.proofs.link_rebuild.LinkRebuild.build_split.Goals as goal

pub note_split-requires-clause-free : goal.note_split-requires-clause-free
note_split-requires-clause-free g c = subst (λ (v : LinkValue). IsFreeIn v.table (side_at c.args.b)) (sym c.self.view_is) c.requires.first

pub note_split-requires-clause-free_second : goal.note_split-requires-clause-free_second
note_split-requires-clause-free_second g c = subst (λ (v : LinkValue). IsFreeIn v.table (side_at c.args.a)) (sym c.self.view_is) c.requires.second

pub note_split-requires-clause-ready : goal.note_split-requires-clause-ready
note_split-requires-clause-ready g c =
    let v : LinkValue = record { plan = record { faces = c.self.inside.faces; created = c.self.inside.created; symbols = c.self.inside.symbols }; table = c.self.inside.table; stack = c.self.inside.stack; splits = c.self.inside.splits; made = c.self.inside.made; closes = c.self.inside.closes; has_degrees = c.self.inside.degrees.kept } in
    λ t. ready_at {v = v} c.self.invariant.0
    (subst (λ (v : LinkValue). v.table.faces < v.plan.symbols) (sym c.self.view_is) c.requires.more)
    (subst (λ (v : LinkValue). v.table.faces < room_of v.table) (sym c.self.view_is) c.requires.room)
    (c.self.invariant.1 t (ap (λ (v : LinkValue). v.closes) c.self.view_is ∙ c.requires.unclosed))

pub glue-requires-clause-first : goal.glue-requires-clause-first
glue-requires-clause-first g c = c.add_face-face.ensures.free third

pub glue-requires-2-clause-first : goal.glue-requires-2-clause-first
glue-requires-2-clause-first g c =
    let v : LinkValue = record { plan = record { faces = c.self.inside.faces; created = c.self.inside.created; symbols = c.self.inside.symbols }; table = c.self.inside.table; stack = c.self.inside.stack; splits = c.self.inside.splits; made = c.self.inside.made; closes = c.self.inside.closes; has_degrees = c.self.inside.degrees.kept } in
    let f = v.table.faces in
    let A : IsFree v.table.faces (gluing_of v.table) (side_at c.args.a) = subst (λ (v : LinkValue). IsFreeIn v.table (side_at c.args.a)) (sym c.self.view_is) c.requires.second in
    let ps : Pairs = (third, side_at c.args.a) ∷ [] in
    let one = glued_by (gluing_of v.table) (gluing_of c.add_face-face.new.self) (gluing_of c.glue.new.self) f c.add_face-face.result third (side_at c.args.a) (side_of c.side_with-second.result) c.glue.ensures.glued (ap glued_in c.add_face-face.ensures.entries) c.add_face-face.ensures.face c.side_with-second.ensures.side in
    place_free v.table c.glue.new.self c.self.invariant.2.naming.gluing ps second c.add_face-face.result (A, tt, tt, tt) ((λ q. (cc)), tt) (c.glue.ensures.faces ∙ c.add_face-face.ensures.faces) one c.add_face-face.ensures.face

pub glue-requires-2-clause-second : goal.glue-requires-2-clause-second
glue-requires-2-clause-second g c =
    let v : LinkValue = record { plan = record { faces = c.self.inside.faces; created = c.self.inside.created; symbols = c.self.inside.symbols }; table = c.self.inside.table; stack = c.self.inside.stack; splits = c.self.inside.splits; made = c.self.inside.made; closes = c.self.inside.closes; has_degrees = c.self.inside.degrees.kept } in
    let f = v.table.faces in
    let B : IsFree v.table.faces (gluing_of v.table) (side_at c.args.b) = subst (λ (v : LinkValue). IsFreeIn v.table (side_at c.args.b)) (sym c.self.view_is) c.requires.first in
    let ps : Pairs = (third, side_at c.args.a) ∷ [] in
    let one = glued_by (gluing_of v.table) (gluing_of c.add_face-face.new.self) (gluing_of c.glue.new.self) f c.add_face-face.result third (side_at c.args.a) (side_of c.side_with-second.result) c.glue.ensures.glued (ap glued_in c.add_face-face.ensures.entries) c.add_face-face.ensures.face c.side_with-second.ensures.side in
    old_free v.table c.glue.new.self ps (side_at c.args.b) (side_of c.side_with-top.result) B (c.requires.apart, tt) (c.glue.ensures.faces ∙ c.add_face-face.ensures.faces) one c.side_with-top.ensures.side

pub invariant_of-self : goal.invariant_of-self
invariant_of-self g c =
    let v : LinkValue = record { plan = record { faces = c.self.inside.faces; created = c.self.inside.created; symbols = c.self.inside.symbols }; table = c.self.inside.table; stack = c.self.inside.stack; splits = c.self.inside.splits; made = c.self.inside.made; closes = c.self.inside.closes; has_degrees = c.self.inside.degrees.kept } in
    let B : IsFree v.table.faces (gluing_of v.table) (side_at c.args.b) = subst (λ (v : LinkValue). IsFreeIn v.table (side_at c.args.b)) (sym c.self.view_is) c.requires.first in
    let A : IsFree v.table.faces (gluing_of v.table) (side_at c.args.a) = subst (λ (v : LinkValue). IsFreeIn v.table (side_at c.args.a)) (sym c.self.view_is) c.requires.second in
    let f = v.table.faces in
    let G = gluing_of v.table in
    let faces = c.glue-2.ensures.faces ∙ c.glue.ensures.faces ∙ c.add_face-face.ensures.faces ∙ add-one _ in
    let as_wide : room_of c.glue-2.new.self ≡ room_of v.table = c.glue-2.ensures.room ∙ c.glue.ensures.room ∙ ap (λ (l : List ℕ). length l / 3) c.add_face-face.ensures.entries in
    let one = glued_by G (gluing_of c.add_face-face.new.self) (gluing_of c.glue.new.self) f c.add_face-face.result third (side_at c.args.a) (side_of c.side_with-second.result) c.glue.ensures.glued (ap glued_in c.add_face-face.ensures.entries) c.add_face-face.ensures.face c.side_with-second.ensures.side in
    let two = glued_by (glue (side f third) (side_at c.args.a) G) (gluing_of c.glue.new.self) (gluing_of c.glue-2.new.self) f c.add_face-face.result second (side_at c.args.b) (side_of c.side_with-top.result) c.glue-2.ensures.glued one c.add_face-face.ensures.face c.side_with-top.ensures.side in
    let more = subst (λ (v : LinkValue). v.table.faces < v.plan.symbols) (sym c.self.view_is) c.requires.more in (
      link_grown c.self.invariant.0 (record {
        plan = refl;
        more = more;
        faces = faces;
        room = as_wide;
        stack_room = c.push.ensures.room;
        rest = v.stack.sides;
        below = c.self.invariant.0.sides;
        shorter = omega arith;
        sides = c.push.ensures.sides ∙ ap (λ (n : ℕ). (3 * n) ∷ v.stack.sides) c.add_face-face.ensures.face;
        slots = refl;
        kept = kept_below_more _ _ c.self.invariant.0.kept;
        made = omega arith;
        closes = refl;
      }),
      λ t e. (let u = subst (λ (x : Bool). IsTrue x) c.note_split.ensures.kept t in
          list_split v.table c.glue-2.new.self v.made c.self.inside.degrees c.note_split.new.self c.args.b c.args.a (c.self.invariant.1 u e) c.self.invariant.0.made faces two as_wide B A c.requires.apart c.note_split.ensures.room (c.note_split.ensures.list u)),
      names_split v.table c.glue-2.new.self v.made c.self.inside.names c.add_split.new.self (side_at c.args.b) (side_at c.args.a) c.self.invariant.2 faces two as_wide B A c.requires.apart
          c.add_split.ensures.names c.add_split.ensures.len c.add_split.ensures.falls c.add_split.ensures.roots c.add_split.ensures.room,
    )

pub returns-clause-faces : goal.returns-clause-faces
returns-clause-faces g c = c.glue-2.ensures.faces ∙ c.glue.ensures.faces ∙ c.add_face-face.ensures.faces ∙ add-one _ ∙ ap (λ (v : LinkValue). suc v.table.faces) c.self.view_is

pub returns-clause-glued : goal.returns-clause-glued
returns-clause-glued g c =
    let v : LinkValue = record { plan = record { faces = c.self.inside.faces; created = c.self.inside.created; symbols = c.self.inside.symbols }; table = c.self.inside.table; stack = c.self.inside.stack; splits = c.self.inside.splits; made = c.self.inside.made; closes = c.self.inside.closes; has_degrees = c.self.inside.degrees.kept } in
    let f = v.table.faces in
    let G = gluing_of v.table in
    let faces = c.glue-2.ensures.faces ∙ c.glue.ensures.faces ∙ c.add_face-face.ensures.faces ∙ add-one _ in
    let as_wide : room_of c.glue-2.new.self ≡ room_of v.table = c.glue-2.ensures.room ∙ c.glue.ensures.room ∙ ap (λ (l : List ℕ). length l / 3) c.add_face-face.ensures.entries in
    let one = glued_by G (gluing_of c.add_face-face.new.self) (gluing_of c.glue.new.self) f c.add_face-face.result third (side_at c.args.a) (side_of c.side_with-second.result) c.glue.ensures.glued (ap glued_in c.add_face-face.ensures.entries) c.add_face-face.ensures.face c.side_with-second.ensures.side in
    let two = glued_by (glue (side f third) (side_at c.args.a) G) (gluing_of c.glue.new.self) (gluing_of c.glue-2.new.self) f c.add_face-face.result second (side_at c.args.b) (side_of c.side_with-top.result) c.glue-2.ensures.glued one c.add_face-face.ensures.face c.side_with-top.ensures.side in
    two ∙ ap (λ (v : LinkValue). glue (side v.table.faces second) (side_at c.args.b) (glue (side v.table.faces third) (side_at c.args.a) (gluing_of v.table))) c.self.view_is

pub returns-clause-room : goal.returns-clause-room
returns-clause-room g c =
    c.glue-2.ensures.room ∙ c.glue.ensures.room ∙ ap (λ (l : List ℕ). length l / 3) c.add_face-face.ensures.entries ∙ ap (λ (v : LinkValue). room_of v.table) c.self.view_is

pub returns-clause-stack : goal.returns-clause-stack
returns-clause-stack g c =
    c.push.ensures.sides ∙ ap (λ (n : ℕ). (3 * n) ∷ c.self.inside.stack.sides) c.add_face-face.ensures.face ∙ ap (λ (v : LinkValue). (3 * v.table.faces) ∷ v.stack.sides) c.self.view_is

pub returns-clause-live : goal.returns-clause-live
returns-clause-live g c =
    let v : LinkValue = record { plan = record { faces = c.self.inside.faces; created = c.self.inside.created; symbols = c.self.inside.symbols }; table = c.self.inside.table; stack = c.self.inside.stack; splits = c.self.inside.splits; made = c.self.inside.made; closes = c.self.inside.closes; has_degrees = c.self.inside.degrees.kept } in
    let B : IsFree v.table.faces (gluing_of v.table) (side_at c.args.b) = subst (λ (v : LinkValue). IsFreeIn v.table (side_at c.args.b)) (sym c.self.view_is) c.requires.first in
    let A : IsFree v.table.faces (gluing_of v.table) (side_at c.args.a) = subst (λ (v : LinkValue). IsFreeIn v.table (side_at c.args.a)) (sym c.self.view_is) c.requires.second in
    let f = v.table.faces in
    let G = gluing_of v.table in
    let faces = c.glue-2.ensures.faces ∙ c.glue.ensures.faces ∙ c.add_face-face.ensures.faces ∙ add-one _ in
    let as_wide : room_of c.glue-2.new.self ≡ room_of v.table = c.glue-2.ensures.room ∙ c.glue.ensures.room ∙ ap (λ (l : List ℕ). length l / 3) c.add_face-face.ensures.entries in
    let one = glued_by G (gluing_of c.add_face-face.new.self) (gluing_of c.glue.new.self) f c.add_face-face.result third (side_at c.args.a) (side_of c.side_with-second.result) c.glue.ensures.glued (ap glued_in c.add_face-face.ensures.entries) c.add_face-face.ensures.face c.side_with-second.ensures.side in
    let two = glued_by (glue (side f third) (side_at c.args.a) G) (gluing_of c.glue.new.self) (gluing_of c.glue-2.new.self) f c.add_face-face.result second (side_at c.args.b) (side_of c.side_with-top.result) c.glue-2.ensures.glued one c.add_face-face.ensures.face c.side_with-top.ensures.side in
    let ps : Pairs = (second, side_at c.args.b) ∷ (third, side_at c.args.a) ∷ [] in
    live_top c.glue-2.new.self c.push.new.self.sides v.closes c.add_face-face.result v.stack.sides (Ok tt) c.push.ensures.sides
    (place_free v.table c.glue-2.new.self c.self.invariant.2.naming.gluing ps first c.add_face-face.result (B, (c.requires.apart, tt), ((λ q. (cc)), tt), (A, tt, tt, tt)) ((λ q. (cc)), ((λ q. (cc)), tt))
    (c.glue-2.ensures.faces ∙ c.glue.ensures.faces ∙ c.add_face-face.ensures.faces) two c.add_face-face.ensures.face).free

pub add_split-requires-clause-real : goal.add_split-requires-clause-real
add_split-requires-clause-real g c =
    let w = (subst (λ (v : LinkValue). IsFreeIn v.table (side_at c.args.b)) (sym c.self.view_is) c.requires.first).within in
    is_real c.self.invariant.0 c.args.b (omega arith) (subst (λ (v : LinkValue). v.table.faces < room_of v.table) (sym c.self.view_is) c.requires.room)

pub add_split-requires-clause-real_second : goal.add_split-requires-clause-real_second
add_split-requires-clause-real_second g c =
    let w = (subst (λ (v : LinkValue). IsFreeIn v.table (side_at c.args.a)) (sym c.self.view_is) c.requires.second).within in
    is_real c.self.invariant.0 c.args.a (omega arith) (subst (λ (v : LinkValue). v.table.faces < room_of v.table) (sym c.self.view_is) c.requires.room)

pub add_split-requires-clause-face : goal.add_split-requires-clause-face
add_split-requires-clause-face g c =
    let w = (subst (λ (v : LinkValue). IsFreeIn v.table (side_at c.args.b)) (sym c.self.view_is) c.requires.first).within in
    has_face c.self.invariant.2 c.args.b (omega arith)

pub add_split-requires-clause-face_second : goal.add_split-requires-clause-face_second
add_split-requires-clause-face_second g c =
    let w = (subst (λ (v : LinkValue). IsFreeIn v.table (side_at c.args.a)) (sym c.self.view_is) c.requires.second).within in
    has_face c.self.invariant.2 c.args.a (omega arith)

pub add_split-requires-clause-below : goal.add_split-requires-clause-below
add_split-requires-clause-below g c =
    let w = (subst (λ (v : LinkValue). IsFreeIn v.table (side_at c.args.b)) (sym c.self.view_is) c.requires.first).within in
    start_below c.self.invariant.2 c.args.b (omega arith)

pub add_split-requires-clause-below_second : goal.add_split-requires-clause-below_second
add_split-requires-clause-below_second g c =
    let w = (subst (λ (v : LinkValue). IsFreeIn v.table (side_at c.args.a)) (sym c.self.view_is) c.requires.second).within in
    end_below c.self.invariant.2 c.args.a (omega arith)

pub add_split-requires-clause-corners : goal.add_split-requires-clause-corners
add_split-requires-clause-corners g c = names_corners c.self.invariant.2 (subst (λ (v : LinkValue). v.table.faces < room_of v.table) (sym c.self.view_is) c.requires.room)
