-- The loop of the top side is one of three and is filled, or the fault of its rule.
use Rattle.std.proofs.Common.{◌≡◌, ◌*◌, ℕ, ◌+◌, ◌/◌, ◌<◌, true, List, [], ◌∷◌, length, sym, refl, ap, ◌∙◌, subst, arith, add-one}
use Rattle.corner_table.specs.Sides.{Side, side, side_at, next, prev, first, second, third, glue}
use Rattle.corner_table.specs.Fans.{side_before}
use Rattle.corner_table.specs.Table.{side_of, glued_in, gluing_of, room_of}
use Rattle.corner_table.proofs.Numbers.{side_at-number, number-lt}
use Rattle.eb_machine.specs.OneFaceMore.{Pairs}
use Rattle.eb_machine.proofs.ManyGlued.{glued_by, place_free, old_free}
use Rattle.eb_rebuild.specs.CornerNames.{with_face, name_at}
use Rattle.eb_rebuild.specs.Kept.{AreKeptBelow, AreSidesBelow}
use Rattle.eb_rebuild.specs.Linked.{LinkValue, IsLoopOf}
use Rattle.eb_rebuild.proofs.Noting.{kept_below_more}
use Rattle.eb_rebuild.proofs.Linking.{IsLoop, to_fill, fill_does, loop_passes, loop_apart, link_popped, link_closed, sides_below_more, sides_rest}
use Rattle.eb_rebuild.proofs.CornersNamed.{names_fill, names_corners, has_face, is_real}
use Rattle.eb_rebuild.proofs.link_rebuild.LinkRebuild.close_interior.Goals as goal

pub sides_to_fill-requires : goal.sides_to_fill-requires
sides_to_fill-requires g c =
    let below = sides_rest c.self.inside.table.faces c.self.inside.stack.sides c.in-Some.a c.pop.new.self.sides c.in-Some.ensures.top c.self.invariant.0.sides in
    below.0

pub invariant_of-self-2 : goal.invariant_of-self-2
invariant_of-self-2 g c =
    let v : LinkValue = record { plan = record { faces = c.self.inside.faces; created = c.self.inside.created; symbols = c.self.inside.symbols }; table = c.self.inside.table; stack = c.self.inside.stack; splits = c.self.inside.splits; made = c.self.inside.made; closes = c.self.inside.closes; has_degrees = c.self.inside.degrees.kept } in
    (link_popped v c.pop.new.self c.in-Some.a c.self.invariant.0 c.in-Some.ensures.top c.pop.ensures.room, c.self.invariant.1, c.self.invariant.2)

pub returns-in-Err-clause-does : goal.returns-in-Err-clause-does
returns-in-Err-clause-does g c =
    let v : LinkValue = record { plan = record { faces = c.self.inside.faces; created = c.self.inside.created; symbols = c.self.inside.symbols }; table = c.self.inside.table; stack = c.self.inside.stack; splits = c.self.inside.splits; made = c.self.inside.made; closes = c.self.inside.closes; has_degrees = c.self.inside.degrees.kept } in
    rw (← c.self.view_is) (to_fill v c.in-Some.a c.pop.new.self.sides c.in-Some.ensures.top ∙ c.in-Err.ensures.err)

pub add_face-face-requires : goal.add_face-face-requires
add_face-face-requires g c =
    let room = subst (λ (v : LinkValue). v.table.faces < v.plan.faces → v.table.faces < room_of v.table) (sym c.self.view_is) c.requires.room c.in-Ok.ensures.more in
    room

pub glue-requires-clause-first : goal.glue-requires-clause-first
glue-requires-clause-first g c = c.add_face-face.ensures.free first

pub glue-requires-clause-second : goal.glue-requires-clause-second
glue-requires-clause-second g c =
    let v : LinkValue = record { plan = record { faces = c.self.inside.faces; created = c.self.inside.created; symbols = c.self.inside.symbols }; table = c.self.inside.table; stack = c.self.inside.stack; splits = c.self.inside.splits; made = c.self.inside.made; closes = c.self.inside.closes; has_degrees = c.self.inside.degrees.kept } in
    let f = v.table.faces in
    let G = gluing_of v.table in
    let A = side_at c.in-Some.a in
    let B = side_of c.in-Ok.sides.0 in
    let D = side_of c.in-Ok.sides.1 in
    let W : IsLoopOf v.table A B D = c.in-Ok.ensures.sides in
    old_free v.table c.add_face-face.new.self [] A (side_of c.side_with-top.result) W.one tt c.add_face-face.ensures.faces (ap glued_in c.add_face-face.ensures.entries) c.side_with-top.ensures.side

pub glue-requires-2-clause-first : goal.glue-requires-2-clause-first
glue-requires-2-clause-first g c =
    let v : LinkValue = record { plan = record { faces = c.self.inside.faces; created = c.self.inside.created; symbols = c.self.inside.symbols }; table = c.self.inside.table; stack = c.self.inside.stack; splits = c.self.inside.splits; made = c.self.inside.made; closes = c.self.inside.closes; has_degrees = c.self.inside.degrees.kept } in
    let f = v.table.faces in
    let G = gluing_of v.table in
    let A = side_at c.in-Some.a in
    let B = side_of c.in-Ok.sides.0 in
    let D = side_of c.in-Ok.sides.1 in
    let W : IsLoopOf v.table A B D = c.in-Ok.ensures.sides in
    let n = c.add_face-face.result in
    let is = c.add_face-face.ensures.face in
    let one = glued_by G (gluing_of c.add_face-face.new.self) (gluing_of c.glue.new.self) f n first A (side_of c.side_with-top.result) c.glue.ensures.glued (ap glued_in c.add_face-face.ensures.entries) is c.side_with-top.ensures.side in
    let ps : Pairs = (first, A) ∷ [] in
    place_free v.table c.glue.new.self c.self.invariant.2.naming.gluing ps second n (loop_apart W).3.3 ((λ q. (cc)), tt) (c.glue.ensures.faces ∙ c.add_face-face.ensures.faces) one is

pub glue-requires-2-clause-second : goal.glue-requires-2-clause-second
glue-requires-2-clause-second g c =
    let v : LinkValue = record { plan = record { faces = c.self.inside.faces; created = c.self.inside.created; symbols = c.self.inside.symbols }; table = c.self.inside.table; stack = c.self.inside.stack; splits = c.self.inside.splits; made = c.self.inside.made; closes = c.self.inside.closes; has_degrees = c.self.inside.degrees.kept } in
    let f = v.table.faces in
    let G = gluing_of v.table in
    let A = side_at c.in-Some.a in
    let B = side_of c.in-Ok.sides.0 in
    let D = side_of c.in-Ok.sides.1 in
    let W : IsLoopOf v.table A B D = c.in-Ok.ensures.sides in
    let n = c.add_face-face.result in
    let is = c.add_face-face.ensures.face in
    let one = glued_by G (gluing_of c.add_face-face.new.self) (gluing_of c.glue.new.self) f n first A (side_of c.side_with-top.result) c.glue.ensures.glued (ap glued_in c.add_face-face.ensures.entries) is c.side_with-top.ensures.side in
    let ps : Pairs = (first, A) ∷ [] in
    old_free v.table c.glue.new.self ps B B W.two (loop_apart W).3.1 (c.glue.ensures.faces ∙ c.add_face-face.ensures.faces) one refl

pub glue-requires-3-clause-first : goal.glue-requires-3-clause-first
glue-requires-3-clause-first g c =
    let v : LinkValue = record { plan = record { faces = c.self.inside.faces; created = c.self.inside.created; symbols = c.self.inside.symbols }; table = c.self.inside.table; stack = c.self.inside.stack; splits = c.self.inside.splits; made = c.self.inside.made; closes = c.self.inside.closes; has_degrees = c.self.inside.degrees.kept } in
    let f = v.table.faces in
    let G = gluing_of v.table in
    let A = side_at c.in-Some.a in
    let B = side_of c.in-Ok.sides.0 in
    let D = side_of c.in-Ok.sides.1 in
    let W : IsLoopOf v.table A B D = c.in-Ok.ensures.sides in
    let n = c.add_face-face.result in
    let is = c.add_face-face.ensures.face in
    let one = glued_by G (gluing_of c.add_face-face.new.self) (gluing_of c.glue.new.self) f n first A (side_of c.side_with-top.result) c.glue.ensures.glued (ap glued_in c.add_face-face.ensures.entries) is c.side_with-top.ensures.side in
    let two = glued_by (glue (side f first) A G) (gluing_of c.glue.new.self) (gluing_of c.glue-2.new.self) f n second B B c.glue-2.ensures.glued one is refl in
    let ps : Pairs = (second, B) ∷ (first, A) ∷ [] in
    place_free v.table c.glue-2.new.self c.self.invariant.2.naming.gluing ps third n (loop_apart W).3 (loop_apart W).2 (c.glue-2.ensures.faces ∙ c.glue.ensures.faces ∙ c.add_face-face.ensures.faces) two is

pub glue-requires-3-clause-second : goal.glue-requires-3-clause-second
glue-requires-3-clause-second g c =
    let v : LinkValue = record { plan = record { faces = c.self.inside.faces; created = c.self.inside.created; symbols = c.self.inside.symbols }; table = c.self.inside.table; stack = c.self.inside.stack; splits = c.self.inside.splits; made = c.self.inside.made; closes = c.self.inside.closes; has_degrees = c.self.inside.degrees.kept } in
    let f = v.table.faces in
    let G = gluing_of v.table in
    let A = side_at c.in-Some.a in
    let B = side_of c.in-Ok.sides.0 in
    let D = side_of c.in-Ok.sides.1 in
    let W : IsLoopOf v.table A B D = c.in-Ok.ensures.sides in
    let n = c.add_face-face.result in
    let is = c.add_face-face.ensures.face in
    let one = glued_by G (gluing_of c.add_face-face.new.self) (gluing_of c.glue.new.self) f n first A (side_of c.side_with-top.result) c.glue.ensures.glued (ap glued_in c.add_face-face.ensures.entries) is c.side_with-top.ensures.side in
    let two = glued_by (glue (side f first) A G) (gluing_of c.glue.new.self) (gluing_of c.glue-2.new.self) f n second B B c.glue-2.ensures.glued one is refl in
    let ps : Pairs = (second, B) ∷ (first, A) ∷ [] in
    old_free v.table c.glue-2.new.self ps D D W.three (loop_apart W).1 (c.glue-2.ensures.faces ∙ c.glue.ensures.faces ∙ c.add_face-face.ensures.faces) two refl

pub invariant_of-self-3 : goal.invariant_of-self-3
invariant_of-self-3 g c =
    let v : LinkValue = record { plan = record { faces = c.self.inside.faces; created = c.self.inside.created; symbols = c.self.inside.symbols }; table = c.self.inside.table; stack = c.self.inside.stack; splits = c.self.inside.splits; made = c.self.inside.made; closes = c.self.inside.closes; has_degrees = c.self.inside.degrees.kept } in
    let f = v.table.faces in
    let G = gluing_of v.table in
    let A = side_at c.in-Some.a in
    let B = side_of c.in-Ok.sides.0 in
    let D = side_of c.in-Ok.sides.1 in
    let W : IsLoopOf v.table A B D = c.in-Ok.ensures.sides in
    let n = c.add_face-face.result in
    let is = c.add_face-face.ensures.face in
    let one = glued_by G (gluing_of c.add_face-face.new.self) (gluing_of c.glue.new.self) f n first A (side_of c.side_with-top.result) c.glue.ensures.glued (ap glued_in c.add_face-face.ensures.entries) is c.side_with-top.ensures.side in
    let two = glued_by (glue (side f first) A G) (gluing_of c.glue.new.self) (gluing_of c.glue-2.new.self) f n second B B c.glue-2.ensures.glued one is refl in
    let three = glued_by (glue (side f second) B (glue (side f first) A G)) (gluing_of c.glue-2.new.self) (gluing_of c.glue-3.new.self) f n third D D c.glue-3.ensures.glued two is refl in
    let below = sides_rest c.self.inside.table.faces c.self.inside.stack.sides c.in-Some.a c.pop.new.self.sides c.in-Some.ensures.top c.self.invariant.0.sides in
    let new : LinkValue = record { plan = record { faces = c.self.inside.faces; created = c.self.inside.created; symbols = c.self.inside.symbols }; table = c.glue-3.new.self; stack = c.pop.new.self; splits = c.self.inside.splits; made = c.self.inside.made; closes = c.self.inside.closes + 1; has_degrees = c.self.inside.degrees.kept } in
    let names = c.self.inside.names in
    let more : new.table.faces ≡ f + 1 = c.glue-3.ensures.faces ∙ c.glue-2.ensures.faces ∙ c.glue.ensures.faces ∙ c.add_face-face.ensures.faces in
    let as_wide : room_of new.table ≡ room_of v.table = c.glue-3.ensures.room ∙ c.glue-2.ensures.room ∙ c.glue.ensures.room ∙ ap (λ (l : List ℕ). length l / 3) c.add_face-face.ensures.entries in (
      link_closed {v = v} {new = new} c.self.invariant.0 c.in-Some.a c.pop.new.self.sides 1 c.in-Some.ensures.top refl as_wide more refl c.pop.ensures.room refl refl (add-one _)
          (subst (λ (n : ℕ). AreSidesBelow n c.pop.new.self.sides) (sym (more ∙ add-one _)) (sides_below_more _ _ below.1))
          (subst (λ (n : ℕ). AreKeptBelow n v.splits.kept) (sym (more ∙ add-one _)) (kept_below_more _ _ c.self.invariant.0.kept)),
      λ t e. absurd (omega arith),
      names_fill v.table new.table v.made names c.fill.new.self A B D c.self.invariant.2 (more ∙ add-one _) three as_wide W.one W.two W.three W.apart W.apart_again (loop_apart W).1.0 W.follows W.follows_again W.follows_round
          (c.fill.ensures ∙ ap (λ (x : Side). record names { names = with_face names.names (name_at names (next x), name_at names (prev A), name_at names (next A)) }) (ap side_at c.number_of.ensures.number ∙ side_at-number B)),
    )

pub returns-clause-does : goal.returns-clause-does
returns-clause-does g c =
    let v : LinkValue = record { plan = record { faces = c.self.inside.faces; created = c.self.inside.created; symbols = c.self.inside.symbols }; table = c.self.inside.table; stack = c.self.inside.stack; splits = c.self.inside.splits; made = c.self.inside.made; closes = c.self.inside.closes; has_degrees = c.self.inside.degrees.kept } in
    let f = v.table.faces in
    let G = gluing_of v.table in
    let A = side_at c.in-Some.a in
    let B = side_of c.in-Ok.sides.0 in
    let D = side_of c.in-Ok.sides.1 in
    let W : IsLoopOf v.table A B D = c.in-Ok.ensures.sides in
    let n = c.add_face-face.result in
    let is = c.add_face-face.ensures.face in
    let one = glued_by G (gluing_of c.add_face-face.new.self) (gluing_of c.glue.new.self) f n first A (side_of c.side_with-top.result) c.glue.ensures.glued (ap glued_in c.add_face-face.ensures.entries) is c.side_with-top.ensures.side in
    let two = glued_by (glue (side f first) A G) (gluing_of c.glue.new.self) (gluing_of c.glue-2.new.self) f n second B B c.glue-2.ensures.glued one is refl in
    let three = glued_by (glue (side f second) B (glue (side f first) A G)) (gluing_of c.glue-2.new.self) (gluing_of c.glue-3.new.self) f n third D D c.glue-3.ensures.glued two is refl in
    let new : LinkValue = record { plan = record { faces = c.self.inside.faces; created = c.self.inside.created; symbols = c.self.inside.symbols }; table = c.glue-3.new.self; stack = c.pop.new.self; splits = c.self.inside.splits; made = c.self.inside.made; closes = c.self.inside.closes + 1; has_degrees = c.self.inside.degrees.kept } in
    let Z = side_before f G D in
    let L : IsLoop v c.in-Some.a c.pop.new.self.sides B D Z = record { stack = c.in-Some.ensures.top; free = W.one.free; first_before = W.joined; second_before = W.joined_again; third_before = refl } in
    rw (← c.self.view_is) (fill_does v new c.in-Some.a c.pop.new.self.sides B D Z true L
    (record {
      faces = c.glue-3.ensures.faces ∙ c.glue-2.ensures.faces ∙ c.glue.ensures.faces ∙ c.add_face-face.ensures.faces ∙ add-one _;
      glued = three;
      stack = refl;
      splits = refl;
      made = refl;
      closes = add-one _;
    })
    (loop_passes A B D Z W.apart W.apart_again W.joined_round) refl (λ e. absurd (let more = c.in-Ok.ensures.more in omega arith)))

pub fill-requires-clause-real : goal.fill-requires-clause-real
fill-requires-clause-real g c =
    let room = subst (λ (v : LinkValue). v.table.faces < v.plan.faces → v.table.faces < room_of v.table) (sym c.self.view_is) c.requires.room c.in-Ok.ensures.more in
    let below = sides_rest c.self.inside.table.faces c.self.inside.stack.sides c.in-Some.a c.pop.new.self.sides c.in-Some.ensures.top c.self.invariant.0.sides in
    is_real c.self.invariant.0 c.in-Some.a below.0 room

pub fill-requires-clause-real_before : goal.fill-requires-clause-real_before
fill-requires-clause-real_before g c =
    let room = subst (λ (v : LinkValue). v.table.faces < v.plan.faces → v.table.faces < room_of v.table) (sym c.self.view_is) c.requires.room c.in-Ok.ensures.more in
    is_real c.self.invariant.0 c.number_of.result (subst (λ (n : ℕ). n < 3 * c.self.inside.table.faces) (sym c.number_of.ensures.number) (number-lt (side_of c.in-Ok.sides.0) c.self.inside.table.faces c.in-Ok.ensures.sides.two.within)) room

pub fill-requires-clause-face : goal.fill-requires-clause-face
fill-requires-clause-face g c =
    let below = sides_rest c.self.inside.table.faces c.self.inside.stack.sides c.in-Some.a c.pop.new.self.sides c.in-Some.ensures.top c.self.invariant.0.sides in
    has_face c.self.invariant.2 c.in-Some.a below.0

pub fill-requires-clause-face_before : goal.fill-requires-clause-face_before
fill-requires-clause-face_before g c =
    has_face c.self.invariant.2 c.number_of.result (subst (λ (n : ℕ). n < 3 * c.self.inside.table.faces) (sym c.number_of.ensures.number) (number-lt (side_of c.in-Ok.sides.0) c.self.inside.table.faces c.in-Ok.ensures.sides.two.within))

pub fill-requires-clause-corners : goal.fill-requires-clause-corners
fill-requires-clause-corners g c =
    let room = subst (λ (v : LinkValue). v.table.faces < v.plan.faces → v.table.faces < room_of v.table) (sym c.self.view_is) c.requires.room c.in-Ok.ensures.more in
    names_corners c.self.invariant.2 room
