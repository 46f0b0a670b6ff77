-- A face more, glued to the top side and to the second side.
use Rattle.std.proofs.Common.{ℕ, ◌*◌, ◌<◌, ◌∷◌, sym, refl, ap, ◌∙◌, subst, arith}
use Rattle.corner_table.specs.Sides.{side_at}
use Rattle.corner_table.specs.Fans.{side_before}
use Rattle.corner_table.specs.Table.{gluing_of}
use Rattle.corner_table.proofs.Places.{same-true, same-false}
use Rattle.eb_machine.proofs.Steps.{split_no_top}
use Rattle.eb_rebuild.specs.Linked.{state_of}
use Rattle.eb_rows.specs.Rowed.{RowValue, plain_of}
use Rattle.eb_rebuild.proofs.Noting.{kept_below_more}
use Rattle.eb_rebuild.proofs.Linking.{link_grown, split_does, split_no_second_does, split_one_side_does, split_one_point_does, TakenTwo}
use Rattle.eb_rows.proofs.RowSteps.{taken_row}
use Rattle.eb_rows.proofs.row_rebuild.RowRebuild.take_split.Goals as goal

pub returns-in-Err-clause-does : goal.returns-in-Err-clause-does
returns-in-Err-clause-does g c = split_no_top _ (state_of (plain_of c.args.self.now)) _ c.in-Err.ensures.err

pub returns-in-Err-take_second-clause-does : goal.returns-in-Err-take_second-clause-does
returns-in-Err-take_second-clause-does g c = split_no_second_does (plain_of c.args.self.now) (plain_of c.take_row.new.self) c.in-Ok.b.side c.in-Err-take_second.fault
    (taken_row c.args.self.now c.take_row.new.self c.take_row.new.self c.in-Ok.b c.take_row.ensures.rest refl c.in-Ok.ensures.ok.0 c.in-Ok.ensures.ok.1) c.in-Err-take_second.ensures.err

pub returns-then-is_one-clause-does : goal.returns-then-is_one-clause-does
returns-then-is_one-clause-does g c =
    let value : RowValue = (record { plan = record { faces = c.self.inside.faces; created = c.self.inside.created; symbols = c.self.inside.symbols }; named = c.self.inside.named; stack = c.self.inside.stack; splits = c.self.inside.splits; closes = c.self.inside.closes }) in
    let old = plain_of c.args.self.now in
    let one = plain_of c.take_row.new.self in
    let two = plain_of c.take_second.new.self in
    let b = c.in-Ok.b.side in
    let a = c.in-Ok-take_second.a.side in
    let W : TakenTwo old one two (plain_of value) b a = record {
      first_taken = taken_row c.args.self.now c.take_row.new.self c.take_row.new.self c.in-Ok.b c.take_row.ensures.rest refl c.in-Ok.ensures.ok.0 c.in-Ok.ensures.ok.1;
      second_top = c.in-Ok-take_second.ensures.ok.0;
      second_free = c.in-Ok-take_second.ensures.ok.1.free.free;
      second_below = (let w = c.in-Ok-take_second.ensures.ok.1.free.within in omega arith);
      kept = c.take_second.ensures.kept;
      events = c.take_second.ensures.events;
      rest = ap plain_of c.take_second.ensures.rest;
      view = ap plain_of c.self.view_is;
    } in
    let before = side_before c.self.inside.named.table.faces (gluing_of c.self.inside.named.table) (side_at b) in
    rw c.new.ensures (split_one_side_does old one two (plain_of value) b a c.from.result W (same-true _ _ (sym c.is_one.ensures ∙ c.if-is_one.true)) (c.from.ensures ∙ c.face_count-face.ensures.count))

pub returns-then-is_joined-clause-does : goal.returns-then-is_joined-clause-does
returns-then-is_joined-clause-does g c =
    let value : RowValue = (record { plan = record { faces = c.self.inside.faces; created = c.self.inside.created; symbols = c.self.inside.symbols }; named = c.self.inside.named; stack = c.self.inside.stack; splits = c.self.inside.splits; closes = c.self.inside.closes }) in
    let old = plain_of c.args.self.now in
    let one = plain_of c.take_row.new.self in
    let two = plain_of c.take_second.new.self in
    let b = c.in-Ok.b.side in
    let a = c.in-Ok-take_second.a.side in
    let W : TakenTwo old one two (plain_of value) b a = record {
      first_taken = taken_row c.args.self.now c.take_row.new.self c.take_row.new.self c.in-Ok.b c.take_row.ensures.rest refl c.in-Ok.ensures.ok.0 c.in-Ok.ensures.ok.1;
      second_top = c.in-Ok-take_second.ensures.ok.0;
      second_free = c.in-Ok-take_second.ensures.ok.1.free.free;
      second_below = (let w = c.in-Ok-take_second.ensures.ok.1.free.within in omega arith);
      kept = c.take_second.ensures.kept;
      events = c.take_second.ensures.events;
      rest = ap plain_of c.take_second.ensures.rest;
      view = ap plain_of c.self.view_is;
    } in
    let before = side_before c.self.inside.named.table.faces (gluing_of c.self.inside.named.table) (side_at b) in
    rw c.new-then-is_joined.ensures (split_one_point_does old one two (plain_of value) b a before c.from-then-is_joined.result W (same-false _ _ (sym c.is_one.ensures ∙ c.if-is_one.false)) refl
    (same-true _ _ (sym c.is_joined.ensures ∙ c.if-is_joined.true)) (c.from-then-is_joined.ensures ∙ c.face_count-face.ensures.count))

pub invariant_of-self-2 : goal.invariant_of-self-2
invariant_of-self-2 g c =
    let whole = c.self.view_is ∙ c.take_second.ensures.rest in
    let count = c.face_count-face.ensures.count in
    let made = c.in_ok-add_split.ensures.made in
    let more : c.self.inside.named.table.faces < c.self.inside.symbols = subst (λ (v : RowValue). v.named.table.faces < v.plan.symbols) (sym whole) (subst (λ (v : RowValue). v.named.table.faces < v.plan.symbols) (sym c.take_row.ensures.rest) c.requires.more) in
    link_grown c.self.invariant (record {
      plan = refl;
      more = more;
      faces = c.in_ok-add_split.ensures.faces;
      room = c.in_ok-add_split.ensures.room;
      stack_room = c.push.ensures.room;
      rest = c.self.inside.stack.sides;
      below = c.self.invariant.sides;
      shorter = omega arith;
      sides = c.push.ensures.sides ∙ ap (λ (n : ℕ). (3 * n) ∷ c.self.inside.stack.sides) count;
      slots = refl;
      kept = kept_below_more _ _ c.self.invariant.kept;
      made = omega arith;
      closes = refl;
    })

pub returns-clause-does : goal.returns-clause-does
returns-clause-does g c =
    let value : RowValue = (record { plan = record { faces = c.self.inside.faces; created = c.self.inside.created; symbols = c.self.inside.symbols }; named = c.self.inside.named; stack = c.self.inside.stack; splits = c.self.inside.splits; closes = c.self.inside.closes }) in
    let old = plain_of c.args.self.now in
    let one = plain_of c.take_row.new.self in
    let two = plain_of c.take_second.new.self in
    let b = c.in-Ok.b.side in
    let a = c.in-Ok-take_second.a.side in
    let W : TakenTwo old one two (plain_of value) b a = record {
      first_taken = taken_row c.args.self.now c.take_row.new.self c.take_row.new.self c.in-Ok.b c.take_row.ensures.rest refl c.in-Ok.ensures.ok.0 c.in-Ok.ensures.ok.1;
      second_top = c.in-Ok-take_second.ensures.ok.0;
      second_free = c.in-Ok-take_second.ensures.ok.1.free.free;
      second_below = (let w = c.in-Ok-take_second.ensures.ok.1.free.within in omega arith);
      kept = c.take_second.ensures.kept;
      events = c.take_second.ensures.events;
      rest = ap plain_of c.take_second.ensures.rest;
      view = ap plain_of c.self.view_is;
    } in
    let before = side_before c.self.inside.named.table.faces (gluing_of c.self.inside.named.table) (side_at b) in
    let new : RowValue = (record { plan = record { faces = c.self.inside.faces; created = c.self.inside.created; symbols = c.self.inside.symbols }; named = c.add_split.new.self; stack = c.push.new.self; splits = c.self.inside.splits; closes = c.self.inside.closes }) in
    split_does old one two (plain_of value) (plain_of new) b a before W
    (record {
      faces = c.in_ok-add_split.ensures.faces;
      glued = c.in_ok-add_split.ensures.glued;
      stack = c.push.ensures.sides ∙ ap (λ (n : ℕ). (3 * n) ∷ c.self.inside.stack.sides) c.face_count-face.ensures.count;
      splits = refl;
      made = c.in_ok-add_split.ensures.made;
      closes = refl;
    })
    (same-false _ _ (sym c.is_one.ensures ∙ c.if-is_one.false)) refl (same-false _ _ (sym c.is_joined.ensures ∙ c.if-is_joined.false))
