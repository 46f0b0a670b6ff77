-- A face more, glued to the top side and to the second side.
use Rattle.std.proofs.Common.{◌<◌, sym, refl, ap, ◌∙◌, subst}
use Rattle.corner_table.specs.Sides.{side_at}
use Rattle.corner_table.specs.Fans.{side_before}
use Rattle.corner_table.specs.Table.{side_of, gluing_of, room_of}
use Rattle.corner_table.proofs.Places.{same-true, same-false}
use Rattle.eb_machine.proofs.Steps.{split_no_top}
use Rattle.eb_rebuild.specs.Linked.{LinkValue, state_of}
use Rattle.eb_rebuild.proofs.Linking.{split_does, split_no_second_does, split_one_side_does, split_one_point_does, first_is_free, second_is_free, TakenTwo}
use Rattle.eb_rebuild.proofs.link_rebuild.LinkRebuild.take_split.Goals as goal

pub returns-in-Err-clause-does : goal.returns-in-Err-clause-does
returns-in-Err-clause-does g c = split_no_top _ (state_of c.args.self.now) _ c.in-Err.ensures.err

pub returns-in-Err-take_second-clause-does : goal.returns-in-Err-take_second-clause-does
returns-in-Err-take_second-clause-does g c = split_no_second_does c.args.self.now c.take_side.new.self c.in-Ok.b c.in-Err-take_second.fault
    (record { rest = c.take_side.ensures.rest; view = refl; sides = c.in-Ok.ensures.ok.0; free = c.in-Ok.ensures.ok.1; below = c.in-Ok.ensures.ok.2 }) c.in-Err-take_second.ensures.err

pub returns-then-is_same-clause-does : goal.returns-then-is_same-clause-does
returns-then-is_same-clause-does g c =
    rw c.new.ensures (split_one_side_does c.args.self.now c.take_side.new.self c.take_second.new.self
    (record { plan = record { faces = c.self.inside.faces; created = c.self.inside.created; symbols = c.self.inside.symbols }; table = c.self.inside.table; stack = c.self.inside.stack; splits = c.self.inside.splits; made = c.self.inside.made; closes = c.self.inside.closes; has_degrees = c.self.inside.degrees.kept })
    c.in-Ok.b c.in-Ok-take_second.a c.from.result
    (record {
      first_taken = record { rest = c.take_side.ensures.rest; view = refl; sides = c.in-Ok.ensures.ok.0; free = c.in-Ok.ensures.ok.1; below = c.in-Ok.ensures.ok.2 };
      second_top = c.in-Ok-take_second.ensures.ok.0;
      second_free = c.in-Ok-take_second.ensures.ok.1;
      second_below = c.in-Ok-take_second.ensures.ok.2;
      kept = c.take_second.ensures.kept;
      events = c.take_second.ensures.events;
      rest = c.take_second.ensures.rest;
      view = c.self.view_is;
    })
    (sym c.side_with-second.ensures.side ∙ same-true _ _ (sym c.is_same.ensures ∙ c.if-is_same.true) ∙ c.side_with-top.ensures.side)
    (c.from.ensures ∙ c.face_count.ensures.count))

pub returns-then-is_same-2-clause-does : goal.returns-then-is_same-2-clause-does
returns-then-is_same-2-clause-does g c =
    rw c.new-then-is_same-2.ensures (split_one_point_does c.args.self.now c.take_side.new.self c.take_second.new.self
    (record { plan = record { faces = c.self.inside.faces; created = c.self.inside.created; symbols = c.self.inside.symbols }; table = c.self.inside.table; stack = c.self.inside.stack; splits = c.self.inside.splits; made = c.self.inside.made; closes = c.self.inside.closes; has_degrees = c.self.inside.degrees.kept })
    c.in-Ok.b c.in-Ok-take_second.a (side_of c.prev_open-before.result) c.from-then-is_same-2.result
    (record {
      first_taken = record { rest = c.take_side.ensures.rest; view = refl; sides = c.in-Ok.ensures.ok.0; free = c.in-Ok.ensures.ok.1; below = c.in-Ok.ensures.ok.2 };
      second_top = c.in-Ok-take_second.ensures.ok.0;
      second_free = c.in-Ok-take_second.ensures.ok.1;
      second_below = c.in-Ok-take_second.ensures.ok.2;
      kept = c.take_second.ensures.kept;
      events = c.take_second.ensures.events;
      rest = c.take_second.ensures.rest;
      view = c.self.view_is;
    })
    (λ e. same-false _ _ (sym c.is_same.ensures ∙ c.if-is_same.false) (c.side_with-second.ensures.side ∙ e ∙ sym c.side_with-top.ensures.side))
    (c.prev_open-before.ensures.previous ∙ ap (side_before c.self.inside.table.faces (gluing_of c.self.inside.table)) c.side_with-top.ensures.side)
    (same-true _ _ (sym c.is_same-2.ensures ∙ c.if-is_same-2.true) ∙ c.side_with-second.ensures.side)
    (c.from-then-is_same-2.ensures ∙ c.face_count-then-is_same-2.ensures.count))

pub build_split-requires-clause-more : goal.build_split-requires-clause-more
build_split-requires-clause-more g c =
    subst (λ (v : LinkValue). v.table.faces < v.plan.symbols) (sym c.take_second.ensures.rest) (subst (λ (v : LinkValue). v.table.faces < v.plan.symbols) (sym c.take_side.ensures.rest) c.requires.more)

pub build_split-requires-clause-room : goal.build_split-requires-clause-room
build_split-requires-clause-room g c =
    subst (λ (v : LinkValue). v.table.faces < room_of v.table) (sym c.take_second.ensures.rest) (subst (λ (v : LinkValue). v.table.faces < room_of v.table) (sym c.take_side.ensures.rest) c.requires.room)

pub build_split-requires-clause-unclosed : goal.build_split-requires-clause-unclosed
build_split-requires-clause-unclosed g c = ap (λ (v : LinkValue). v.closes) c.take_second.ensures.rest ∙ ap (λ (v : LinkValue). v.closes) (c.take_side.ensures.rest) ∙ c.requires.unclosed

pub build_split-requires-clause-first : goal.build_split-requires-clause-first
build_split-requires-clause-first g c =
    let T : TakenTwo c.args.self.now c.take_side.new.self c.take_second.new.self c.take_second.new.self c.in-Ok.b c.in-Ok-take_second.a = record {
      first_taken = record { rest = c.take_side.ensures.rest; view = refl; sides = c.in-Ok.ensures.ok.0; free = c.in-Ok.ensures.ok.1; below = c.in-Ok.ensures.ok.2 };
      second_top = c.in-Ok-take_second.ensures.ok.0;
      second_free = c.in-Ok-take_second.ensures.ok.1;
      second_below = c.in-Ok-take_second.ensures.ok.2;
      kept = c.take_second.ensures.kept;
      events = c.take_second.ensures.events;
      rest = c.take_second.ensures.rest;
      view = refl;
    } in
    first_is_free T

pub build_split-requires-clause-second : goal.build_split-requires-clause-second
build_split-requires-clause-second g c =
    let T : TakenTwo c.args.self.now c.take_side.new.self c.take_second.new.self c.take_second.new.self c.in-Ok.b c.in-Ok-take_second.a = record {
      first_taken = record { rest = c.take_side.ensures.rest; view = refl; sides = c.in-Ok.ensures.ok.0; free = c.in-Ok.ensures.ok.1; below = c.in-Ok.ensures.ok.2 };
      second_top = c.in-Ok-take_second.ensures.ok.0;
      second_free = c.in-Ok-take_second.ensures.ok.1;
      second_below = c.in-Ok-take_second.ensures.ok.2;
      kept = c.take_second.ensures.kept;
      events = c.take_second.ensures.events;
      rest = c.take_second.ensures.rest;
      view = refl;
    } in
    second_is_free T

pub build_split-requires-clause-apart : goal.build_split-requires-clause-apart
build_split-requires-clause-apart g c = λ q. same-false _ _ (sym c.is_same.ensures ∙ c.if-is_same.false) (c.side_with-second.ensures.side ∙ sym q ∙ sym c.side_with-top.ensures.side)

pub returns-clause-does : goal.returns-clause-does
returns-clause-does g c =
    let T : TakenTwo c.args.self.now c.take_side.new.self c.take_second.new.self c.take_second.new.self c.in-Ok.b c.in-Ok-take_second.a = record {
      first_taken = record { rest = c.take_side.ensures.rest; view = refl; sides = c.in-Ok.ensures.ok.0; free = c.in-Ok.ensures.ok.1; below = c.in-Ok.ensures.ok.2 };
      second_top = c.in-Ok-take_second.ensures.ok.0;
      second_free = c.in-Ok-take_second.ensures.ok.1;
      second_below = c.in-Ok-take_second.ensures.ok.2;
      kept = c.take_second.ensures.kept;
      events = c.take_second.ensures.events;
      rest = c.take_second.ensures.rest;
      view = refl;
    } in
    split_does c.args.self.now c.take_side.new.self c.take_second.new.self c.take_second.new.self c.build_split.new.self c.in-Ok.b c.in-Ok-take_second.a (side_of c.prev_open-before.result) T
    (record {
      faces = c.build_split.ensures.faces;
      glued = c.build_split.ensures.glued;
      stack = c.build_split.ensures.stack;
      splits = ap (λ (v : LinkValue). v.splits) c.build_split.ensures.rest;
      made = ap (λ (v : LinkValue). v.made) c.build_split.ensures.rest;
      closes = ap (λ (v : LinkValue). v.closes) c.build_split.ensures.rest;
    })
    (λ e. same-false _ _ (sym c.is_same.ensures ∙ c.if-is_same.false) (c.side_with-second.ensures.side ∙ e ∙ sym c.side_with-top.ensures.side))
    (c.prev_open-before.ensures.previous ∙ ap (side_before c.self.inside.table.faces (gluing_of c.self.inside.table)) c.side_with-top.ensures.side ∙ ap (λ (v : LinkValue). side_before v.table.faces (gluing_of v.table) (side_at c.in-Ok.b)) c.self.view_is)
    (λ e. same-false _ _ (sym c.is_same-2.ensures ∙ c.if-is_same-2.false) (e ∙ sym c.side_with-second.ensures.side))
