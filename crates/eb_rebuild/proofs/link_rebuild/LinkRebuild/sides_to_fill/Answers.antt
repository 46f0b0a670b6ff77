-- The loop of the side is one of three, or the fault of its rule.
use Rattle.std.proofs.Common.{◌*◌, ℕ, ◌+◌, ◌<◌, not, ◌&&◌, sym, ap, ◌∙◌, subst, arith}
use Rattle.corner_table.specs.Sides.{Side, side_at, same, IsFree}
use Rattle.corner_table.specs.Fans.{side_before, Follows}
use Rattle.corner_table.specs.Table.{side_of, gluing_of}
use Rattle.corner_table.proofs.Numbers.{face-lt}
use Rattle.eb_rebuild.specs.Linked.{LinkValue, IsLoopOf}
use Rattle.eb_rebuild.proofs.Linking.{IsRound, fill_gone_is, fill_no_loop_is, fill_full_is, loop_tells}
use Rattle.eb_rebuild.proofs.link_rebuild.LinkRebuild.sides_to_fill.Goals as goal

pub prev_open-second-requires : goal.prev_open-second-requires
prev_open-second-requires g c =
    let f = c.self.inside.table.faces in
    let G = gluing_of c.self.inside.table in
    subst (IsFree f G) (sym c.side_with-top.ensures.side) (record {
      within = face-lt c.args.a f (subst (λ (v : LinkValue). c.args.a < 3 * v.table.faces) (sym c.self.view_is) c.requires);
      free = ap G (sym c.side_with-top.ensures.side) ∙ sym c.in-None.ensures.other;
    })

pub returns-in-Some-clause-err : goal.returns-in-Some-clause-err
returns-in-Some-clause-err g c =
    let v : LinkValue = record { plan = record { faces = c.self.inside.faces; created = c.self.inside.created; symbols = c.self.inside.symbols }; table = c.self.inside.table; stack = c.self.inside.stack; splits = c.self.inside.splits; made = c.self.inside.made; closes = c.self.inside.closes; has_degrees = c.self.inside.degrees.kept } in
    rw (← c.self.view_is, c.new.ensures) (fill_gone_is v c.args.a v.stack.sides _ _ (ap (gluing_of v.table) (sym c.side_with-top.ensures.side) ∙ sym c.in-Some.ensures.other)
    (ap (λ (n : ℕ). n + c.from-2.result) c.from.ensures ∙ ap (λ (n : ℕ). v.plan.symbols + n) c.from-2.ensures))

pub returns-then-not-is_loop-clause-err : goal.returns-then-not-is_loop-clause-err
returns-then-not-is_loop-clause-err g c =
    let v : LinkValue = record { plan = record { faces = c.self.inside.faces; created = c.self.inside.created; symbols = c.self.inside.symbols }; table = c.self.inside.table; stack = c.self.inside.stack; splits = c.self.inside.splits; made = c.self.inside.made; closes = c.self.inside.closes; has_degrees = c.self.inside.degrees.kept } in
    let f = v.table.faces in
    let G = gluing_of v.table in
    let at = c.side_with-top.ensures.side in
    let B = side_of c.prev_open-second.result in
    let D = side_of c.prev_open-third.result in
    let Z = side_of c.prev_open-last.result in
    let W : IsRound v c.args.a B D Z = record {
      free = ap G (sym at) ∙ sym c.in-None.ensures.other;
      first_before = c.prev_open-second.ensures.previous ∙ ap (side_before f G) at;
      second_before = c.prev_open-third.ensures.previous;
      third_before = c.prev_open-last.ensures.previous;
    } in
    let test = c.is_loop.ensures ∙ ap (λ (x : Side). not (same B x) && not (same D x) && same Z x) at in
    rw (← c.self.view_is, c.new-then-not-is_loop.ensures) (fill_no_loop_is v c.args.a v.stack.sides B D Z c.is_loop.result _ W test c.if-not-is_loop.true
    (ap (λ (n : ℕ). n + c.from-2.result) c.from.ensures ∙ ap (λ (n : ℕ). v.plan.symbols + n) c.from-2.ensures))

pub returns-then-built-self-clause-err : goal.returns-then-built-self-clause-err
returns-then-built-self-clause-err g c =
    let v : LinkValue = record { plan = record { faces = c.self.inside.faces; created = c.self.inside.created; symbols = c.self.inside.symbols }; table = c.self.inside.table; stack = c.self.inside.stack; splits = c.self.inside.splits; made = c.self.inside.made; closes = c.self.inside.closes; has_degrees = c.self.inside.degrees.kept } in
    let f = v.table.faces in
    let G = gluing_of v.table in
    let at = c.side_with-top.ensures.side in
    let B = side_of c.prev_open-second.result in
    let D = side_of c.prev_open-third.result in
    let Z = side_of c.prev_open-last.result in
    let W : IsRound v c.args.a B D Z = record {
      free = ap G (sym at) ∙ sym c.in-None.ensures.other;
      first_before = c.prev_open-second.ensures.previous ∙ ap (side_before f G) at;
      second_before = c.prev_open-third.ensures.previous;
      third_before = c.prev_open-last.ensures.previous;
    } in
    let test = c.is_loop.ensures ∙ ap (λ (x : Side). not (same B x) && not (same D x) && same Z x) at in
    rw (← c.self.view_is, c.new-then-built-self.ensures) (fill_full_is v c.args.a v.stack.sides B D Z c.is_loop.result _ W test c.if-not-is_loop.false (sym c.face_count-built.ensures.count ∙ c.if-built-self.true)
    (c.from-then-built-self.ensures ∙ c.face_count-built.ensures.count))

pub returns-clause-sides : goal.returns-clause-sides
returns-clause-sides g c =
    let f = c.self.inside.table.faces in
    let G = gluing_of c.self.inside.table in
    let at = c.side_with-top.ensures.side in
    let B = side_of c.prev_open-second.result in
    let D = side_of c.prev_open-third.result in
    let Z = side_of c.prev_open-last.result in
    let tells = loop_tells (side_of c.side_with-top.result) B D Z c.is_loop.result c.is_loop.ensures c.if-not-is_loop.false in
    subst (λ (v : LinkValue). IsLoopOf v.table (side_at c.args.a) B D) c.self.view_is (record {
      one = record {
        within = face-lt c.args.a f (subst (λ (v : LinkValue). c.args.a < 3 * v.table.faces) (sym c.self.view_is) c.requires);
        free = ap G (sym at) ∙ sym c.in-None.ensures.other;
      };
      two = c.prev_open-second.ensures.free;
      three = c.prev_open-third.ensures.free;
      apart = λ e. tells.0 (e ∙ sym at);
      apart_again = λ e. tells.1 (e ∙ sym at);
      joined = c.prev_open-second.ensures.previous ∙ ap (side_before f G) at;
      joined_again = c.prev_open-third.ensures.previous;
      joined_round = sym c.prev_open-last.ensures.previous ∙ tells.2 ∙ at;
      follows = subst (Follows f G B) at c.prev_open-second.ensures.follows;
      follows_again = c.prev_open-third.ensures.follows;
      follows_round = subst (λ (x : Side). Follows f G x D) (tells.2 ∙ at) c.prev_open-last.ensures.follows;
    })

pub returns-clause-more : goal.returns-clause-more
returns-clause-more g c =
    let count = c.face_count-built.ensures.count in
    let fits = c.face_count-built.ensures.room in
    let room = c.self.invariant.0.room in
    let other = c.if-built-self.false in
    subst (λ (w : LinkValue). w.table.faces < w.plan.faces) c.self.view_is (omega arith)
