-- The loop of the side is one of three rows, or the fault of its rule.
use Rattle.std.proofs.Common.{◌≡◌, ℕ, ◌+◌, ◌<◌, not, ◌&&◌, Bool, sym, refl, ap, ◌∙◌, subst, arith}
use Rattle.corner_table.specs.Sides.{same, side_at}
use Rattle.corner_table.specs.Fans.{side_before}
use Rattle.corner_table.specs.Table.{gluing_of}
use Rattle.eb_rebuild.specs.Linked.{LinkValue}
use Rattle.eb_rows.specs.Rowed.{RowValue, IsThree, plain_of}
use Rattle.eb_rebuild.proofs.Linking.{IsRound, fill_gone_is, fill_no_loop_is, fill_full_is, loop_tells}
use Rattle.eb_rows.proofs.row_rebuild.RowRebuild.rows_to_fill.Goals as goal

pub returns-in-None-clause-err : goal.returns-in-None-clause-err
returns-in-None-clause-err c =
    let v : LinkValue = plain_of (record { plan = record { faces = c.self.inside.faces; created = c.self.inside.created; symbols = c.self.inside.symbols }; named = c.self.inside.named; stack = c.self.inside.stack; splits = c.self.inside.splits; closes = c.self.inside.closes }) in
    rw (← c.self.view_is, c.new.ensures) (fill_gone_is v c.args.a v.stack.sides c.in-None.ensures.none.0 _ c.in-None.ensures.none.1 (ap (λ (n : ℕ). n + c.from-2.result) c.from.ensures ∙ ap (λ (n : ℕ). v.plan.symbols + n) c.from-2.ensures))

pub returns-then-not-is_three-clause-err : goal.returns-then-not-is_three-clause-err
returns-then-not-is_three-clause-err c =
    let v : LinkValue = plain_of (record { plan = record { faces = c.self.inside.faces; created = c.self.inside.created; symbols = c.self.inside.symbols }; named = c.self.inside.named; stack = c.self.inside.stack; splits = c.self.inside.splits; closes = c.self.inside.closes }) in
    let f = v.table.faces in
    let G = gluing_of v.table in
    let at = c.in-Some.ensures.side in
    let A = side_at c.in-Some.row.side in
    let B = side_at c.row_before-second.result.side in
    let D = side_at c.row_before-third.result.side in
    let Z = side_before f G D in
    let W : IsRound v c.args.a B D Z = record {
      free = ap (λ (k : ℕ). G (side_at k)) (sym at) ∙ c.in-Some.ensures.row.free.free;
      first_before = c.row_before-second.ensures.before ∙ ap (λ (k : ℕ). side_before f G (side_at k)) at;
      second_before = c.row_before-third.ensures.before;
      third_before = refl;
    } in
    let test : c.is_three.result ≡ (not (same B A) && not (same D A) && same Z A) = c.is_three.ensures ∙ ap (λ (t : Bool). not (same B A) && not (same D A) && t) c.is_joined-round.ensures in
    let here = test ∙ ap (λ (k : ℕ). not (same B (side_at k)) && not (same D (side_at k)) && same Z (side_at k)) at in
    rw (← c.self.view_is, c.new-then-not-is_three.ensures) (fill_no_loop_is v c.args.a v.stack.sides B D Z c.is_three.result _ W here c.if-not-is_three.true (ap (λ (n : ℕ). n + c.from-2.result) c.from.ensures ∙ ap (λ (n : ℕ). v.plan.symbols + n) c.from-2.ensures))

pub returns-then-built-self-clause-err : goal.returns-then-built-self-clause-err
returns-then-built-self-clause-err c =
    let v : LinkValue = plain_of (record { plan = record { faces = c.self.inside.faces; created = c.self.inside.created; symbols = c.self.inside.symbols }; named = c.self.inside.named; stack = c.self.inside.stack; splits = c.self.inside.splits; closes = c.self.inside.closes }) in
    let f = v.table.faces in
    let G = gluing_of v.table in
    let at = c.in-Some.ensures.side in
    let A = side_at c.in-Some.row.side in
    let B = side_at c.row_before-second.result.side in
    let D = side_at c.row_before-third.result.side in
    let Z = side_before f G D in
    let W : IsRound v c.args.a B D Z = record {
      free = ap (λ (k : ℕ). G (side_at k)) (sym at) ∙ c.in-Some.ensures.row.free.free;
      first_before = c.row_before-second.ensures.before ∙ ap (λ (k : ℕ). side_before f G (side_at k)) at;
      second_before = c.row_before-third.ensures.before;
      third_before = refl;
    } in
    let test : c.is_three.result ≡ (not (same B A) && not (same D A) && same Z A) = c.is_three.ensures ∙ ap (λ (t : Bool). not (same B A) && not (same D A) && t) c.is_joined-round.ensures in
    let here = test ∙ ap (λ (k : ℕ). not (same B (side_at k)) && not (same D (side_at k)) && same Z (side_at k)) at in
    rw (← c.self.view_is, c.new-then-built-self.ensures) (fill_full_is v c.args.a v.stack.sides B D Z c.is_three.result _ W here c.if-not-is_three.false (sym c.face_count-built.ensures.count ∙ c.if-built-self.true) (c.from-then-built-self.ensures ∙ c.face_count-built.ensures.count))

pub returns-clause-rows : goal.returns-clause-rows
returns-clause-rows c =
    let f = c.self.inside.named.table.faces in
    let G = gluing_of c.self.inside.named.table in
    let A = side_at c.in-Some.row.side in
    let B = side_at c.row_before-second.result.side in
    let D = side_at c.row_before-third.result.side in
    let Z = side_before f G D in
    let test : c.is_three.result ≡ (not (same B A) && not (same D A) && same Z A) = c.is_three.ensures ∙ ap (λ (t : Bool). not (same B A) && not (same D A) && t) c.is_joined-round.ensures in
    let tells = loop_tells A B D Z c.is_three.result test c.if-not-is_three.false in
    subst (λ (w : RowValue). IsThree w.named c.in-Some.row c.row_before-second.result c.row_before-third.result) c.self.view_is (record {
      one = c.in-Some.ensures.row;
      two = c.row_before-second.ensures.row;
      three = c.row_before-third.ensures.row;
      apart = tells.0;
      apart_again = tells.1;
      joined = c.row_before-second.ensures.before;
      joined_again = c.row_before-third.ensures.before;
      joined_round = tells.2;
    })

pub returns-clause-more : goal.returns-clause-more
returns-clause-more c =
    let count = c.face_count-built.ensures.count in
    let fits = c.face_count-built.ensures.room in
    let room = c.self.invariant.room in
    let other = c.if-built-self.false in
    subst (λ (w : RowValue). w.named.table.faces < w.plan.faces) c.self.view_is (omega arith)
