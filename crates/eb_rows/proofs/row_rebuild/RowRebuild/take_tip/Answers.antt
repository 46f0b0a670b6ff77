-- A face more, glued to the top side and to the side before it.
use Rattle.std.proofs.Common.{ℕ, ◌*◌, ◌<◌, ◌∷◌, sym, refl, ap, ◌∙◌, subst, arith}
use Rattle.corner_table.specs.Sides.{side_at}
use Rattle.corner_table.proofs.Places.{same-true, same-false}
use Rattle.eb_machine.proofs.Steps.{tip_no_top}
use Rattle.eb_rebuild.specs.Linked.{state_of}
use Rattle.eb_rows.specs.Rowed.{RowValue, plain_of}
use Rattle.eb_rebuild.proofs.Noting.{kept_below_more}
use Rattle.eb_rebuild.proofs.Linking.{link_grown, tip_does, tip_alone_does, Taken}
use Rattle.eb_rows.proofs.RowSteps.{taken_row}
use Rattle.eb_rows.proofs.row_rebuild.RowRebuild.take_tip.Goals as goal

pub returns-in-Err-clause-does : goal.returns-in-Err-clause-does
returns-in-Err-clause-does g c = tip_no_top _ (state_of (plain_of c.args.self.now)) _ c.in-Err.ensures.err

pub returns-then-is_one-clause-does : goal.returns-then-is_one-clause-does
returns-then-is_one-clause-does g c =
    let value : RowValue = (record { plan = record { faces = c.self.inside.faces; created = c.self.inside.created; symbols = c.self.inside.symbols }; named = c.self.inside.named; stack = c.self.inside.stack; splits = c.self.inside.splits; closes = c.self.inside.closes }) in
    let T : Taken (plain_of c.args.self.now) (plain_of c.take_row.new.self) (plain_of value) c.in-Ok.a.side = taken_row c.args.self.now c.take_row.new.self value c.in-Ok.a c.take_row.ensures.rest c.self.view_is c.in-Ok.ensures.ok.0 c.in-Ok.ensures.ok.1 in
    rw c.new.ensures (tip_alone_does (plain_of c.args.self.now) (plain_of c.take_row.new.self) (plain_of value) c.in-Ok.a.side (side_at c.row_before-before.result.side) c.from.result T
    c.row_before-before.ensures.before (same-true _ _ (sym c.is_one.ensures ∙ c.if-is_one.true)) (c.from.ensures ∙ c.face_count-face.ensures.count))

pub invariant_of-self-2 : goal.invariant_of-self-2
invariant_of-self-2 g c =
    let whole = c.self.view_is ∙ c.take_row.ensures.rest in
    let count = c.face_count-face.ensures.count in
    let made = c.in_ok-add_tip.ensures.made in
    let more : c.self.inside.named.table.faces < c.self.inside.symbols = subst (λ (v : RowValue). v.named.table.faces < v.plan.symbols) (sym whole) c.requires.more in
    link_grown c.self.invariant (record {
      plan = refl;
      more = more;
      faces = c.in_ok-add_tip.ensures.faces;
      room = c.in_ok-add_tip.ensures.room;
      stack_room = c.push.ensures.room;
      rest = c.self.inside.stack.sides;
      below = c.self.invariant.sides;
      shorter = omega arith;
      sides = c.push.ensures.sides ∙ ap (λ (n : ℕ). (3 * n) ∷ c.self.inside.stack.sides) count;
      slots = refl;
      kept = kept_below_more _ _ c.self.invariant.kept;
      made = omega arith;
      closes = refl;
    })

pub returns-clause-does : goal.returns-clause-does
returns-clause-does g c =
    let value : RowValue = (record { plan = record { faces = c.self.inside.faces; created = c.self.inside.created; symbols = c.self.inside.symbols }; named = c.self.inside.named; stack = c.self.inside.stack; splits = c.self.inside.splits; closes = c.self.inside.closes }) in
    let T : Taken (plain_of c.args.self.now) (plain_of c.take_row.new.self) (plain_of value) c.in-Ok.a.side = taken_row c.args.self.now c.take_row.new.self value c.in-Ok.a c.take_row.ensures.rest c.self.view_is c.in-Ok.ensures.ok.0 c.in-Ok.ensures.ok.1 in
    let new : RowValue = (record { plan = record { faces = c.self.inside.faces; created = c.self.inside.created; symbols = c.self.inside.symbols }; named = c.add_tip.new.self; stack = c.push.new.self; splits = c.self.inside.splits; closes = c.self.inside.closes }) in
    tip_does (plain_of c.args.self.now) (plain_of c.take_row.new.self) (plain_of value) (plain_of new) c.in-Ok.a.side (side_at c.row_before-before.result.side) T
    (record {
      faces = c.in_ok-add_tip.ensures.faces;
      glued = c.in_ok-add_tip.ensures.glued;
      stack = c.push.ensures.sides ∙ ap (λ (n : ℕ). (3 * n) ∷ c.self.inside.stack.sides) c.face_count-face.ensures.count;
      splits = refl;
      made = c.in_ok-add_tip.ensures.made;
      closes = refl;
    })
    c.row_before-before.ensures.before (same-false _ _ (sym c.is_one.ensures ∙ c.if-is_one.false))
