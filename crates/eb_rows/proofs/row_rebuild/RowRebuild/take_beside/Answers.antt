-- A face more, glued to the top side, its side 0 on top, and its events noted.
use Rattle.std.proofs.Common.{ℕ, suc, ◌*◌, ◌<◌, ◌∷◌, length, sym, refl, ap, ◌∙◌, subst, arith}
use Rattle.eb_machine.specs.Beside.{symbol_in}
use Rattle.eb_machine.specs.Machine.{step}
use Rattle.eb_machine.proofs.Steps.{beside_no_top}
use Rattle.eb_rebuild.specs.Kept.{AreKeptBelow}
use Rattle.eb_rebuild.specs.Linked.{state_of}
use Rattle.eb_rows.specs.Rowed.{RowValue, plain_of}
use Rattle.eb_rebuild.proofs.Linking.{link_grown, beside_does, Taken}
use Rattle.eb_rows.proofs.RowSteps.{tries_of, taken_row}
use Rattle.eb_rows.proofs.row_rebuild.RowRebuild.take_beside.Goals as goal

pub returns-in-Err-clause-does : goal.returns-in-Err-clause-does
returns-in-Err-clause-does g c = beside_no_top c.args.beside _ (state_of (plain_of c.args.self.now)) _ c.in-Err.ensures.err

pub invariant_of-self-2 : goal.invariant_of-self-2
invariant_of-self-2 g c =
    let whole = c.self.view_is ∙ c.take_row.ensures.rest in
    let count = c.face_count-face.ensures.count in
    let made = c.in_ok-add_beside.ensures.made in
    let more : c.self.inside.named.table.faces < c.self.inside.symbols = subst (λ (v : RowValue). v.named.table.faces < v.plan.symbols) (sym whole) c.requires.more in
    link_grown c.self.invariant (record {
      plan = refl;
      more = more;
      faces = c.in_ok-add_beside.ensures.faces;
      room = c.in_ok-add_beside.ensures.room;
      stack_room = c.push.ensures.room;
      rest = c.self.inside.stack.sides;
      below = c.self.invariant.sides;
      shorter = omega arith;
      sides = c.push.ensures.sides ∙ ap (λ (n : ℕ). (3 * n) ∷ c.self.inside.stack.sides) count;
      slots = c.note.ensures.long;
      kept = subst (λ (n : ℕ). AreKeptBelow (suc n) c.note.new.self.kept) count (c.note.ensures.below (subst (λ (n : ℕ). AreKeptBelow n c.self.inside.splits.kept) (sym count) c.self.invariant.kept));
      made = omega arith;
      closes = refl;
    })

pub returns-clause-does : goal.returns-clause-does
returns-clause-does g c =
    let value : RowValue = (record { plan = record { faces = c.self.inside.faces; created = c.self.inside.created; symbols = c.self.inside.symbols }; named = c.self.inside.named; stack = c.self.inside.stack; splits = c.self.inside.splits; closes = c.self.inside.closes }) in
    let new : RowValue = (record { plan = record { faces = c.self.inside.faces; created = c.self.inside.created; symbols = c.self.inside.symbols }; named = c.add_beside.new.self; stack = c.push.new.self; splits = c.note.new.self; closes = c.self.inside.closes }) in
    let T : Taken (plain_of c.args.self.now) (plain_of c.take_row.new.self) (plain_of value) c.in-Ok.a.side = taken_row c.args.self.now c.take_row.new.self value c.in-Ok.a c.take_row.ensures.rest c.self.view_is c.in-Ok.ensures.ok.0 c.in-Ok.ensures.ok.1 in
    tries_of (step c.args.self.now.plan.symbols (symbol_in c.args.beside) (state_of (plain_of c.args.self.now))) (state_of (plain_of new)) c.note.result c.refused.result c.refused.ensures
    (beside_does c.args.beside (plain_of c.args.self.now) (plain_of c.take_row.new.self) (plain_of value) (plain_of new) c.in-Ok.a.side
    (record {
      rest = T.rest;
      view = T.view;
      sides = T.sides;
      free = T.free;
      faces = c.in_ok-add_beside.ensures.faces;
      glued = c.in_ok-add_beside.ensures.glued;
      stack = c.push.ensures.sides ∙ ap (λ (n : ℕ). (3 * n) ∷ c.self.inside.stack.sides) c.face_count-face.ensures.count;
      made = c.in_ok-add_beside.ensures.made;
      closes = refl;
    })
    (length c.self.inside.splits.kept) c.face_count-face.result c.note.result c.self.invariant.slots c.face_count-face.ensures.count c.note.ensures.noted)
