-- A face more, its side 0 on top, and its events noted.
use Rattle.std.proofs.Common.{ℕ, suc, ◌*◌, ◌<◌, ◌∷◌, length, sym, refl, ap, ◌∙◌, subst, arith}
use Rattle.corner_table.specs.declared.symbols.Symbol.TheVariants.{E}
use Rattle.eb_machine.specs.Machine.{step}
use Rattle.eb_rebuild.specs.Kept.{AreKeptBelow}
use Rattle.eb_rebuild.specs.Linked.{state_of}
use Rattle.eb_rows.specs.Rowed.{RowValue, plain_of, Tries}
use Rattle.eb_rebuild.proofs.Linking.{link_grown}
use Rattle.eb_rows.proofs.RowSteps.{tries_of, end_does}
use Rattle.eb_rows.proofs.row_rebuild.RowRebuild.take_end.Goals as goal

pub invariant_of-self-2 : goal.invariant_of-self-2
invariant_of-self-2 g c =
    let whole = c.self.view_is in
    let count = c.face_count-face.ensures.count in
    let made = c.in_ok-add_end.ensures.made in
    let more : c.self.inside.named.table.faces < c.self.inside.symbols = subst (λ (v : RowValue). v.named.table.faces < v.plan.symbols) (sym whole) c.requires.more in
    link_grown c.self.invariant (record {
      plan = refl;
      more = more;
      faces = c.in_ok-add_end.ensures.faces;
      room = c.in_ok-add_end.ensures.room;
      stack_room = c.push.ensures.room;
      rest = c.self.inside.stack.sides;
      below = c.self.invariant.sides;
      shorter = omega arith;
      sides = c.push.ensures.sides ∙ ap (λ (n : ℕ). (3 * n) ∷ c.self.inside.stack.sides) count;
      slots = c.note.ensures.long;
      kept = subst (λ (n : ℕ). AreKeptBelow (suc n) c.note.new.self.kept) count (c.note.ensures.below (subst (λ (n : ℕ). AreKeptBelow n c.self.inside.splits.kept) (sym count) c.self.invariant.kept));
      made = omega arith;
      closes = refl;
    })

pub returns-clause-does : goal.returns-clause-does
returns-clause-does g c =
    let value : RowValue = (record { plan = record { faces = c.self.inside.faces; created = c.self.inside.created; symbols = c.self.inside.symbols }; named = c.self.inside.named; stack = c.self.inside.stack; splits = c.self.inside.splits; closes = c.self.inside.closes }) in
    let new : RowValue = (record { plan = record { faces = c.self.inside.faces; created = c.self.inside.created; symbols = c.self.inside.symbols }; named = c.add_end.new.self; stack = c.push.new.self; splits = c.note.new.self; closes = c.self.inside.closes }) in
    subst (λ (v : RowValue). Tries (step v.plan.symbols E (state_of (plain_of v))) (state_of (plain_of new)) c.refused.result) c.self.view_is
    (tries_of (step c.self.inside.symbols E (state_of (plain_of value))) (state_of (plain_of new)) c.note.result c.refused.result c.refused.ensures
    (end_does (plain_of value) (plain_of new) (length c.self.inside.splits.kept) c.face_count-face.result c.note.result c.in_ok-add_end.ensures.faces c.in_ok-add_end.ensures.glued (c.push.ensures.sides ∙ ap (λ (n : ℕ). (3 * n) ∷ c.self.inside.stack.sides) c.face_count-face.ensures.count) c.in_ok-add_end.ensures.made refl
    c.self.invariant.slots c.face_count-face.ensures.count c.note.ensures.noted))
