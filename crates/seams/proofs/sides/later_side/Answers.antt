-- A later number means a later face.
use Rattle.std.proofs.Common.{sym, ◌∙◌, arith}
use Rattle.std.proofs.lemmas.Bool.{false≢true}
use Rattle.std.proofs.lemmas.Grind.{get_or_default_zero}
use Rattle.corner_table.specs.Table.{free_entry}
use Rattle.seams.proofs.Bits.{later-some, later-none}
use Rattle.seams.proofs.sides.later_side.Goals as goal

pub returns-then-is_later : goal.returns-then-is_later
returns-then-is_later c =
    let s = c.requires.side in
    let r = c.requires.room in
    let later = c.is_later.ensures.0 c.if-is_later.true in
    later-some c.args.faces c.args.across.now c.args.side _ c.requires.gluing (sym (get_or_default_zero c.args.across.now c.args.side free_entry (omega arith))) later.0 later.1

pub returns : goal.returns
returns c =
    let s = c.requires.side in
    let r = c.requires.room in
    let few = c.requires.few in
    later-none c.args.faces c.args.across.now c.args.side _ c.requires.gluing (sym (get_or_default_zero c.args.across.now c.args.side free_entry (omega arith)))
    (λ h k. false≢true (sym c.if-is_later.false ∙ c.is_later.ensures.1 (h, omega arith)))
