use Rattle.std.proofs.Common.{rules, ◌≡◌, ◌⊎◌, ℕ, ◌≤◌, ◌<◌, Bool, true, false, List, length, get_or, ap, sym, subst, arith}
use Rattle.std.proofs.lemmas.List.Elements.{All-from_get_or}
use Rattle.attr_heads.specs.FirstFault.{value_unless}
use Rattle.mesh_model.specs.Renumbering.{inverted, NamesApart}
use Rattle.mesh_model.specs.Same.{named, turn}
use Rattle.drc_recode.proofs.FirstOrders.{inverted-apart}
use Rattle.drc_recode.proofs.BackRows.{IsBack, bad-first, none-bad, names-done, back-done}
use Rattle.drc_recode.proofs.inverting.inverse.Goals.{After-loop-i}
use Rattle.drc_recode.proofs.inverting.inverse.Goals as goal

pub returns-then-not-is_fine-clause-answer : goal.returns-then-not-is_fine-clause-answer
returns-then-not-is_fine-clause-answer c =
    let rows = c.args.rows.now in
    let i = c.loop-i.i in
    let seen = c.loop-i.seen.items in
    let why : (length seen ≤ named rows i) ⊎ ((get_or seen (named rows i) false ≡ true) ⊎ (c.args.greatest < turn rows i)) =
    subst (λ (s : List Bool). (length s ≤ named rows i) ⊎ ((get_or s (named rows i) false ≡ true) ⊎ (c.args.greatest < turn rows i))) c.as_slice.ensures.value
    (search rules) in
    let bad = ap (λ f. value_unless f (inverted rows)) (bad-first c.args.greatest rows i seen c.loop-i.back.items c.loop-i-test.true c.loop-i.invariant why) in
    let is = c.new.ensures in
    cc

pub returns-clause-answer : goal.returns-clause-answer
returns-clause-answer c =
    let rows = c.args.rows.now in
    let whole : c.loop-i.i ≡ length rows = omega arith in
    let done = subst (λ n. IsBack c.args.greatest rows n c.loop-i.seen.items c.loop-i.back.items) whole c.loop-i.invariant in
    let none = ap (λ f. value_unless f (inverted rows)) (none-bad c.args.greatest rows c.loop-i.seen.items c.loop-i.back.items done) in
    let made = back-done c.renumbered_is_a_mesh.ensures.names c.args.greatest rows c.loop-i.seen.items c.loop-i.back.items c.requires.turns done in
    cc

pub returns-clause-names : goal.returns-clause-names
returns-clause-names c =
    let rows = c.args.rows.now in
    let whole : c.loop-i.i ≡ length rows = omega arith in
    let done = subst (λ n. IsBack c.args.greatest rows n c.loop-i.seen.items c.loop-i.back.items) whole c.loop-i.invariant in
    names-done c.renumbered_is_a_mesh.ensures.names c.args.greatest rows c.loop-i.seen.items c.loop-i.back.items c.requires.turns done

pub returns-clause-turns : goal.returns-clause-turns
returns-clause-turns c =
    All-from_get_or (λ (row : ℕ × ℕ). row.1 ≤ c.args.greatest) c.args.rows.now (0, 0) (λ i below. c.loop-i.invariant.turns i (omega arith))

pub returns-clause-apart : goal.returns-clause-apart
returns-clause-apart c =
    let rows = c.args.rows.now in
    let names = c.renumbered_is_a_mesh.ensures.names in
    let whole : c.loop-i.i ≡ length rows = omega arith in
    let done = subst (λ n. IsBack c.args.greatest rows n c.loop-i.seen.items c.loop-i.back.items) whole c.loop-i.invariant in
    subst (NamesApart (length rows)) (sym (back-done names c.args.greatest rows c.loop-i.seen.items c.loop-i.back.items c.requires.turns done))
    (inverted-apart rows (names-done names c.args.greatest rows c.loop-i.seen.items c.loop-i.back.items c.requires.turns done))
