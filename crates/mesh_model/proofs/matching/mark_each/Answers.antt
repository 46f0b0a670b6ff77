use Rattle.std.proofs.Common.{◌≡◌, ◌<◌, true, false, length, get_or, set, take, sym, ◌∙◌, subst, rules, arith}
use Rattle.std.specs.List.{list_all}
use Rattle.std.proofs.lemmas.Bool.{false≢true}
use Rattle.std.proofs.lemmas.List.{take_more, take_all}
use Rattle.mesh_model.proofs.Names.{Marks, Marks-none, Marks-more, Marks-all, Marks-back, named_twice}
use Rattle.mesh_model.proofs.matching.mark_each.Goals as goal

pub loop-row-init : goal.loop-row-init
loop-row-init c = Marks-none c.args.seen.now c.requires.none

pub returns-then-seen-named : goal.returns-then-seen-named
returns-then-seen-named c =
    let rows = c.args.rows.now in
    let i = c.loop-row.row-index in
    let seen = c.loop-row.seen in
    let f = (get_or rows i (0, 0)).0 in
    let below : f < length seen = search rules in
    let marked : get_or seen f false ≡ true = c.if-seen-named.true in (
      λ no. absurd (false≢true no),
      λ names. absurd (named_twice (length c.args.seen.now) seen rows i c.loop-row-test.true c.loop-row.invariant (omega (arith, below, c.loop-row.invariant.long)) marked names),
    )

pub loop-row-preserved : goal.loop-row-preserved
loop-row-preserved c =
    let rows = c.args.rows.now in
    let i = c.loop-row.row-index in
    let seen = c.loop-row.seen in
    let row = get_or rows i (0, 0) in
    let below : row.0 < length seen = search rules in
    let new : get_or seen row.0 false ≡ false = c.if-seen-named.false in
    subst (λ rs. Marks (length c.args.seen.now) (set seen row.0 true) rs) (sym (take_more rows i (0, 0) c.loop-row-test.true))
    (Marks-more (length c.args.seen.now) seen (take i rows) row c.loop-row.invariant (omega (arith, below, c.loop-row.invariant.long)) new)

pub returns : goal.returns
returns c =
    let rows = c.args.rows.now in
    let seen = c.loop-row.seen in
    let marks = subst (λ rs. Marks (length c.args.seen.now) seen rs) (take_all c.loop-row.row-index rows c.loop-row-test.false) c.loop-row.invariant in
    let told : c.all_true.result ≡ list_all (λ mark. mark) seen = search rules in (
      λ yes. Marks-all (length c.args.seen.now) seen rows marks (sym told ∙ yes),
      λ names. told ∙ Marks-back (length c.args.seen.now) seen rows marks names,
    )
