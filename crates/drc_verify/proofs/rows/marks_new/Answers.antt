use Rattle.std.proofs.Common.{◌<◌, ◌≤◌, false, length, sym, ◌∙◌, rules}
use Rattle.std.proofs.lemmas.List.{get_or_read}
use Rattle.mesh_model.specs.Same.{named}
use Rattle.drc_verify.proofs.Marking.{past-end, marked-before, unmarked}
use Rattle.drc_verify.proofs.rows.marks_new.Goals as goal
use Rattle.drc_verify.proofs.rows.marks_new.Goals.{then-number-len-via-then-number-len, then-number-len-via-else-number-len+then-index}

pub returns-then-number-len-clause-new : goal.returns-then-number-len-clause-new
returns-then-number-len-clause-new c =
    let rows = c.args.rows.now in
    let seen = c.args.seen.now.items in
    elim c.then-number-len.branch [
      | then-number-len-via-then-number-len w ↦
          let past : length seen ≤ named rows c.args.i = search rules in
          sym (past-end (length seen) rows c.args.i past)
      | then-number-len-via-else-number-len+then-index w ↦
          let within : named rows c.args.i < length seen = search rules in
          sym (marked-before rows c.args.i seen c.requires.marked within
          (sym (get_or_read seen (named rows c.args.i) w.index.result.now within w.index.ensures false) ∙ w.if-index.true))
    ]

pub returns-clause-new : goal.returns-clause-new
returns-clause-new c =
    let rows = c.args.rows.now in
    let seen = c.args.seen.now.items in
    let within : named rows c.args.i < length seen = search rules in
    sym (unmarked rows c.args.i seen c.requires.marked within
    (sym (get_or_read seen (named rows c.args.i) c.index.result.now within c.index.ensures false) ∙ c.if-index.false))
