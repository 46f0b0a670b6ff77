use Rattle.std.proofs.Common.{◌≡◌, ◌≤◌, ◌∙◌, map, length, ap, sym, string_bytes, arith}
use Rattle.std.proofs.lemmas.List.{drop_all}
use Rattle.drc_app.specs.Progress.{line_from, whole_line}
use Rattle.drc_app.proofs.BadWords.{sized_command}
use Rattle.drc_app.proofs.command_lines.command_of.Goals as goal

pub returns-clause-line : goal.returns-clause-line
returns-clause-line c =
    let words = c.args.words.now in
    let past : length words ≤ c.loop-i.i = omega arith in
    let ended : c.loop-i.i ≡ length words = omega arith in
    c.whole_line.ensures ∙ ap (λ n. whole_line n c.loop-i.progress) (sym ended)
    ∙ sym (ap (λ rest. line_from c.loop-i.i c.loop-i.progress (map string_bytes rest)) (drop_all c.loop-i.i words past))
    ∙ c.loop-i.invariant

pub returns-clause-sized : goal.returns-clause-sized
returns-clause-sized c = sized_command (map string_bytes c.args.words.now) c.whole_line.result (returns-clause-line c)
