use Rattle.std.proofs.Common.{◌≡◌, drop}
use Rattle.drc_app.specs.Words.{value_named, word_rows}
use Rattle.drc_app.proofs.words.named.Given as goal

abbrev pub invariant-loop-value : goal.invariant-loop-value
invariant-loop-value g l = value_named (word_rows g.A.Worded.spelling (drop l.value-index l.all)) l.word ≡ value_named (word_rows g.A.Worded.spelling l.all) l.word
