use Rattle.std.proofs.Common.{map, string_bytes}
use Rattle.drc_app.proofs.BadWords.{words_say}
use Rattle.drc_app.specs.Progress.{line_of}
use Rattle.drc_app.proofs.running.run.Goals as goal

pub returns-clause-ran : goal.returns-clause-ran
returns-clause-ran g c = (line_of (map string_bytes c.args.words.now), words_say (map string_bytes c.args.words.now), c.run_by_word.ensures.ran)

pub returns-clause-complete : goal.returns-clause-complete
returns-clause-complete g c = (line_of (map string_bytes c.args.words.now), words_say (map string_bytes c.args.words.now), c.run_by_word.ensures.complete)

pub returns-clause-named : goal.returns-clause-named
returns-clause-named g c = (line_of (map string_bytes c.args.words.now), words_say (map string_bytes c.args.words.now), c.run_by_word.ensures.named)

pub returns-clause-noted : goal.returns-clause-noted
returns-clause-noted g c = (line_of (map string_bytes c.args.words.now), words_say (map string_bytes c.args.words.now), c.run_by_word.ensures.noted)
