use Rattle.drc_app.proofs.BadWords.{words_say, say_one_thing}
use Rattle.drc_app.proofs.LineKinds.{of_kinds}
use Rattle.drc_app.proofs.Settings.{name_back}
use Rattle.drc_app.proofs.laws.words_say_one_thing.Goals as goal

pub returns : goal.returns
returns c = record { found = words_say; alone = say_one_thing; kinds = of_kinds; back = name_back }
