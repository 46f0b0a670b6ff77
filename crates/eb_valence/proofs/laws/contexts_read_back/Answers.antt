-- Both laws, by their lemmas.
use Rattle.eb_valence.proofs.ReadBack.{each_reads_back, words_read_back}
use Rattle.eb_valence.proofs.laws.contexts_read_back.Goals as goal

pub returns-clause-each : goal.returns-clause-each
returns-clause-each c = each_reads_back

pub returns-clause-words : goal.returns-clause-words
returns-clause-words c = words_read_back
