-- Each call counts in the ledger of its own blank.
use Rattle.tests_section.proofs.eb_section_reading_tests.reads_standard.Given as goal

abbrev pub ghosts-reads : goal.ghosts-reads
ghosts-reads g a = record { name = a.blank.name; parts = a.blank.parts }
