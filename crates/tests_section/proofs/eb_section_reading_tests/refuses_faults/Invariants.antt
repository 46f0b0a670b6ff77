-- Each call counts in the ledger of its own blank.
use Rattle.tests_section.proofs.eb_section_reading_tests.refuses_faults.Given as goal

abbrev pub ghosts-fault_of : goal.ghosts-fault_of
ghosts-fault_of g a = record { name = a.blank.name; parts = a.blank.parts }
