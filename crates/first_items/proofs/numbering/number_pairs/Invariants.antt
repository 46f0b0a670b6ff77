-- The numbers take the places of the second entries.
use Rattle.first_items.proofs.numbering.number_pairs.Given as goal

abbrev pub ghost-number_lists : goal.ghost-number_lists
ghost-number_lists a = a.numbers.now
