-- The names before this one have numbers.
use Rattle.eb_rebuild.specs.JoinedNames.{IsNumbering}
use Rattle.eb_rebuild.proofs.joined_names.number_roots.Given as goal

abbrev pub invariant-loop-name : goal.invariant-loop-name
invariant-loop-name l = IsNumbering l.fn.up.items l.name l.count l.numbers.items
