-- The entries of the sides so far give their pairs, and there is room for the others.
use Rattle.std.proofs.Common.{◌≡◌, ◌≤◌, vec_len, vec_capacity}
use Rattle.corner_table.specs.Table.{glued_in}
use Rattle.seams.specs.Seams.{flag_at, unseamed}
use Rattle.seams.specs.Pairs.{TellPairs}
use Rattle.seams.proofs.cutting.kept_pairs.Given as goal

abbrev pub invariant-loop-side : goal.invariant-loop-side
invariant-loop-side l = record {
  pairs : TellPairs (unseamed (flag_at l.seam) (glued_in l.across)) l.side l.pairs.items;
  len : vec_len l.pairs ≡ l.side;
  room : l.count ≤ vec_capacity l.pairs;
}
