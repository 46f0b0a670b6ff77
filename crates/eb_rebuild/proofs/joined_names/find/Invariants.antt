-- The root stays the same, of each name and of the one that is reached.
use Rattle.std.proofs.Common.{◌≡◌, ℕ, ◌<◌, vec_len, vec_capacity}
use Rattle.eb_rebuild.specs.JoinedNames.{root_in, Falls}
use Rattle.eb_rebuild.proofs.joined_names.find.Given as goal

abbrev pub invariant-climbing : goal.invariant-climbing
invariant-climbing l = record {
  falls : Falls l.up.items;
  within : l.at < vec_len l.up;
  here : root_in l.up.items l.at ≡ root_in l.fn.up.items l.name;
  roots : (x : ℕ) → root_in l.up.items x ≡ root_in l.fn.up.items x;
  len : vec_len l.up ≡ vec_len l.fn.up;
  capacity : vec_capacity l.up ≡ vec_capacity l.fn.up;
}

abbrev pub decreases-climbing : goal.decreases-climbing
decreases-climbing l = l.at
