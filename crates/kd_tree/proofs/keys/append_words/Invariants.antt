-- The words so far, and those of the bits that are left.
use Rattle.std.proofs.Common.{◌≡◌, ◌+◌, ◌-◌, ◌*◌, ◌/◌, ◌++◌, length, take, drop}
use Rattle.kd_tree.proofs.Packed.{packed}
use Rattle.kd_tree.proofs.keys.append_words.Given as goal

abbrev pub invariant-loop-k : goal.invariant-loop-k
invariant-loop-k l = record {
  words : l.words.items ++ packed (length l.key / 64 - l.k) (drop (64 * l.k) l.key) ≡ l.fn.words.items ++ packed (length l.key / 64) l.key;
  kept : take (length l.fn.words.items) l.words.items ≡ l.fn.words.items;
  length : length l.words.items ≡ length l.fn.words.items + l.k;
}
