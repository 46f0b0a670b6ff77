-- The items of the list before this one are numbered, the others have their second entries, and what is kept is of the numbered ones and of earlier lists.
use Rattle.std.proofs.Common.{◌≡◌, ℕ, ◌-◌, ◌<◌, ◌≤◌, length, get_or}
use Rattle.first_items.specs.Chains.{AreLinked}
use Rattle.first_items.specs.FirstItems.{IsFirstWith, AreNumberedBelow, AreKeptTo}
use Rattle.first_items.proofs.numbering.number_list.Given as goal

abbrev pub invariant-loop-at : goal.invariant-loop-at
invariant-loop-at g l = record {
  each : length l.numbers ≡ length l.firsts;
  linked : AreLinked l.firsts l.nexts 0;
  here : l.at < length l.firsts → get_or l.firsts l.at 0 ≡ l.list;
  kept_to : AreKeptTo l.firsts g.seconds l.kept l.list l.at;
  earlier : AreNumberedBelow l.firsts g.seconds l.numbers l.list;
  rest : (x : ℕ) → x < length l.firsts → l.list ≤ get_or l.firsts x 0 → (get_or l.firsts x 0 ≡ l.list → l.at ≤ x) → get_or l.numbers x 0 ≡ get_or g.seconds x 0;
  so_far : (x : ℕ) → x < length l.firsts → get_or l.firsts x 0 ≡ l.list → x < l.at → IsFirstWith l.firsts g.seconds x (get_or l.numbers x 0);
}

abbrev pub decreases-loop-at : goal.decreases-loop-at
decreases-loop-at g l = length l.firsts - l.at

abbrev pub ghost-first_like : goal.ghost-first_like
ghost-first_like g a = g.seconds
