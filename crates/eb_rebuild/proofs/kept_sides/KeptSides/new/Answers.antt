-- None beside each number.
use Rattle.std.proofs.Common.{◌≡◌, ◌<◌, ℕ, List, length, replicate, get_or, All, ap, subst, ◌∙◌, rules}
use Rattle.std.proofs.lemmas.List.{get_or_default}
use Rattle.std.proofs.lemmas.List.Elements.{All-from_get_or, All-get_or}
use Rattle.std.specs.List.{Contains}
use Rattle.corner_table.specs.Table.{free_entry}
use Rattle.eb_rebuild.specs.Kept.{spread}
use Rattle.eb_rebuild.proofs.Spread.{spread_none}
use Rattle.eb_rebuild.proofs.kept_sides.KeptSides.new.Goals as goal

still_below : (n : ℕ) (xs ys : List ℕ) → ((k : ℕ) → Contains ys k → Contains xs k) → All (λ k. k < n) xs → All (λ k. k < n) ys
still_below n xs ys only all = All-from_get_or (λ (k : ℕ). k < n) ys 0 (λ i l.
    let there = only (get_or ys i 0) (i, l, get_or_default ys i (get_or ys i 0) 0 l) in
    subst (λ (k : ℕ). k < n) there.2 (All-get_or (λ (k : ℕ). k < n) xs there.0 (get_or ys i 0) there.1 all))

all_none : (n : ℕ) (numbers sides : List ℕ) → sides ≡ replicate (length numbers) free_entry → spread n numbers sides ≡ replicate n free_entry
all_none n numbers sides e = ap (spread n numbers) e ∙ spread_none n numbers

pub invariant_of-result : goal.invariant_of-result
invariant_of-result c = record {
  rise = c.risen-numbers.ensures.rise;
  below = still_below c.args.symbols c.args.numbers.items c.risen-numbers.result.items c.risen-numbers.ensures.only c.requires;
  long = search rules;
}

pub returns-clause-sides : goal.returns-clause-sides
returns-clause-sides c = all_none c.args.symbols c.risen-numbers.result.items c.in_ok-sides.sides.items (search rules)
