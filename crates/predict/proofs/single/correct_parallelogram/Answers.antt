-- The corrections stand in the list.
use Rattle.std.proofs.Common.{◌≡◌, ◌++◌, ◌≤ℤ◌, ℤ, List, length, take, drop, sym, ap, subst, ◌∙◌, rules}
use Rattle.std.specs.List.{All}
use Rattle.std.proofs.lemmas.List.{take_at}
use Rattle.predict.specs.Surfaces.{surface}
use Rattle.predict.specs.Parallelogram.{parallelogram}
use Rattle.predict.specs.Restored.{restored}
use Rattle.predict.specs.Wrap.{least_correction, greatest_correction}
use Rattle.predict.proofs.single.correct_parallelogram.Goals as goal

pub correct_entries-requires-clause-range : goal.correct_entries-requires-clause-range
correct_entries-requires-clause-range c = rw c.copy-wrap.ensures.same c.requires.within

pub returns-clause-corrections : goal.returns-clause-corrections
returns-clause-corrections c =
    let new = c.correct_entries.new.out in
    let whole : take c.in_ok-out.out.len (new ++ drop (length new) c.in_ok-out.out.items) ≡ new = take_at new (drop (length new) c.in_ok-out.out.items) c.in_ok-out.out.len (search rules) in
    whole ∙ (rw c.copy-wrap.ensures.same at c.correct_entries.ensures.corrections)

pub returns-clause-restores : goal.returns-clause-restores
returns-clause-restores c =
    let new = c.correct_entries.new.out in
    let whole : take c.in_ok-out.out.len (new ++ drop (length new) c.in_ok-out.out.items) ≡ new = take_at new (drop (length new) c.in_ok-out.out.items) c.in_ok-out.out.len (search rules) in
    ap (restored (parallelogram (surface c.args.on.now) c.args.comps) c.args.w.now) whole ∙ (rw c.copy-wrap.ensures.same at c.correct_entries.ensures.restores)

pub returns-clause-small : goal.returns-clause-small
returns-clause-small c =
    let new = c.correct_entries.new.out in
    let whole : take c.in_ok-out.out.len (new ++ drop (length new) c.in_ok-out.out.items) ≡ new = take_at new (drop (length new) c.in_ok-out.out.items) c.in_ok-out.out.len (search rules) in
    subst (λ (xs : List ℤ). All (λ x. (least_correction c.args.w.now ≤ℤ x) × (x ≤ℤ greatest_correction c.args.w.now)) xs) (sym whole)
    (rw c.copy-wrap.ensures.same at c.correct_entries.ensures.small)
