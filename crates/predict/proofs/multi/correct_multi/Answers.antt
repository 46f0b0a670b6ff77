-- The corrections stand in the list.
use Rattle.std.proofs.Common.{◌≡◌, ◌++◌, ◌≤ℤ◌, ℤ, List, length, take, drop, sym, ap, subst, ◌∙◌, rules}
use Rattle.std.specs.List.{All}
use Rattle.std.proofs.lemmas.List.{take_at}
use Rattle.predict.specs.Surfaces.{surface}
use Rattle.predict.specs.Multi.{multi}
use Rattle.predict.specs.Restored.{restored}
use Rattle.predict.specs.Wrap.{least_correction, greatest_correction}
use Rattle.predict.proofs.multi.correct_multi.Goals as goal

pub returns-clause-corrections : goal.returns-clause-corrections
returns-clause-corrections c =
    let new = c.correct_with_flags.new.out in
    let whole : take c.in_ok-out.out.len (new ++ drop (length new) c.in_ok-out.out.items) ≡ new = take_at new (drop (length new) c.in_ok-out.out.items) c.in_ok-out.out.len (search rules) in
    whole ∙ (rw (c.copy-wrap.ensures.same, c.surface_of-surface.ensures.ordered) at c.in_ok-flags.ensures.corrections)

pub returns-clause-restores : goal.returns-clause-restores
returns-clause-restores c =
    let new = c.correct_with_flags.new.out in
    let whole : take c.in_ok-out.out.len (new ++ drop (length new) c.in_ok-out.out.items) ≡ new = take_at new (drop (length new) c.in_ok-out.out.items) c.in_ok-out.out.len (search rules) in
    ap (restored (multi (surface c.args.on.now) c.args.comps c.in_ok-flags.flags.lists) c.args.w.now) whole ∙ (rw (c.copy-wrap.ensures.same, c.surface_of-surface.ensures.ordered) at c.in_ok-flags.ensures.restores)

pub returns-clause-small : goal.returns-clause-small
returns-clause-small c =
    let new = c.correct_with_flags.new.out in
    let whole : take c.in_ok-out.out.len (new ++ drop (length new) c.in_ok-out.out.items) ≡ new = take_at new (drop (length new) c.in_ok-out.out.items) c.in_ok-out.out.len (search rules) in
    subst (λ (xs : List ℤ). All (λ x. (least_correction c.args.w.now ≤ℤ x) × (x ≤ℤ greatest_correction c.args.w.now)) xs) (sym whole)
    (rw c.copy-wrap.ensures.same at c.in_ok-flags.ensures.small)
