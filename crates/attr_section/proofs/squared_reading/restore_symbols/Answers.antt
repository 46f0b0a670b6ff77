use Rattle.std.proofs.Common.{◌≡◌, ℕ, ℤ, List, [], Bool, Option, Result, Ok, Err, refl, subst}
use Rattle.std.specs.Prelude.{IfOk, MatchResult}
use Rattle.drc_base.specs.declared.kinds.Kind.{Kind}
use Rattle.corner_table.specs.Ordered.{Ordered}
use Rattle.attr_section.specs.declared.square_predictions.SquarePrediction.{SquarePrediction}
use Rattle.attr_section.specs.declared.square_predictions.SquarePrediction.TheVariants as by
use Rattle.attr_section.specs.Positions.{Positions}
use Rattle.attr_section.specs.Squared.{squared}
use Rattle.attr_section.proofs.squared_reading.restore_symbols.Goals as goal

-- the difference takes no flips
by-difference : (q : SquarePrediction) (w : Option Ordered) (ps : Option Positions) (bits : ℕ) (flips : List Bool) (integers : List ℤ) → q ≡ by.Difference
    → flips ≡ [] → squared by.Difference w ps bits [] integers ≡ squared q w ps bits flips integers
by-difference q w ps bits flips integers is none = rw (is, none) refl

pub returns-in-Difference-default-default-clause-due : goal.returns-in-Difference-default-default-clause-due
returns-in-Difference-default-default-clause-due c =
    let is = c.in-Difference-default-default.is-0 in
    let none : c.args.flips.now ≡ [] = c.requires.none (rw is refl) in
    subst (λ (x : Result (List ℤ) Kind). IfOk c.restore_by_difference.result (λ r. MatchResult r (λ v. x ≡ Ok v.items) (λ k. x ≡ Err k)))
    (by-difference c.args.prediction _ _ c.args.bits c.args.flips.now _ is none) (c.restore_by_difference.ensures.due _ _)
