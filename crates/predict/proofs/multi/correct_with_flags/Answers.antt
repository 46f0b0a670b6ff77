-- The flags are those of the lists, and they and the corrections restore the values.
use Rattle.std.proofs.Common.{◌≤ℤ◌, ℕ, ℤ, Bool, List, length, FitsSigned, w32, ap, ◌∙◌, sym, subst}
use Rattle.std.specs.List.{All}
use Rattle.std.proofs.lemmas.List.{length-map}
use Rattle.std.proofs.lemmas.List.Elements.{All-same}
use Rattle.corner_table.specs.Sides.{side_at}
use Rattle.predict.specs.Wrap.{least_correction, greatest_correction}
use Rattle.predict.specs.Restored.{restored, corrections}
use Rattle.predict.specs.Multi.{multi, AreMarked}
use Rattle.predict.specs.Stored.{ordered_in}
use Rattle.predict.proofs.Restoring.{fit_within, restored-corrections, small-corrections}
use Rattle.predict.proofs.Kept.{marked_enough, foretells_all}
use Rattle.predict.proofs.multi.correct_with_flags.Goals as goal

pub returns-clause-enough : goal.returns-clause-enough
returns-clause-enough c =
    let lists : List (List Bool) = c.in_ok-flags.flags.lists in
    let w = ordered_in c.args.surface.now in
    let marked : AreMarked w c.args.comps c.args.v.now lists (length c.args.surface.now.corners.now) =
    subst (λ (l : List (List Bool)). AreMarked w c.args.comps c.args.v.now l (length c.args.surface.now.corners.now)) (sym c.in_ok-flags.ensures) c.in_ok-correct_entries.ensures.marked in
    marked_enough w c.args.comps c.args.v.now lists (subst (λ (n : ℕ). AreMarked w c.args.comps c.args.v.now lists n) (sym (length-map c.args.surface.now.corners.now side_at)) marked)

pub returns-clause-corrections : goal.returns-clause-corrections
returns-clause-corrections c =
    let lists : List (List Bool) = c.in_ok-flags.flags.lists in
    let w = ordered_in c.args.surface.now in
    let marked : AreMarked w c.args.comps c.args.v.now lists (length c.args.surface.now.corners.now) =
    subst (λ (l : List (List Bool)). AreMarked w c.args.comps c.args.v.now l (length c.args.surface.now.corners.now)) (sym c.in_ok-flags.ensures) c.in_ok-correct_entries.ensures.marked in
    c.in_ok-correct_entries.ensures.corrections (multi w c.args.comps lists) (foretells_all w c.args.comps c.args.v.now lists (length c.args.surface.now.corners.now) marked)

pub returns-clause-restores : goal.returns-clause-restores
returns-clause-restores c =
    let lists : List (List Bool) = c.in_ok-flags.flags.lists in
    let f = multi (ordered_in c.args.surface.now) c.args.comps lists in
    let fits : All (FitsSigned w32) c.args.v.now = fit_within c.args.w.now c.args.v.now c.requires.ends c.requires.range in
    ap (restored f c.args.w.now) (returns-clause-corrections c) ∙ restored-corrections f c.args.w.now c.args.v.now c.requires.can_wrap c.requires.range fits

pub returns-clause-small : goal.returns-clause-small
returns-clause-small c =
    let lists : List (List Bool) = c.in_ok-flags.flags.lists in
    let f = multi (ordered_in c.args.surface.now) c.args.comps lists in
    All-same (λ (x : ℤ). (least_correction c.args.w.now ≤ℤ x) × (x ≤ℤ greatest_correction c.args.w.now)) _ (corrections f c.args.w.now c.args.v.now)
    (returns-clause-corrections c) (small-corrections f c.args.w.now c.args.v.now c.requires.can_wrap c.requires.range)
