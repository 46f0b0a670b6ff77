-- The written flags are enough, and what holds of the corrections of any prediction holds of these.
use Rattle.std.proofs.Common.{ℤ, List, Bool, length, FitsSigned, w32, sym, subst}
use Rattle.std.specs.List.{All}
use Rattle.std.specs.Option.{option_map}
use Rattle.predict.specs.Surfaces.{surface_of, surface_or}
use Rattle.predict.specs.Foretold.{foretold, HasWanted}
use Rattle.predict.proofs.Restoring.{fit_within, restored-corrections, small-corrections}
use Rattle.predict.proofs.Foretold.{marks_enough}
use Rattle.predict.proofs.Stepped.{restored_again, stand_whole}
use Rattle.predict.proofs.corrected.correct.Goals as goal

pub returns-clause-enough : goal.returns-clause-enough
returns-clause-enough c =
    let w = surface_or (surface_of (option_map (λ t. t.now) c.args.on)) in
    subst (λ (lists : List (List Bool)). HasWanted c.args.prediction w lists) (sym c.in_ok-symbols.ensures.flags) (marks_enough c.args.prediction w c.args.comps c.args.v.now)

pub returns-clause-restores : goal.returns-clause-restores
returns-clause-restores c =
    let w = surface_or (surface_of (option_map (λ t. t.now) c.args.on)) in
    let f : List ℤ → ℤ = foretold c.args.prediction w c.args.comps c.in_ok-symbols.flags.lists in
    let fits : All (FitsSigned w32) c.args.v.now = fit_within c.args.w.now c.args.v.now c.copy-wrap.ensures.ends c.requires.within in
    restored-corrections f c.args.w.now c.args.v.now c.copy-wrap.ensures.can_wrap c.requires.within fits

pub returns-clause-again : goal.returns-clause-again
returns-clause-again c =
    let on = surface_of (option_map (λ t. t.now) c.args.on) in
    let w = surface_or on in
    let lists : List (List Bool) = c.in_ok-symbols.flags.lists in
    let has : HasWanted c.args.prediction w lists =
    subst (λ (l : List (List Bool)). HasWanted c.args.prediction w l) (sym c.in_ok-symbols.ensures.flags) (marks_enough c.args.prediction w c.args.comps c.args.v.now) in
    let fits : All (FitsSigned w32) c.args.v.now = fit_within c.args.w.now c.args.v.now c.copy-wrap.ensures.ends c.requires.within in
    restored_again c.args.prediction w c.args.comps lists c.args.w.now c.args.v.now c.requires.some (stand_whole c.args.prediction on c.args.comps (length c.args.v.now) c.requires.stand)
    c.copy-wrap.ensures.can_wrap c.requires.within fits has

pub returns-clause-small : goal.returns-clause-small
returns-clause-small c =
    let w = surface_or (surface_of (option_map (λ t. t.now) c.args.on)) in
    let f : List ℤ → ℤ = foretold c.args.prediction w c.args.comps c.in_ok-symbols.flags.lists in
    small-corrections f c.args.w.now c.args.v.now c.copy-wrap.ensures.can_wrap c.requires.within
