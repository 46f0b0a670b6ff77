-- What options of C choose of an encoding (this project's choice).
use Rattle.std.specs.Prelude.{ℕ, ◌==◌, ◌&&◌, ◌||◌, Bool, true, false, not, Option, None, Some, option_and_then, if◌then◌else◌}
use Rattle.std.specs.List.{list_all}
use Rattle.drc_base.specs.Profile.{Profile, profile_numbered}
use Rattle.drc_container.specs.declared.choice.methods.Method.{Method}
use Rattle.drc_container.specs.declared.choice.methods.Method.TheVariants as method
use Rattle.drc_container.specs.declared.choice.choices.Index.{Index}
use Rattle.drc_container.specs.declared.choice.choices.Index.TheVariants as indexed
use Rattle.drc_container.specs.declared.choice.predicts.Predict.{Predict}
use Rattle.drc_container.specs.declared.choice.predicts.Predict.TheVariants.{Plain, Shape}
use Rattle.predict.specs.declared.schemes.Prediction.TheVariants as prediction
use Rattle.drc_container.specs.declared.choice.choices.Walk.{Walk}
use Rattle.drc_container.specs.declared.choice.choices.Walk.TheVariants as walk
use Rattle.drc_container.specs.declared.choice.choices.Choice.{Choice}
use Rattle.drc_c.specs.declared.options.DrcOptions.{DrcOptions}
use Rattle.drc_c.specs.Profiles.{is_profile, profile_chosen, has_shapes}

-- the method of a number: 0 none is chosen, 1 sequential, 2 Edgebreaker, 3 Edgebreaker by valence
abbrev pub method_numbered : ℕ → Option (Option Method)
method_numbered n =
    if n == 0 then Some None
    else (if n == 1 then Some (Some method.Seq)
    else (if n == 2 then Some (Some method.Eb) else (if n == 3 then Some (Some method.Valence) else None)))

-- the index method of a number: 0 none is chosen, 1 plain, 2 packed
abbrev pub index_numbered : ℕ → Option (Option Index)
index_numbered n =
    if n == 0 then Some None else (if n == 1 then Some (Some indexed.Plain) else (if n == 2 then Some (Some indexed.Packed) else None))

-- the prediction of a number: 0 none is chosen, 1 not at all, 2 by the entry before, 3 by a parallelogram, 4 by several, 5 from positions
abbrev pub predict_numbered : ℕ → Option (Option Predict)
predict_numbered n =
    if n == 0 then Some None
    else (if n == 1 then Some (Some (Plain prediction.Off))
    else (if n == 2 then Some (Some (Plain prediction.Difference))
    else (if n == 3 then Some (Some (Plain prediction.Parallelogram))
    else (if n == 4 then Some (Some (Plain prediction.Multi)) else (if n == 5 then Some (Some Shape) else None)))))

-- the walk of a number: 0 none is chosen, 1 depth first, 2 by prediction degree
abbrev pub walk_numbered : ℕ → Option (Option Walk)
walk_numbered n =
    if n == 0 then Some None else (if n == 1 then Some (Some walk.Depth) else (if n == 2 then Some (Some walk.Degree) else None))

-- the truth value of a number
abbrev pub flag_numbered : ℕ → Option Bool
flag_numbered n = if n == 0 then Some false else (if n == 1 then Some true else None)

-- the choice that options mean, where each number that says how to code names something
unfoldable pub choice_numbered : DrcOptions → Option Choice
choice_numbered o =
    option_and_then (λ m. option_and_then (λ i. option_and_then (λ p. option_and_then (λ w. option_and_then (λ f.
    Some (record { method = m; index = i; predict = p; walk = w; plain_values = f }))
    (flag_numbered o.plain_values)) (walk_numbered o.walk)) (predict_numbered o.predict)) (index_numbered o.index))
    (method_numbered o.method)

-- the profile that options choose
abbrev pub profile_meant : DrcOptions → Profile
profile_meant o = profile_numbered (profile_chosen o.profile)

-- whether a profile has the prediction of a number: predictions from positions came with profile 3
abbrev pub has_predict : ℕ → ℕ → Bool
has_predict p n = has_shapes p || not (n == 5)

-- whether the profile of options is one and has their prediction, and what is spare in them is zeros
abbrev pub are_known : DrcOptions → Bool
are_known o =
    is_profile (profile_chosen o.profile) && (has_predict (profile_chosen o.profile) o.predict && list_all (λ n. n == 0) o.spare)

-- the choice that options mean, where each number names something
unfoldable pub choice_meant : DrcOptions → Option Choice
choice_meant o = if are_known o then choice_numbered o else None
