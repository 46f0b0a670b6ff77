-- Values by predictions of single components are read as what they were made of.
use Rattle.std.proofs.Common.{◌≡◌, ℕ, ◌%◌, ◌<◌, ◌≤◌, None, subst, Bool, true, false, ℤ, List, length, FitsSigned, inl, inr, sym, ap, ◌∙◌, Option, arith}
use Rattle.std.specs.Int.{w32}
use Rattle.std.specs.List.{All, list_all}
use Rattle.std.proofs.lemmas.Bool.{cases_Bool, cond-false}
use Rattle.attr_heads.specs.declared.heads.Head.{Head}
use Rattle.attr_section.specs.declared.values.Values.{Values}
use Rattle.attr_section.specs.Positions.{PositionsRead}
use Rattle.drc_base.specs.declared.limits.TheConstants.{MAX_VALUES}
use Rattle.drc_bits.specs.Spells.{Spells}
use Rattle.predict.specs.declared.schemes.Prediction.{Prediction}
use Rattle.attr_heads.specs.Bounds.{in_bounds, type_bounds, bounds_under}
use Rattle.predict.specs.Schemes.{facts, code_of}
use Rattle.predict.specs.Wrap.{Range}
use Rattle.predict.specs.Restored.{corrections}
use Rattle.corner_table.specs.Ordered.{Ordered}
use Rattle.predict.specs.Surfaces.{surface_or}
use Rattle.predict.specs.Foretold.{foretold, marks_of}
use Rattle.predict.proofs.Foretold.{length-marks, marks_enough}
use Rattle.predict.proofs.Restoring.{length-corrections}
use Rattle.predict.proofs.Stepped.{restored_again, stand_whole}
use Rattle.attr_section.specs.Values.{corrected_at}
use Rattle.attr_section.specs.WrittenTexture.{is_texture}
use Rattle.attr_section.specs.Written.{CanAsk, ValuesPass, ValuesSpelled}
use Rattle.attr_section.specs.WrittenParts.{range_of, corrected_bytes, CanPredict, HasFewFlags, PredictedSpelled}
use Rattle.attr_section.proofs.SpelledFlags.{Spells-behind, lists_short, lists_few, few_or}
use Rattle.attr_section.proofs.SpelledIntegers.{range_of-bounds}
use Rattle.attr_section.proofs.SpelledCorrections.{stands_there, Spells-flagged, Spells-corrected, Spells-uncorrected}
use Rattle.attr_section.proofs.SpelledValues.{settled_is, values_are, predicted_spelled}
use Rattle.laws_attr.proofs.Fitting.{fit_typed, fit_ends, fit_corrections}
use Rattle.laws_attr.proofs.Parts.{flags_read, integers_read, ranges_read}

-- values by a prediction that corrects
corrected_read : (plain : Bool) (w : Option Ordered) (q : Prediction) (comps : ℕ) (values : List ℤ) → (facts q).corrects ≡ true
    → 0 < comps → length values % comps ≡ 0 → length values ≤ MAX_VALUES → All (FitsSigned w32) values → CanPredict w comps values q → HasFewFlags (surface_or w) → (at : ℕ)
    → Spells (corrected_at at (surface_or w) q comps (length values)) (corrected_bytes plain (surface_or w) q comps values) values
corrected_read plain w q comps values corrects some whole few fit can few_flags at =
    let s : Ordered = surface_or w in
    let r : Range = range_of values in
    let lists : List (List Bool) = marks_of q s comps values in
    let f : List ℤ → ℤ = foretold q s comps lists in
    let cs : List ℤ = corrections f r values in
    let wraps = can.wrap corrects in
    let within = range_of-bounds values in
    let long : length cs ≡ length values = length-corrections f r values in
    let short = lists_short q w comps values some few can.stand in
    let behind = Spells-behind (facts q).behind lists r (λ k d below. flags_read _ (short k d below)) (ranges_read r wraps (fit_ends values fit)) in
    Spells-flagged plain at s q comps lists values
    (integers_read plain comps cs some (ap (λ n. n % comps) long ∙ whole) (omega (arith, long, few)) (fit_corrections f r values wraps within))
    (behind.over s (length-marks q s comps values) (lists_few q s comps values few_flags))
    (restored_again q s comps lists r values some (stand_whole q w comps (length values) can.stand) wraps within fit (marks_enough q s comps values))

-- values by any prediction
pub predicted_read : (plain : Bool) (w : Option Ordered) (q : Prediction) (comps : ℕ) (values : List ℤ)
    → 0 < comps → length values % comps ≡ 0 → length values ≤ MAX_VALUES → All (FitsSigned w32) values → CanPredict w comps values q → PredictedSpelled plain w q comps values
predicted_read plain w q comps values some whole few fit can = elim (cases_Bool (facts q).corrects) [
  | inl corrects ↦ record {
    again = λ flags at. Spells-corrected plain at w q comps values corrects (stands_there q w comps (length values) can.stand)
        (corrected_read plain w q comps values corrects some whole few fit can (few_or w flags) at);
  }
  | inr none ↦ record { again = λ flags at. Spells-uncorrected plain at w q comps values none (integers_read plain comps values some whole few fit) }
]

-- the values of an attribute without a square, for which such a prediction is asked
pub singly_read : (plain : Bool) (w : Option Ordered) (found : PositionsRead) (h : Head) (v : Values) → h.octa ≡ None → is_texture h.comps v.predict ≡ false
    → ValuesPass w h v → ValuesSpelled plain w found h v
singly_read plain w found h v unsquared plainly pass =
    let (q, told, can) = subst (λ (o : Option ℕ). CanAsk w o h.comps v.predict v.values) unsquared pass.asked in
    let number : v.predict ≡ code_of q = sym (cond-false _ _ _ plainly) ∙ told in
    let typed : list_all (in_bounds (type_bounds h.dtype)) v.values ≡ true = subst (λ (o : Option ℕ). list_all (in_bounds (bounds_under h.dtype o)) v.values ≡ true) unsquared pass.bounded in
    predicted_spelled plain w found h v q unsquared (settled_is w found h v unsquared plainly ∙ number) (values_are plain w found h v q unsquared plainly (sym number))
    (predicted_read plain w q h.comps v.values pass.comps pass.whole pass.few (fit_typed h.dtype v.values typed) can) typed
