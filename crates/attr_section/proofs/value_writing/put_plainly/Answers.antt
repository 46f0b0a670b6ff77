-- The prediction is the one whose number the values have.
use Rattle.std.proofs.Common.{◌≡◌, ◌∙◌, ℕ, ℤ, true, List, Option, sym, subst}
use Rattle.std.specs.Option.{option_map}
use Rattle.std.specs.List.{list_all}
use Rattle.std.proofs.lemmas.Bool.{cond-false}
use Rattle.attr_heads.specs.Bounds.{in_bounds, type_bounds, bounds_under}
use Rattle.predict.specs.Schemes.{code_of}
use Rattle.predict.specs.Surfaces.{surface_of}
use Rattle.attr_section.specs.WrittenParts.{PredictedSpelled}
use Rattle.attr_section.specs.Written.{CanAsk}
use Rattle.attr_section.proofs.SpelledValues.{code_told, settled_is, values_are, predicted_spelled}
use Rattle.attr_section.proofs.value_writing.put_plainly.Goals as goal

pub returns-clause-again : goal.returns-clause-again
returns-clause-again c = λ found.
    let w = surface_of (option_map (λ t. t.now) c.args.on) in
    let h = c.args.head.now in
    let v = c.args.v.now in
    let p = c.prediction_of-prediction.result in
    let (q, told, can) = subst (λ (o : Option ℕ). CanAsk w o h.comps v.predict v.values) c.requires.octa c.requires.values.asked in
    let number : v.predict ≡ code_of q = sym (cond-false _ _ _ c.requires.components) ∙ told in
    let code : code_of p ≡ v.predict = code_told q v.predict (code_of p) c.prediction_of-prediction.ensures number in
    let bounded : list_all (in_bounds (type_bounds h.dtype)) v.values ≡ true = subst (λ (o : Option ℕ). list_all (in_bounds (bounds_under h.dtype o)) v.values ≡ true) c.requires.octa c.requires.values.bounded in
    predicted_spelled c.args.plain w found h v p c.requires.octa (settled_is w found h v c.requires.octa c.requires.components ∙ sym code)
    (values_are c.args.plain w found h v p c.requires.octa c.requires.components code)
    (subst (λ (vs : List ℤ). PredictedSpelled c.args.plain w p h.comps vs) c.as_slice-values.ensures.items c.in_ok-put_prediction.ensures.again) bounded
