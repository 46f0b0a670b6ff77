-- Texture coordinates that are predicted from positions are read as what they were made of.
use Rattle.std.proofs.Common.{◌≡◌, ℕ, ◌/◌, ◌%◌, ◌^◌, ◌<◌, ◌≤◌, Bool, true, ℤ, FitsSigned, List, [], ◌∷◌, ◌++◌, length, reverse, Option, None, Some, Result, Ok, Err, refl, sym, ◌∙◌, ap, subst, lit<, arith, length-append}
use Rattle.std.specs.Int.{w32}
use Rattle.std.specs.List.{All, list_all}
use Rattle.std.specs.Option.{option_to_list}
use Rattle.std.proofs.lemmas.Bool.{cond-true}
use Rattle.std.proofs.lemmas.List.{length-reverse}
use Rattle.std.proofs.lemmas.List.Elements.{All-nil, All-cons, All-head, All-tail}
use Rattle.drc_base.specs.declared.kinds.Kind.{Kind}
use Rattle.drc_base.specs.declared.limits.TheConstants.{MAX_VALUES}
use Rattle.drc_base.specs.Steps.{◌>>=◌}
use Rattle.drc_bits.proofs.Results.{Ok-injective, err≢ok}
use Rattle.attr_heads.specs.declared.heads.Head.{Head}
use Rattle.attr_heads.specs.Bounds.{in_bounds, type_bounds, bounds_under}
use Rattle.wrapped_vectors.specs.declared.places.Place.{Place}
use Rattle.texture_prediction.specs.declared.pairs.Pair.{Pair}
use Rattle.texture_prediction.specs.Orientations.{bits_of}
use Rattle.texture_values.specs.Pairs.{pairs_of, flat_of}
use Rattle.texture_values.specs.Foretold.{texture_step}
use Rattle.texture_values.specs.Restored.{restored_texture, flattened}
use Rattle.texture_values.specs.Chosen.{texture_choice, ahead, chosen_behind, chosen_texture}
use Rattle.texture_values.specs.Corrected.{correction_pair, corrected_texture}
use Rattle.texture_values.proofs.Listed.{length-pairs, pairs-all}
use Rattle.texture_values.proofs.Writing.{restored-again}
use Rattle.corner_table.specs.Ordered.{Ordered}
use Rattle.predict.specs.declared.schemes.Prediction.{Prediction}
use Rattle.predict.specs.declared.schemes.Prediction.TheVariants as prediction
use Rattle.predict.specs.Wrap.{Range, CanWrap, HasEnds, correction_of}
use Rattle.predict.specs.Stepping.{Step, corrected_by, in_front}
use Rattle.predict.proofs.Restoring.{InRange, IsSmall}
use Rattle.predict.proofs.Wrapping.{correction_small}
use Rattle.attr_section.specs.declared.values.Values.{Values}
use Rattle.attr_section.specs.Positions.{Positions, PositionsRead, usable, places_on}
use Rattle.attr_section.specs.WrittenParts.{range_of, CanPredict}
use Rattle.attr_section.specs.WrittenTexture.{is_texture, corrected_by_these, projected_texture, projected_on, TextureSpelled}
use Rattle.attr_section.specs.Written.{CanAsk, ValuesPass, ValuesSpelled}
use Rattle.attr_section.proofs.Accepted.{same_code}
use Rattle.attr_section.proofs.SpelledIntegers.{range_of-bounds}
use Rattle.attr_section.proofs.SpelledTexture.{length-bits, Spells-orientations, texture-corrected, texture-read, comps_two, textured_spelled, length-texture, texture_there}
use Rattle.laws_entropy.proofs.Again.{bits-again}
use Rattle.laws_attr.proofs.Fitting.{fit_typed, fit_ends, fit_small}
use Rattle.laws_attr.proofs.Parts.{integers_read, ranges_read}
use Rattle.laws_attr.proofs.Predicted.{predicted_read}

-- a step and what follows it, where both succeed
both : {A B : Type 0} (first : Result A Kind) (next : A → Result B Kind) (y : B) → (first >>= next) ≡ Ok y → (x : A) × (first ≡ Ok x) × (next x ≡ Ok y)
both (Ok x) next y is = (x, refl, is)
both (Err k) next y is = absurd (err≢ok is)

-- ---- orientations

-- there is at most one for each pair
one_most : (o : Option Bool) → length (option_to_list o) ≤ 1
one_most None = omega arith
one_most (Some b) = omega arith

few_chosen : (w : Ordered) (places : List Place) (before pairs : List Pair) (os : List Bool) → chosen_behind w places before pairs ≡ Ok os → length os ≤ length pairs
unfolding chosen_behind
few_chosen w places before [] os is = let none : length os ≡ 0 = ap length (sym (Ok-injective is)) in omega (arith, none)
few_chosen w places before (x ∷ pairs) os is =
    let (c, first, behind) = both (texture_choice w places before x) (λ c. chosen_behind w places (before ++ x ∷ []) pairs >>= ahead (option_to_list c.1)) os is in
    let (rest, others, front) = both (chosen_behind w places (before ++ x ∷ []) pairs) (ahead (option_to_list c.1)) os behind in
    let fewer : length rest ≤ length pairs = few_chosen w places (before ++ x ∷ []) pairs rest others in
    let joined : length os ≡ length (option_to_list c.1 ++ rest) = ap length (sym (Ok-injective front)) in
    omega (arith, joined, length-append (option_to_list c.1) rest, one_most c.1, fewer)

-- ---- corrections

-- those of pairs of a range are small
small_pairs : (step : Step Pair (List Bool) Kind) (r : Range) (before : List Pair) (flags : List Bool) (pairs cs : List Pair) → CanWrap r
    → All (λ (x : Pair). InRange r x.u × InRange r x.v) pairs → corrected_by step (correction_pair r) before flags pairs ≡ Ok cs → All (IsSmall r) (flat_of cs)
unfolding corrected_by flat_of
small_pairs step r before flags [] cs can within is = subst (λ (l : List Pair). All (IsSmall r) (flat_of l)) (Ok-injective is) (All-nil (IsSmall r))
small_pairs step r before flags (v ∷ pairs) cs can within is =
    let P : Pair → Type 0 = λ x. InRange r x.u × InRange r x.v in
    let (x, first, behind) = both (step before flags) (λ x. corrected_by step (correction_pair r) (before ++ v ∷ []) x.1 pairs >>= in_front (correction_pair r x.0 v)) cs is in
    let (ds, others, front) = both (corrected_by step (correction_pair r) (before ++ v ∷ []) x.1 pairs) (in_front (correction_pair r x.0 v)) cs behind in
    let here = All-head (λ (x : Pair). InRange r x.u × InRange r x.v) v pairs within in
    let more : All (IsSmall r) (flat_of ds) = small_pairs step r (before ++ v ∷ []) x.1 pairs ds can (All-tail (λ (x : Pair). InRange r x.u × InRange r x.v) v pairs within) others in
    subst (λ (l : List Pair). All (IsSmall r) (flat_of l)) (Ok-injective front)
    (All-cons (IsSmall r) (correction_of r x.0.u v.u) (correction_of r x.0.v v.v ∷ flat_of ds) (correction_small r x.0.u v.u can here.0.0 here.0.1)
    (All-cons (IsSmall r) (correction_of r x.0.v v.v) (flat_of ds) (correction_small r x.0.v v.v can here.1.0 here.1.1) more))

pairs_flat : (pairs : List Pair) → pairs_of (flat_of pairs) ≡ pairs
unfolding pairs_of flat_of
pairs_flat [] = refl
pairs_flat (x ∷ pairs) = ap (λ (l : List Pair). x ∷ l) (pairs_flat pairs)

-- they are small, and restore the values
record TextureMade (w : Ordered) (places : List Place) (r : Range) (orientations : List Bool) (values corrections : List ℤ) : Type 0 where
  pub small : All (IsSmall r) corrections
  pub restores : restored_texture w places r orientations corrections ≡ Ok values

texture_made : (w : Ordered) (places : List Place) (r : Range) (orientations : List Bool) (values corrections : List ℤ) → CanWrap r → HasEnds r → All (InRange r) values
    → length values % 2 ≡ 0 → corrected_texture w places r orientations values ≡ Ok corrections → TextureMade w places r orientations values corrections
unfolding corrected_texture
texture_made w places r orientations values corrections can ends within even is =
    let (pairs, made, flat) = both (corrected_by (texture_step w places) (correction_pair r) [] (reverse orientations) (pairs_of values)) flattened corrections is in
    let same : flat_of pairs ≡ corrections = Ok-injective flat in
    let again : pairs ≡ pairs_of corrections = sym (pairs_flat pairs) ∙ ap pairs_of same in
    record {
      small = subst (All (IsSmall r)) same (small_pairs (texture_step w places) r [] (reverse orientations) (pairs_of values) pairs can (pairs-all (InRange r) values within) made);
      restores = restored-again w places r orientations (reverse orientations) values corrections (length values / 2) can ends within (omega (arith, even)) refl
          (subst (λ (ps : List Pair). corrected_by (texture_step w places) (correction_pair r) [] (reverse orientations) (pairs_of values) ≡ Ok ps) again made);
    }

-- ---- what is written of texture coordinates

-- the orientations are few, and the corrections are made with them
projected_parts : (w : Ordered) (places : List Place) (values : List ℤ) (x : List Bool × List ℤ) → projected_texture w places values ≡ Ok x
    → (length x.0 ≤ length (pairs_of values)) × (corrected_texture w places (range_of values) x.0 values ≡ Ok x.1)
unfolding projected_texture chosen_texture
projected_parts w places values x is =
    let (chosen, first, behind) = both (chosen_texture w places values) (λ chosen. corrected_by_these w places values (reverse chosen)) x is in
    let (cs, made, pair) = both (corrected_texture w places (range_of values) (reverse chosen) values) (λ cs. Ok (reverse chosen, cs)) x behind in
    let few : length (reverse chosen) ≤ length (pairs_of values) = omega (arith, length-reverse chosen, few_chosen w places [] (pairs_of values) chosen first) in
    subst (λ (y : List Bool × List ℤ). (length y.0 ≤ length (pairs_of values)) × (corrected_texture w places (range_of values) y.0 values ≡ Ok y.1)) (Ok-injective pair) (few, made)

-- texture coordinates with their orientations and corrections, or by a parallelogram
texture_spelled : (plain : Bool) (w : Option Ordered) (ps : Option Positions) (values : List ℤ) (p : Result (List Bool × List ℤ) Kind) → projected_on w ps values ≡ p
    → length values % 2 ≡ 0 → length values ≤ MAX_VALUES → All (FitsSigned w32) values → CanWrap (range_of values) → CanPredict w 2 values prediction.Parallelogram
    → TextureSpelled plain w ps values p
texture_spelled plain w ps values (Err k) is even few fit wraps can = predicted_read plain w prediction.Parallelogram 2 values (lit< tt) even few fit can
texture_spelled plain None ps values (Ok x) is even few fit wraps can = absurd (err≢ok is)
texture_spelled plain (Some w) None values (Ok x) is even few fit wraps can = absurd (err≢ok is)
texture_spelled plain (Some w) (Some ps) values (Ok x) is even few fit wraps can =
    let r : Range = range_of values in
    let places : List Place = places_on ps w in
    let orientations : List Bool = x.0 in
    let corrections : List ℤ = x.1 in
    let parts = projected_parts w places values x is in
    let ends : HasEnds r = fit_ends values fit in
    let made = texture_made w places r orientations values corrections wraps ends (range_of-bounds values) even parts.1 in
    let each : length corrections ≡ length values = length-texture w places r orientations values corrections even parts.1 in
    let fewer : length orientations ≤ length corrections / 2 = omega (arith, each, parts.0, length-pairs values) in
    let short : length orientations < 2 ^ 31 = omega (arith, fewer, each, few) in
    texture-read plain (Some w) (Some ps) values orientations corrections each made.restores
    (texture-corrected plain r orientations corrections fewer
    (integers_read plain 2 corrections (lit< tt) (ap (λ n. n % 2) each ∙ even) (omega (arith, each, few)) (fit_small r corrections wraps made.small))
    (λ entries within. Spells-orientations entries orientations within short (bits-again (bits_of orientations) (omega (arith, length-bits orientations, short))))
    (ranges_read r wraps ends))

-- the values of an attribute without a square, for which the prediction from positions is asked
pub texture_read : (plain : Bool) (w : Option Ordered) (found : PositionsRead) (h : Head) (v : Values) → h.octa ≡ None → is_texture h.comps v.predict ≡ true
    → ValuesPass w h v → ValuesSpelled plain w found h v
texture_read plain w found h v unsquared texture pass =
    let asked = subst (λ (o : Option ℕ). CanAsk w o h.comps v.predict v.values) unsquared pass.asked in
    let (q, told, can) = asked in
    let two : h.comps ≡ 2 = comps_two h.comps v.predict texture in
    let same : q ≡ prediction.Parallelogram = same_code q prediction.Parallelogram (sym told ∙ cond-true _ _ _ texture) in
    let by : CanPredict w 2 v.values prediction.Parallelogram =
    subst (λ (p : Prediction). CanPredict w 2 v.values p) same (subst (λ (n : ℕ). CanPredict w n v.values q) two can) in
    let even : length v.values % 2 ≡ 0 = subst (λ (n : ℕ). length v.values % n ≡ 0) two pass.whole in
    let typed : list_all (in_bounds (type_bounds h.dtype)) v.values ≡ true = subst (λ (o : Option ℕ). list_all (in_bounds (bounds_under h.dtype o)) v.values ≡ true) unsquared pass.bounded in
    let fit : All (FitsSigned w32) v.values = fit_typed h.dtype v.values typed in
    textured_spelled plain w found h v (projected_on w (usable found) v.values) unsquared texture (texture_there w h.comps v.predict v.values texture asked) refl
    (texture_spelled plain w (usable found) v.values (projected_on w (usable found) v.values) refl even pass.few fit (by.wrap refl) by) typed
