-- Texture coordinates that are read back from their bytes.
use Rattle.std.proofs.Common.{◌≡◌, ℕ, suc, ◌+◌, ◌*◌, ◌/◌, ◌%◌, ◌^◌, ◌<◌, ◌≤◌, ◌==◌, ◌||◌, nat_le, Bool, true, ℤ, List, [], ◌∷◌, ◌++◌, length, reverse, Option, None, Some, is_some, Result, Ok, Err, IfOk, MatchResult, refl, sym, ◌∙◌, ap, subst, arith}
use Rattle.std.specs.List.{list_all}
use Rattle.std.specs.Ordering.{int_eq}
use Rattle.std.proofs.lemmas.List.{reverse-reverse}
use Rattle.std.proofs.lemmas.Bool.{cond-true, and_parts, eqb-true}
use Rattle.drc_base.specs.declared.kinds.Kind.{Kind}
use Rattle.drc_base.specs.declared.kinds.Kind.TheVariants as kind
use Rattle.drc_base.specs.Profile.{profile_numbered}
use Rattle.drc_base.specs.Steps.{◌>>=◌}
use Rattle.drc_bits.specs.Reading.{Reading, must}
use Rattle.drc_bits.specs.Numbers.{number_at}
use Rattle.drc_bits.specs.Bits.{low_bytes}
use Rattle.drc_bits.specs.Spells.{Spells}
use Rattle.drc_bits.proofs.Results.{Ok-injective, err≢ok}
use Rattle.drc_bits.proofs.Spelled.{Spells-then, Spells-must, Spells-byte}
use Rattle.rans_binary.specs.Blocks.{first_bits, block, bit_block_at, IsBlockOf}
use Rattle.attr_heads.specs.declared.heads.Head.{Head}
use Rattle.attr_heads.specs.Bounds.{in_bounds, type_bounds}
use Rattle.attr_heads.specs.HeadItems.{bare_head}
use Rattle.wrapped_vectors.specs.declared.places.Place.{Place}
use Rattle.texture_prediction.specs.declared.pairs.Pair.{Pair}
use Rattle.texture_prediction.specs.Orientations.{bits_behind, bits_of, orientations_of}
use Rattle.texture_prediction.proofs.Turning.{orientations-come-back}
use Rattle.texture_values.specs.Pairs.{pairs_of, flat_of}
use Rattle.texture_values.specs.Foretold.{texture_step}
use Rattle.texture_values.specs.Restored.{restored_texture}
use Rattle.texture_values.specs.Chosen.{chosen_texture}
use Rattle.texture_values.specs.Corrected.{correction_pair, corrected_texture}
use Rattle.texture_values.proofs.Listed.{length-pairs}
use Rattle.predict.specs.declared.schemes.Prediction.TheVariants as prediction
use Rattle.predict.specs.declared.transforms.Transform.TheVariants as transform
use Rattle.predict.specs.declared.schemes.Prediction.{Prediction}
use Rattle.predict.specs.Schemes.{facts}
use Rattle.predict.specs.Transforms.{transform_byte}
use Rattle.predict.specs.Wrap.{Range}
use Rattle.predict.specs.Stepping.{Step, corrected_by, in_front}
use Rattle.corner_table.specs.Ordered.{Ordered}
use Rattle.attr_section.specs.declared.values.Values.{Values}
use Rattle.attr_section.specs.declared.textured.TheConstants.{TEXTURE_PREDICTION, TEXTURE_SINCE}
use Rattle.attr_section.specs.Positions.{Positions, PositionsRead, usable, places_on}
use Rattle.attr_section.specs.Values.{transform_at, integers_at, range_at, restored_at}
use Rattle.attr_section.specs.Textured.{is_textured, orientations_at, texture_corrected_at, texture_from, textured_at}
use Rattle.attr_section.specs.Attributes.{typed_at, textured_typed_at, typed_values_at}
use Rattle.attr_section.specs.WrittenParts.{integers_bytes, range_of, range_bytes, predicted_bytes}
use Rattle.attr_section.specs.WrittenTexture.{texture_code, is_texture, corrected_by_these, projected_texture, projected_on, orientations_bytes, texture_corrected_bytes, texture_bytes, texture_settled, RestoresOn, TextureCorrected, TextureSpelled}
use Rattle.attr_section.specs.Written.{CanAsk, values_bytes_under, values_bytes, settled_under, settled, came_later, ValuesSpelled}
use Rattle.attr_section.proofs.Accepted.{same_code}
use Rattle.attr_section.proofs.Spelling.{Spells-map}
use Rattle.attr_section.proofs.SpelledIntegers.{Spells-low_bytes}
use Rattle.attr_section.proofs.SpelledCorrections.{Spells-transform}
use Rattle.attr_section.proofs.SpelledValues.{bare_unsquared, unsquared_values, typed_spelled, predicted_spelled}

-- there is a bit for each orientation
length-behind : (before : Bool) (orientations : List Bool) → length (bits_behind before orientations) ≡ length orientations
unfolding bits_behind
length-behind before [] = refl
length-behind before (o ∷ orientations) = ap (λ (n : ℕ). suc n) (length-behind o orientations)

pub length-bits : (orientations : List Bool) → length (bits_of orientations) ≡ length orientations
length-bits orientations = length-behind true orientations

-- orientations by the block of their bits
pub Spells-orientations : (entries : ℕ) (orientations : List Bool) → length orientations ≤ entries → length orientations < 2 ^ 31
    → IsBlockOf (bits_of orientations) (block (bits_of orientations)) → Spells (orientations_at entries) (orientations_bytes orientations) orientations
unfolding orientations_at orientations_bytes
Spells-orientations entries orientations few short is =
    let n = length orientations in
    let within : nat_le n entries ≡ true = grind (arith, few) in
    let first : first_bits n is.start ≡ bits_of orientations = ap (λ (m : ℕ). first_bits m is.start) (sym (length-bits orientations)) ∙ is.first in
    let back : orientations_of (first_bits n is.start) ≡ orientations = ap orientations_of first ∙ orientations-come-back orientations in
    Spells-then (must kind.FlagCount (λ m. nat_le m entries) (number_at 4)) (λ m c. bit_block_at c >>= λ b. Ok (orientations_of (first_bits m b.0), b.1))
    (low_bytes 4 n) (block (bits_of orientations)) n orientations
    (Spells-must kind.FlagCount (λ m. nat_le m entries) (number_at 4) (low_bytes 4 n) n within (Spells-low_bytes 4 n (omega (arith, short))))
    (subst (λ (os : List Bool). Spells (λ c. bit_block_at c >>= λ b. Ok (orientations_of (first_bits n b.0), b.1)) (block (bits_of orientations)) os) back
    (Spells-map (λ b. orientations_of (first_bits n b)) bit_block_at (block (bits_of orientations)) is.start is.spells))

-- values that are restored from corrections over a surface, beside positions
pub texture-corrected : (plain : Bool) (r : Range) (orientations : List Bool) (corrections : List ℤ) → length orientations ≤ length corrections / 2
    → Spells (integers_at 2 (length corrections)) (integers_bytes plain 2 corrections) corrections
    → ((entries : ℕ) → length orientations ≤ entries → Spells (orientations_at entries) (orientations_bytes orientations) orientations)
    → Spells range_at (range_bytes r) r → TextureCorrected plain r orientations corrections
unfolding texture_corrected_at texture_corrected_bytes
texture-corrected plain r orientations corrections few integers oriented ranged = record {
  again = λ w ps values each back at.
      let n = length values in
      let places = places_on ps w in
      Spells-then transform_at (λ t c. integers_at 2 n c >>= λ x. orientations_at (n / 2) x.1 >>= λ o. range_at o.1 >>= λ y. restored_at at (restored_texture w places y.0 o.0 x.0) y.1)
      (transform_byte transform.Wrap ∷ []) (integers_bytes plain 2 corrections ++ (orientations_bytes orientations ++ range_bytes r)) transform.Wrap values
      Spells-transform
      (Spells-then (integers_at 2 n) (λ x c. orientations_at (n / 2) c >>= λ o. range_at o.1 >>= λ y. restored_at at (restored_texture w places y.0 o.0 x) y.1)
      (integers_bytes plain 2 corrections) (orientations_bytes orientations ++ range_bytes r) corrections values
      (subst (λ (m : ℕ). Spells (integers_at 2 m) (integers_bytes plain 2 corrections) corrections) each integers)
      (Spells-then (orientations_at (n / 2)) (λ o c. range_at c >>= λ y. restored_at at (restored_texture w places y.0 o corrections) y.1)
      (orientations_bytes orientations) (range_bytes r) orientations values
      (oriented (n / 2) (subst (λ (m : ℕ). length orientations ≤ m / 2) each few))
      (record {
        reads = λ place rest.
            let after : Reading = record { place = place + length (range_bytes r); rest = rest } in
            ap (λ y. y >>= λ x. restored_at at (restored_texture w places x.0 orientations corrections) x.1) (ranged.reads place rest) ∙ ap (λ y. restored_at at y after) back;
      })));
}

-- the same behind the byte of the prediction
pub texture-read : (plain : Bool) (w : Option Ordered) (ps : Option Positions) (values : List ℤ) (orientations : List Bool) (corrections : List ℤ) → length corrections ≡ length values
    → RestoresOn w ps (range_of values) orientations corrections values → TextureCorrected plain (range_of values) orientations corrections
    → TextureSpelled plain w ps values (Ok (orientations, corrections))
unfolding textured_at
texture-read plain None ps values orientations corrections each back corrected found is = absurd back
texture-read plain (Some w) None values orientations corrections each back corrected found is = absurd back
texture-read plain (Some w) (Some ps) values orientations corrections each back corrected found is = record {
  reads = λ place rest.
      let bytes = texture_corrected_bytes plain (range_of values) orientations corrections in
      let after : place + 1 + length bytes ≡ place + length (TEXTURE_PREDICTION ∷ bytes) = omega arith in
      ap (λ (r : Result (ℕ × Reading) _). r >>= λ b. texture_from place (Some w) (usable found) (length values) b.1) ((Spells-byte TEXTURE_PREDICTION).reads place (bytes ++ rest))
      ∙ ap (λ (p : Option Positions). texture_from place (Some w) p (length values) (record { place = place + 1; rest = bytes ++ rest })) is
      ∙ (corrected.again w ps values each back place).reads (place + 1) rest
      ∙ ap (λ (n : ℕ). Ok (values, record { place = n; rest = rest })) after;
}

-- values for which the prediction from positions is asked have two components
two_components : (comps : ℕ) (code : ℤ) → is_texture comps code ≡ true → (comps == 2) ≡ true
two_components comps code is = (and_parts (int_eq code texture_code) (comps == 2) is).1

pub comps_two : (comps : ℕ) (code : ℤ) → is_texture comps code ≡ true → comps ≡ 2
comps_two comps code is = eqb-true comps 2 (two_components comps code is)

-- what is written of them
texture_bytes_are : (plain : Bool) (w : Option Ordered) (found : PositionsRead) (h : Head) (v : Values) (p : Result (List Bool × List ℤ) Kind) → h.octa ≡ None → is_texture h.comps v.predict ≡ true
    → projected_on w (usable found) v.values ≡ p → values_bytes plain w found h v ≡ texture_bytes plain w v.values p
unfolding values_bytes
texture_bytes_are plain w found h v p unsquared texture is =
    ap (λ (o : Option ℕ). values_bytes_under plain w (usable found) o h.comps v) unsquared ∙ cond-true _ _ _ texture ∙ ap (λ (p : Result (List Bool × List ℤ) Kind). texture_bytes plain w v.values p) is

texture_code_is : (w : Option Ordered) (found : PositionsRead) (h : Head) (v : Values) (p : Result (List Bool × List ℤ) Kind) → h.octa ≡ None → is_texture h.comps v.predict ≡ true
    → projected_on w (usable found) v.values ≡ p → settled w found h v ≡ texture_settled p
unfolding settled
texture_code_is w found h v p unsquared texture is =
    ap (λ (o : Option ℕ). settled_under w (usable found) o h.comps v) unsquared ∙ cond-true _ _ _ texture ∙ ap texture_settled is

-- texture coordinates whose byte is next are read from positions
textured_values : (n : ℕ) (w : Option Ordered) (found : PositionsRead) (h : Head) (m place : ℕ) (bytes rest : List ℕ) (values : List ℤ) → TEXTURE_SINCE ≤ n → h.octa ≡ None → (h.comps == 2) ≡ true
    → is_some w ≡ true → Spells (textured_at w found m) (TEXTURE_PREDICTION ∷ bytes) values → list_all (in_bounds (type_bounds h.dtype)) values ≡ true
    → typed_values_at (profile_numbered n) w found h m (record { place = place; rest = (TEXTURE_PREDICTION ∷ bytes) ++ rest })
    ≡ Ok (record { values = values; predict = texture_code; at = place }, record { place = place + length (TEXTURE_PREDICTION ∷ bytes); rest = rest })
unfolding textured_typed_at
textured_values n w found h m place bytes rest values since unsquared comps there spells typed =
    let c : Reading = record { place = place; rest = (TEXTURE_PREDICTION ∷ bytes) ++ rest } in
    let least : nat_le TEXTURE_SINCE n ≡ true = grind (arith, since) in
    let textured : is_textured (profile_numbered n) w h.comps c ≡ true = rw (least, comps, there) refl in
    unsquared_values (profile_numbered n) w found h m c unsquared
    ∙ cond-true _ _ _ textured
    ∙ ap (λ (r : Result (List ℤ × Reading) _). r >>= λ x. typed_at h.dtype texture_code place x) (spells.reads place rest)
    ∙ cond-true _ _ _ typed

-- the values of texture coordinates
pub textured_spelled : (plain : Bool) (w : Option Ordered) (found : PositionsRead) (h : Head) (v : Values) (p : Result (List Bool × List ℤ) Kind) → h.octa ≡ None → is_texture h.comps v.predict ≡ true
    → is_some w ≡ true → projected_on w (usable found) v.values ≡ p → TextureSpelled plain w (usable found) v.values p
    → list_all (in_bounds (type_bounds h.dtype)) v.values ≡ true → ValuesSpelled plain w found h v
textured_spelled plain w found h v (Ok x) unsquared texture there is spelled typed =
    let later : came_later h v ≡ true = ap (λ (o : Option ℕ). is_some o || is_texture h.comps v.predict) unsquared ∙ texture in
    typed_spelled plain w found h v
    (λ flags n before by place rest. rw (texture_code_is w found h v (Ok x) unsquared texture is, texture_bytes_are plain w found h v (Ok x) unsquared texture is)
    (textured_values n w before (bare_head h) (length v.values) place (texture_corrected_bytes plain (range_of v.values) x.0 x.1) rest v.values (by.since later) (bare_unsquared h unsquared)
    (two_components h.comps v.predict texture) there (spelled before (ap usable (by.same later))) typed))
textured_spelled plain w found h v (Err k) unsquared texture there is spelled typed =
    let two : h.comps ≡ 2 = comps_two h.comps v.predict texture in
    predicted_spelled plain w found h v prediction.Parallelogram unsquared (texture_code_is w found h v (Err k) unsquared texture is)
    (texture_bytes_are plain w found h v (Err k) unsquared texture is ∙ ap (λ (n : ℕ). 1 ∷ predicted_bytes plain w prediction.Parallelogram n v.values) (sym two))
    (rw two spelled) typed

-- a step and what follows it, where both succeed
both : {A B : Type 0} (first : Result A Kind) (next : A → Result B Kind) (y : B) → (first >>= next) ≡ Ok y → (x : A) × (first ≡ Ok x) × (next x ≡ Ok y)
both (Ok x) next y is = (x, refl, is)
both (Err k) next y is = absurd (err≢ok is)

-- there are as many corrections as pairs, and as values
length-corrected : (step : Step Pair (List Bool) Kind) (back : Pair → Pair → Pair) (before : List Pair) (flags : List Bool) (pairs corrections : List Pair)
    → corrected_by step back before flags pairs ≡ Ok corrections → length corrections ≡ length pairs
unfolding corrected_by
length-corrected step back before flags [] corrections is = ap length (sym (Ok-injective is))
length-corrected step back before flags (v ∷ pairs) corrections is =
    let (x, first, behind) = both (step before flags) (λ x. corrected_by step back (before ++ v ∷ []) x.1 pairs >>= in_front (back x.0 v)) corrections is in
    let (cs, others, front) = both (corrected_by step back (before ++ v ∷ []) x.1 pairs) (in_front (back x.0 v)) corrections behind in
    ap length (sym (Ok-injective front)) ∙ ap (λ (n : ℕ). suc n) (length-corrected step back (before ++ v ∷ []) x.1 pairs cs others)

length-flat : (pairs : List Pair) → length (flat_of pairs) ≡ 2 * length pairs
unfolding flat_of
length-flat [] = refl
length-flat (x ∷ pairs) = omega (arith, length-flat pairs)

pub length-texture : (w : Ordered) (places : List Place) (r : Range) (orientations : List Bool) (values corrections : List ℤ) → length values % 2 ≡ 0
    → corrected_texture w places r orientations values ≡ Ok corrections → length corrections ≡ length values
unfolding corrected_texture
length-texture w places r orientations values corrections even is =
    let (cs, made, flat) = both (corrected_by (texture_step w places) (correction_pair r) [] (reverse orientations) (pairs_of values)) (λ pairs. Ok (flat_of pairs)) corrections is in
    let long : length cs ≡ length (pairs_of values) = length-corrected (texture_step w places) (correction_pair r) [] (reverse orientations) (pairs_of values) cs made in
    ap length (sym (Ok-injective flat)) ∙ omega (arith, length-flat cs, long, length-pairs values, even)

-- where that prediction is asked, there is a surface
pub texture_there : (w : Option Ordered) (comps : ℕ) (code : ℤ) (values : List ℤ) → is_texture comps code ≡ true → CanAsk w None comps code values → is_some w ≡ true
texture_there (Some w) comps code values texture asked = refl
texture_there None comps code values texture (q, number, can) =
    let same : prediction.Parallelogram ≡ q = same_code prediction.Parallelogram q (sym (cond-true _ _ _ texture) ∙ number) in
    let needs : (facts q).needs_surface ≡ true = ap (λ (p : Prediction). (facts p).needs_surface) (sym same) in
    absurd (can.stand.stand needs)

-- what an encoder makes of texture coordinates is what is due of them
pub texture-made : {A M : Type 0} (result : Result (Result A Kind) M) (made : A → List ℤ) (chosen : A → List Bool) (w : Ordered) (given places : List Place) (r : Range) (values : List ℤ)
    → given ≡ places → r ≡ range_of values
    → IfOk result (λ x. MatchResult x (λ a. chosen_texture w given values ≡ Ok (reverse (chosen a))) (λ k. chosen_texture w given values ≡ Err k))
    → IfOk result (λ x. IfOk x (λ a. corrected_texture w given r (chosen a) values ≡ Ok (made a)))
    → IfOk result (λ x. MatchResult x (λ a. projected_texture w places values ≡ Ok (chosen a, made a)) (λ k. projected_texture w places values ≡ Err k))
unfolding projected_texture
texture-made (Err e) made chosen w given places r values same is orientations corrections = orientations
texture-made (Ok (Err k)) made chosen w given places r values same is orientations corrections =
    ap (λ (x : Result (List Bool) Kind). x >>= λ os. corrected_by_these w places values (reverse os)) (ap (λ (ps : List Place). chosen_texture w ps values) (sym same) ∙ orientations)
texture-made (Ok (Ok a)) made chosen w given places r values same is orientations corrections =
    ap (λ (x : Result (List Bool) Kind). x >>= λ os. corrected_by_these w places values (reverse os)) (ap (λ (ps : List Place). chosen_texture w ps values) (sym same) ∙ orientations)
    ∙ ap (λ (os : List Bool). corrected_by_these w places values os) (reverse-reverse (chosen a))
    ∙ ap (λ (x : Result (List ℤ) Kind). x >>= λ cs. Ok (chosen a, cs))
    (ap (λ (y : Range). corrected_texture w places y (chosen a) values) (sym is) ∙ ap (λ (ps : List Place). corrected_texture w ps r (chosen a) values) (sym same) ∙ corrections)

pub texture-each : {A M : Type 0} (result : Result (Result A Kind) M) (made : A → List ℤ) (chosen : A → List Bool) (w : Ordered) (places : List Place) (r : Range) (values : List ℤ) → length values % 2 ≡ 0
    → IfOk result (λ x. IfOk x (λ a. corrected_texture w places r (chosen a) values ≡ Ok (made a))) → IfOk result (λ x. IfOk x (λ a. length (made a) ≡ length values))
texture-each (Err e) made chosen w places r values even corrections = corrections
texture-each (Ok (Err k)) made chosen w places r values even corrections = corrections
texture-each (Ok (Ok a)) made chosen w places r values even corrections = length-texture w places r (chosen a) values (made a) even corrections
