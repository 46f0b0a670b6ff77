-- Values that were read: how many they are, and that each is in its type, where it has no square.
use Rattle.drc_base.specs.Profile.{Profile, profile_numbered}
use Rattle.std.proofs.Common.{◌≡◌, ℕ, zero, suc, ◌+◌, ◌*◌, ◌/◌, ◌%◌, ◌≤◌, true, ℤ, List, [], ◌∷◌, length, take, drop, map, Option, None, Some, is_some, Result, Ok, Err, refl, sym, ◌∙◌, ap, subst, arith, length-append, replicate, w8}
use Rattle.std.specs.Prelude.{◌==◌, ◌&&◌, nat_lt, nat_le, is_none, if◌then◌else◌}
use Rattle.std.specs.Int.{cast_signed}
use Rattle.std.specs.List.{list_all}
use Rattle.std.proofs.lemmas.Bool.{eqb-true, leb-true, and_parts, false≢true}
use Rattle.std.proofs.lemmas.List.{length-map, length-replicate}
use Rattle.std.proofs.lemmas.Nat.{div-add-mod'}
use Rattle.std.proofs.Math.Nat.{mul-mod_left}
use Rattle.drc_base.specs.declared.kinds.Kind.{Kind}
use Rattle.drc_base.specs.declared.kinds.Kind.TheVariants as kind
use Rattle.drc_base.specs.declared.limits.TheConstants.{MAX_VALUES}
use Rattle.drc_base.specs.Steps.{◌>>=◌}
use Rattle.drc_bits.specs.Reading.{Reading, Item, must, many_at}
use Rattle.drc_bits.specs.Numbers.{number_at}
use Rattle.drc_bits.specs.Bits.{bits_of, number_of}
use Rattle.drc_bits.proofs.Results.{Ok-injective, err≢ok}
use Rattle.rans_core.specs.Coder.{CoderState}
use Rattle.symbol_tables.specs.Tables.{table_at}
use Rattle.symbol_coding.specs.Symbols.{next_symbols, state_behind_symbol, coded_at}
use Rattle.symbol_coding.specs.Block.{precision, widths, values_in_groups as values_in_bits, tagged_at, raw_at, scheme_at, block_at}
use Rattle.attr_heads.specs.declared.heads.Head.{Head}
use Rattle.attr_heads.specs.Octahedra.{has_coordinates}
use Rattle.attr_heads.specs.Bounds.{in_bounds, type_bounds}
use Rattle.corner_table.specs.Ordered.{Ordered}
use Rattle.predict.specs.Surfaces.{surface_or, lacks_surface}
use Rattle.predict.specs.Foretold.{restored_with}
use Rattle.predict.proofs.Stepped.{length-restored_with}
use Rattle.predict.specs.declared.schemes.Prediction.{Prediction}
use Rattle.predict.specs.Schemes.{facts, code_of}
use Rattle.attr_section.specs.declared.values.Values.{Values}
use Rattle.attr_section.specs.Values.{prediction_at, range_at, plain_value_at, byte_width_at, plain_values_at, signed_of, transform_at, compressed_values_at, integers_at, behind_at, restored_at, corrected_at, predicted_at}
use Rattle.attr_section.specs.declared.square_predictions.SquarePrediction.{SquarePrediction}
use Rattle.attr_section.specs.declared.textured.TheConstants.{TEXTURE_PREDICTION, TEXTURE_SINCE}
use Rattle.attr_section.specs.Positions.{Positions, PositionsRead, usable, places_on}
use Rattle.attr_section.specs.Squared.{square_facts, square_prediction_at, square_transform_at, square_at, flips_at, squared, square_corrected_at, square_predicted_at}
use Rattle.attr_section.specs.Textured.{is_textured, next_is, orientations_at, texture_corrected_at, texture_from, textured_at}
use Rattle.attr_section.specs.Attributes.{typed_at, plain_typed_at, textured_typed_at, squared_typed_at, unsquared_typed_at, typed_values_at, values_at}
use Rattle.texture_values.specs.Restored.{restored_texture}
use Rattle.drc_container.proofs.lemmas.reading.PairLengths.{length-texture, length-squared}
use Rattle.drc_container.proofs.lemmas.reading.Parted.{given, parts, passed, not_refused, either, many-passed}

values_in-counted : (long short : ℕ) (ws bits vs : List ℕ) → values_in_bits long short ws bits ≡ Ok vs → length vs ≡ length ws
unfolding values_in_bits
values_in-counted long short [] bits vs is = ap length (sym (Ok-injective is))
values_in-counted long short (w ∷ ws) bits vs is =
    let here = not_refused (nat_lt (length bits) w) _ _ vs (not_refused (nat_lt 32 w) _ _ vs is) in
    let p = parts (values_in_bits long short ws (drop w bits)) (λ rest. Ok (number_of (take w bits) ∷ rest)) vs here in
    ap length (sym (Ok-injective p.2)) ∙ ap suc (values_in-counted long short ws (drop w bits) p.0 p.1)

length-widths : (comps : ℕ) (lengths : List ℕ) → length (widths comps lengths) ≡ length lengths * comps
length-widths comps [] = omega arith
length-widths comps (l ∷ lengths) =
    length-append (replicate comps l) (widths comps lengths) ∙ omega (arith, length-replicate comps l, length-widths comps lengths)

length-next_symbols : (n bits : ℕ) (probs : List ℕ) (s : CoderState) → length (next_symbols n bits probs s) ≡ n
unfolding next_symbols
length-next_symbols zero bits probs s = refl
length-next_symbols (suc n) bits probs s = ap suc (length-next_symbols n bits probs (state_behind_symbol bits probs s))

tagged-counted : (groups comps : ℕ) (c : Reading) (y : List ℕ × Reading) → tagged_at groups comps c ≡ Ok y → length y.0 ≡ groups * comps
unfolding tagged_at
tagged-counted groups comps c y is =
    let p = parts (table_at (precision 5) c) _ y is in
    let q = parts (coded_at (precision 5) p.0.1) _ y p.2 in
    let lengths = next_symbols groups (precision 5) p.0.0 q.0.0.state in
    let r = parts (values_in_bits q.0.0.place q.0.1.place (widths comps lengths) (bits_of q.0.1.rest)) _ y q.2 in
    ap (λ (z : List ℕ × Reading). length z.0) (sym (Ok-injective r.2))
    ∙ values_in-counted q.0.0.place q.0.1.place (widths comps lengths) (bits_of q.0.1.rest) r.0 r.1
    ∙ length-widths comps lengths
    ∙ ap (λ n. n * comps) (length-next_symbols groups (precision 5) p.0.0 q.0.0.state)

raw-counted : (n : ℕ) (c : Reading) (y : List ℕ × Reading) → raw_at n c ≡ Ok y → length y.0 ≡ n
unfolding raw_at
raw-counted n c y is =
    let p = parts (must kind.Length (λ l. nat_le 1 l && nat_le l 18) (number_at 1) c) _ y is in
    let q = parts (table_at (precision p.0.0) p.0.1) _ y p.2 in
    let r = parts (coded_at (precision p.0.0) q.0.1) _ y q.2 in
    ap (λ (z : List ℕ × Reading). length z.0) (sym (Ok-injective r.2)) ∙ length-next_symbols n (precision p.0.0) q.0.0 r.0.0.state

-- a block has as many values as were asked of it
pub block-counted : (n comps : ℕ) → n % comps ≡ 0 → (c : Reading) (y : List ℕ × Reading) → block_at n comps c ≡ Ok y → length y.0 ≡ n
unfolding block_at
block-counted n comps whole c y is =
    let rest : Item (List ℕ) = must kind.Scheme (λ s. nat_lt s 2) (number_at 1) c >>= λ scheme. scheme_at scheme.0 n comps scheme.1 in
    either (length y.0 ≡ n) (n == 0) (Ok ([], c)) rest y is
    (λ none read. ap (λ (z : List ℕ × Reading). length z.0) (sym (Ok-injective read)) ∙ sym (eqb-true n 0 none))
    (λ some read.
    let p = parts (must kind.Scheme (λ s. nat_lt s 2) (number_at 1) c) (λ scheme. scheme_at scheme.0 n comps scheme.1) y read in
    either (length y.0 ≡ n) (p.0.0 == 0) (tagged_at (n / comps) comps p.0.1) (raw_at n p.0.1) y p.2
    (λ tagged read. omega (arith, tagged-counted (n / comps) comps p.0.1 y read, div-add-mod' n comps, whole))
    (λ raw read. raw-counted n p.0.1 y read))

integers-counted : (comps n : ℕ) → n % comps ≡ 0 → (c : Reading) (y : List ℤ × Reading) → integers_at comps n c ≡ Ok y → length y.0 ≡ n
unfolding integers_at plain_values_at compressed_values_at
integers-counted comps n whole c y is =
    let p = parts (number_at 1 c) _ y is in
    either (length y.0 ≡ n) (p.0.0 == 0) (plain_values_at n p.0.1) (compressed_values_at comps n p.0.1) y p.2
    (λ plain read.
    let q = parts (byte_width_at p.0.1) (λ width. many_at (plain_value_at width.0) n width.1) y read in
    (many-passed (λ _. Unit {0}) (plain_value_at q.0.0) (λ _ _ _. tt) n q.0.1 y q.2).0)
    (λ packed read.
    let q = parts (block_at n comps p.0.1) (λ x. Ok (map signed_of x.0, x.1)) y read in
    ap (λ (z : List ℤ × Reading). length z.0) (sym (Ok-injective q.2)) ∙ length-map q.0.0 signed_of ∙ block-counted n comps whole p.0.1 q.0 q.1)

restored-counted : (at : ℕ) (due : Result (List ℤ) Kind) (n : ℕ) (after : Reading) (y : List ℤ × Reading)
    → ((vs : List ℤ) → due ≡ Ok vs → length vs ≡ n) → restored_at at due after ≡ Ok y → length y.0 ≡ n
restored-counted at (Ok vs) n after y long is = ap (λ (z : List ℤ × Reading). length z.0) (sym (Ok-injective is)) ∙ long vs refl
restored-counted at (Err k) n after y long is = absurd (err≢ok is)

corrected-counted : (at : ℕ) (w : Ordered) (q : Prediction) (comps n : ℕ) → n % comps ≡ 0 → (c : Reading) (y : List ℤ × Reading)
    → corrected_at at w q comps n c ≡ Ok y → length y.0 ≡ n
unfolding corrected_at
corrected-counted at w q comps n whole c y is =
    let p = parts (transform_at c) _ y is in
    let x = parts (integers_at comps n p.0.1) _ y p.2 in
    let b = parts (behind_at (facts q).behind w x.0.1) _ y x.2 in
    restored-counted at (restored_with p.0.0 q w comps b.0.0.0 b.0.0.1 x.0.0) n b.0.1 y
    (λ vs told. length-restored_with p.0.0 q w comps b.0.0.0 b.0.0.1 x.0.0 vs told ∙ integers-counted comps n whole p.0.1 x.0 x.1) b.2

-- however they are predicted, values are as many as were asked for
predicted-counted : (at : ℕ) (w : Option Ordered) (q : Prediction) (comps n : ℕ) → n % comps ≡ 0 → (c : Reading) (y : List ℤ × Reading)
    → predicted_at at w q comps n c ≡ Ok y → length y.0 ≡ n
unfolding predicted_at
predicted-counted at w q comps n whole c y is =
    either (length y.0 ≡ n) (facts q).corrects _ (integers_at comps n c) y is
    (λ on read. corrected-counted at (surface_or w) q comps n whole c y (not_refused (lacks_surface q w) _ (corrected_at at (surface_or w) q comps n c) y read))
    (λ off read. integers-counted comps n whole c y read)

-- texture coordinates
texture-counted : (at : ℕ) (w : Option Ordered) (ps : Option Positions) (n : ℕ) → n % 2 ≡ 0 → (c : Reading) (y : List ℤ × Reading)
    → texture_from at w ps n c ≡ Ok y → length y.0 ≡ n
unfolding texture_corrected_at
texture-counted at None ps n even c y is = absurd (err≢ok is)
texture-counted at (Some w) None n even c y is = absurd (err≢ok is)
texture-counted at (Some w) (Some ps) n even c y is =
    let p = parts (transform_at c) _ y is in
    let x = parts (integers_at 2 n p.0.1) _ y p.2 in
    let o = parts (orientations_at (n / 2) x.0.1) _ y x.2 in
    let r = parts (range_at o.0.1) _ y o.2 in
    let long = integers-counted 2 n even p.0.1 x.0 x.1 in
    restored-counted at (restored_texture w (places_on ps w) r.0.0 o.0.0 x.0.0) n r.0.1 y
    (λ vs told. length-texture w (places_on ps w) r.0.0 o.0.0 x.0.0 vs (rw long even) told ∙ long) r.2

textured-counted : (w : Option Ordered) (found : PositionsRead) (n : ℕ) → n % 2 ≡ 0 → (c : Reading) (y : List ℤ × Reading)
    → textured_at w found n c ≡ Ok y → length y.0 ≡ n
unfolding textured_at
textured-counted w found n even c y is =
    let p = parts (number_at 1 c) _ y is in
    texture-counted c.place w (usable found) n even p.0.1 y p.2

-- coordinates of a square
square-corrected-counted : (at : ℕ) (q : SquarePrediction) (w : Option Ordered) (ps : Option Positions) (n : ℕ) → n % 2 ≡ 0 → (c : Reading) (y : List ℤ × Reading)
    → square_corrected_at at q w ps n c ≡ Ok y → length y.0 ≡ n
unfolding square_corrected_at
square-corrected-counted at q w ps n even c y is =
    let p = parts (square_transform_at c) _ y is in
    let x = parts (integers_at 2 n p.0.1) _ y p.2 in
    let b = parts (square_at x.0.1) _ y x.2 in
    let f = parts (flips_at q (n / 2) b.0.1) _ y b.2 in
    let long = integers-counted 2 n even p.0.1 x.0 x.1 in
    restored-counted at (squared q w ps b.0.0 f.0.0 x.0.0) n f.0.1 y
    (λ vs told. length-squared q w ps b.0.0 f.0.0 x.0.0 vs (rw long even) told ∙ long) f.2

square-counted : (at : ℕ) (q : SquarePrediction) (w : Option Ordered) (found : PositionsRead) (n : ℕ) → n % 2 ≡ 0 → (c : Reading) (y : List ℤ × Reading)
    → square_predicted_at at q w found n c ≡ Ok y → length y.0 ≡ n
unfolding square_predicted_at
square-counted at q w found n even c y is =
    let there = not_refused ((square_facts q).takes_positions && is_none (usable found)) _
    (if (square_facts q).corrects then square_corrected_at at q w (usable found) n c else integers_at 2 n c) y is in
    either (length y.0 ≡ n) (square_facts q).corrects (square_corrected_at at q w (usable found) n c) (integers_at 2 n c) y there
    (λ on read. square-corrected-counted at q w (usable found) n even c y read)
    (λ off read. integers-counted 2 n even c y read)

-- a column of so many values for a head; without a square each is in its type, with one this isn't known yet
pub record IsRead (n : ℕ) (h : Head) (v : Values) : Type 0 where
  pub long : length v.values ≡ n
  pub typed : h.octa ≡ None → list_all (in_bounds (type_bounds h.dtype)) v.values ≡ true

typed-read : (n : ℕ) (h : Head) (code : ℤ) (at : ℕ) (x : List ℤ × Reading) (y : Values × Reading) → length x.0 ≡ n
    → typed_at h.dtype code at x ≡ Ok y → IsRead n h y.0
typed-read n h code at x y long is =
    let t = passed (list_all (in_bounds (type_bounds h.dtype)) x.0) _ _ y is in
    let v : Values = record { values = x.0; predict = code; at = at } in
    given (λ (z : Values × Reading). IsRead n h z.0) (v, x.1) y t.1 (record { long = long; typed = λ none. t.0 })

plain-read : (k : ℕ) (w : Option Ordered) (h : Head) (n : ℕ) → n % h.comps ≡ 0 → (c : Reading) (y : Values × Reading)
    → plain_typed_at (profile_numbered k) w h n c ≡ Ok y → IsRead n h y.0
unfolding plain_typed_at
plain-read k w h n whole c y is =
    let p = parts (prediction_at (profile_numbered k) c) _ y is in
    let q = parts (predicted_at c.place w p.0.0 h.comps n p.0.1) _ y p.2 in
    typed-read n h (code_of p.0.0) c.place q.0 y (predicted-counted c.place w p.0.0 h.comps n whole p.0.1 q.0 q.1) q.2

textured-read : (w : Option Ordered) (found : PositionsRead) (h : Head) (n : ℕ) → n % 2 ≡ 0 → (c : Reading) (y : Values × Reading)
    → textured_typed_at w found h n c ≡ Ok y → IsRead n h y.0
unfolding textured_typed_at
textured-read w found h n even c y is =
    let p = parts (textured_at w found n c) _ y is in
    typed-read n h (cast_signed w8 TEXTURE_PREDICTION) c.place p.0 y (textured-counted w found n even c p.0 p.1) p.2

squared-read : (k : ℕ) (w : Option Ordered) (found : PositionsRead) (h : Head) (n : ℕ) → is_some h.octa ≡ true → n % 2 ≡ 0 → (c : Reading) (y : Values × Reading)
    → squared_typed_at (profile_numbered k) w found n c ≡ Ok y → IsRead n h y.0
unfolding squared_typed_at
squared-read k w found h n square even c y is =
    let p = parts (square_prediction_at (profile_numbered k) w c) _ y is in
    let q = parts (square_predicted_at c.place p.0.0 w found n p.0.1) _ y p.2 in
    let v : Values = record { values = q.0.0; predict = cast_signed w8 (square_facts p.0.0).byte; at = c.place } in
    given (λ (z : Values × Reading). IsRead n h z.0) (v, q.0.1) y q.2 (record {
      long = square-counted c.place p.0.0 w found n even p.0.1 q.0 q.1;
      typed = λ none. absurd (false≢true (sym (ap is_some none) ∙ square));
    })

-- where texture coordinates are read there are two components
textured-two : (p : Profile) (w : Option Ordered) (comps : ℕ) (c : Reading) → is_textured p w comps c ≡ true → comps ≡ 2
textured-two p w comps c is =
    let both = and_parts (nat_le TEXTURE_SINCE p.number) (comps == 2 && (is_some w && next_is TEXTURE_PREDICTION c.rest)) is in
    eqb-true comps 2 (and_parts (comps == 2) (is_some w && next_is TEXTURE_PREDICTION c.rest) both.1).0

-- where a head has a square there are two
square-two : (h : Head) → has_coordinates h.comps h.octa ≡ true → is_some h.octa ≡ true → h.comps ≡ 2
square-two h two some = at h.octa two some where
  at : (octa : Option ℕ) → has_coordinates h.comps octa ≡ true → is_some octa ≡ true → h.comps ≡ 2
  at None two some = absurd (false≢true some)
  at (Some bits) two some = eqb-true h.comps 2 two

values-read : (k : ℕ) (w : Option Ordered) (found : PositionsRead) (h : Head) → has_coordinates h.comps h.octa ≡ true → (entries : ℕ) (c : Reading) (y : Values × Reading)
    → typed_values_at (profile_numbered k) w found h (entries * h.comps) c ≡ Ok y → IsRead (entries * h.comps) h y.0
unfolding typed_values_at
values-read k w found h two entries c y is =
    let n = entries * h.comps in
    let whole : n % h.comps ≡ 0 = mul-mod_left entries h.comps in
    either (IsRead n h y.0) (is_some h.octa) (squared_typed_at (profile_numbered k) w found n c) (unsquared_typed_at (profile_numbered k) w found h n c) y is
    (λ square read. squared-read k w found h n square (subst (λ m. n % m ≡ 0) (square-two h two square) whole) c y read)
    (λ plain read.
    either (IsRead n h y.0) (is_textured (profile_numbered k) w h.comps c) (textured_typed_at w found h n c) (plain_typed_at (profile_numbered k) w h n c) y read
    (λ on here. textured-read w found h n (subst (λ m. n % m ≡ 0) (textured-two (profile_numbered k) w h.comps c on) whole) c y here)
    (λ off here. plain-read k w h n whole c y here))

-- the values of an attribute are a column within the limit
pub values-column : (k : ℕ) (w : Option Ordered) (found : PositionsRead) (h : Head) → has_coordinates h.comps h.octa ≡ true → (entries spent : ℕ) (c : Reading) (y : Values × Reading)
    → values_at (profile_numbered k) w found h entries spent c ≡ Ok y → IsRead (entries * h.comps) h y.0 × (spent + entries * h.comps ≤ MAX_VALUES)
unfolding values_at
values-column k w found h two entries spent c y is =
    let t = passed (nat_le (spent + entries * h.comps) MAX_VALUES) _ _ y is in
    (values-read k w found h two entries c y t.1, leb-true (spent + entries * h.comps) MAX_VALUES t.0)
