-- Values of attributes that are read back from their bytes.
use Rattle.drc_base.specs.Profile.{Profile, profile, profile_numbered}
use Rattle.std.proofs.Common.{◌≡◌, ◌==◌, ℕ, suc, ◌+◌, ◌*◌, ◌^◌, ◌<◌, ◌≤◌, ◌&&◌, ◌||◌, Bool, true, false, if◌then◌else◌, ℤ, drop, is_none, List, [], ◌∷◌, ◌++◌, length, map, flat_map, nat_le, get_or, Option, None, Some, option_map, is_some, Result, Ok, Err, OnOk, refl, sym, ◌∙◌, ap, subst, append_assoc, append-nil, length-append, arith, to_z, of_z, w8}
use Rattle.std.specs.List.{All, list_all, zip}
use Rattle.std.proofs.lemmas.Bool.{cond-false, cond-true, false≢true}
use Rattle.std.proofs.lemmas.Grind.{common_steps}
use Rattle.std.proofs.lemmas.List.Elements.{All-cons, All-head, All-tail, All-weaker}
use Rattle.std.proofs.lemmas.List.{map-id}
use Rattle.drc_base.specs.declared.kinds.Kind.TheVariants as kind
use Rattle.drc_base.specs.declared.limits.TheConstants.{MAX_VALUES}
use Rattle.drc_base.specs.Steps.{◌>>=◌}
use Rattle.drc_bits.specs.Reading.{Reading, many_at}
use Rattle.drc_bits.specs.Numbers.{number_at}
use Rattle.drc_bits.specs.Spells.{Spells}
use Rattle.drc_bits.proofs.Spelled.{Spells-none, Spells-then, Spells-must, Spells-byte}
use Rattle.drc_bits.specs.Bits.{low_bytes}
use Rattle.attr_heads.specs.declared.heads.Head.{Head}
use Rattle.attr_heads.specs.declared.quants.Quant.{Quant}
use Rattle.attr_section.specs.declared.decoder_heads.DecoderHead.{DecoderHead}
use Rattle.attr_heads.specs.Bounds.{in_bounds, type_bounds, bounds_under, bounds_of}
use Rattle.attr_heads.specs.Octahedra.{are_octahedral_bits, square_bounds}
use Rattle.attr_heads.specs.declared.usages.TheConstants.{POSITION}
use Rattle.attr_section.specs.declared.values.Values.{Values}
use Rattle.attr_section.specs.Each.{each_at}
use Rattle.attr_heads.specs.HeadItems.{bare_head}
use Rattle.attr_section.specs.Heads.{bare_decoder}
use Rattle.predict.specs.declared.schemes.Prediction.{Prediction}
use Rattle.predict.specs.declared.schemes.Prediction.TheVariants as prediction
use Rattle.predict.specs.Schemes.{facts, code_of, byte_of, prediction_of, prediction_coded}
use Rattle.corner_table.specs.Ordered.{Ordered}
use Rattle.predict.proofs.Named.{by_byte, by_number}
use Rattle.attr_heads.specs.HeadItems.{quant_bits_at}
use Rattle.attr_section.specs.Positions.{PositionsRead, with_attribute, with_attributes, entries_on, usable}
use Rattle.attr_section.specs.Textured.{is_textured}
use Rattle.attr_section.specs.declared.textured.TheConstants.{TEXTURE_SINCE}
use Rattle.attr_section.specs.Values.{tested_prediction, prediction_at, predicted_at}
use Rattle.attr_section.specs.Attributes.{typed_values_at, unsquared_typed_at, plain_typed_at, values_at, attribute_at, quant_at, quant_of_at, quantised_at, squared_at, completed_at, next_completed_at, no_values, values_in, attributes_at, quants_at, decoder_values_at}
use Rattle.attr_section.specs.WrittenParts.{predicted_bytes, prediction_bytes, MayHaveFewFlags, PredictedSpelled}
use Rattle.attr_section.specs.Written.{values_bytes_under, values_bytes, settled_under, settled, found_behind, attributes_bytes, quant_bytes, end_bytes_under, end_bytes, ends_bytes, decoder_values_bytes, HasQuant, QuantFits, values_placed, HaveEntries, came_later, any_came_later, IsReadIn, ValuesSpelled, AttributesSpelled, EndSpelled}
use Rattle.attr_section.specs.WrittenTexture.{is_texture}
use Rattle.attr_section.proofs.PositionsRead.{none_more}
use Rattle.attr_section.proofs.Spelling.{Spells-map}
use Rattle.attr_section.proofs.SpelledIntegers.{Spells-low_bytes, Spells-all}

-- what holds where a call succeeds, from what does
pub on_ok : {A E P Q : Type 0} (r : Result A E) → (P → Q) → OnOk r P → OnOk r Q
on_ok (Ok x) f p = f p
on_ok (Err e) f p = p

-- the reading behind n bytes
abbrev behind : ℕ → ℕ → List ℕ → Reading
behind place n rest = record { place = place + n; rest = rest }

-- the predictions of single components came with the first profiles
known_in : (q : Prediction) (n : ℕ) → profile.number ≤ n → nat_le (facts q).since n ≡ true
known_in prediction.Off n least = grind (arith, least)
known_in prediction.Difference n least = grind (arith, least)
known_in prediction.Parallelogram n least = grind (arith, least)
known_in prediction.Multi n least = grind (arith, least)

-- the prediction of its byte
of_byte : (n : ℕ) (q : Prediction) (c after : Reading) → profile.number ≤ n → tested_prediction (profile_numbered n) c (prediction_of (byte_of q)) after ≡ Ok (q, after)
of_byte n q c after least = rw (by_byte q, known_in q n least) refl

Spells-prediction : (n : ℕ) (q : Prediction) → profile.number ≤ n → Spells (prediction_at (profile_numbered n)) (byte_of q ∷ []) q
unfolding prediction_at
Spells-prediction n q least = record {
  reads = λ place rest.
      rw ((Spells-byte (byte_of q)).reads place rest)
      (of_byte n q (record { place = place; rest = byte_of q ∷ rest }) (behind place 1 rest) least);
}

-- the values of an attribute without a square, and what stands for it at its decoder's end
pub unsquared_values : (p : Profile) (w : Option Ordered) (found : PositionsRead) (h : Head) (n : ℕ) (c : Reading) → h.octa ≡ None
    → typed_values_at p w found h n c ≡ unsquared_typed_at p w found h n c
unfolding typed_values_at
unsquared_values p w found h n c unsquared = cond-false _ _ _ (ap is_some unsquared)

unsquared_head : (h : Head) (v : Values) (c : Reading) → h.octa ≡ None → completed_at h v c ≡ quantised_at h c
unfolding completed_at
unsquared_head h v c unsquared = cond-false _ _ _ (ap is_some unsquared)

-- the square of a head before what stands at its decoder's end, where it has none
pub bare_unsquared : (h : Head) → h.octa ≡ None → (bare_head h).octa ≡ None
bare_unsquared h unsquared = ap (λ (o : Option ℕ). option_map (λ (_ : ℕ). 0) o) unsquared

-- where the last one of four tests fails
none_of : (a b c : Bool) → (a && (b && (c && false))) ≡ false
none_of false b c = refl
none_of true false c = refl
none_of true true false = refl
none_of true true true = refl

-- the byte of a prediction of single components isn't that of texture coordinates from positions
untextured : (p : Profile) (w : Option Ordered) (comps place : ℕ) (q : Prediction) (rest : List ℕ)
    → is_textured p w comps (record { place = place; rest = byte_of q ∷ rest }) ≡ false
untextured p w comps place prediction.Off rest = none_of (nat_le TEXTURE_SINCE p.number) (comps == 2) (is_some w)
untextured p w comps place prediction.Difference rest = none_of (nat_le TEXTURE_SINCE p.number) (comps == 2) (is_some w)
untextured p w comps place prediction.Parallelogram rest = none_of (nat_le TEXTURE_SINCE p.number) (comps == 2) (is_some w)
untextured p w comps place prediction.Multi rest = none_of (nat_le TEXTURE_SINCE p.number) (comps == 2) (is_some w)

-- values of a prediction, behind its byte
typed_values : (n : ℕ) (w : Option Ordered) (found : PositionsRead) (h : Head) (m : ℕ) (q : Prediction) (bytes : List ℕ) (values : List ℤ) → profile.number ≤ n → h.octa ≡ None
    → ((at : ℕ) → Spells (predicted_at at w q h.comps m) bytes values) → list_all (in_bounds (type_bounds h.dtype)) values ≡ true
    → (place : ℕ) (rest : List ℕ) → typed_values_at (profile_numbered n) w found h m (record { place = place; rest = (byte_of q ∷ bytes) ++ rest })
    ≡ Ok (record { values = values; predict = code_of q; at = place }, behind place (length (byte_of q ∷ bytes)) rest)
unfolding plain_typed_at
typed_values n w found h m q bytes values least unsquared spells typed place rest =
    let p = profile_numbered n in
    let first = (Spells-prediction n q least).reads place (bytes ++ rest) in
    let second = (spells place).reads (place + 1) rest in
    let after : place + 1 + length bytes ≡ place + length (byte_of q ∷ bytes) = omega arith in
    unsquared_values p w found h m (record { place = place; rest = (byte_of q ∷ bytes) ++ rest }) unsquared
    ∙ cond-false _ _ _ (untextured p w h.comps place q (bytes ++ rest))
    ∙ rw (first, second, typed, after) refl

-- values that are read within the limit
pub typed_spelled : (plain : Bool) (w : Option Ordered) (found : PositionsRead) (h : Head) (v : Values)
    → (MayHaveFewFlags w → (n : ℕ) (before : PositionsRead) → IsReadIn n found before (came_later h v) → (place : ℕ) (rest : List ℕ)
    → typed_values_at (profile_numbered n) w before (bare_head h) (length v.values) (record { place = place; rest = values_bytes plain w found h v ++ rest })
    ≡ Ok (record v { predict = settled w found h v; at = place }, behind place (length (values_bytes plain w found h v)) rest))
    → ValuesSpelled plain w found h v
unfolding values_at
typed_spelled plain w found h v typed = record {
  reads = λ flags n before entries spent place rest by count few.
      let within : nat_le (spent + entries * h.comps) MAX_VALUES ≡ true = rw (← count) (grind (arith, few)) in
      rw (within, ← count) (typed flags n before by place rest);
}

-- values of a prediction of single components, each in the data type
pub predicted_spelled : (plain : Bool) (w : Option Ordered) (found : PositionsRead) (h : Head) (v : Values) (q : Prediction) → h.octa ≡ None
    → settled w found h v ≡ code_of q → values_bytes plain w found h v ≡ byte_of q ∷ predicted_bytes plain w q h.comps v.values
    → PredictedSpelled plain w q h.comps v.values → list_all (in_bounds (type_bounds h.dtype)) v.values ≡ true → ValuesSpelled plain w found h v
predicted_spelled plain w found h v q unsquared code bytes spelled typed =
    typed_spelled plain w found h v
    (λ flags n before by place rest. rw (code, bytes)
    (typed_values n w before (bare_head h) (length v.values) q (predicted_bytes plain w q h.comps v.values) v.values by.least (bare_unsquared h unsquared) (spelled.again flags) typed place rest))

-- the number of a prediction has eight bits
code_fits : (q : Prediction) → to_z w8 (of_z w8 (code_of q)) ≡ code_of q
code_fits prediction.Off = refl
code_fits _ = refl

-- so it is what eight bits give
pub code_told : (q : Prediction) (code told : ℤ) → told ≡ to_z w8 (of_z w8 code) → code ≡ code_of q → told ≡ code
code_told q code told is of = is ∙ ap (λ (x : ℤ). to_z w8 (of_z w8 x)) of ∙ code_fits q ∙ sym of

-- the prediction of a number is the one that has it
pub coded_is : (q : Prediction) (code : ℤ) → code_of q ≡ code → prediction_coded code ≡ Some q
coded_is q code is = ap prediction_coded (sym is) ∙ by_number q

-- an attribute without a square, for which a prediction of single components is asked: its bytes, and the number of its prediction
pub values_are : (plain : Bool) (w : Option Ordered) (found : PositionsRead) (h : Head) (v : Values) (q : Prediction) → h.octa ≡ None → is_texture h.comps v.predict ≡ false
    → code_of q ≡ v.predict → values_bytes plain w found h v ≡ byte_of q ∷ predicted_bytes plain w q h.comps v.values
unfolding values_bytes
values_are plain w found h v q unsquared plainly is =
    ap (λ (o : Option ℕ). values_bytes_under plain w (usable found) o h.comps v) unsquared
    ∙ cond-false _ _ _ plainly
    ∙ ap (λ (p : Option Prediction). prediction_bytes plain w p h.comps v.values) (coded_is q v.predict is)

pub settled_is : (w : Option Ordered) (found : PositionsRead) (h : Head) (v : Values) → h.octa ≡ None → is_texture h.comps v.predict ≡ false → settled w found h v ≡ v.predict
unfolding settled
settled_is w found h v unsquared plainly = ap (λ (o : Option ℕ). settled_under w (usable found) o h.comps v) unsquared ∙ cond-false _ _ _ plainly

-- no list of one head or more is empty
no_head : (g : Head) (heads : List Head) → ◌≡◌ {A = List Head} [] (g ∷ heads) → ◌≡◌ {A = ℕ} 0 1
no_head g heads is = let count : ◌≡◌ {A = ℕ} 0 (suc (length heads)) = ap length is in omega (arith, count)

-- what was read of the positions with one attribute more, which stands behind those that were read
with_more : (w : Option Ordered) (found : PositionsRead) (all : List Head) (front : List Values) (g : Head) (heads : List Head) (v : Values)
    → drop (length front) all ≡ g ∷ heads
    → with_attributes w found all (front ++ v ∷ []) ≡ with_attribute (with_attributes w found all front) g v.values (entries_on w)
with_more w found [] [] g heads v next = absurd (omega (arith, no_head g heads next))
with_more w found (k ∷ all) [] g heads v next =
    none_more w (with_attribute found k v.values (entries_on w)) all
    ∙ ap (λ (l : List Head). with_attribute found (get_or l 0 g) v.values (entries_on w)) next
with_more w found [] (u ∷ front) g heads v next = absurd (omega (arith, no_head g heads next))
with_more w found (k ∷ all) (u ∷ front) g heads v next = with_more w (with_attribute found k u.values (entries_on w)) all front g heads v next

-- the heads behind one more attribute
heads_more : (all : List Head) (front : List Values) (g : Head) (heads : List Head) (v : Values) → drop (length front) all ≡ g ∷ heads → drop (length (front ++ v ∷ [])) all ≡ heads
heads_more [] [] g heads v next = absurd (omega (arith, no_head g heads next))
heads_more (k ∷ all) [] g heads v next = ap (λ (l : List Head). drop 1 l) next
heads_more [] (u ∷ front) g heads v next = absurd (omega (arith, no_head g heads next))
heads_more (k ∷ all) (u ∷ front) g heads v next = heads_more all front g heads v next

-- a head before what stands at its decoder's end is one of positions as the head itself
bare_found : (found : PositionsRead) (h : Head) (values : List ℤ) (of_corner : Option (List ℕ)) → with_attribute found (bare_head h) values of_corner ≡ with_attribute found h values of_corner
bare_found PositionsRead.NotYet h values None = refl
bare_found PositionsRead.NotYet h values (Some of_corner) = ap (λ (b : Bool). if h.usage == POSITION then (if h.comps == 3 && b then PositionsRead.Usable (record { values = values; of_corner = of_corner }) else PositionsRead.Unusable) else PositionsRead.NotYet) (bare_none h.octa)
  where
    bare_none : (o : Option ℕ) → is_none {T = ℕ} (option_map (λ (_ : ℕ). 0) o) ≡ is_none o
    bare_none None = refl
    bare_none (Some bits) = refl
bare_found PositionsRead.Unusable h values of_corner = refl
bare_found (PositionsRead.Usable ps) h values of_corner = refl

-- what is asked of the reading of several attributes is asked of the first one, and behind it of the others
read_first : (n : ℕ) (found before : PositionsRead) (first others : Bool) → IsReadIn n found before (first || others) → IsReadIn n found before first
read_first n found before false others by = record { least = by.least; since = λ is. absurd (false≢true is); same = λ is. absurd (false≢true is) }
read_first n found before true others by = by

read_others : (n : ℕ) (found before found_next before_next : PositionsRead) (first others : Bool) → (before ≡ found → before_next ≡ found_next)
    → IsReadIn n found before (first || others) → IsReadIn n found_next before_next others
read_others n found before found_next before_next first others next by = record {
  least = by.least;
  since = λ is. by.since (or_true first others is);
  same = λ is. next (by.same (or_true first others is));
}
  where
    or_true : (a b : Bool) → b ≡ true → (a || b) ≡ true
    or_true true b is = refl
    or_true false b is = is

-- the values of attributes behind others
attributes_spelled : (plain : Bool) (w : Option Ordered) (n : ℕ) (before : PositionsRead) (all : List Head) → MayHaveFewFlags w → (entries spent : ℕ) (found : PositionsRead) (front : List Values) (heads : List Head) (vs : List Values) → length vs ≡ length heads
    → drop (length front) all ≡ map bare_head heads → IsReadIn n found (with_attributes w before all front) (any_came_later heads vs)
    → AttributesSpelled plain w found heads vs → HaveEntries entries heads vs → spent + values_in front + values_in vs ≤ MAX_VALUES → (place : ℕ) (rest : List ℕ)
    → each_at (attribute_at (profile_numbered n) w before all entries spent) front (map bare_head heads) (record { place = place; rest = attributes_bytes plain w found heads vs ++ rest })
    ≡ Ok (front ++ values_placed plain w found place heads vs, behind place (length (attributes_bytes plain w found heads vs)) rest)
unfolding each_at
attributes_spelled plain w n before all flags entries spent found front [] [] same next by each counts few place rest =
    let here : place ≡ place + 0 = omega arith in
    ap (λ l. Ok (l, record { place = place; rest = rest })) (sym (append-nil front)) ∙ ap (λ n. Ok (front ++ [], record { place = n; rest = rest })) here
attributes_spelled plain w n before all flags entries spent found front [] (v ∷ vs) same next by each counts few place rest = absurd (omega (arith, same))
attributes_spelled plain w n before all flags entries spent found front (h ∷ heads) [] same next by each counts few place rest = absurd (omega (arith, same))
attributes_spelled plain w n before all flags entries spent found front (h ∷ heads) (v ∷ vs) same next by each counts few place rest =
    let p = profile_numbered n in
    let bytes = values_bytes plain w found h v in
    let placed : Values = record v { predict = settled w found h v; at = place } in
    let behind_it = found_behind w found h v in
    let count : length v.values ≡ entries * h.comps = All-head (λ (h, v). length v.values ≡ entries * h.comps) (h, v) (zip heads vs) counts in
    let total : values_in (v ∷ vs) ≡ length v.values + values_in vs = grind (arith, common_steps) in
    let more : values_in (front ++ placed ∷ []) ≡ values_in front + length v.values = values_in-more front v (settled w found h v) place in
    let others = attributes_bytes plain w behind_it heads vs in
    let first = each.0.reads flags n (with_attributes w before all front) entries (spent + values_in front) place (others ++ rest) (read_first n found _ (came_later h v) (any_came_later heads vs) by) count (omega (arith, few, total)) in
    let step : with_attributes w before all front ≡ found → with_attributes w before all (front ++ placed ∷ []) ≡ behind_it = λ is.
    with_more w before all front (bare_head h) (map bare_head heads) placed next
    ∙ bare_found (with_attributes w before all front) h v.values (entries_on w)
    ∙ ap (λ (f : PositionsRead). with_attribute f h v.values (entries_on w)) is in
    let following = attributes_spelled plain w n before all flags entries spent behind_it (front ++ placed ∷ []) heads vs (omega (arith, same))
    (heads_more all front (bare_head h) (map bare_head heads) placed next)
    (read_others n found _ behind_it _ (came_later h v) (any_came_later heads vs) step by)
    each.1 (All-tail (λ (h, v). length v.values ≡ entries * h.comps) (h, v) (zip heads vs) counts)
    (omega (arith, few, total, more)) (place + length bytes) rest in
    let after : place + length bytes + length others ≡ place + length (bytes ++ others) = omega (arith, length-append bytes others) in
    ap (λ bs. values_at p w (with_attributes w before all front) (bare_head h) entries (spent + values_in front) (record { place = place; rest = bs }) >>= λ x. each_at (attribute_at p w before all entries spent) (front ++ x.0 ∷ []) (map bare_head heads) x.1)
    (append_assoc bytes others rest)
    ∙ ap (λ r. r >>= λ x. each_at (attribute_at p w before all entries spent) (front ++ x.0 ∷ []) (map bare_head heads) x.1) first
    ∙ following
    ∙ ap (λ l. Ok (l, record { place = place + length bytes + length others; rest = rest })) (append_assoc front (placed ∷ []) (values_placed plain w behind_it (place + length bytes) heads vs))
    ∙ ap (λ n. Ok (front ++ values_placed plain w found place (h ∷ heads) (v ∷ vs), record { place = n; rest = rest })) after
  where
    values_in-more : (front : List Values) (v : Values) (code : ℤ) (place : ℕ) → values_in (front ++ record v { predict = code; at = place } ∷ []) ≡ values_in front + length v.values
    values_in-more front v code place = grind (arith, common_steps)

-- a quantisation whose numbers have 32 bits
pub Spells-quant : (comps : ℕ) (q : Quant) → length q.min ≡ comps → All (λ m. m < 2 ^ 32) q.min → q.range < 2 ^ 32 → 1 ≤ q.bits → q.bits ≤ 30
    → Spells (quant_at comps) (flat_map (low_bytes 4) q.min ++ (low_bytes 4 q.range ++ q.bits ∷ [])) q
unfolding quant_at
Spells-quant comps q count fit range_fits some few =
    let bits : (nat_le 1 q.bits && nat_le q.bits 30) ≡ true = grind (arith, some, few) in
    Spells-then (many_at (number_at 4) comps) (λ m c. number_at 4 c >>= λ r. quant_bits_at r.1 >>= λ b. Ok (record { bits = b.0; range = r.0; min = m }, b.1))
    (flat_map (low_bytes 4) q.min) (low_bytes 4 q.range ++ q.bits ∷ []) q.min q
    (subst (λ n. Spells (many_at (number_at 4) n) (flat_map (low_bytes 4) q.min) q.min) count
    (subst (λ l. Spells (many_at (number_at 4) (length q.min)) (flat_map (low_bytes 4) q.min) l) (map-id q.min)
    (Spells-all (number_at 4) (low_bytes 4) (λ x. x) q.min
    (All-weaker (λ m. m < 2 ^ 32) (λ m. Spells (number_at 4) (low_bytes 4 m) m) (λ m fits. Spells-low_bytes 4 m (omega (arith, fits))) q.min fit))))
    (Spells-then (number_at 4) (λ r c. quant_bits_at c >>= λ b. Ok (record { bits = b.0; range = r; min = q.min }, b.1))
    (low_bytes 4 q.range) (q.bits ∷ []) q.range q (Spells-low_bytes 4 q.range (omega (arith, range_fits)))
    (Spells-map (λ b. record { bits = b; range = q.range; min = q.min }) quant_bits_at (q.bits ∷ []) q.bits
    (Spells-must kind.QuantBits (λ b. nat_le 1 b && nat_le b 30) (number_at 1) (q.bits ∷ []) q.bits bits (Spells-byte q.bits))))

quant_spelled : (h : Head) (o : Option Quant) → HasQuant h o → QuantFits o → Spells (quant_of_at (bare_head h)) (quant_bytes o) o
unfolding quant_of_at
quant_spelled h None has fit = record {
  reads = λ place rest.
      let here : place ≡ place + 0 = omega arith in
      rw has (ap (λ n. Ok (None, record { place = n; rest = rest })) here);
}
quant_spelled h (Some q) has fit = record {
  reads = λ place rest.
      rw has.0 ((Spells-map (λ q. Some q) (quant_at h.comps) (quant_bytes (Some q)) q (Spells-quant h.comps q has.1 fit.0 fit.1 has.2 has.3)).reads place rest);
}

-- a head gets its quantisation back
pub quantised_spelled : (h : Head) → h.octa ≡ None → HasQuant h h.quant → QuantFits h.quant → Spells (quantised_at (bare_head h)) (quant_bytes h.quant) h
unfolding quantised_at
quantised_spelled h unsquared has fit =
    subst (λ (o : Option ℕ). Spells (quantised_at (bare_head h)) (quant_bytes h.quant) (record h { octa = o })) (bare_unsquared h unsquared ∙ sym unsquared)
    (Spells-map (λ o. record (bare_head h) { quant = o }) (quant_of_at (bare_head h)) (quant_bytes h.quant) h.quant (quant_spelled h h.quant has fit))

-- and what stands for it is read, whatever its values are
pub unsquared_end : (h : Head) → h.octa ≡ None → HasQuant h h.quant → QuantFits h.quant → EndSpelled h
unsquared_end h unsquared has fit = record {
  beside = λ v bounded.
      let bytes : quant_bytes h.quant ≡ end_bytes h = ap (end_bytes_under h.quant) (sym unsquared) in
      subst (λ (bs : List ℕ). Spells (completed_at (bare_head h) v) bs h) bytes
      (record { reads = λ place rest. unsquared_head (bare_head h) v _ (bare_unsquared h unsquared) ∙ (quantised_spelled h unsquared has fit).reads place rest });
}

-- the bits of a square are read beside values that lie in it
pub squared_end : (h : Head) (bits : ℕ) → h.octa ≡ Some bits → h.quant ≡ None → are_octahedral_bits bits ≡ true → EndSpelled h
unfolding completed_at squared_at
squared_end h bits squared none passes = record {
  beside = λ v bounded.
      let bytes : bits ∷ [] ≡ end_bytes h = ap (end_bytes_under h.quant) (sym squared) in
      let square : (bare_head h).octa ≡ Some 0 = ap (λ (o : Option ℕ). option_map (λ (_ : ℕ). 0) o) squared in
      let is : is_some (bare_head h).octa ≡ true = ap is_some square in
      let within : list_all (in_bounds (square_bounds bits)) v.values ≡ true = ap (λ (o : Option ℕ). list_all (in_bounds (bounds_under h.dtype o)) v.values) (sym squared) ∙ bounded in
      let back : ◌≡◌ {A = Head} (record h { quant = None; octa = Some bits }) h = ap (λ (q : Option Quant). record h { quant = q; octa = Some bits }) (sym none) ∙ ap (λ (o : Option ℕ). record h { octa = o }) (sym squared) in
      let read = Spells-must kind.QuantBits are_octahedral_bits (number_at 1) (bits ∷ []) bits passes (Spells-byte bits) in
      subst (λ (bs : List ℕ). Spells (completed_at (bare_head h) v) bs h) bytes
      (record { reads = λ place rest. cond-true _ _ _ is ∙ rw (read.reads place rest, within) (ap (λ (g : Head). Ok (g, record { place = place + 1; rest = rest })) back) });
}

-- values that were written lie where those that they were written of lie
placed_bounded : (plain : Bool) (w : Option Ordered) (found : PositionsRead) (place : ℕ) (heads : List Head) (vs : List Values) → length vs ≡ length heads
    → All (λ (h, v). list_all (in_bounds (bounds_of h)) v.values ≡ true) (zip heads vs)
    → All (λ (h, v). list_all (in_bounds (bounds_of h)) v.values ≡ true) (zip heads (values_placed plain w found place heads vs))
placed_bounded plain w found place [] [] same each = each
placed_bounded plain w found place [] (v ∷ vs) same each = absurd (omega (arith, same))
placed_bounded plain w found place (h ∷ heads) [] same each = absurd (omega (arith, same))
placed_bounded plain w found place (h ∷ heads) (v ∷ vs) same each =
    All-cons (λ (h, v). list_all (in_bounds (bounds_of h)) v.values ≡ true) (h, record v { predict = settled w found h v; at = place }) (zip heads (values_placed plain w (found_behind w found h v) (place + length (values_bytes plain w found h v)) heads vs))
    (All-head (λ (h, v). list_all (in_bounds (bounds_of h)) v.values ≡ true) (h, v) (zip heads vs) each)
    (placed_bounded plain w (found_behind w found h v) (place + length (values_bytes plain w found h v)) heads vs (omega (arith, same))
    (All-tail (λ (h, v). list_all (in_bounds (bounds_of h)) v.values ≡ true) (h, v) (zip heads vs) each))

placed_length : (plain : Bool) (w : Option Ordered) (found : PositionsRead) (place : ℕ) (heads : List Head) (vs : List Values) → length vs ≡ length heads
    → length (values_placed plain w found place heads vs) ≡ length heads
placed_length plain w found place [] [] same = refl
placed_length plain w found place [] (v ∷ vs) same = absurd (omega (arith, same))
placed_length plain w found place (h ∷ heads) [] same = absurd (omega (arith, same))
placed_length plain w found place (h ∷ heads) (v ∷ vs) same =
    ap (λ (n : ℕ). suc n) (placed_length plain w (found_behind w found h v) (place + length (values_bytes plain w found h v)) heads vs (omega (arith, same)))

-- what stands at the end for heads behind others, beside their values, which stand behind as many others
ends_spelled : (done values : List Values) (front heads : List Head) → length done ≡ length front → length values ≡ length heads
    → All EndSpelled heads → All (λ (h, v). list_all (in_bounds (bounds_of h)) v.values ≡ true) (zip heads values)
    → Spells (each_at (next_completed_at (done ++ values)) front (map bare_head heads)) (ends_bytes heads) (front ++ heads)
unfolding each_at
ends_spelled done values front [] long same each bounded = subst (λ l. Spells (λ c. Ok (front, c)) [] l) (sym (append-nil front)) (Spells-none front)
ends_spelled done [] front (h ∷ heads) long same each bounded = absurd (omega (arith, same))
ends_spelled done (v ∷ values) front (h ∷ heads) long same each bounded =
    let here : get_or (done ++ (v ∷ values)) (length front) no_values ≡ v = ap (λ (n : ℕ). get_or (done ++ (v ∷ values)) n no_values) (sym long) ∙ get_or_behind done (v ∷ values) in
    Spells-then (next_completed_at (done ++ (v ∷ values)) front (bare_head h)) (λ x c. each_at (next_completed_at (done ++ (v ∷ values))) (front ++ x ∷ []) (map bare_head heads) c)
    (end_bytes h) (ends_bytes heads) h (front ++ (h ∷ heads))
    (subst (λ (x : Values). Spells (completed_at (bare_head h) x) (end_bytes h) h) (sym here)
    ((All-head EndSpelled h heads each).beside v (All-head (λ (h, v). list_all (in_bounds (bounds_of h)) v.values ≡ true) (h, v) (zip heads values) bounded)))
    (subst (λ l. Spells (each_at (next_completed_at (done ++ (v ∷ values))) (front ++ h ∷ []) (map bare_head heads)) (ends_bytes heads) l)
    (append_assoc front (h ∷ []) heads)
    (subst (λ vs. Spells (each_at (next_completed_at vs) (front ++ h ∷ []) (map bare_head heads)) (ends_bytes heads) ((front ++ h ∷ []) ++ heads))
    (append_assoc done (v ∷ []) values)
    (ends_spelled (done ++ v ∷ []) values (front ++ h ∷ []) heads (omega (arith, long, length-append done (v ∷ []), length-append front (h ∷ []))) (omega (arith, same))
    (All-tail EndSpelled h heads each) (All-tail (λ (h, v). list_all (in_bounds (bounds_of h)) v.values ≡ true) (h, v) (zip heads values) bounded))))
  where
    get_or_behind : (done values : List Values) → get_or (done ++ values) (length done) no_values ≡ get_or values 0 no_values
    get_or_behind [] values = refl
    get_or_behind (d ∷ done) values = get_or_behind done values

-- a decoder's values, and what stands at its end
pub decoder_spelled : (plain : Bool) (w : Option Ordered) (n : ℕ) (found before : PositionsRead) → MayHaveFewFlags w → (entries spent : ℕ) (d : DecoderHead) (vs : List Values)
    → length vs ≡ length d.heads → All (λ (h, v). list_all (in_bounds (bounds_of h)) v.values ≡ true) (zip d.heads vs)
    → AttributesSpelled plain w found d.heads vs → All EndSpelled d.heads → IsReadIn n found before (any_came_later d.heads vs)
    → HaveEntries entries d.heads vs → spent + values_in vs ≤ MAX_VALUES → (place : ℕ) (rest : List ℕ)
    → decoder_values_at (profile_numbered n) w before (bare_decoder d) entries spent (record { place = place; rest = decoder_values_bytes plain w found d.heads vs ++ rest })
    ≡ Ok ((values_placed plain w found place d.heads vs, d), record { place = place + length (decoder_values_bytes plain w found d.heads vs); rest = rest })
unfolding decoder_values_at decoder_values_bytes attributes_at quants_at
decoder_spelled plain w n found before flags entries spent d vs same bounded each ends by counts few place rest =
    let values = attributes_bytes plain w found d.heads vs in
    let placed = values_placed plain w found place d.heads vs in
    let first = attributes_spelled plain w n before (bare_decoder d).heads flags entries spent found [] d.heads vs same refl
    (subst (λ (b : PositionsRead). IsReadIn n found b (any_came_later d.heads vs)) (sym (none_more w before (bare_decoder d).heads)) by) each counts (omega (arith, few)) place (ends_bytes d.heads ++ rest) in
    let second = (ends_spelled [] placed [] d.heads refl (placed_length plain w found place d.heads vs same) ends (placed_bounded plain w found place d.heads vs same bounded)).reads (place + length values) rest in
    let after : place + length values + length (ends_bytes d.heads) ≡ place + length (values ++ ends_bytes d.heads) = omega (arith, length-append values (ends_bytes d.heads)) in
    ap (λ bs. decoder_values_at (profile_numbered n) w before (bare_decoder d) entries spent (record { place = place; rest = bs })) (append_assoc values (ends_bytes d.heads) rest)
    ∙ rw (first, second, after) refl
