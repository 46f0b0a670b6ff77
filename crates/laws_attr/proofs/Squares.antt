-- The values of an octahedral attribute are read as what they were made of, by any prediction that they may have.
use Rattle.std.proofs.Common.{◌≡◌, ℕ, suc, ◌-◌, ◌*◌, ◌%◌, ◌^◌, ◌<◌, ◌≤◌, Bool, true, ℤ, pos, negsuc, ◌<ℤ◌, ◌≤ℤ◌, unsigned_abs, FitsSigned, List, [], ◌∷◌, ◌++◌, length, map, Option, None, Some, is_some, Result, Ok, inl, inr, refl, sym, ◌∙◌, ap, subst, lit<, arith}
use Rattle.std.specs.Int.{w32}
use Rattle.std.specs.List.{All, list_all}
use Rattle.std.specs.Result.{result_unwrap_or}
use Rattle.std.proofs.Math.Nat.{pow-le-pow_right}
use Rattle.std.proofs.lemmas.Bool.{cases_Bool}
use Rattle.std.proofs.lemmas.Int.{ints}
use Rattle.std.proofs.lemmas.List.{length-map}
use Rattle.std.proofs.lemmas.List.Elements.{All-nil, All-cons, All-head, All-tail, All-append, All-map, All-weaker}
use Rattle.drc_base.specs.declared.kinds.Kind.{Kind}
use Rattle.drc_base.specs.declared.limits.TheConstants.{MAX_VALUES}
use Rattle.drc_bits.specs.Spells.{Spells}
use Rattle.attr_heads.specs.declared.heads.Head.{Head}
use Rattle.attr_heads.specs.Bounds.{in_bounds, bounds_under}
use Rattle.attr_heads.specs.Octahedra.{square_bounds}
use Rattle.wrapped_vectors.specs.declared.vectors.Vector.{Vector}
use Rattle.octahedron.specs.declared.points.Point.{Point}
use Rattle.octahedron.specs.Square.{centred, IsValue}
use Rattle.octahedron.specs.Corrections.{correction_of}
use Rattle.octahedron.specs.Restored.{value_before}
use Rattle.octahedron.specs.Pairs.{pairs_of, IsCoordinate, AreCoordinates, AreValues, AreCanonical}
use Rattle.octahedron.proofs.Turning.{IsValue-correction}
use Rattle.octahedron.proofs.Centring.{IsIn-centred}
use Rattle.octahedron.proofs.Listed.{length-pairs}
use Rattle.normal_prediction.specs.NormalSums.{vector_in}
use Rattle.predict.specs.Stepping.{Step, corrected_by}
use Rattle.octahedral_values.specs.Integers.{integers_of}
use Rattle.octahedral_values.specs.Steps.{difference, geometric_normal, normal_value, normals_round, flips_of, as_integers, corrected_integers}
use Rattle.octahedral_values.specs.Laws.{PredictsIn}
use Rattle.octahedral_values.proofs.Correcting.{length-flips}
use Rattle.octahedral_values.proofs.Lawful.{difference-in, normals-in, integers-restore}
use Rattle.octahedral_values.proofs.Whole.{coordinates-values, pairs-integers, length-integers}
use Rattle.corner_table.specs.Ordered.{Ordered}
use Rattle.attr_section.specs.declared.values.Values.{Values}
use Rattle.attr_section.specs.declared.square_predictions.SquarePrediction.{SquarePrediction}
use Rattle.attr_section.specs.declared.square_predictions.SquarePrediction.TheVariants as prediction
use Rattle.attr_section.specs.Positions.{Positions, PositionsRead, usable, places_on}
use Rattle.attr_section.specs.Squared.{square_facts, square_step, square_corrected_at, centre_of, greatest_coordinate}
use Rattle.attr_section.specs.WrittenSquares.{settled_square, square_flips, square_corrections, square_flipped_bytes, SquareSpelled}
use Rattle.attr_section.specs.Written.{CanAsk, ValuesPass, ValuesSpelled}
use Rattle.attr_section.proofs.Corrections.{twice_centre}
use Rattle.attr_section.proofs.SpelledSquares.{bits_within, bounded_values, flips-few, settled-needs, settled-canonical, square-put, squared-is, square-corrected_spelled, square-uncorrected_spelled, square_values_spelled, Spells-square}
use Rattle.laws_entropy.proofs.Again.{bits-again}
use Rattle.laws_attr.proofs.Parts.{symbols_read, integers_read}

-- ---- corrections are made, whatever the values

-- the correction of a value at a value
corrected_in : (c : ℤ) (p v : Point) → IsValue c p → IsValue c v → IsValue c (correction_of c p v)
corrected_in c p v ip iv =
    IsValue-correction c (centred c p) (centred c v) (IsIn-centred c p (centred c p) ip refl) (IsIn-centred c v (centred c v) iv refl)

-- a step that predicts something in front of each value, as long as there are flips enough
abbrev Predicts : Step Point (List Bool) Kind → (List Bool → List Point → Type 0) → Type 0
Predicts step Enough = (before : List Point) (flips : List Bool) (v : Point) (values : List Point) → Enough flips (v ∷ values)
    → (x : Point × List Bool) × (step before flips ≡ Ok x) × Enough x.1 values

-- the corrections of values behind those before them: one for each, in the square
record PointsMade (step : Step Point (List Bool) Kind) (c : ℤ) (before : List Point) (flips : List Bool) (values cs : List Point) : Type 0 where
  pub is : corrected_by step (correction_of c) before flips values ≡ Ok cs
  pub within : All (IsValue c) cs
  pub each : length cs ≡ length values

corrected_none : (step : Step Point (List Bool) Kind) (c : ℤ) (before : List Point) (flips : List Bool) → corrected_by step (correction_of c) before flips [] ≡ Ok []
unfolding corrected_by
corrected_none step c before flips = refl

corrected_one : (step : Step Point (List Bool) Kind) (c : ℤ) (before : List Point) (flips : List Bool) (x : Point × List Bool) (v : Point) (values cs : List Point)
    → step before flips ≡ Ok x → corrected_by step (correction_of c) (before ++ v ∷ []) x.1 values ≡ Ok cs
    → corrected_by step (correction_of c) before flips (v ∷ values) ≡ Ok (correction_of c x.0 v ∷ cs)
unfolding corrected_by
corrected_one step c before flips x v values cs told is = rw (told, is) refl

points_made : (step : Step Point (List Bool) Kind) (Enough : List Bool → List Point → Type 0) (c : ℤ) → PredictsIn c step → Predicts step Enough
    → (before : List Point) (flips : List Bool) (values : List Point) → Enough flips values → All (IsValue c) before → All (IsValue c) values
    → (cs : List Point) × PointsMade step c before flips values cs
points_made step Enough c inside predicts before flips [] enough hb hv =
    ([], record { is = corrected_none step c before flips; within = All-nil (IsValue c); each = refl })
points_made step Enough c inside predicts before flips (v ∷ values) enough hb hv =
    let (x, told, left) = predicts before flips v values enough in
    let here : IsValue c v = All-head (IsValue c) v values hv in
    let front : All (IsValue c) (before ++ v ∷ []) = All-append (IsValue c) before (v ∷ []) hb (All-cons (IsValue c) v [] here (All-nil (IsValue c))) in
    let (cs, made) = points_made step Enough c inside predicts (before ++ v ∷ []) x.1 values left front (All-tail (IsValue c) v values hv) in (
      correction_of c x.0 v ∷ cs,
      record {
        is = corrected_one step c before flips x v values cs told made.is;
        within = All-cons (IsValue c) (correction_of c x.0 v) cs (corrected_in c x.0 v (inside before flips x hb told) here) made.within;
        each = ap suc made.each;
      },
    )

-- the same in integers, two for each
record IntegersMade (step : Step Point (List Bool) Kind) (c : ℤ) (flips : List Bool) (values cs : List ℤ) : Type 0 where
  pub is : corrected_integers step c flips values ≡ Ok cs
  pub within : AreCoordinates c cs
  pub each : length cs ≡ length values

integers_made : (step : Step Point (List Bool) Kind) (Enough : List Bool → List Point → Type 0) (c : ℤ) → PredictsIn c step → Predicts step Enough
    → (flips : List Bool) (values : List ℤ) → Enough flips (pairs_of values) → length values % 2 ≡ 0 → AreValues c values
    → (cs : List ℤ) × IntegersMade step c flips values cs
unfolding corrected_integers
integers_made step Enough c inside predicts flips values enough even hv =
    let (ps, made) = points_made step Enough c inside predicts [] flips (pairs_of values) enough (All-nil (IsValue c)) hv in
    let long : length (integers_of ps) ≡ 2 * length ps = length-integers ps in (
      integers_of ps,
      record {
        is = ap as_integers made.is;
        within = coordinates-values c (integers_of ps) (omega (arith, long)) (subst (All (IsValue c)) (sym (pairs-integers ps)) made.within);
        each = omega (arith, long, made.each, length-pairs values, even);
      },
    )

-- the difference predicts without flips, and normals with one for each value
abbrev NeedsNone : List Bool → List Point → Type 0
NeedsNone flips values = Unit {0}

abbrev NeedsOneEach : List Bool → List Point → Type 0
NeedsOneEach flips values = length values ≤ length flips

difference_predicts : Predicts difference NeedsNone
difference_predicts before flips v values enough = ((value_before before, flips), refl, tt)

normals_predict : (c : ℤ) (sums : List Vector) → Predicts (geometric_normal c sums) NeedsOneEach
unfolding geometric_normal
normals_predict c sums before [] v values enough = absurd (omega (arith, enough))
normals_predict c sums before (flip ∷ flips) v values enough = ((normal_value c (vector_in sums (length before)) flip, flips), refl, omega (arith, enough))

-- whatever predicts values, it predicts in the square
step_in : (q : SquarePrediction) (w : Option Ordered) (ps : Option Positions) (c : ℤ) → pos 0 <ℤ c → PredictsIn c (square_step q w ps c)
step_in prediction.Normals (Some w) (Some ps) c some = normals-in c (normals_round w.entries (places_on ps w)) some
step_in prediction.Normals (Some w) None c some = difference-in c some
step_in prediction.Normals None ps c some = difference-in c some
step_in prediction.Difference w ps c some = difference-in c some
step_in prediction.Off w ps c some = difference-in c some

-- so the values have corrections with the flips that are written
by_difference : (c : ℤ) (flips : List Bool) (values : List ℤ) → pos 0 <ℤ c → length values % 2 ≡ 0 → AreValues c values
    → (cs : List ℤ) × IntegersMade difference c flips values cs
by_difference c flips values some even hv = integers_made difference NeedsNone c (difference-in c some) difference_predicts flips values tt even hv

square_made : (q : SquarePrediction) (w : Option Ordered) (ps : Option Positions) (c : ℤ) (values : List ℤ) → pos 0 <ℤ c → length values % 2 ≡ 0 → AreValues c values
    → (cs : List ℤ) × IntegersMade (square_step q w ps c) c (square_flips q w ps c values) values cs
square_made prediction.Normals (Some w) (Some ps) c values some even hv =
    let sums : List Vector = normals_round w.entries (places_on ps w) in
    let each = length-flips c sums (pairs_of values) in
    integers_made (geometric_normal c sums) NeedsOneEach c (normals-in c sums some) (normals_predict c sums) (flips_of c sums (pairs_of values)) values (omega (arith, each)) even hv
square_made prediction.Normals (Some w) None c values some even hv = by_difference c [] values some even hv
square_made prediction.Normals None ps c values some even hv = by_difference c [] values some even hv
square_made prediction.Difference w ps c values some even hv = by_difference c [] values some even hv
square_made prediction.Off w ps c values some even hv = by_difference c [] values some even hv

corrections_are : (q : SquarePrediction) (w : Option Ordered) (ps : Option Positions) (c : ℤ) (flips : List Bool) (values cs : List ℤ)
    → corrected_integers (square_step q w ps c) c flips values ≡ Ok cs → square_corrections q w ps c flips values ≡ cs
unfolding square_corrections
corrections_are q w ps c flips values cs is = ap (λ (r : Result (List ℤ) Kind). result_unwrap_or r []) is

-- ---- sizes

-- a square has a centre behind its corner, and its coordinates are small
centre_some : (bits : ℕ) → 2 ≤ bits → pos 0 <ℤ centre_of bits
centre_some bits some =
    let least : 2 ^ 1 ≤ 2 ^ (bits - 1) = pow-le-pow_right {n = 2} (omega arith) {i = 1} {j = bits - 1} (omega (arith, some)) in
    omega (arith, ints, least)

greatest_small : (bits : ℕ) → bits ≤ 30 → greatest_coordinate bits < 2 ^ 31
greatest_small bits few =
    let most : 2 ^ bits ≤ 2 ^ 30 = pow-le-pow_right {n = 2} (omega arith) {i = bits} {j = 30} few in
    omega (arith, most)

small_fits : (m : ℕ) (x : ℤ) → m < 2 ^ 31 → pos 0 ≤ℤ x → x ≤ℤ pos m → FitsSigned w32 x
small_fits m x small least most = search (arith, ints)

small_symbol : (m : ℕ) (x : ℤ) → m < 2 ^ 31 → pos 0 ≤ℤ x → x ≤ℤ pos m → unsigned_abs x < 2 ^ 32
small_symbol m (pos n) small least most = omega (arith, ints, small, most)
small_symbol m (negsuc n) small least most = absurd (omega (arith, ints, least))

-- a coordinate of a square of so many bits
coordinate_most : (bits : ℕ) (x : ℤ) → 2 ≤ bits → IsCoordinate (centre_of bits) x → x ≤ℤ pos (greatest_coordinate bits)
coordinate_most bits x some h = subst (λ (m : ℤ). x ≤ℤ m) (sym (twice_centre bits some)) h.1

fit_coordinates : (bits : ℕ) (values : List ℤ) → 2 ≤ bits → bits ≤ 30 → AreCoordinates (centre_of bits) values → All (FitsSigned w32) values
fit_coordinates bits values some few all =
    All-weaker (IsCoordinate (centre_of bits)) (FitsSigned w32)
    (λ x h. small_fits (greatest_coordinate bits) x (greatest_small bits few) h.0 (coordinate_most bits x some h)) values all

fit_own_symbols : (bits : ℕ) (cs : List ℤ) → 2 ≤ bits → bits ≤ 30 → AreCoordinates (centre_of bits) cs → All (λ s. s < 2 ^ 32) (map unsigned_abs cs)
fit_own_symbols bits cs some few all =
    All-map (λ (s : ℕ). s < 2 ^ 32) unsigned_abs cs
    (All-weaker (IsCoordinate (centre_of bits)) (λ x. unsigned_abs x < 2 ^ 32)
    (λ x h. small_symbol (greatest_coordinate bits) x (greatest_small bits few) h.0 (coordinate_most bits x some h)) cs all)

-- ---- values by a prediction

-- by one that corrects
square_corrected_read : (plain : Bool) (q : SquarePrediction) (w : Option Ordered) (ps : Option Positions) (bits : ℕ) (values : List ℤ) → 2 ≤ bits → bits ≤ 30
    → length values % 2 ≡ 0 → length values ≤ MAX_VALUES → AreValues (centre_of bits) values → AreCanonical (centre_of bits) values
    → ((square_facts q).takes_positions ≡ true → (is_some w ≡ true) × (is_some ps ≡ true)) → (at : ℕ)
    → Spells (square_corrected_at at q w ps (length values)) (square_flipped_bytes plain q w ps bits (square_flips q w ps (centre_of bits) values) values) values
square_corrected_read plain q w ps bits values least most even few hv canonical there at =
    let c : ℤ = centre_of bits in
    let some : pos 0 <ℤ c = centre_some bits least in
    let flips : List Bool = square_flips q w ps c values in
    let (cs, made) = square_made q w ps c values some even hv in
    let symbols : List ℕ = map unsigned_abs cs in
    let each : length symbols ≡ length values = length-map cs unsigned_abs ∙ made.each in
    square-put plain at q w ps bits values symbols flips (ap (λ (l : List ℤ). map unsigned_abs l) (sym (corrections_are q w ps c flips values cs made.is))) refl each
    (symbols_read plain 2 symbols (lit< tt) (ap (λ n. n % 2) each ∙ even) (omega (arith, each, few)) (fit_own_symbols bits cs least most made.within))
    (Spells-square bits least most) (λ takes. bits-again flips (flips-few q w ps c values few there)) there
    (squared-is q w ps bits flips cs values least made.within (integers-restore (square_step q w ps c) c flips values cs some (step_in q w ps c some) even hv canonical made.is))

-- by any
square_predicted_read : (plain : Bool) (w : Option Ordered) (ps : Option Positions) (bits : ℕ) (values : List ℤ) (asked q : SquarePrediction) → q ≡ settled_square w ps bits values asked
    → 2 ≤ bits → bits ≤ 30 → length values % 2 ≡ 0 → length values ≤ MAX_VALUES → AreValues (centre_of bits) values → SquareSpelled plain q w ps bits values
square_predicted_read plain w ps bits values asked q settled least most even few hv =
    let there : (square_facts q).takes_positions ≡ true → (is_some w ≡ true) × (is_some ps ≡ true) =
    λ takes. let needs = settled-needs w ps bits values asked q settled takes in (needs.0, needs.1) in
    elim (cases_Bool (square_facts q).corrects) [
      | inl corrects ↦ square-corrected_spelled plain q w ps bits values (λ takes. (there takes).1) corrects
          (square_corrected_read plain q w ps bits values least most even few hv (settled-canonical w ps bits values asked q settled corrects) there)
      | inr none ↦ square-uncorrected_spelled plain q w ps bits values (λ takes. (there takes).1) none
          (integers_read plain 2 values (lit< tt) even few (fit_coordinates bits values least most (coordinates-values (centre_of bits) values even hv)))
    ]

-- the values of an attribute with a square
pub square_read : (plain : Bool) (w : Option Ordered) (found : PositionsRead) (h : Head) (v : Values) (bits : ℕ) → h.octa ≡ Some bits → ValuesPass w h v → ValuesSpelled plain w found h v
square_read plain w found h v bits squared pass =
    let (asked, told, can) = subst (λ (o : Option ℕ). CanAsk w o h.comps v.predict v.values) squared pass.asked in
    let size = bits_within bits can.square in
    let even : length v.values % 2 ≡ 0 = subst (λ (n : ℕ). length v.values % n ≡ 0) can.coordinates pass.whole in
    let inside : list_all (in_bounds (square_bounds bits)) v.values ≡ true = subst (λ (o : Option ℕ). list_all (in_bounds (bounds_under h.dtype o)) v.values ≡ true) squared pass.bounded in
    square_values_spelled plain w (usable found) found h v bits asked refl squared told
    (square_predicted_read plain w (usable found) bits v.values asked (settled_square w (usable found) bits v.values asked) refl size.0 size.1 even pass.few
    (bounded_values bits v.values size.0 inside))
