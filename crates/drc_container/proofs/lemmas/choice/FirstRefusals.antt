-- Which fault a geometry is refused with, and what holds where there is none.
use Rattle.std.proofs.Common.{◌≡◌, ◌-◌, ◌^◌, ◌<◌, ◌≤◌, true, false, Bool, leb, ltb, ◌&&◌, List, [], ◌∷◌, length, Option, None, Some, Ok, Err, refl, sym, ◌∙◌, ap, subst, get_or, arith}
use Rattle.std.specs.Prelude.{pos, ◌-ℤ◌, ◌||◌, not, position, is_none, int_le, int_lt, if◌then◌else◌}
use Rattle.std.specs.List.{All, zip}
use Rattle.std.proofs.lemmas.Int.{ints}
use Rattle.std.proofs.lemmas.Bool.{le-leb, ltb-true, and_parts, not-false}
use Rattle.std.proofs.lemmas.List.Elements.{All-from_get_or}
use Rattle.drc_base.specs.declared.faults.Fault.{Fault}
use Rattle.drc_base.specs.declared.faults.Refusal.{Refusal}
use Rattle.drc_base.specs.declared.faults.Refusal.TheVariants as refusal
use Rattle.drc_base.specs.declared.kinds.Kind.TheVariants.{Choice as ChoiceKind, Empty, ValueLimit, Range}
use Rattle.drc_base.specs.declared.limits.TheConstants.{MAX_VALUES}
use Rattle.drc_base.specs.Refusals.{Refuses}
use Rattle.attr_heads.specs.declared.heads.Head.{Head}
use Rattle.mesh_model.specs.declared.geometries.Geometry.{Geometry}
use Rattle.mesh_model.specs.Parts.{ArePoints}
use Rattle.mesh_model.specs.Renumbering.{plain}
use Rattle.mesh_model.specs.SameLaws.{count_of}
use Rattle.attr_heads.specs.FirstFault.{unless, first_fault, value_unless}
use Rattle.mesh_model.specs.Contents.{is_mesh, heads_in, points_in, faces_in}
use Rattle.attr_heads.proofs.FirstFaults.{unless-none, unless-true, at_place-none, first_fault-none}
use Rattle.mesh_model.proofs.Places.{position-none_back}
use Rattle.predict.specs.Wrap.{Range as WrapRange, CanWrap}
use Rattle.predict.specs.Schemes.{facts}
use Rattle.attr_section.specs.declared.values.Values.{Values}
use Rattle.attr_section.specs.Values.{can_wrap}
use Rattle.attr_section.specs.Attributes.{values_in}
use Rattle.attr_section.specs.WrittenParts.{range_of}
use Rattle.drc_container.specs.declared.choice.methods.Method.{Method}
use Rattle.drc_container.specs.declared.choice.methods.Method.TheVariants as method
use Rattle.drc_container.specs.declared.choice.predicts.Predict.{Predict}
use Rattle.drc_container.specs.declared.choice.choices.Choice.{Choice}
use Rattle.drc_container.specs.choice.Predicts.{plain_of}
use Rattle.drc_container.specs.choice.Choice.{method_of, is_sequential, predict_chosen}
use Rattle.drc_container.specs.choice.CanCode.{wraps, CanCode}
use Rattle.drc_container.specs.choice.Refused.{chooses_surface, choice_fault, empty_fault, position_fault, early_fault, surface_fault, limit_fault, range_fault, refused}
use Rattle.drc_container.specs.writing.Written.{values_of, stream_bytes}
use Rattle.drc_container.specs.writing.Chosen.{values_chosen}
use Rattle.drc_container.specs.writing.Encoded.{encoding_due, CanCodeInOrder}
use Rattle.drc_container.proofs.lemmas.writing.Codable.{columns-total}

-- the first of a fault and others
first_fault-some : (t : Option Fault) (f : Fault) (ts : List (Option Fault)) → t ≡ Some f → first_fault (t ∷ ts) ≡ Some f
first_fault-some t f ts is = ap (λ x. first_fault (x ∷ ts)) is

first_fault-one : (t : Option Fault) → first_fault (t ∷ []) ≡ t
first_fault-one None = refl
first_fault-one (Some f) = refl

-- an early fault is the first
pub refused-early : (g : Geometry) (choice : Choice) (f : Fault) → early_fault g choice ≡ Some f → refused g choice ≡ Some f
unfolding refused
refused-early g choice f is = first_fault-some (early_fault g choice) f _ is

-- a geometry has no more values than may be coded
values-few : (g : Geometry) (predict : Predict) → ArePoints (heads_in g) (points_in g) → values_in (values_of g predict) ≤ MAX_VALUES
values-few g predict are =
    subst (λ k. k ≤ MAX_VALUES) (sym (columns-total predict (heads_in g) (points_in g) are.rows_fit)) are.few_values

limit-none : (g : Geometry) (predict : Predict) → ArePoints (heads_in g) (points_in g) → limit_fault (values_of g predict) ≡ None
limit-none g predict are =
    let n = values_in (values_of g predict) in
    unless-true (leb n MAX_VALUES) ValueLimit n (le-leb n MAX_VALUES (values-few g predict are))

-- the sequential method codes the values of the points, and takes every surface
values-in_order : (g : Geometry) (choice : Choice) → is_sequential (method_of g choice) ≡ true → values_chosen g choice ≡ values_of g (predict_chosen g choice)
unfolding values_chosen
values-in_order g choice on = rw on refl

surface-none : (g : Geometry) (choice : Choice) → is_sequential (method_of g choice) ≡ true → surface_fault g choice ≡ None
unfolding surface_fault
surface-none g choice on = rw on refl

-- where there is no early fault, the values alone can be refused by the sequential method
pub refused-later : (g : Geometry) (choice : Choice) → ArePoints (heads_in g) (points_in g) → early_fault g choice ≡ None
    → is_sequential (method_of g choice) ≡ true → refused g choice ≡ range_fault (heads_in g) (values_of g (predict_chosen g choice))
unfolding refused
refused-later g choice are none on =
    let hs = heads_in g in
    let p = predict_chosen g choice in
    let vs = values_of g p in
    ap (λ x. first_fault (x ∷ surface_fault g choice ∷ limit_fault (values_chosen g choice) ∷ range_fault hs (values_chosen g choice) ∷ [])) none
    ∙ ap (λ x. first_fault (x ∷ limit_fault (values_chosen g choice) ∷ range_fault hs (values_chosen g choice) ∷ [])) (surface-none g choice on)
    ∙ ap (λ values. first_fault (limit_fault values ∷ range_fault hs values ∷ [])) (values-in_order g choice on)
    ∙ ap (λ x. first_fault (x ∷ range_fault hs vs ∷ [])) (limit-none g p are)
    ∙ first_fault-one (range_fault hs vs)

-- a refusal doesn't depend on the value that isn't given
pub refuses-alike : {A B : Type 0} (r : Option Fault) (a : A) (b : B) (e : Refusal) → Refuses (value_unless r a) e → Refuses (value_unless r b) e
refuses-alike r a b refusal.Memory refuses = tt
refuses-alike None a b (refusal.Fault f) refuses = cc
refuses-alike (Some g) a b (refusal.Fault f) refuses = cc

-- a value is given where there is no fault
pub value-given : {A : Type 0} (r : Option Fault) (a x : A) → value_unless r a ≡ Ok x → r ≡ None
value-given None a x is = refl
value-given (Some f) a x is = cc

sequential-is : (m : Method) → is_sequential m ≡ true → m ≡ method.Seq
sequential-is method.Seq is = refl
sequential-is method.Eb is = cc
sequential-is method.Valence is = cc

-- the tests of an encoding
pub record EarlyPasses (g : Geometry) (choice : Choice) : Type 0 where
  pub mesh : (is_mesh g || is_sequential (method_of g choice)) ≡ true
  pub some : 0 < (if is_sequential (method_of g choice) then length (points_in g) else length (faces_in g))
  pub no_surface : not (chooses_surface choice.predict && is_sequential (method_of g choice)) ≡ true

pub early_passes : (g : Geometry) (choice : Choice) → early_fault g choice ≡ None → EarlyPasses g choice
unfolding early_fault
early_passes g choice e =
    let s = is_sequential (method_of g choice) in
    let a = first_fault-none (choice_fault g choice) (empty_fault g choice ∷ position_fault g choice ∷ []) e in
    let b = first_fault-none (empty_fault g choice) (position_fault g choice ∷ []) a.1 in
    let t0 = unless (is_mesh g || s) ChoiceKind 0 in
    let t1 = unless (is_none choice.index || (is_mesh g && s)) ChoiceKind 1 in
    let t2 = unless (not (chooses_surface choice.predict && s)) ChoiceKind 2 in
    let t3 = unless (is_none choice.walk || not s) ChoiceKind 3 in
    let c0 = first_fault-none t0 (t1 ∷ t2 ∷ t3 ∷ []) a.0 in
    let c1 = first_fault-none t1 (t2 ∷ t3 ∷ []) c0.1 in
    let c2 = first_fault-none t2 (t3 ∷ []) c1.1 in
    let counted = if s then length (points_in g) else length (faces_in g) in
    record {
      mesh = unless-none (is_mesh g || s) ChoiceKind 0 c0.0;
      some = ltb-true 0 counted (unless-none (ltb 0 counted) Empty 0 b.0);
      no_surface = unless-none (not (chooses_surface choice.predict && s)) ChoiceKind 2 c2.0;
    }

-- a geometry without an early fault that isn't encoded by Edgebreaker is encoded by the sequential method: a cloud
pub cloud-sequential : (g : Geometry) (choice : Choice) → early_fault g choice ≡ None → is_mesh g ≡ false → is_sequential (method_of g choice) ≡ true
cloud-sequential g choice early cloud = ap (λ b. b || is_sequential (method_of g choice)) (sym cloud) ∙ (early_passes g choice early).mesh

-- what is due of a geometry that is encoded by the sequential method
pub due-in_order : (g : Geometry) (choice : Choice) → is_sequential (method_of g choice) ≡ true
    → encoding_due g choice ≡ value_unless (refused g choice) (stream_bytes g choice, plain (count_of g))
due-in_order g choice on = rw on refl

-- where no prediction is chosen that needs a surface, the prediction of a sequential stream needs none
chosen-alone : (g : Geometry) (choice : Choice) → method_of g choice ≡ method.Seq → chooses_surface choice.predict ≡ false
    → (facts (plain_of (predict_chosen g choice))).needs_surface ≡ false
chosen-alone g choice sequential none = go choice.predict refl none
  where
    go : (p : Option Predict) → choice.predict ≡ p → chooses_surface p ≡ false → (facts (plain_of (predict_chosen g choice))).needs_surface ≡ false
    go None is none = rw (is, sequential) refl
    go (Some p) is none = rw is none

can_wraps : (r : WrapRange) → can_wrap r ≡ true → CanWrap r
can_wraps r is =
    let p = and_parts (int_le r.low r.high) (int_lt (r.high -ℤ r.low) (pos (2 ^ 31 - 1))) is in
    record { ordered = grind (arith, ints, p.0); narrow = grind (arith, ints, p.1) }

-- values without a fault of range lie near enough, where they wrap
pub near-enough : (heads : List Head) (values : List Values) → range_fault heads values ≡ None → All (λ (h, v). wraps h v ≡ true → CanWrap (range_of v.values)) (zip heads values)
near-enough heads values e =
    let test : Head × Values → Bool = λ (h, v). wraps h v && not (can_wrap (range_of v.values)) in
    let h : Head = record { usage = 0; dtype = 0; comps = 0; normalized = 0; id = 0; quant = None; octa = None } in
    let d : Head × Values = (h, record { values = []; predict = pos 0; at = 0 }) in
    All-from_get_or (λ (x, v). wraps x v ≡ true → CanWrap (range_of v.values)) (zip heads values) d (λ i below on.
    let x = get_or (zip heads values) i d in
    can_wraps (range_of x.1.values) (wide-not (wraps x.0 x.1) (can_wrap (range_of x.1.values)) on (position-none_back test (zip heads values) (at_place-none Range (position test (zip heads values)) e) i d below)))
  where
    wide-not : (a b : Bool) → a ≡ true → (a && not b) ≡ false → b ≡ true
    wide-not true b on none = not-false b none
    wide-not false b on none = cc

-- values of which no fault is found can be coded
pub values-coded : (heads : List Head) (values : List Values) → values_in values ≤ MAX_VALUES → range_fault heads values ≡ None → CanCode heads values
values-coded heads values few none = record { few = few; near = near-enough heads values none }

-- a geometry that isn't refused can be coded
pub can-code : (g : Geometry) (choice : Choice) → ArePoints (heads_in g) (points_in g) → early_fault g choice ≡ None → is_sequential (method_of g choice) ≡ true
    → range_fault (heads_in g) (values_of g (predict_chosen g choice)) ≡ None → CanCodeInOrder g choice
can-code g choice are early on none =
    let p = early_passes g choice early in
    let sequential = sequential-is (method_of g choice) on in
    record {
      sequential = sequential;
      some = subst (λ b. 0 < (if b then length (points_in g) else length (faces_in g))) on p.some;
      alone = chosen-alone g choice sequential (neither (chooses_surface choice.predict) (is_sequential (method_of g choice)) p.no_surface on);
      values = values-coded (heads_in g) (values_of g (predict_chosen g choice)) (values-few g (predict_chosen g choice) are) none;
    }
  where
    neither : (a b : Bool) → not (a && b) ≡ true → b ≡ true → a ≡ false
    neither true true kept is = cc
    neither true false kept is = cc
    neither false b kept is = refl

-- values with a fault of range are refused
pub later-refuses : (g : Geometry) (choice : Choice) (heads : List Head) (values : List Values) (f : Fault) → ArePoints (heads_in g) (points_in g) → early_fault g choice ≡ None
    → is_sequential (method_of g choice) ≡ true → heads ≡ heads_in g → values ≡ values_of g (predict_chosen g choice) → range_fault heads values ≡ Some f
    → value_unless (refused g choice) (values_of g (predict_chosen g choice)) ≡ Err f
later-refuses g choice heads values f are early on is_heads is_values fault =
    let own : List Values = values_of g (predict_chosen g choice) in
    let same : range_fault (heads_in g) own ≡ Some f =
    sym (ap (λ (hs : List Head). range_fault hs own) is_heads) ∙ sym (ap (range_fault heads) is_values) ∙ fault in
    ap (λ r. value_unless r own) (refused-later g choice are early on ∙ same)

none-there : (g : Geometry) (choice : Choice) (heads : List Head) (values : List Values) → heads ≡ heads_in g → values ≡ values_of g (predict_chosen g choice)
    → range_fault heads values ≡ None → range_fault (heads_in g) (values_of g (predict_chosen g choice)) ≡ None
none-there g choice heads values is_heads is_values none =
    sym (ap (λ (hs : List Head). range_fault hs (values_of g (predict_chosen g choice))) is_heads) ∙ sym (ap (range_fault heads) is_values) ∙ none

-- other values are given
pub later-gives : (g : Geometry) (choice : Choice) (heads : List Head) (values : List Values) → ArePoints (heads_in g) (points_in g) → early_fault g choice ≡ None
    → is_sequential (method_of g choice) ≡ true → heads ≡ heads_in g → values ≡ values_of g (predict_chosen g choice) → range_fault heads values ≡ None
    → value_unless (refused g choice) (values_of g (predict_chosen g choice)) ≡ Ok values
later-gives g choice heads values are early on is_heads is_values none =
    let own : List Values = values_of g (predict_chosen g choice) in
    ap (λ r. value_unless r own) (refused-later g choice are early on ∙ none-there g choice heads values is_heads is_values none)
    ∙ ap Ok (sym is_values)

-- and their geometry can be coded
pub later-can : (g : Geometry) (choice : Choice) (heads : List Head) (values : List Values) → ArePoints (heads_in g) (points_in g) → early_fault g choice ≡ None
    → is_sequential (method_of g choice) ≡ true → heads ≡ heads_in g → values ≡ values_of g (predict_chosen g choice) → range_fault heads values ≡ None → CanCodeInOrder g choice
later-can g choice heads values are early on is_heads is_values none = can-code g choice are early on (none-there g choice heads values is_heads is_values none)
