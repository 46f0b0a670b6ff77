-- Values that are read back from their corrections and flags, by any prediction.
use Rattle.std.proofs.Common.{◌≡◌, ℕ, ◌+◌, Bool, true, false, ℤ, List, [], ◌∷◌, ◌++◌, length, Option, None, Some, Ok, inl, inr, refl, ap, ◌∙◌}
use Rattle.std.proofs.lemmas.Bool.{cases_Bool}
use Rattle.drc_base.specs.Steps.{◌>>=◌}
use Rattle.drc_bits.specs.Reading.{Reading}
use Rattle.drc_bits.specs.Spells.{Spells}
use Rattle.drc_bits.proofs.Spelled.{Spells-then, Spells-byte}
use Rattle.predict.specs.declared.schemes.Prediction.{Prediction}
use Rattle.predict.specs.declared.transforms.Transform.TheVariants as transform
use Rattle.predict.specs.Schemes.{facts}
use Rattle.predict.specs.Transforms.{transform_byte}
use Rattle.predict.specs.Wrap.{Range}
use Rattle.predict.specs.Restored.{corrections}
use Rattle.corner_table.specs.Ordered.{Ordered}
use Rattle.predict.specs.Surfaces.{surface_or, lacks_surface, CanStand}
use Rattle.predict.specs.Foretold.{foretold, restored_with}
use Rattle.attr_section.specs.Values.{integers_at, transform_at, behind_at, restored_at, corrected_at, predicted_at}
use Rattle.attr_section.specs.WrittenParts.{integers_bytes, range_of, behind_bytes, flagged_bytes, corrected_bytes, predicted_bytes}
use Rattle.attr_section.proofs.SpelledIntegers.{Spells-corrections}

-- what stands behind the corrections, and the values that are restored by it
Spells-restored : (at : ℕ) (w : Ordered) (q : Prediction) (comps : ℕ) (lists : List (List Bool)) (r : Range) (cs values : List ℤ)
    → restored_with transform.Wrap q w comps lists r cs ≡ Ok values → Spells (behind_at (facts q).behind w) (behind_bytes (facts q).behind lists r) (lists, r)
    → Spells (λ c. behind_at (facts q).behind w c >>= λ b. restored_at at (restored_with transform.Wrap q w comps b.0.0 b.0.1 cs) b.1) (behind_bytes (facts q).behind lists r) values
Spells-restored at w q comps lists r cs values back behind = record {
  reads = λ place rest.
      let after : Reading = record { place = place + length (behind_bytes (facts q).behind lists r); rest = rest } in
      ap (λ y. y >>= λ b. restored_at at (restored_with transform.Wrap q w comps b.0.0 b.0.1 cs) b.1) (behind.reads place rest)
      ∙ ap (λ y. restored_at at y after) back;
}

-- the byte of a transform
pub Spells-transform : Spells transform_at (transform_byte transform.Wrap ∷ []) transform.Wrap
unfolding transform_at
Spells-transform = record { reads = λ place rest. rw ((Spells-byte 1).reads place rest) refl }

-- values that are restored from corrections and flags
pub Spells-flagged : (plain : Bool) (at : ℕ) (w : Ordered) (q : Prediction) (comps : ℕ) (lists : List (List Bool)) (values : List ℤ)
    → Spells (integers_at comps (length (corrections (foretold q w comps lists) (range_of values) values))) (integers_bytes plain comps (corrections (foretold q w comps lists) (range_of values) values)) (corrections (foretold q w comps lists) (range_of values) values)
    → Spells (behind_at (facts q).behind w) (behind_bytes (facts q).behind lists (range_of values)) (lists, range_of values)
    → restored_with transform.Wrap q w comps lists (range_of values) (corrections (foretold q w comps lists) (range_of values) values) ≡ Ok values
    → Spells (corrected_at at w q comps (length values)) (flagged_bytes plain w q comps lists values) values
unfolding corrected_at flagged_bytes
Spells-flagged plain at w q comps lists values integers behind back =
    let r = range_of values in
    let f : List ℤ → ℤ = foretold q w comps lists in
    let cs = corrections f r values in
    Spells-then transform_at (λ t c. integers_at comps (length values) c >>= λ x. behind_at (facts q).behind w x.1 >>= λ b. restored_at at (restored_with t q w comps b.0.0 b.0.1 x.0) b.1)
    (transform_byte transform.Wrap ∷ []) (integers_bytes plain comps cs ++ behind_bytes (facts q).behind lists r) transform.Wrap values
    Spells-transform
    (Spells-then (integers_at comps (length values)) (λ x c. behind_at (facts q).behind w c >>= λ b. restored_at at (restored_with transform.Wrap q w comps b.0.0 b.0.1 x) b.1)
    (integers_bytes plain comps cs) (behind_bytes (facts q).behind lists r) cs values
    (Spells-corrections plain comps f values integers)
    (Spells-restored at w q comps lists r cs values back behind))

-- a prediction that can stand has the surface that it needs
pub stands_there : (q : Prediction) (w : Option Ordered) (comps n : ℕ) → CanStand q w comps n → lacks_surface q w ≡ false
stands_there q None comps n can = elim (cases_Bool (facts q).needs_surface) [
  | inl needs ↦ absurd (can.stand needs)
  | inr none ↦ none
]
stands_there q (Some w) comps n can = refl

-- values of a prediction that corrects, and of one that doesn't
pub Spells-corrected : (plain : Bool) (at : ℕ) (w : Option Ordered) (q : Prediction) (comps : ℕ) (values : List ℤ)
    → (facts q).corrects ≡ true → lacks_surface q w ≡ false
    → Spells (corrected_at at (surface_or w) q comps (length values)) (corrected_bytes plain (surface_or w) q comps values) values
    → Spells (predicted_at at w q comps (length values)) (predicted_bytes plain w q comps values) values
unfolding predicted_at predicted_bytes
Spells-corrected plain at w q comps values corrects there spells = record { reads = λ place rest. rw (corrects, there) (spells.reads place rest) }

pub Spells-uncorrected : (plain : Bool) (at : ℕ) (w : Option Ordered) (q : Prediction) (comps : ℕ) (values : List ℤ)
    → (facts q).corrects ≡ false → Spells (integers_at comps (length values)) (integers_bytes plain comps values) values
    → Spells (predicted_at at w q comps (length values)) (predicted_bytes plain w q comps values) values
unfolding predicted_at predicted_bytes
Spells-uncorrected plain at w q comps values none spells = record { reads = λ place rest. rw none (spells.reads place rest) }
