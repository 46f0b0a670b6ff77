-- Which predictions are read, and that flags are few.
use Rattle.std.specs.Prelude.{◌≡◌, ◌<◌, ℕ, false, Option, None, Ok}
use Rattle.drc_base.specs.Profile.{Profile}
use Rattle.drc_bits.specs.Reading.{Reading}
use Rattle.attr_heads.specs.declared.heads.Head.{Head}
use Rattle.corner_table.specs.Ordered.{Ordered, IsOver}
use Rattle.corner_table.specs.Sides.{IsGluing}
use Rattle.predict.specs.declared.schemes.Prediction.{Prediction}
use Rattle.predict.specs.Schemes.{facts, code_of}
use Rattle.predict.specs.Laws.{AreApart}
use Rattle.attr_section.specs.declared.values.Values.{Values}
use Rattle.attr_section.specs.Positions.{PositionsRead}
use Rattle.attr_section.specs.Attributes.{values_at}
use Rattle.attr_section.specs.WrittenParts.{HasFewFlags}

-- in a sequential stream values have a prediction that needs no surface; and by a prediction that came later than a profile they are
-- predicted nowhere in it
pub record PredictionsAreAccepted : Type 0 where
  pub sequential : (p : Profile) (found : PositionsRead) (h : Head) (entries spent : ℕ) (c : Reading) (y : Values × Reading)
      → values_at p None found h entries spent c ≡ Ok y → (q : Prediction) × (y.0.predict ≡ code_of q) × ((facts q).needs_surface ≡ false)
  pub later : (p : Profile) (w : Option Ordered) (found : PositionsRead) (h : Head) (entries spent : ℕ) (c : Reading) (y : Values × Reading)
      → (q : Prediction) → p.number < (facts q).since → values_at p w found h entries spent c ≡ Ok y → ¬ (y.0.predict ≡ code_of q)

-- where no two entries of an order over a table stand at one vertex, no list of flags has more of them than there are corners
abbrev pub FlagsAreFew : Type 0
FlagsAreFew = (faces : ℕ) (w : Ordered) → IsGluing faces w.gluing → IsOver faces w → AreApart w → HasFewFlags w
