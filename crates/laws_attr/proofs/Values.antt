-- The values of an attribute are read as what they were made of, by any prediction that they may have.
use Rattle.std.proofs.Common.{◌≡◌, ℕ, Option, None, Some, inl, inr, refl}
use Rattle.std.proofs.lemmas.Bool.{cases_Bool}
use Rattle.attr_section.specs.WrittenTexture.{is_texture}
use Rattle.attr_section.specs.Written.{ValuesSpelled}
use Rattle.laws_attr.specs.Laws.{ValuesAreRead}
use Rattle.laws_attr.proofs.Predicted.{singly_read}
use Rattle.laws_attr.proofs.Squares.{square_read}
use Rattle.laws_attr.proofs.Textures.{texture_read}

-- with a square, or without one by a prediction from positions or one of single components
pub values_read : ValuesAreRead
values_read plain w found h v pass = by h.octa refl
  where
    by : (octa : Option ℕ) → h.octa ≡ octa → ValuesSpelled plain w found h v
    by None unsquared = elim (cases_Bool (is_texture h.comps v.predict)) [
      | inl texture ↦ texture_read plain w found h v unsquared texture pass
      | inr plainly ↦ singly_read plain w found h v unsquared plainly pass
    ]
    by (Some bits) squared = square_read plain w found h v bits squared pass
