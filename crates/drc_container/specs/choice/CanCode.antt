-- Values that can be coded (Draco Bitstream Specification 2.2, section "Prediction Decoder"; the limit is this project's choice).
use Rattle.std.specs.Prelude.{◌≡◌, ◌≤◌, ◌&&◌, Bool, true, not, List, is_none, All}
use Rattle.std.specs.List.{zip}
use Rattle.std.specs.Ordering.{int_eq}
use Rattle.drc_base.specs.declared.limits.TheConstants.{MAX_VALUES}
use Rattle.attr_heads.specs.declared.heads.Head.{Head}
use Rattle.predict.specs.declared.schemes.Prediction.TheVariants as prediction
use Rattle.predict.specs.Schemes.{code_of}
use Rattle.predict.specs.Wrap.{CanWrap}
use Rattle.attr_section.specs.declared.values.Values.{Values}
use Rattle.attr_section.specs.Attributes.{values_in}
use Rattle.attr_section.specs.WrittenParts.{range_of}

-- whether an attribute's values are corrected in their range, where corrections wrap: they have no square, and are predicted
abbrev pub wraps : Head → Values → Bool
wraps h v = is_none h.octa && not (int_eq v.predict (code_of prediction.Off))

-- the values of attributes with these heads can be coded: they are few, and those that wrap lie near enough
pub record CanCode (heads : List Head) (values : List Values) : Type 0 where
  pub few : values_in values ≤ MAX_VALUES
  pub near : All (λ (h, v). wraps h v ≡ true → CanWrap (range_of v.values)) (zip heads values)
