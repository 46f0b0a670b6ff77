-- What the widths of its fields say of a head.
use Rattle.std.specs.Prelude.{◌<◌, ◌^◌, IfSome}
use Rattle.std.specs.List.{AllByRecursion}
use Rattle.attr_heads.specs.declared.quants.Quant.{Quant}
use Rattle.attr_heads.specs.declared.heads.Head.{Head}

-- its bit patterns have 32 bits
pub record QuantFields (q : Quant) : Type 0 where
  pub range : q.range < 2 ^ 32
  pub min : AllByRecursion (λ m. m < 2 ^ 32) q.min

-- the flag has 8 bits and the id 32
pub record HasFields (h : Head) : Type 0 where
  pub normalized : h.normalized < 256
  pub id : h.id < 2 ^ 32
  pub quant : IfSome h.quant QuantFields
