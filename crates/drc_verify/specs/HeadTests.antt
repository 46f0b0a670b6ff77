-- Whether heads are equal, as a test (this project's choice).
use Rattle.std.specs.Prelude.{ℕ, ◌==◌, ◌&&◌, Bool, true, false, List, nat_eq, Option, None, Some}
use Rattle.std.specs.Cmp.Lexicographic.{pointwise}
use Rattle.attr_heads.specs.declared.quants.Quant.{Quant}
use Rattle.attr_heads.specs.declared.heads.Head.{Head}

-- whether two quantisations are equal
abbrev pub same_quant : Quant → Quant → Bool
same_quant a b = a.bits == b.bits && a.range == b.range && pointwise nat_eq a.min b.min

-- the same of quantisations that may be absent
abbrev pub same_quants : Option Quant → Option Quant → Bool
same_quants None None = true
same_quants (Some a) (Some b) = same_quant a b
same_quants None (Some b) = false
same_quants (Some a) None = false

-- whether two squares that may be absent are equal: their coordinates have as many bits
abbrev pub same_squares : Option ℕ → Option ℕ → Bool
same_squares None None = true
same_squares (Some a) (Some b) = a == b
same_squares None (Some b) = false
same_squares (Some a) None = false

-- whether two heads are equal
abbrev pub same_head : Head → Head → Bool
same_head a b =
    a.usage == b.usage && a.dtype == b.dtype && a.comps == b.comps && a.normalized == b.normalized && a.id == b.id
    && same_quants a.quant b.quant && same_squares a.octa b.octa

-- whether two lists of heads are equal
unfoldable pub same_heads : List Head → List Head → Bool
same_heads = pointwise same_head
