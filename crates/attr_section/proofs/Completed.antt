-- The heads of a decoder with what stands at its end, one after another.
use Rattle.std.proofs.Common.{◌≡◌, ℕ, ◌<◌, List, length, get_or, sym, ◌∙◌, ap}
use Rattle.std.proofs.lemmas.List.{get_or_default}
use Rattle.attr_heads.specs.declared.heads.Head.{Head}
use Rattle.attr_section.specs.declared.values.Values.{Values}
use Rattle.attr_section.specs.Attributes.{no_values}

-- behind k heads stand the values of head k
pub values_here : (values : List Values) (front : List Head) (k : ℕ) (v : Values) → length front ≡ k → k < length values → v ≡ get_or values k v
    → get_or values (length front) no_values ≡ v
values_here values front k v long within at =
    ap (λ n. get_or values n no_values) long ∙ get_or_default values k no_values v within ∙ sym at
