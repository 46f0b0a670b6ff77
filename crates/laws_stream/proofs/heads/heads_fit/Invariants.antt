use Rattle.std.proofs.Common.{◌<◌, ℕ, get_or}
use Rattle.attr_heads.specs.declared.heads.Head.{Head}
use Rattle.laws_attr.specs.Laws.{HeadFits}
use Rattle.laws_stream.specs.Laws.{IsByte}
use Rattle.laws_stream.proofs.heads.heads_fit.Given as goal

abbrev pub invariant-loop-head : goal.invariant-loop-head
invariant-loop-head l = record {
  fit : (j : ℕ) (d : Head) → j < l.head-index → HeadFits (get_or l.heads j d);
  flags : (j : ℕ) (d : Head) → j < l.head-index → IsByte (get_or l.heads j d).normalized;
}
