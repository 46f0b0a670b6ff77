use Rattle.std.proofs.Common.{◌≡◌, ◌++◌, drop}
use Rattle.drc_info.specs.InfoText.{attr_lines}
use Rattle.drc_info.proofs.reports.put_attrs.Given as goal

-- the lines so far stand in front of the others
abbrev pub invariant-loop-k : goal.invariant-loop-k
invariant-loop-k l = l.out.items ++ attr_lines l.k (drop l.k l.attrs) ≡ l.fn.out.items ++ attr_lines 0 l.attrs
