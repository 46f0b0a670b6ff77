use Rattle.std.proofs.Common.{◌≡◌, [], drop}
use Rattle.std.specs.List.{range_with_len}
use Rattle.attr_section.specs.Each.{each_at}
use Rattle.attr_section.specs.Heads.{link_at}
use Rattle.attr_section.proofs.links.read_linked.Given as goal

abbrev pub invariant-loop-number : goal.invariant-loop-number
invariant-loop-number l =
    each_at (λ before _. link_at l.attr_data before) l.links.items (drop l._number (range_with_len 0 l.n)) l.c
    ≡ each_at (λ before _. link_at l.attr_data before) [] (range_with_len 0 l.n) l.fn.c
