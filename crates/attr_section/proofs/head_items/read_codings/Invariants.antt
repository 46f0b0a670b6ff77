use Rattle.drc_base.specs.Profile.{profile_numbered}
use Rattle.std.proofs.Common.{◌≡◌, ◌<◌, length, drop}
use Rattle.std.specs.List.{All}
use Rattle.attr_section.specs.Each.{each_at}
use Rattle.attr_section.specs.Heads.{coded_at, codings_at}
use Rattle.attr_section.specs.Orders.{HasCoordinates}
use Rattle.attr_section.proofs.head_items.read_codings.Given as goal

abbrev pub invariant-loop-head : goal.invariant-loop-head
invariant-loop-head l =
    (each_at (λ _ h. coded_at (profile_numbered l.profile.number) h) l.coded.items (drop l.head-index l.heads) l.c
    ≡ codings_at (profile_numbered l.profile.number) l.heads l.fn.c)
    × (length l.coded.items ≡ l.head-index)
    × All (λ h. 0 < h.comps) l.coded.items
    × All HasCoordinates l.coded.items
