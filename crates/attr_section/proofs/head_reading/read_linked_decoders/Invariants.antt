use Rattle.drc_base.specs.Profile.{profile_numbered}
use Rattle.std.proofs.Common.{◌≡◌, ◌≤◌, ◌<◌, [], drop}
use Rattle.std.specs.List.{All}
use Rattle.attr_section.specs.Each.{each_at}
use Rattle.attr_section.specs.Heads.{attributes_of, decoder_at}
use Rattle.attr_section.specs.Orders.{HasCoordinates}
use Rattle.attr_section.proofs.head_reading.read_linked_decoders.Given as goal

abbrev pub invariant-loop-link : goal.invariant-loop-link
invariant-loop-link l =
    (each_at (λ before link. decoder_at (profile_numbered l.profile.number) (attributes_of before) link) l.decoders.items (drop l.link-index l.links) l.c
    ≡ each_at (λ before link. decoder_at (profile_numbered l.profile.number) (attributes_of before) link) [] l.links l.fn.c)
    × (l.attributes ≡ attributes_of l.decoders.items)
    × (l.attributes ≤ 16)
    × All (λ d. All (λ h. 0 < h.comps) d.heads) l.decoders.items
    × All (λ d. All HasCoordinates d.heads) l.decoders.items
