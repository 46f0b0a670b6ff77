use Rattle.drc_base.specs.Profile.{profile_numbered}
use Rattle.std.proofs.Common.{◌≡◌, ◌<◌, ◌≤◌, []}
use Rattle.std.specs.List.{All}
use Rattle.std.specs.Vec.Iter.{into_iter_items}
use Rattle.drc_base.specs.declared.limits.TheConstants.{MAX_VALUES}
use Rattle.attr_section.specs.Orders.{HasCoordinates}
use Rattle.attr_section.specs.Attributes.{AreColumns, values_in}
use Rattle.drc_container.specs.reading.Stream.{decoders_values_at}
use Rattle.drc_container.proofs.reading.attributes.read_decoders.Given as goal

abbrev pub invariant-loop-decoder : goal.invariant-loop-decoder
invariant-loop-decoder l =
    (decoders_values_at (profile_numbered l.profile.number) l.entries (record { heads = l.heads.items; values = l.values.items }) (into_iter_items l.decoder-iterator) l.c
    ≡ decoders_values_at (profile_numbered l.profile.number) l.entries (record { heads = []; values = [] }) l.fn.decoders.items l.fn.c)
    × (l.spent ≡ values_in l.values.items) × (l.spent ≤ MAX_VALUES)
    × AreColumns l.entries l.heads.items l.values.items
    × All (λ d. All (λ h. 0 < h.comps) d.heads) (into_iter_items l.decoder-iterator)
    × All (λ d. All HasCoordinates d.heads) (into_iter_items l.decoder-iterator)
