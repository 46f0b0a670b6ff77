use Rattle.drc_base.specs.Profile.{profile_numbered}
use Rattle.std.proofs.Common.{◌≡◌, ◌≤◌, ◌+◌, [], drop, take, Err}
use Rattle.drc_base.specs.declared.faults.Fault.{Fault}
use Rattle.drc_base.specs.declared.limits.TheConstants.{MAX_VALUES}
use Rattle.std.specs.Option.{option_map}
use Rattle.predict.specs.Surfaces.{surface_of}
use Rattle.attr_section.specs.Each.{each_at}
use Rattle.attr_section.specs.Attributes.{attribute_at, values_in, AreColumns}
use Rattle.attr_section.specs.TablePositions.{read_in}
use Rattle.attr_section.specs.Openings.{attributes_opening_at}
use Rattle.attr_section.proofs.FirstAttributes.{IsFresh}
use Rattle.attr_section.proofs.value_reading.read_attributes.Given as goal

abbrev pub invariant-loop-head : goal.invariant-loop-head
invariant-loop-head l =
    (each_at (attribute_at (profile_numbered l.profile.number) (surface_of (option_map (λ t. t.now) l.on)) (read_in l.found) l.heads l.entries l.spent) l.attributes.items (drop l.head-index l.heads) l.c
    ≡ each_at (attribute_at (profile_numbered l.profile.number) (surface_of (option_map (λ t. t.now) l.on)) (read_in l.found) l.heads l.entries l.spent) [] l.heads l.fn.c)
    × (l.total ≡ l.spent + values_in l.attributes.items)
    × (l.total ≤ MAX_VALUES)
    × AreColumns l.entries (take l.head-index l.heads) l.attributes.items
    × ((f : Fault) → attributes_opening_at (profile_numbered l.profile.number) (surface_of (option_map (λ t. t.now) l.on)) (read_in l.found) l.heads l.entries l.spent l.fn.c ≡ Err f
    → IsFresh l.head-index l.c l.total l.fn.c l.spent)
