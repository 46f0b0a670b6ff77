-- Positions that were read, as the code keeps them: the class of each corner of their surface, and the entry of each class.
use Rattle.corner_table.specs.Ordered.{entries_by}
use Rattle.attr_section.specs.declared.positions.Positions.{Positions as KeptPositions}
use Rattle.attr_section.specs.declared.positions.ReadPositions.{ReadPositions}
use Rattle.attr_section.specs.declared.positions.ReadPositions.TheVariants as kept
use Rattle.attr_section.specs.Positions.{Positions, PositionsRead}

-- positions with the entry of each corner
abbrev pub positions_in : KeptPositions → Positions
positions_in k = record { values = k.values.now; of_corner = entries_by k.classes.now k.entry_of_class.now }

-- what was read of them
abbrev pub read_in : ReadPositions → PositionsRead
read_in kept.NotYet = PositionsRead.NotYet
read_in kept.Unusable = PositionsRead.Unusable
read_in (kept.Usable k) = PositionsRead.Usable (positions_in k)
