-- The sides of a mesh, and what is kept of them while they take their turns (this project's choice).
use Rattle.std.specs.Prelude.{◌≡◌, ℕ, ◌*◌, ◌<◌, ◌≤◌, Bool, false, List, length, get_or}
use Rattle.std.specs.Option.{is_some}
use Rattle.drc_base.specs.declared.limits.TheConstants.{MAX_FACES}
use Rattle.corner_table.specs.Sides.{side_at, Gluing}
use Rattle.pairing.specs.Positions.{AreTriangles}
use Rattle.pairing.specs.Classes.{AreClasses}
use Rattle.pairing.specs.Choosing.{AreKnown, ArePlaced}

-- the positions of the sides' corners, their classes and links
pub record AreSides (faces : ℕ) (thirds classes nexts : List ℕ) (count : ℕ) : Type 0 where
  pub few : faces ≤ MAX_FACES
  pub narrow : count ≤ 6 * MAX_FACES
  pub triangles : AreTriangles faces thirds
  pub classes_are : AreClasses thirds classes count
  pub known : AreKnown classes thirds nexts count

-- the sides in pairs are taken, and the places of each class are right
pub record IsUpTo (thirds classes : List ℕ) (count : ℕ) (g : Gluing) (taken : List Bool) (firsts others : List ℕ) : Type 0 where
  pub long : length taken ≡ length classes
  pub taken_are : (z : ℕ) → z < length classes → get_or taken z false ≡ is_some (g (side_at z))
  pub placed : ArePlaced classes thirds taken firsts others count
