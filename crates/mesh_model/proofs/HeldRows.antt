-- What a geometry has, by how it is held.
use Rattle.std.proofs.Common.{◌≡◌, ℕ, ℤ, List, length, Option, None, Some}
use Rattle.attr_heads.specs.declared.heads.Head.{Head}
use Rattle.mesh_model.specs.Contents.{points_in}
use Rattle.mesh_model.specs.Held.{held}
use Rattle.mesh_model.specs.Stored.{AreStored}
use Rattle.mesh_model.proofs.Made.{length-stored}

-- as many points as rows are stored
pub length-held : (heads : List Head) (cells : List ℤ) (width count : ℕ) (faces : Option (List (List ℕ))) → AreStored heads cells width count →
    length (points_in (held heads width cells faces)) ≡ count
length-held heads cells width count None stored = length-stored heads cells width count stored
length-held heads cells width count (Some faces) stored = length-stored heads cells width count stored
