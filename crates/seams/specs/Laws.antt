-- What holds of seams, their bits, and classes.
use Rattle.std.specs.Prelude.{◌≡◌, ℕ, ◌<◌, ◌↔◌, Bool, false, List, length, get_or, Some}
use Rattle.mesh_model.specs.Parts.{MeshParts}
use Rattle.corner_table.specs.Sides.{Side, Gluing, IsGluing}
use Rattle.corner_table.specs.Fans.{InFan, MeetsBoundary}
use Rattle.rans_binary.specs.Blocks.{Block, first_bits}
use Rattle.seams.specs.Seams.{flag_at, flags_listed, unseamed, AreFlags}
use Rattle.corner_table.specs.Pairs.{bit_sides}
use Rattle.seams.specs.SeamBits.{seam_bits, flag_of_bits, flags_of_bits}
use Rattle.seams.specs.Values.{piece, is_seam}
use Rattle.seams.specs.Classes.{InClass, MeetsEnd}

-- flags that are alike on both sides of each pair
abbrev pub AreAlike : Gluing → (Side → Bool) → Type 0
AreAlike g flags = (x y : Side) → g x ≡ Some y → flags x ≡ flags y

-- without its seams a surface is a surface
abbrev pub CutIsGluing : Type 0
CutIsGluing = (faces : ℕ) (g : Gluing) (flags : Side → Bool) → IsGluing faces g → AreAlike g flags → IsGluing faces (unseamed flags g)

-- a class is a fan of the surface without its seams
abbrev pub ClassIsFan : Type 0
ClassIsFan = (flags : Side → Bool) (g : Gluing) (c d : Side) → InClass flags g c d ↔ InFan (unseamed flags g) c d

-- and where it meets a boundary or a seam, that fan meets a boundary
abbrev pub ClassEnds : Type 0
ClassEnds = (flags : Side → Bool) (g : Gluing) (c : Side) → MeetsEnd flags g c ↔ MeetsBoundary (unseamed flags g) c

-- a class lies in a fan
abbrev pub ClassInFan : Type 0
ClassInFan = (flags : Side → Bool) (g : Gluing) (c d : Side) → InClass flags g c d → InFan g c d

-- without seams a class is a fan
abbrev pub UncutIsFan : Type 0
UncutIsFan = (g : Gluing) (c d : Side) → InClass (λ x. false) g c d ↔ InFan g c d

-- both sides of a pair are seams, or neither
abbrev pub SeamsAreAlike : Type 0
SeamsAreAlike = (faces : ℕ) (g : Gluing) (m : MeshParts) (k : ℕ) → IsGluing faces g → AreAlike g (is_seam m k g)

-- the corners of one class have one value
abbrev pub ClassHasOneValue : Type 0
ClassHasOneValue = (m : MeshParts) (k : ℕ) (g : Gluing) (c d : Side) → InClass (is_seam m k g) g c d → piece m k c ≡ piece m k d

-- the seams of a mesh, as a list, are flags of its surface
abbrev pub SeamsAreFlags : Type 0
SeamsAreFlags = (faces : ℕ) (g : Gluing) (m : MeshParts) (k : ℕ) → IsGluing faces g → AreFlags faces g (flags_listed faces (is_seam m k g))

-- a list of flags and what it was made of cut the surface alike
abbrev pub ListCutsAlike : Type 0
ListCutsAlike = (faces : ℕ) (g : Gluing) (flags : Side → Bool) → IsGluing faces g →
    unseamed (flag_at (flags_listed faces flags)) g ≡ unseamed flags g

-- whatever the bits are, what they give is flags
abbrev pub ToldAreFlags : Type 0
ToldAreFlags = (faces : ℕ) (g : Gluing) (bits : ℕ → Bool) → IsGluing faces g →
    AreFlags faces g (flags_listed faces (flag_of_bits faces g bits))

-- bits that are the seam bits of flags give these flags
abbrev pub BitsTellFlags : Type 0
BitsTellFlags = (faces : ℕ) (g : Gluing) (flags : List Bool) (bits : ℕ → Bool) → IsGluing faces g → AreFlags faces g flags →
    ((i : ℕ) → i < length (bit_sides faces g) → bits i ≡ get_or (seam_bits faces g (flag_at flags)) i false) →
    flags_listed faces (flag_of_bits faces g bits) ≡ flags

-- so does a block that has them first
abbrev pub BlockTellsFlags : Type 0
BlockTellsFlags = (faces : ℕ) (g : Gluing) (flags : List Bool) (b : Block) → IsGluing faces g → AreFlags faces g flags →
    first_bits (length (bit_sides faces g)) b ≡ seam_bits faces g (flag_at flags) → flags_of_bits faces g b ≡ flags
