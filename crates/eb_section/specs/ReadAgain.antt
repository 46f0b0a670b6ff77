-- What written connectivity is read as (this project's choice of words).
use Rattle.std.specs.Prelude.{◌≡◌, ℕ, ◌<◌, Bool, false, List, [], ◌∷◌, length, reverse, get_or, Some, Ok, slice_get}
use Rattle.drc_base.specs.Profile.{profile}
use Rattle.drc_bits.specs.Spells.{Spells}
use Rattle.rans_binary.specs.Blocks.{Block, bit_of, first_bits}
use Rattle.eb_machine.specs.Machine.{State, rebuild}
use Rattle.eb_trace.specs.declared.tracing.Traced.{Traced}
use Rattle.eb_section.specs.Opening.{plan_of}
use Rattle.eb_section.specs.Connectivity.{section_of, connectivity_at}
use Rattle.eb_section.specs.Written.{opening_of}

-- a block begins with these bits, which have the numbers from 0 on
pub record BeginsWith (bits : List Bool) (b : Block) : Type 0 where
  pub first : first_bits (length bits) b ≡ bits
  pub numbered : (k : ℕ) → k < length bits → slice_get bits k ≡ Some (bit_of b k)

-- each block begins with the bits of its list
abbrev pub BeginWith : List (List Bool) → List Block → Type 0
BeginWith [] [] = Unit {0}
BeginWith [] (b ∷ blocks) = ⊥
BeginWith (bits ∷ lists) [] = ⊥
BeginWith (bits ∷ lists) (b ∷ blocks) = BeginsWith bits b × BeginWith lists blocks

-- these bytes, wherever they stand and whatever follows them, are read with exactly their length: as what the machine builds of the trace's
-- symbols, the last first, its events and its start bits, with a block of seam bits for each list
pub record IsReadAgain (valence : Bool) (faces : ℕ) (t : Traced) (seams : List (List Bool)) (bytes : List ℕ) : Type 0 where
  pub last : State
  pub blocks : List Block
  pub built : rebuild (plan_of (opening_of valence faces (length seams) t)) (reverse t.symbols) (reverse t.events)
      (λ k. get_or t.starts k false) ≡ Ok last
  pub seam_bits : BeginWith seams blocks
  pub read : Spells (connectivity_at profile) bytes (section_of (opening_of valence faces (length seams) t) t.events blocks last)
