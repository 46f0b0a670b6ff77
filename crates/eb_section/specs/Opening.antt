-- The numbers that open Edgebreaker connectivity (Draco Bitstream Specification 2.2, section "Edgebreaker Connectivity"; the limits
-- and what is refused are this project's choice).
use Rattle.std.specs.Prelude.{ℕ, ◌+◌, ◌==◌, ◌||◌, Ok, nat_le}
use Rattle.drc_base.specs.declared.kinds.Kind.TheVariants as kind
use Rattle.drc_base.specs.declared.limits.TheConstants.{MAX_ATTRIBUTES}
use Rattle.drc_base.specs.Profile.{Profile}
use Rattle.drc_base.specs.Steps.{◌>>=◌}
use Rattle.drc_bits.specs.Reading.{Reading, Item, must}
use Rattle.drc_bits.specs.Numbers.{number_at}
use Rattle.drc_bits.specs.Varint.{var32_at}
use Rattle.eb_machine.specs.Machine.{Plan}
use Rattle.eb_section.specs.declared.opening.Opening.{Opening}

-- the traversal: 0 standard, 2 valence
abbrev pub traversal_at : Reading → Item ℕ
traversal_at c = must kind.Traversal (λ t. t == 0 || t == 2) (number_at 1) c

-- the section's opening in a profile: the traversal; declared vertices, faces and attribute data; declared symbols, and how many of them
-- are splits
unfoldable pub opening_at : Profile → Reading → Item Opening
opening_at p c = do
  traversal ← traversal_at c
  vertices ← must kind.PointLimit (λ n. nat_le n p.points) var32_at traversal.1
  faces ← must kind.FaceLimit (λ n. nat_le n p.faces) var32_at vertices.1
  attr_data ← must kind.AttrLimit (λ n. nat_le n MAX_ATTRIBUTES) (number_at 1) faces.1
  symbols ← must kind.Count (λ n. nat_le n faces.0) var32_at attr_data.1
  splits ← must kind.Count (λ n. nat_le n symbols.0) var32_at symbols.1
  Ok (
    record {
      valence = (traversal.0 == 2);
      vertices = vertices.0;
      faces = faces.0;
      attr_data = attr_data.0;
      symbols = symbols.0;
      splits = splits.0;
    },
    splits.1,
  )

-- what the machine of reverse decoding is made for: the declared faces and symbols, and as many vertices as are declared, beside one for
-- each declared split
abbrev pub plan_of : Opening → Plan
plan_of o = record { faces = o.faces; created = o.vertices + o.splits; symbols = o.symbols }
