-- What the encoding of arrays gives, by its steps.
use Rattle.std.proofs.Common.{◌≡◌, ℕ, ℤ, List, map, None, Ok, refl}
use Rattle.mesh_model.specs.declared.geometries.Geometry.{Geometry}
use Rattle.mesh_model.specs.Same.{Rows}
use Rattle.drc_container.specs.declared.choice.choices.Choice.{Choice}
use Rattle.drc_container.specs.writing.Encoded.{encoding_due, Means}
use Rattle.drc_container.specs.writing.Layout.{IsLaidOut}
use Rattle.drc_c.specs.declared.heads.DrcHead.{DrcHead}
use Rattle.drc_c.specs.declared.streams.DrcRow.{DrcRow}
use Rattle.drc_c.specs.Encoded.{encoded, profile_fault, IsEncoding}
use Rattle.drc_c.specs.Inputs.{geometry_meant}
use Rattle.drc_c.specs.Streams.{row_told}

-- the bytes of the geometry that is meant, and its rows as C has them
pub encoded-is : (p mesh : ℕ) (heads : List DrcHead) (corners : List (List ℕ)) (values : List ℤ) (choice : Choice)
    (g : Geometry) (bytes : List ℕ) (rows : Rows) (told : List DrcRow) →
    geometry_meant mesh heads corners values ≡ Ok g → profile_fault p g ≡ None → encoding_due g choice ≡ Ok (bytes, rows) →
    told ≡ map row_told rows →
    encoded p mesh heads corners values choice ≡ Ok (bytes, told)
unfolding encoded
encoded-is p mesh heads corners values choice g bytes rows told meant has due are = rw (meant, has, due, are) refl

-- they are an encoding
pub encoding-is : (p mesh : ℕ) (heads : List DrcHead) (corners : List (List ℕ)) (values : List ℤ) (choice : Choice)
    (g : Geometry) (bytes : List ℕ) (rows : Rows) (told : List DrcRow) →
    geometry_meant mesh heads corners values ≡ Ok g → profile_fault p g ≡ None → encoding_due g choice ≡ Ok (bytes, rows) →
    told ≡ map row_told rows →
    Means g choice bytes rows → IsLaidOut g choice bytes → IsEncoding p mesh heads corners values choice bytes told
encoding-is p mesh heads corners values choice g bytes rows told meant has due are means layout = record {
  exact = encoded-is p mesh heads corners values choice g bytes rows told meant has due are;
  geometry = g;
  geometry_is = meant;
  rows = rows;
  rows_are = are;
  means = means;
  layout = layout;
}
