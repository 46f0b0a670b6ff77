-- What encoding arrays of C gives (this project's choice).
use Rattle.std.specs.Prelude.{ℕ, ◌≡◌, ◌⊎◌, ℤ, List, map, true, false, is_some, position, Option, None, Some, Result, Ok, if◌then◌else◌}
use Rattle.drc_base.specs.declared.faults.Fault.{Fault}
use Rattle.drc_base.specs.declared.kinds.Kind.TheVariants.{Octahedral}
use Rattle.drc_base.specs.Steps.{◌>>=◌}
use Rattle.attr_heads.specs.FirstFault.{at_place, value_unless}
use Rattle.mesh_model.specs.declared.geometries.Geometry.{Geometry}
use Rattle.mesh_model.specs.Contents.{heads_in}
use Rattle.mesh_model.specs.Same.{Rows}
use Rattle.drc_container.specs.declared.choice.choices.Choice.{Choice}
use Rattle.drc_container.specs.writing.Encoded.{encoding_due, Means}
use Rattle.drc_container.specs.writing.Layout.{IsLaidOut}
use Rattle.drc_c.specs.declared.heads.DrcHead.{DrcHead}
use Rattle.drc_c.specs.declared.options.DrcOptions.{DrcOptions}
use Rattle.drc_c.specs.declared.streams.DrcRow.{DrcRow}
use Rattle.drc_c.specs.Inputs.{do_fit, geometry_meant}
use Rattle.drc_c.specs.Options.{choice_meant}
use Rattle.drc_c.specs.Profiles.{has_shapes}
use Rattle.drc_c.specs.Streams.{row_told}

-- a stream and its map as C has them
abbrev pub c_stream : List ℕ × Rows → List ℕ × List DrcRow
c_stream e = (e.0, map row_told e.1)

-- the first octahedral attribute of a geometry, where it is to be written in a profile without such
abbrev pub profile_fault : ℕ → Geometry → Option Fault
profile_fault p g = if has_shapes p then None else at_place Octahedral (position (λ h. is_some h.octa) (heads_in g))

-- the bytes and the map of the geometry that arrays mean, coded as chosen in the profile of a number; or the first fault of the arrays,
-- then the first attribute that the profile doesn't have, then the first fault of the encoding
unfoldable pub encoded : ℕ → ℕ → List DrcHead → List (List ℕ) → List ℤ → Choice → Result (List ℕ × List DrcRow) Fault
encoded p mesh heads corners values choice =
    geometry_meant mesh heads corners values >>= λ g. value_unless (profile_fault p g) g >>= λ h. encoding_due h choice
    >>= λ e. Ok (c_stream e)

-- these bytes and this map are those of the encoding in the profile of a number: the bytes mean the geometry that the arrays are, by the
-- map, and are coded as chosen
pub record IsEncoding (p : ℕ) (mesh : ℕ) (heads : List DrcHead) (corners : List (List ℕ)) (values : List ℤ) (choice : Choice)
    (bytes : List ℕ) (map_rows : List DrcRow) : Type 0 where
  pub exact : encoded p mesh heads corners values choice ≡ Ok (bytes, map_rows)
  pub geometry : Geometry
  pub geometry_is : geometry_meant mesh heads corners values ≡ Ok geometry
  pub rows : Rows
  pub rows_are : map_rows ≡ map row_told rows
  pub means : Means geometry choice bytes rows
  pub layout : IsLaidOut geometry choice bytes

-- the choice of options, where the arrays fit each other and each number names something
abbrev pub TakesChoice : ℕ → List DrcHead → List (List ℕ) → List ℤ → DrcOptions → Option Choice → Type 0
TakesChoice mesh heads corners values options (Some choice) =
    (do_fit mesh heads corners values ≡ true) × (choice_meant options ≡ Some choice)
TakesChoice mesh heads corners values options None =
    (do_fit mesh heads corners values ≡ false) ⊎ (choice_meant options ≡ None)
