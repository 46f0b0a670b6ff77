-- The parts of a stream that is written by the sequential method are read back.
use Rattle.std.proofs.Common.{ℕ, ◌≤◌, Bool, [], ◌∷◌, length, None, refl, sym, subst, arith}
use Rattle.std.specs.Prelude.{nat_le}
use Rattle.std.specs.List.{All}
use Rattle.std.proofs.lemmas.Bool.{le-leb}
use Rattle.std.proofs.lemmas.List.Elements.{All-nil, All-cons}
use Rattle.drc_base.specs.declared.kinds.Kind.TheVariants.{PointLimit}
use Rattle.drc_base.specs.declared.limits.TheConstants.{MAX_POINTS, MAX_VALUES}
use Rattle.drc_base.specs.Profile.{profile}
use Rattle.drc_bits.specs.Bits.{low_bytes}
use Rattle.drc_bits.specs.Numbers.{number_at}
use Rattle.drc_bits.specs.Spells.{Spells}
use Rattle.drc_bits.proofs.Spelled.{Spells-must}
use Rattle.mesh_model.specs.declared.geometries.Geometry.{Geometry}
use Rattle.mesh_model.specs.declared.geometries.Geometry.TheVariants.{Mesh, Cloud}
use Rattle.mesh_model.specs.Contents.{heads_in, points_in}
use Rattle.mesh_model.specs.IsGeometry.{IsGeometry}
use Rattle.mesh_model.specs.Parts.{ArePoints}
use Rattle.attr_section.specs.declared.decoder_heads.DecoderHead.{DecoderHead}
use Rattle.attr_section.specs.Attributes.{values_in}
use Rattle.attr_section.proofs.SpelledIntegers.{Spells-low_bytes}
use Rattle.laws_attr.specs.Laws.{HeadFits, HeadsAreRead, DecoderValuesAreRead}
use Rattle.laws_connectivity.specs.Laws.{IndicesAreRead}
use Rattle.drc_container.specs.declared.choice.choices.Choice.{Choice}
use Rattle.attr_section.specs.Positions.{PositionsRead}
use Rattle.drc_container.specs.Columns.{columns_of}
use Rattle.drc_container.specs.choice.Predicts.{needed_number}
use Rattle.drc_container.specs.choice.Choice.{predict_chosen}
use Rattle.drc_container.specs.Header.{cloud_points_at}
use Rattle.drc_container.specs.writing.Written.{decoder_of, values_of}
use Rattle.drc_container.specs.writing.Encoded.{CanCodeInOrder, ConnectivitySpelled, AttributesSpelled}
use Rattle.drc_container.proofs.lemmas.writing.Again.{attributes_spelled}
use Rattle.drc_container.proofs.lemmas.writing.Needed.{codings-needed, read-needed}
use Rattle.drc_container.proofs.lemmas.writing.Attributed.{decoder_passes, decoder_values_pass, columns_of_geometry}

-- the points of a geometry
pub points-are : (g : Geometry) → IsGeometry g → ArePoints (heads_in g) (points_in g)
points-are (Mesh m) is = is.points
points-are (Cloud c) is = is

-- ---- the connectivity

-- a number of points
points-spelled : (n : ℕ) → n ≤ MAX_POINTS → Spells (cloud_points_at profile) (low_bytes 4 n) n
points-spelled n few =
    Spells-must PointLimit (λ k. nat_le k MAX_POINTS) (number_at 4) (low_bytes 4 n) n (le-leb n MAX_POINTS few) (Spells-low_bytes 4 n (omega (arith, few)))

pub connectivity-spelled : IndicesAreRead → (packed : Bool) (g : Geometry) → IsGeometry g → ConnectivitySpelled packed g
connectivity-spelled read packed (Mesh m) is = read packed m.faces (length m.points) is.few_faces is.points.few_points is.faces
connectivity-spelled read packed (Cloud c) is = points-spelled (length c.points) is.few_points

-- ---- the attributes

pub attributes-spelled : HeadsAreRead → DecoderValuesAreRead → (g : Geometry) (choice : Choice) → IsGeometry g → All HeadFits (heads_in g)
    → CanCodeInOrder g choice → AttributesSpelled choice.plain_values g (predict_chosen g choice)
attributes-spelled heads values g choice is fit can =
    let are = points-are g is in
    let p = predict_chosen g choice in
    let n = needed_number p (heads_in g) in
    let pass = columns_of_geometry g choice can are in
    let fits : All (λ (d : DecoderHead). All HeadFits d.heads) (decoder_of g ∷ []) =
    All-cons (λ (d : DecoderHead). All HeadFits d.heads) (decoder_of g) [] fit (All-nil (λ (d : DecoderHead). All HeadFits d.heads)) in
    let few : values_in (values_of g p) ≤ MAX_VALUES = subst (λ n. n ≤ MAX_VALUES) (sym pass.total) are.few_values in
    attributes_spelled choice.plain_values g p
    (heads n None (decoder_of g ∷ []) (codings-needed p (heads_in g) (decoder_of g) refl) (decoder_passes g are) fits refl)
    (λ entries spent place rest counts enough.
    values choice.plain_values None PositionsRead.NotYet (decoder_of g) (values_of g p) (decoder_values_pass g choice can are) fit tt
    n PositionsRead.NotYet entries spent place rest (read-needed p (heads_in g) (columns_of (heads_in g) (points_in g)) PositionsRead.NotYet) counts enough)
    pass.entries few
