-- The parts of a written stream are read back.
use Rattle.drc_base.specs.Profile.{Profile, profile_numbered}
use Rattle.std.proofs.Common.{◌≡◌, ℕ, ◌+◌, ◌≤◌, false, List, [], ◌∷◌, ◌++◌, map, length, Option, None, Ok, refl, sym, ◌∙◌, ap, subst, arith, append_assoc, length-append}
use Rattle.std.specs.Prelude.{Bool, is_some}
use Rattle.drc_base.specs.declared.kinds.Kind.TheVariants as kind
use Rattle.drc_base.specs.declared.limits.TheConstants.{MAX_VALUES}
use Rattle.drc_base.specs.Steps.{◌>>=◌}
use Rattle.drc_bits.specs.Reading.{bytes_at}
use Rattle.drc_bits.specs.Numbers.{number_at}
use Rattle.drc_bits.specs.Spells.{Spells}
use Rattle.drc_bits.proofs.Spelled.{Spells-then, Spells-must, Spells-byte, Spells-bytes, Spells-number}
use Rattle.std.specs.Str.{bytes_eq}
use Rattle.mesh_model.specs.declared.geometries.Geometry.{Geometry}
use Rattle.mesh_model.specs.declared.geometries.Geometry.TheVariants.{Mesh, Cloud}
use Rattle.mesh_model.specs.Contents.{heads_in, points_in}
use Rattle.attr_section.specs.declared.decoder_heads.DecoderHead.{DecoderHead}
use Rattle.attr_section.specs.declared.values.Values.{Values}
use Rattle.attr_section.specs.Heads.{heads_at, heads_bytes, bare_decoder, AreAcceptedLinks, HaveCodings}
use Rattle.attr_section.specs.Positions.{PositionsRead}
use Rattle.attr_section.specs.Attributes.{decoder_values_at, values_in}
use Rattle.attr_section.specs.Written.{decoder_values_bytes, values_placed, HaveEntries}
use Rattle.drc_container.specs.declared.choice.predicts.Predict.{Predict}
use Rattle.drc_container.specs.choice.Predicts.{needed_number}
use Rattle.drc_container.specs.declared.headers.Form.{Form}
use Rattle.drc_container.specs.declared.headers.Form.TheVariants as form
use Rattle.drc_container.specs.declared.reading.attributes.Attributes.{Attributes}
use Rattle.drc_container.specs.Header.{magic, magic_at, minor_of, form_said, header_at}
use Rattle.drc_container.specs.reading.Stream.{sequential_attributes_at, decoders_values_at}
use Rattle.drc_container.specs.writing.Written.{geometry_type, header_bytes, attribute_heads_bytes, sequential_attributes_bytes, decoder_of, values_of}
use Rattle.drc_container.specs.writing.Encoded.{AttributesSpelled, attributes_again}

-- the form that is written of a geometry
abbrev pub written_form : Geometry → Form
written_form (Mesh m) = form.SequentialMesh
written_form (Cloud c) = form.Cloud

said : (g : Geometry) → form_said 2 (minor_of (geometry_type g)) (geometry_type g) 0 0 ≡ Ok (written_form g)
unfolding form_said
said (Mesh m) = refl
said (Cloud c) = refl

-- the header
pub header_spelled : (g : Geometry) → Spells header_at (header_bytes 0 g) (written_form g)
unfolding header_at header_bytes
header_spelled g =
    Spells-then magic_at (λ _ c. number_at 1 c >>= λ major. number_at 1 major.1 >>= λ minor. number_at 1 minor.1 >>= λ geometry. number_at 1 geometry.1 >>= λ method. number_at 2 method.1 >>= λ flags. form_said major.0 minor.0 geometry.0 method.0 flags.0 >>= λ f. Ok (f, flags.1))
    magic (2 ∷ minor_of (geometry_type g) ∷ geometry_type g ∷ 0 ∷ 0 ∷ 0 ∷ []) magic (written_form g)
    (Spells-must kind.Magic (λ bytes. bytes_eq bytes magic) (bytes_at 5) magic magic refl (Spells-bytes magic))
    (Spells-then (number_at 1) (λ major c. number_at 1 c >>= λ minor. number_at 1 minor.1 >>= λ geometry. number_at 1 geometry.1 >>= λ method. number_at 2 method.1 >>= λ flags. form_said major minor.0 geometry.0 method.0 flags.0 >>= λ f. Ok (f, flags.1))
    (2 ∷ []) (minor_of (geometry_type g) ∷ geometry_type g ∷ 0 ∷ 0 ∷ 0 ∷ []) 2 (written_form g) (Spells-byte 2)
    (Spells-then (number_at 1) (λ minor c. number_at 1 c >>= λ geometry. number_at 1 geometry.1 >>= λ method. number_at 2 method.1 >>= λ flags. form_said 2 minor geometry.0 method.0 flags.0 >>= λ f. Ok (f, flags.1))
    (minor_of (geometry_type g) ∷ []) (geometry_type g ∷ 0 ∷ 0 ∷ 0 ∷ []) (minor_of (geometry_type g)) (written_form g) (Spells-byte (minor_of (geometry_type g)))
    (Spells-then (number_at 1) (λ geometry c. number_at 1 c >>= λ method. number_at 2 method.1 >>= λ flags. form_said 2 (minor_of (geometry_type g)) geometry method.0 flags.0 >>= λ f. Ok (f, flags.1))
    (geometry_type g ∷ []) (0 ∷ 0 ∷ 0 ∷ []) (geometry_type g) (written_form g) (Spells-byte (geometry_type g))
    (Spells-then (number_at 1) (λ method c. number_at 2 c >>= λ flags. form_said 2 (minor_of (geometry_type g)) (geometry_type g) method flags.0 >>= λ f. Ok (f, flags.1))
    (0 ∷ []) (0 ∷ 0 ∷ []) 0 (written_form g) (Spells-byte 0)
    (record { reads = λ place rest. rw ((Spells-number 2 (0 ∷ 0 ∷ []) refl).reads place rest, said g) refl })))))

-- the values of a decoder, behind nothing that was found of the positions, are read back in the profile of this number
abbrev pub ValuesAgain : ℕ → Bool → DecoderHead → List Values → Type 0
ValuesAgain n plain d values = (entries spent place : ℕ) (rest : List ℕ) → HaveEntries entries d.heads values → spent + values_in values ≤ MAX_VALUES
    → decoder_values_at (profile_numbered n) None PositionsRead.NotYet (bare_decoder d) entries spent
    (record { place = place; rest = decoder_values_bytes plain None PositionsRead.NotYet d.heads values ++ rest })
    ≡ Ok (
      (values_placed plain None PositionsRead.NotYet place d.heads values, d),
      record { place = place + length (decoder_values_bytes plain None PositionsRead.NotYet d.heads values); rest = rest },
    )

-- the attributes, where their heads and their values are read back
pub attributes_spelled : (plain : Bool) (g : Geometry) (p : Predict)
    → Spells (heads_at (profile_numbered (needed_number p (heads_in g))) None) (attribute_heads_bytes g) (bare_decoder (decoder_of g) ∷ [])
    → ValuesAgain (needed_number p (heads_in g)) plain (decoder_of g) (values_of g p)
    → HaveEntries (length (points_in g)) (heads_in g) (values_of g p) → values_in (values_of g p) ≤ MAX_VALUES
    → AttributesSpelled plain g p
unfolding sequential_attributes_at decoders_values_at sequential_attributes_bytes
attributes_spelled plain g p heads body entries few = record {
  heads = heads;
  reads = λ place rest.
      let q : Profile = profile_numbered (needed_number p (heads_in g)) in
      let front = attribute_heads_bytes g in
      let back = decoder_values_bytes plain None PositionsRead.NotYet (heads_in g) (values_of g p) in
      let n = length (points_in g) in
      let none : Attributes = record { heads = []; values = [] } in
      let there : place + length front + length back ≡ place + length (front ++ back) = omega (arith, length-append front back) in
      ap (λ bytes. heads_at q None (record { place = place; rest = bytes }) >>= λ d. decoders_values_at q n none d.0 d.1) (append_assoc front back rest)
      ∙ ap (λ x. x >>= λ d. decoders_values_at q n none d.0 d.1) (heads.reads place (back ++ rest))
      ∙ ap (λ x. x >>= λ x. decoders_values_at q n (record { heads = [] ++ x.0.1.heads; values = [] ++ x.0.0 }) [] x.1)
      (body n 0 (place + length front) rest entries (omega (arith, few)))
      ∙ ap (λ k. Ok (attributes_again plain g p place, record { place = k; rest = rest })) there;
}

-- the heads of the one decoder
pub heads_again : (n : ℕ) (g : Geometry) (ds : List DecoderHead) → ds ≡ decoder_of g ∷ [] → HaveCodings n (decoder_of g ∷ [])
    → ((k : ℕ) (attr_data : Option ℕ) → HaveCodings k ds → is_some attr_data ≡ false → AreAcceptedLinks attr_data ds
    → Spells (heads_at (profile_numbered k) attr_data) (heads_bytes false ds) (map bare_decoder ds))
    → Spells (heads_at (profile_numbered n) None) (attribute_heads_bytes g) (bare_decoder (decoder_of g) ∷ [])
heads_again n g ds is has again =
    let linked : AreAcceptedLinks None ds = subst (AreAcceptedLinks None) (sym is) refl in
    subst (λ (l : List DecoderHead). Spells (heads_at (profile_numbered n) None) (heads_bytes false l) (map bare_decoder l)) is
    (again n None (subst (HaveCodings n) (sym is) has) refl linked)

-- the values of the one decoder
pub values_again : (n : ℕ) (plain : Bool) (g : Geometry) (p : Predict) (d : DecoderHead) (values : List Values)
    → d ≡ decoder_of g → values ≡ values_of g p → ValuesAgain n plain d values → ValuesAgain n plain (decoder_of g) (values_of g p)
values_again n plain g p d values is_d is_values again =
    subst (λ (vs : List Values). ValuesAgain n plain (decoder_of g) vs) is_values (subst (λ (x : DecoderHead). ValuesAgain n plain x values) is_d again)
