-- A written stream means the geometry that was written.
use Rattle.drc_base.specs.Profile.{Profile, profile_numbered}
use Rattle.std.proofs.Common.{◌≡◌, ℕ, suc, ◌+◌, drop, List, [], ◌∷◌, ◌++◌, map, length, None, Result, Ok, refl, sym, ◌∙◌, ap, subst, arith, append-nil, append_assoc, length-append}
use Rattle.std.specs.Prelude.{ℤ, Bool}
use Rattle.std.specs.List.{All}
use Rattle.drc_base.specs.declared.faults.Fault.{Fault}
use Rattle.drc_base.specs.Steps.{◌>>=◌}
use Rattle.drc_bits.specs.Reading.{Reading}
use Rattle.attr_heads.specs.declared.heads.Head.{Head}
use Rattle.mesh_model.specs.declared.geometries.Geometry.{Geometry}
use Rattle.mesh_model.specs.declared.geometries.Geometry.TheVariants.{Mesh, Cloud}
use Rattle.attr_heads.specs.Head.{width_of}
use Rattle.mesh_model.specs.Parts.{MeshParts, CloudParts, RowFits, IsMesh, IsCloud, mesh_of, cloud_of, cells_of}
use Rattle.mesh_model.specs.IsGeometry.{IsGeometry}
use Rattle.mesh_model.specs.Renumbering.{plain as plain_rows}
use Rattle.mesh_model.specs.SameLaws.{count_of}
use Rattle.mesh_model.specs.Contents.{heads_in, points_in}
use Rattle.mesh_model.proofs.SameLaws.{same-refl}
use Rattle.mesh_model.proofs.Made.{mesh_of-IsMesh, cloud_of-IsCloud}
use Rattle.attr_section.specs.declared.values.Values.{Values}
use Rattle.attr_section.specs.Positions.{PositionsRead}
use Rattle.attr_section.specs.Written.{values_placed, values_bytes, found_behind}
use Rattle.drc_container.specs.declared.choice.choices.Choice.{Choice}
use Rattle.drc_container.specs.declared.reading.attributes.Attributes.{Attributes}
use Rattle.drc_container.specs.declared.reading.decoding.PointsRead.{PointsRead}
use Rattle.drc_container.specs.declared.reading.info.StreamInfo.{StreamInfo}
use Rattle.drc_container.specs.Columns.{columns_of, cells_at}
use Rattle.drc_container.specs.declared.choice.methods.Method.TheVariants as method
use Rattle.drc_container.specs.choice.Choice.{method_of, is_sequential, predict_chosen, written_number, index_of, is_packed}
use Rattle.drc_container.specs.reading.Stream.{stream_in, body_at, points_behind, mesh_at, mesh_behind, cloud_at, cloud_behind, points_of}
use Rattle.drc_container.specs.reading.Meaning.{Meaning, sequential_info}
use Rattle.drc_container.specs.writing.Written.{header_bytes, sequential_connectivity_bytes, sequential_attributes_bytes, attribute_heads_bytes, asked_values, values_of, stream_bytes}
use Rattle.drc_container.specs.writing.Encoded.{ConnectivitySpelled, AttributesSpelled, attributes_again, KeepsBeside, Means}
use Rattle.drc_container.proofs.lemmas.writing.Columns.{AreWide, cells_at-columns_of}
use Rattle.drc_container.specs.declared.choice.predicts.Predict.{Predict}
use Rattle.drc_container.proofs.lemmas.reading.Limited.{indices_alike}
use Rattle.drc_container.proofs.lemmas.writing.Again.{written_form, header_spelled}

-- values keep their integers when they are given places
placed-columns : (plain : Bool) (found : PositionsRead) (place : ℕ) (heads : List Head) (values : List Values) → length values ≡ length heads
    → map (λ v. v.values) (values_placed plain None found place heads values) ≡ map (λ v. v.values) values
placed-columns plain found place [] [] same = refl
placed-columns plain found place [] (v ∷ values) same = absurd (omega (arith, same))
placed-columns plain found place (h ∷ heads) [] same = refl
placed-columns plain found place (h ∷ heads) (v ∷ values) same =
    ap (λ l. v.values ∷ l) (placed-columns plain (found_behind None found h v) (place + length (values_bytes plain None found h v)) heads values (omega (arith, same)))

valued-columns : (p : Predict) (heads : List Head) (columns : List (List ℤ)) → length (asked_values p heads columns) ≡ length heads → length columns ≡ length heads
    → map (λ v. v.values) (asked_values p heads columns) ≡ columns
valued-columns p [] [] same long = refl
valued-columns p [] (column ∷ columns) same long = absurd (omega (arith, long))
valued-columns p (h ∷ heads) [] same long = refl
valued-columns p (h ∷ heads) (column ∷ columns) same long = ap (λ l. column ∷ l) (valued-columns p heads columns (omega (arith, same)) (omega (arith, long)))

columns-each : (heads : List Head) (rows : List (List ℤ)) → length (columns_of heads rows) ≡ length heads
columns-each [] rows = refl
columns-each (h ∷ heads) rows = ap (λ n. suc n) (columns-each heads (map (λ row. drop h.comps row) rows))

-- each row is as wide as the heads say
wide-rows : (heads : List Head) (points : List (List ℤ)) → All (RowFits heads) points → AreWide (width_of heads) points
wide-rows heads points fit = λ j below. (fit j [] below).0

-- the cells that are read back are those of the points
cells-again : (plain : Bool) (place : ℕ) (p : Predict) (heads : List Head) (points : List (List ℤ)) → All (RowFits heads) points
    → length (asked_values p heads (columns_of heads points)) ≡ length heads
    → cells_at heads (map (λ v. v.values) (values_placed plain None PositionsRead.NotYet place heads (asked_values p heads (columns_of heads points)))) (length points) ≡ cells_of points
cells-again plain place p heads points fit same =
    ap (λ columns. cells_at heads columns (length points))
    (placed-columns plain PositionsRead.NotYet place heads (asked_values p heads (columns_of heads points)) same
    ∙ valued-columns p heads (columns_of heads points) same (columns-each heads points))
    ∙ cells_at-columns_of heads points (wide-rows heads points fit)

-- the first profile that has all that is written of a geometry
abbrev pub profile_written : Geometry → Choice → Profile
profile_written g choice = profile_numbered (written_number g choice)

-- where connectivity and attributes of a written stream begin, and where it ends
abbrev pub connectivity_place : Geometry → ℕ
connectivity_place g = 0 + length (header_bytes 0 g)

abbrev pub attributes_place : Geometry → Choice → ℕ
attributes_place g choice = connectivity_place g + length (sequential_connectivity_bytes (is_packed (index_of choice)) g)

abbrev pub end_place : Geometry → Choice → ℕ
end_place g choice = attributes_place g choice + length (sequential_attributes_bytes choice.plain_values g (predict_chosen g choice))

-- what is known of a written stream with these bytes behind it
abbrev pub info_before : Geometry → Choice → List ℕ → StreamInfo
info_before g choice more =
    sequential_info (connectivity_place g) (attributes_place g choice) (length (points_in g))
    (attributes_again choice.plain_values g (predict_chosen g choice) (attributes_place g choice)) (record { place = end_place g choice; rest = more })

-- what it means
abbrev meaning_before : Geometry → Choice → List ℕ → Meaning
meaning_before g choice more = record { geometry = g; surface = None; info = info_before g choice more }

-- what is known of a written stream alone, and what it means
abbrev pub info_written : Geometry → Choice → StreamInfo
info_written g choice = info_before g choice []

abbrev pub decoded_written : Geometry → Choice → Meaning
decoded_written g choice = meaning_before g choice []

-- where the connectivity of a written stream begins, with these bytes behind the stream
abbrev behind_header : Geometry → Choice → List ℕ → Reading
behind_header g choice more = record {
  place = connectivity_place g;
  rest = sequential_connectivity_bytes (is_packed (index_of choice)) g ++ (sequential_attributes_bytes choice.plain_values g (predict_chosen g choice) ++ more);
}

-- the points that are read of what was written
points-again : (g : Geometry) (choice : Choice) → All (RowFits (heads_in g)) (points_in g)
    → AttributesSpelled choice.plain_values g (predict_chosen g choice)
    → length (values_of g (predict_chosen g choice)) ≡ length (heads_in g) → (more : List ℕ)
    → points_behind (profile_written g choice) (connectivity_place g) (length (points_in g))
    (record { place = attributes_place g choice; rest = sequential_attributes_bytes choice.plain_values g (predict_chosen g choice) ++ more })
    ≡ Ok (record { heads = heads_in g; cells = cells_of (points_in g); info = info_before g choice more })
unfolding points_behind
points-again g choice fit attributes same more =
    let predict = predict_chosen g choice in
    let p = connectivity_place g in
    let q = attributes_place g choice in
    let n = length (points_in g) in
    let read : Attributes × Reading → Result PointsRead Fault =
    λ a. Ok (record { heads = a.0.heads; cells = points_of n a.0; info = sequential_info p q n a.0 a.1 }) in
    let told : List ℤ → Result PointsRead Fault = λ cells. Ok (record { heads = heads_in g; cells = cells; info = info_before g choice more }) in
    ap (λ x. x >>= read) (attributes.reads q more)
    ∙ ap told (cells-again choice.plain_values (q + length (attribute_heads_bytes g)) predict (heads_in g) (points_in g) fit same)

body-mesh : (m : MeshParts) (choice : Choice) → IsMesh m → ConnectivitySpelled (is_packed (index_of choice)) (Mesh m)
    → AttributesSpelled choice.plain_values (Mesh m) (predict_chosen (Mesh m) choice)
    → length (values_of (Mesh m) (predict_chosen (Mesh m) choice)) ≡ length m.heads → (more : List ℕ)
    → mesh_at (profile_written (Mesh m) choice) (behind_header (Mesh m) choice more) ≡ Ok (meaning_before (Mesh m) choice more)
unfolding mesh_at mesh_behind
body-mesh m choice is connectivity attributes same more =
    let p = connectivity_place (Mesh m) in
    let bytes = sequential_attributes_bytes choice.plain_values (Mesh m) (predict_chosen (Mesh m) choice) ++ more in
    let of_mesh : StreamInfo → MeshParts → Result Meaning Fault = λ info mesh. Ok (record { geometry = Mesh mesh; surface = None; info = info }) in
    let built : PointsRead → Result Meaning Fault = λ read. mesh_of read.heads read.cells m.faces >>= of_mesh read.info in
    ap (λ x. x >>= λ indices. mesh_behind (profile_written (Mesh m) choice) p indices.0 indices.1)
    (indices_alike (written_number (Mesh m) choice) (behind_header (Mesh m) choice more) ∙ connectivity.reads p bytes)
    ∙ ap (λ x. x >>= built) (points-again (Mesh m) choice is.points.rows_fit attributes same more)
    ∙ ap (λ x. x >>= of_mesh (info_before (Mesh m) choice more)) (mesh_of-IsMesh m is)

body-cloud : (m : CloudParts) (choice : Choice) → IsCloud m → ConnectivitySpelled (is_packed (index_of choice)) (Cloud m)
    → AttributesSpelled choice.plain_values (Cloud m) (predict_chosen (Cloud m) choice)
    → length (values_of (Cloud m) (predict_chosen (Cloud m) choice)) ≡ length m.heads → (more : List ℕ)
    → cloud_at (profile_written (Cloud m) choice) (behind_header (Cloud m) choice more) ≡ Ok (meaning_before (Cloud m) choice more)
unfolding cloud_at cloud_behind
body-cloud m choice is connectivity attributes same more =
    let p = connectivity_place (Cloud m) in
    let bytes = sequential_attributes_bytes choice.plain_values (Cloud m) (predict_chosen (Cloud m) choice) ++ more in
    let of_cloud : StreamInfo → CloudParts → Result Meaning Fault = λ info cloud. Ok (record { geometry = Cloud cloud; surface = None; info = info }) in
    let built : PointsRead → Result Meaning Fault = λ read. cloud_of read.heads read.cells >>= of_cloud read.info in
    ap (λ x. x >>= λ points. cloud_behind (profile_written (Cloud m) choice) p points.0 points.1) (connectivity.reads p bytes)
    ∙ ap (λ x. x >>= built) (points-again (Cloud m) choice is.rows_fit attributes same more)
    ∙ ap (λ x. x >>= of_cloud (info_before (Cloud m) choice more)) (cloud_of-IsCloud m is)

body-written : (g : Geometry) (choice : Choice) → IsGeometry g → ConnectivitySpelled (is_packed (index_of choice)) g
    → AttributesSpelled choice.plain_values g (predict_chosen g choice) → length (values_of g (predict_chosen g choice)) ≡ length (heads_in g) → (more : List ℕ)
    → body_at (profile_written g choice) (written_form g) (behind_header g choice more) ≡ Ok (meaning_before g choice more)
body-written (Mesh m) choice is connectivity attributes same more = body-mesh m choice is connectivity attributes same more
body-written (Cloud m) choice is connectivity attributes same more = body-cloud m choice is connectivity attributes same more

-- a written stream means its geometry, whatever follows it
stream-before : (g : Geometry) (choice : Choice) → IsGeometry g → ConnectivitySpelled (is_packed (index_of choice)) g
    → AttributesSpelled choice.plain_values g (predict_chosen g choice) → length (values_of g (predict_chosen g choice)) ≡ length (heads_in g)
    → (more : List ℕ) → stream_in (profile_written g choice) (stream_bytes g choice ++ more) ≡ Ok (meaning_before g choice more)
unfolding stream_in stream_bytes
stream-before g choice is connectivity attributes same more =
    let h = header_bytes 0 g in
    let c = sequential_connectivity_bytes (is_packed (index_of choice)) g in
    let a = sequential_attributes_bytes choice.plain_values g (predict_chosen g choice) in
    ap (λ bytes. stream_in (profile_written g choice) bytes) (append_assoc h (c ++ a) more ∙ ap (λ behind. h ++ behind) (append_assoc c a more))
    ∙ ap (λ x. x >>= λ header. body_at (profile_written g choice) header.0 header.1) ((header_spelled g).reads 0 (c ++ (a ++ more)))
    ∙ body-written g choice is connectivity attributes same more

-- and alone
pub stream-written : (g : Geometry) (choice : Choice) → IsGeometry g → ConnectivitySpelled (is_packed (index_of choice)) g
    → AttributesSpelled choice.plain_values g (predict_chosen g choice) → length (values_of g (predict_chosen g choice)) ≡ length (heads_in g)
    → stream_in (profile_written g choice) (stream_bytes g choice) ≡ Ok (decoded_written g choice)
stream-written g choice is connectivity attributes same =
    ap (λ bytes. stream_in (profile_written g choice) bytes) (sym (append-nil (stream_bytes g choice))) ∙ stream-before g choice is connectivity attributes same []

length-written : (g : Geometry) (choice : Choice) → end_place g choice ≡ length (stream_bytes g choice)
unfolding stream_bytes
length-written g choice =
    let h = header_bytes 0 g in
    let c = sequential_connectivity_bytes (is_packed (index_of choice)) g in
    let a = sequential_attributes_bytes choice.plain_values g (predict_chosen g choice) in
    omega (arith, length-append h (c ++ a), length-append c a)

pub means : (g : Geometry) (choice : Choice) → method_of g choice ≡ method.Seq → IsGeometry g → ConnectivitySpelled (is_packed (index_of choice)) g
    → AttributesSpelled choice.plain_values g (predict_chosen g choice) → length (values_of g (predict_chosen g choice)) ≡ length (heads_in g)
    → Means g choice (stream_bytes g choice) (plain_rows (count_of g))
means g choice sequential is connectivity attributes same = record {
  decoded = decoded_written g choice;
  stream_is = stream-written g choice is connectivity attributes same;
  same = same-refl g;
  beside = subst (λ m. KeepsBeside (is_sequential m) g (decoded_written g choice) (plain_rows (count_of g))) (sym sequential) (refl, refl);
  whole = length-written g choice;
  followed = λ more. ap (λ x. x >>= λ d. Ok d.geometry) (stream-before g choice is connectivity attributes same more);
}
