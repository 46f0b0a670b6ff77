-- The report of a stream (this project's choice).
use Rattle.std.specs.Prelude.{ℕ, ◌+◌, List, [], ◌∷◌, ◌++◌, length, codes, decimal, Result, Ok}
use Rattle.std.specs.List.{flat_map}
use Rattle.std.specs.Fmt.{signed_decimal}
use Rattle.drc_base.specs.Profile.{Profile, profile}
use Rattle.drc_base.specs.declared.faults.Fault.{Fault}
use Rattle.drc_base.specs.Steps.{◌>>=◌}
use Rattle.mesh_model.specs.declared.geometries.Geometry.{Geometry}
use Rattle.mesh_model.specs.declared.geometries.Geometry.TheVariants as geometry
use Rattle.drc_container.specs.reading.Stream.{stream_in}
use Rattle.drc_container.specs.declared.choice.methods.Method.{Method}
use Rattle.drc_container.specs.declared.choice.methods.Method.TheVariants as method
use Rattle.drc_container.specs.declared.reading.info.AttrInfo.{AttrInfo}
use Rattle.drc_container.specs.declared.reading.info.StreamInfo.{StreamInfo}
use Rattle.drc_container.specs.reading.Meaning.{Meaning}

-- a word, and numbers behind it, each after a space
abbrev pub field : List ℕ → List ℕ → List ℕ
field word numbers = word ++ flat_map (λ n. 32 ∷ decimal n) numbers

-- the end of a line
abbrev pub newline : List ℕ
newline = 10 ∷ []

-- a line of one word and its numbers
abbrev pub line : List ℕ → List ℕ → List ℕ
line word numbers = field word numbers ++ newline

-- the version, the geometry and the method of a mesh
abbrev pub mesh_words : Method → List ℕ
mesh_words method.Seq = codes "drc 2.2 mesh seq"
mesh_words method.Eb = codes "drc 2.2 mesh eb"
mesh_words method.Valence = codes "drc 2.2 mesh valence"

-- the version, the geometry and the method
abbrev pub form_words : Geometry → Method → List ℕ
form_words (geometry.Mesh m) how = mesh_words how
form_words (geometry.Cloud c) how = codes "drc 2.3 cloud seq"

-- the number of faces; a cloud has none
abbrev pub face_count : Geometry → ℕ
face_count (geometry.Mesh m) = length m.faces
face_count (geometry.Cloud c) = 0

-- the number of points
abbrev pub point_count : Geometry → ℕ
point_count (geometry.Mesh m) = length m.points
point_count (geometry.Cloud c) = length c.points

-- the declared numbers of Edgebreaker connectivity; a sequential stream has none
abbrev pub declared_line : StreamInfo → Method → List ℕ
declared_line info method.Seq = []
declared_line info how =
    field (codes "symbols") (info.symbols ∷ []) ++ field (codes " splits") (info.splits ∷ []) ++ line (codes " events") (info.events ∷ [])

-- the line of attribute k: its head, its prediction, the number of its entries, and the place of its prediction
abbrev pub info_attr_line : ℕ → AttrInfo → List ℕ
info_attr_line k a = field (codes "attr") (k ∷ a.head.usage ∷ a.head.dtype ∷ a.head.comps ∷ a.head.normalized ∷ a.head.id ∷ [])
    ++ codes " predict " ++ signed_decimal a.predict ++ field (codes " entries") (a.entries ∷ []) ++ line (codes " at") (a.at ∷ [])

-- the lines of attributes, the first of them attribute k
abbrev pub attr_lines : ℕ → List AttrInfo → List ℕ
attr_lines k [] = []
attr_lines k (a ∷ attrs) = info_attr_line k a ++ attr_lines (k + 1) attrs

-- the form of the stream, and where its connectivity stands: its place and its length
unfoldable pub info_first_lines : Meaning → List ℕ
info_first_lines d =
    form_words d.geometry d.info.method ++ newline ++ line (codes "connectivity") (d.info.connectivity.0 ∷ d.info.connectivity.1 ∷ [])

-- how many things the stream holds
unfoldable pub count_lines : Meaning → List ℕ
count_lines d =
    line (codes "faces") (face_count d.geometry ∷ [])
    ++ line (codes "points") (point_count d.geometry ∷ [])
    ++ declared_line d.info d.info.method

-- the last line: where the stream ends, and how many bytes follow
unfoldable pub end_line : StreamInfo → List ℕ
end_line info = field (codes "end") (info.end ∷ []) ++ line (codes " rest") (info.rest ∷ [])

-- the report of what a stream means and what is known of it
unfoldable pub info_text : Meaning → List ℕ
info_text d = info_first_lines d ++ count_lines d ++ attr_lines 0 d.info.attrs ++ end_line d.info

-- the report of a stream in a profile, or its first fault
abbrev pub report_in : Profile → List ℕ → Result (List ℕ) Fault
report_in p bytes = stream_in p bytes >>= λ d. Ok (info_text d)

-- the same in the profile of decoding
abbrev pub report_of : List ℕ → Result (List ℕ) Fault
report_of bytes = report_in profile bytes
