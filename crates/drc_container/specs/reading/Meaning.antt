-- What a stream means: its geometry, the surface of an Edgebreaker mesh, and what is known of it beside them (Draco Bitstream
-- Specification 2.2, section "Draco Decoder"; what is answered beside the geometry is this project's choice).
use Rattle.std.specs.Prelude.{ℕ, ◌-◌, List, [], ◌∷◌, length, Option, option_map, Result, Ok, if◌then◌else◌}
use Rattle.drc_base.specs.declared.faults.Fault.{Fault}
use Rattle.drc_base.specs.declared.faults.Refusal.{Refusal}
use Rattle.drc_base.specs.Steps.{◌>>=◌}
use Rattle.drc_bits.specs.Reading.{Reading}
use Rattle.attr_heads.specs.declared.heads.Head.{Head}
use Rattle.mesh_model.specs.declared.geometries.Geometry.{Geometry}
use Rattle.corner_table.specs.Sides.{Gluing}
use Rattle.corner_table.specs.Table.{gluing_of}
use Rattle.eb_rebuild.specs.Rebuilding.{BuiltValue}
use Rattle.attr_section.specs.declared.values.Values.{Values}
use Rattle.eb_section.specs.Connectivity.{Connectivity}
use Rattle.drc_container.specs.declared.choice.methods.Method.{Method}
use Rattle.drc_container.specs.declared.choice.methods.Method.TheVariants as method
use Rattle.drc_container.specs.declared.reading.attributes.Attributes.{Attributes}
use Rattle.drc_container.specs.declared.reading.info.AttrInfo.{AttrInfo}
use Rattle.drc_container.specs.declared.reading.info.StreamInfo.{StreamInfo}
use Rattle.drc_container.specs.declared.reading.info.ConnectivityInfo.{ConnectivityInfo}
use Rattle.drc_container.specs.declared.reading.info.Decoded.{Decoded}

-- a surface: how many faces there are, and how their sides are glued
pub record Surface : Type 0 where
  pub faces : ℕ
  pub glued : Gluing

-- what a stream means: a geometry, the surface of its faces in an Edgebreaker stream alone, and what is known of it
pub record Meaning : Type 0 where
  pub geometry : Geometry
  pub surface : Option Surface
  pub info : StreamInfo

-- the surface of a finished rebuilding
abbrev pub surface_in : BuiltValue → Surface
surface_in b = record { faces = b.table.faces; glued = gluing_of b.table }

-- what was decoded, as the stream says it: the surface is that of the table
abbrev pub told_by : Decoded → Meaning
told_by d = record { geometry = d.geometry; surface = option_map surface_in d.sides; info = d.info }

-- the geometry of what is due
abbrev pub geometry_due : Result Meaning Fault → Result Geometry Fault
geometry_due due = due >>= λ m. Ok m.geometry

-- the geometry of what was decoded
abbrev pub geometry_read : Result Decoded Refusal → Result Geometry Refusal
geometry_read read = read >>= λ d. Ok d.geometry

-- what is known of these attributes, which have so many entries
abbrev pub attr_infos : ℕ → List Head → List Values → List AttrInfo
attr_infos entries [] values = []
attr_infos entries (h ∷ heads) [] = []
attr_infos entries (h ∷ heads) (v ∷ values) =
    record { head = h; predict = v.predict; entries = entries; at = v.at } ∷ attr_infos entries heads values

-- what is known of a stream with these attributes: its connectivity stands between two places, and its end is a reading
abbrev pub stream_info : ℕ → ℕ → ConnectivityInfo → List AttrInfo → Reading → StreamInfo
stream_info from to c attrs end = record {
  method = c.method;
  connectivity = (from, to - from);
  symbols = c.symbols;
  splits = c.splits;
  events = c.events;
  attrs = attrs;
  end = end.place;
  rest = length end.rest;
}

-- what is known of a sequential stream, which declares nothing of the kind
abbrev pub sequential_info : ℕ → ℕ → ℕ → Attributes → Reading → StreamInfo
sequential_info from to entries a end =
    stream_info from to (record { method = method.Seq; symbols = 0; splits = 0; events = 0 }) (attr_infos entries a.heads a.values) end

-- the method of Edgebreaker: standard, or by valence
abbrev pub method_read : Connectivity → Method
method_read s = if s.valence then method.Valence else method.Eb

-- what is known of an Edgebreaker stream with these attributes
abbrev pub edgebreaker_info : ℕ → ℕ → Connectivity → List AttrInfo → Reading → StreamInfo
edgebreaker_info from to s attrs end =
    stream_info from to (record { method = method_read s; symbols = s.symbols; splits = s.splits; events = s.events }) attrs end
