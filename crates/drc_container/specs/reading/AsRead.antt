-- Attributes on a surface as they are kept while they are read: of each decoder the entry of each class of corners, and the values of its
-- attributes, with the classes where the surface is cut at seams (Draco Bitstream Specification 2.2, section "Attributes Decoder"; what is
-- kept is this project's choice).
use Rattle.std.specs.Prelude.{ℕ, List, map, unwrap_or}
use Rattle.mesh_model.specs.Groups.{AttrTable, GroupParts, tables_of, group_tables}
use Rattle.corner_table.specs.Table.{gluing_of}
use Rattle.walk_order.specs.OfSurface.{fan_labels}
use Rattle.eb_rebuild.specs.Rebuilding.{BuiltValue}
use Rattle.eb_section.specs.Connectivity.{Connectivity}
use Rattle.drc_container.specs.declared.reading.surface_attributes.DecoderValues.{DecoderValues}
use Rattle.drc_container.specs.declared.reading.surface_attributes.DecoderRead.{DecoderRead}
use Rattle.drc_container.specs.declared.reading.surface_attributes.AttributesRead.{AttributesRead}
use Rattle.drc_container.specs.reading.OnSurface.{SurfaceAttributes}

-- the group of a decoder's attributes, where the corners of its surface have these classes
abbrev pub group_over : List ℕ → DecoderValues → GroupParts
group_over labels v = record { of_corner = labels; entry_of = v.entry_of_class; values = v.values.items }

-- the attributes of a decoder, where the corners of its surface have these classes
abbrev pub attributes_over : List ℕ → DecoderRead → SurfaceAttributes
attributes_over labels d = record { heads = d.heads; tables = tables_of (group_over labels d.values); info = d.info }

-- the classes of the corners of a stream's surface
abbrev pub classes_of : Connectivity → List ℕ
classes_of s = fan_labels s.faces s.glued

-- the classes of the corners of a finished surface
abbrev pub built_classes : BuiltValue → List ℕ
built_classes b = fan_labels b.table.faces (gluing_of b.table)

-- the group of a decoder's attributes: the classes are those of its own surface, where it is cut at seams, else those of the stream's
abbrev pub group_on : List ℕ → DecoderValues → GroupParts
group_on whole v = group_over (unwrap_or v.cut whole) v

-- the attributes of a decoder, in a stream whose surface has these classes
abbrev pub decoder_read_on : List ℕ → DecoderRead → SurfaceAttributes
decoder_read_on whole d = record { heads = d.heads; tables = tables_of (group_on whole d.values); info = d.info }

-- the tables of all decoders' attributes, in a stream whose surface has these classes
abbrev pub tables_on : List ℕ → List DecoderValues → List AttrTable
tables_on whole decoders = group_tables (map (group_on whole) decoders)

-- the attributes of all decoders, in a stream whose surface has these classes
abbrev pub attributes_read_on : List ℕ → AttributesRead → SurfaceAttributes
attributes_read_on whole a = record { heads = a.heads; tables = tables_on whole a.decoders; info = a.info }
