use Rattle.drc_base.specs.Profile.{profile_numbered}
use Rattle.std.proofs.Common.{◌≡◌, ◌*◌, ◌≤◌, true, length, map}
use Rattle.std.specs.Prelude.{IfSome}
use Rattle.std.specs.List.{All}
use Rattle.std.specs.Vec.Iter.{into_iter_items}
use Rattle.drc_base.specs.declared.limits.TheConstants.{MAX_VALUES}
use Rattle.mesh_model.specs.Assembled.{AreAttrTables}
use Rattle.mesh_model.specs.Groups.{HasVertices}
use Rattle.attr_heads.specs.HeadItems.{HeadPasses}
use Rattle.attr_section.specs.Orders.{HasCoordinates}
use Rattle.eb_section.specs.Connectivity.{meaning}
use Rattle.drc_container.specs.reading.OnSurface.{HasSeams, no_attributes, surface_decoders_at, values_on}
use Rattle.drc_container.specs.reading.AsRead.{classes_of, built_classes, group_on, tables_on}
use Rattle.drc_container.specs.surface.MadeOrders.{AreOrders}
use Rattle.drc_container.specs.surface.CutSurfaces.{IsCutFrom}
use Rattle.drc_container.proofs.reading.decoders.read_each.Given as goal

abbrev pub invariant-loop-decoder : goal.invariant-loop-decoder
invariant-loop-decoder l =
    let s = meaning l.surface in
    let tables = tables_on (classes_of s) l.values.items in
    record {
      rest :
          surface_decoders_at (profile_numbered l.profile.number) s (record { heads = l.heads.items; tables = tables; info = l.info.items }) (into_iter_items l.decoder-iterator) l.c
          ≡ surface_decoders_at (profile_numbered l.profile.number) s no_attributes l.fn.decoders.items l.fn.c;
      spent : l.spent ≡ values_on tables;
      few : l.spent ≤ MAX_VALUES;
      columns : AreAttrTables (3 * s.faces) l.heads.items tables;
      vertices : All (HasVertices (3 * s.faces)) (map (group_on (classes_of s)) l.values.items);
      orders : AreOrders l.surface.sides.table (built_classes l.surface.sides) l.orders;
      kept : IfSome l.kept (IsCutFrom l.surface.sides.table);
      heads : All (λ d. All HeadPasses d.heads) (into_iter_items l.decoder-iterator);
      squares : All (λ d. All HasCoordinates d.heads) (into_iter_items l.decoder-iterator);
      seams : All (λ d. d.corner ≡ true → HasSeams (length l.surface.seams) d) (into_iter_items l.decoder-iterator);
    }
