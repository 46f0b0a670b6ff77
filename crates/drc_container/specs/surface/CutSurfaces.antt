-- A surface that was cut at seams, with what was made of it (Draco Bitstream Specification 2.2, section "Edgebreaker Connectivity",
-- attribute seams; that it is kept for the decoders behind is this project's choice).
use Rattle.std.specs.Prelude.{◌≡◌}
use Rattle.corner_table.specs.Table.{Table, gluing_of}
use Rattle.corner_table.specs.Labels.{IsLabelled}
use Rattle.seams.specs.Seams.{flag_at, unseamed}
use Rattle.drc_container.specs.declared.surface.cut_surfaces.CutSurface.{CutSurface}
use Rattle.drc_container.specs.surface.MadeOrders.{AreOrders}

-- a surface that was cut out of a table's at the flags that are kept with it: its classes are its fans, and the orders are its own
pub record IsCutFrom (t : Table) (u : CutSurface) : Type 0 where
  pub faces : u.sides.faces ≡ t.faces
  pub pairs : gluing_of u.sides ≡ unseamed (flag_at u.flags.items) (gluing_of t)
  pub classes : IsLabelled u.sides.faces (gluing_of u.sides) u.classes.value.of_corner u.classes.value.count u.classes.value.ends
  pub orders : AreOrders u.sides u.classes.value.of_corner u.orders
