-- The first corner that gives a start.
use Rattle.std.proofs.Common.{refl}
use Rattle.corner_table.specs.Sides.{side_at}
use Rattle.eb_trace.specs.Stored.{traced_gluing}
use Rattle.eb_trace.proofs.Tables.{started_first, started_second, started_third}
use Rattle.eb_trace.proofs.surface.Surface.start_corner.Goals as goal

pub returns-in-Some-clause-corner : goal.returns-in-Some-clause-corner
returns-in-Some-clause-corner c = started_first c.args.self.now.faces (traced_gluing c.args.self.now) c.args.face _ c.in-Some.ensures.corner (side_at c.in-Some.first) refl

pub returns-in-Some-start_by-clause-corner : goal.returns-in-Some-start_by-clause-corner
returns-in-Some-start_by-clause-corner c = started_second c.args.self.now.faces (traced_gluing c.args.self.now) c.args.face _ _ c.in-None.ensures.corner refl c.in-Some-start_by.ensures.corner (side_at c.in-Some-start_by.second) refl

pub returns-in-None-start_by-clause-corner : goal.returns-in-None-start_by-clause-corner
returns-in-None-start_by-clause-corner c = started_third c.args.self.now.faces (traced_gluing c.args.self.now) c.args.face _ _ _ c.in-None.ensures.corner refl c.in-None-start_by.ensures.corner refl c.start_by-in-None-start_by.ensures.corner
