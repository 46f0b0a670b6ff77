-- The lists are those of the table.
use Rattle.std.proofs.Common.{ℕ, List, length, refl, ap, arith}
use Rattle.corner_table.specs.Table.{glued_in}
use Rattle.eb_trace.proofs.Tables.{surface_is}
use Rattle.eb_trace.proofs.surface.counted_surface.Goals as goal

pub returns-clause-surface : goal.returns-clause-surface
returns-clause-surface g c = surface_is _ _ _ _ _ _ c.face_count.ensures.count (let r = c.face_count.ensures.room in let l = c.face_count.ensures.limit in omega arith)
    (let r = c.face_count.ensures.room in let n = c.face_count.ensures.count in let e = ap (λ (l : List ℕ). length l) c.across.ensures.entries in omega arith) (ap glued_in c.across.ensures.entries) c.face_count.ensures.gluing c.in_ok-classes.ensures.labels c.into_vec.ensures c.into_vec-2.ensures refl
