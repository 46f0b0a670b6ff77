use Rattle.eb_trace.proofs.StartBits.{walk_orders, walk_is_readable}
use Rattle.eb_trace.proofs.Counted.{walk_passes_fronts, walk_is_counted, walk_needs_all}
use Rattle.eb_trace.proofs.Splits.{walk_notes_splits}
use Rattle.eb_trace.proofs.Given.{walk_carries, walk_is_kept}
use Rattle.eb_trace.proofs.laws.walk_keeps_surface.Goals as goal

pub returns : goal.returns
returns c = record { order = walk_orders; carried = walk_carries; told = walk_is_readable; splits = walk_notes_splits; fronts = walk_passes_fronts; counted = walk_is_counted; kept = walk_is_kept; needed = walk_needs_all }
