-- The lists are the table's and the classes'.
use Rattle.std.proofs.Common.{◌≡◌, ◌*◌, ◌/◌, ◌<◌, ◌≤◌, ℕ, List, length, map, sym, subst, ap, ◌∙◌, arith}
use Rattle.std.specs.List.{All}
use Rattle.corner_table.specs.Sides.{side_at}
use Rattle.corner_table.specs.Table.{room_of}
use Rattle.corner_table.specs.Ordered.{AreFaces, FitTogether, ordered_from}
use Rattle.worked_surfaces.proofs.Fitting.{fit, over}
use Rattle.worked_surfaces.proofs.orders.order_by.Goals as goal

pub faces_of-requires-clause-fit : goal.faces_of-requires-clause-fit
faces_of-requires-clause-fit g c =
    let t = c.args.t.now in
    let classes = c.in_ok-classes.classes in
    let table = c.face_count.ensures in
    let count = table.count in
    let fits : t.faces ≤ room_of t = omega (arith, table.room, count) in
    let whole = fit t classes.of_corner classes.count classes.ends c.in_ok-classes.ensures.labels c.across-across.result.now c.in_ok-entries.entries.items
    c.across-across.ensures.entries table.entries fits table.limit table.gluing c.in_ok-entries.ensures in
    subst (λ (l : List ℕ). FitTogether (length l / 3) c.across-across.result.now l c.as_slice.result.now) (sym c.as_slice-labels.ensures.items)
    (subst (FitTogether (length classes.of_corner / 3) c.across-across.result.now classes.of_corner) (sym c.as_slice.ensures.value) whole)

pub returns : goal.returns
returns g c =
    let t = c.args.t.now in
    let classes = c.in_ok-classes.classes in
    let count = c.face_count.ensures.count in
    let within : All (λ (n : ℕ). n < 3 * t.faces) c.args.corners.now =
    subst (λ (n : ℕ). All (λ (k : ℕ). k < 3 * n) c.args.corners.now) count (c.all_below.ensures c.if-not-all_below.false) in
    let faces : AreFaces (ordered_from c.across-across.result.now classes.of_corner c.in_ok-entries.entries.items (map side_at c.args.corners.now)) c.in_ok-faces.faces.items =
    subst (λ (l : List ℕ). AreFaces (ordered_from c.across-across.result.now l c.in_ok-entries.entries.items (map side_at c.args.corners.now)) c.in_ok-faces.faces.items) c.as_slice-labels.ensures.items
    (subst (λ (l : List ℕ). AreFaces (ordered_from c.across-across.result.now c.as_slice-labels.result.now l (map side_at c.args.corners.now)) c.in_ok-faces.faces.items) c.as_slice.ensures.value c.in_ok-faces.ensures) in
    over t classes.of_corner classes.count classes.ends c.in_ok-classes.ensures.labels c.across-across.result.now c.in_ok-entries.entries.items c.args.corners.now c.in_ok-faces.faces.items _
    c.across-across.ensures.entries c.in_ok-entries.ensures within faces (c.from_vec.ensures ∙ c.in_ok-from_slice.ensures.items) c.from_vec-2.ensures c.from_vec-3.ensures
