-- Two equal labels are two equal vertices.
use Rattle.std.proofs.Common.{List, ℕ, length, sym, ap, ◌∙◌, arith}
use Rattle.corner_table.specs.Table.{gluing_of}
use Rattle.eb_machine.specs.Machine.{first_degenerate}
use Rattle.eb_rebuild.specs.Alike.{first_alike}
use Rattle.eb_rebuild.specs.Rebuilding.{BuiltValue}
use Rattle.eb_rebuild.proofs.Equals.{first_degenerate_is}
use Rattle.eb_rebuild.proofs.built.Built.first_degenerate.Goals as goal

pub first_equal-requires-clause-within : goal.first_equal-requires-clause-within
first_equal-requires-clause-within c =
    let items = ap {A = List ℕ} length c.as_slice.ensures.items in
    let each = c.self.invariant.each_corner in
    let count = c.face_count-faces.ensures.count in
    omega arith

pub returns : goal.returns
returns c =
    let f = c.self.inside.table.faces in
    c.first_equal.ensures ∙ ap (first_alike c.as_slice.result.now) c.face_count-faces.ensures.count ∙ ap (λ (l : List ℕ). first_alike l f) c.as_slice.ensures.items
    ∙ sym (first_degenerate_is c.face_count-faces.ensures.gluing _ _ _ c.self.invariant f (omega arith))
    ∙ ap (λ (b : BuiltValue). first_degenerate b.table.faces (gluing_of b.table) b.table.faces) c.self.view_is
