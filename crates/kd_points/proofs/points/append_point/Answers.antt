use Rattle.std.proofs.Common.{◌≡◌, ◌++◌, [], ◌∷◌, true, false, min, get_or, arith, rules, FitsSigned, w64, subst}
use Rattle.std.proofs.lemmas.Int.{to_z-of_z}
use Rattle.attr_heads.specs.Bounds.{in_bounds, no_bounds}
use Rattle.kd_points.specs.Extents.{integer_at}
use Rattle.kd_points.proofs.Scanned.{scan-next}
use Rattle.kd_points.proofs.points.append_point.Goals as goal

pub loop-component-preserved : goal.loop-component-preserved
loop-component-preserved c =
    let bounds = get_or c.args.row.now c.loop-component.component no_bounds in
    let fits : FitsSigned w64 c.integer_at-value.result = search rules in
    scan-next c.args.row.now (integer_at c.args.extents.now c.args.offsets.now) c.args.before c.args.cells.now.items c.loop-component.cells.items c.append_value.new.cells.items
    c.loop-component.component c.loop-component.outside c.in_ok-outside.outside (omega arith) c.loop-component.invariant
    (subst (λ v. in_bounds bounds v ≡ true → (c.in_ok-outside.outside ≡ c.loop-component.outside) × (c.append_value.new.cells.items ≡ c.loop-component.cells.items ++ v ∷ [])) c.integer_at-value.ensures
    (simp to_z-of_z at c.in_ok-outside.ensures.typed))
    (subst (λ v. in_bounds bounds v ≡ false → c.in_ok-outside.outside ≡ min c.loop-component.outside c.loop-component.component) c.integer_at-value.ensures
    (simp to_z-of_z at c.in_ok-outside.ensures.outside))
