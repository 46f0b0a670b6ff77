use Rattle.std.proofs.Common.{◌++◌, [], ◌∷◌, replicate, List, ◌∙◌, ap, append_assoc}
use Rattle.std.proofs.lemmas.List.{replicate_more}
use Rattle.attr_heads.specs.declared.bounds.Bounds.{Bounds}
use Rattle.kd_points.proofs.points.append_bounds.Goals as goal

pub loop-component-preserved : goal.loop-component-preserved
loop-component-preserved c =
    let old = c.args.row.now.items in
    let n = c.loop-component._component in
    c.in_ok-push.ensures.items
    ∙ ap (λ (l : List Bounds). l ++ c.args.bounds ∷ []) c.loop-component.invariant
    ∙ append_assoc old (replicate n c.args.bounds) (c.args.bounds ∷ [])
    ∙ ap (λ l. old ++ l) (replicate_more n c.args.bounds)
