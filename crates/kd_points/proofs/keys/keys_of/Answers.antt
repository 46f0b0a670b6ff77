use Rattle.std.proofs.Common.{◌≡◌, ◌<◌, ◌++◌, List, [], ◌∷◌, length, get_or, map, take, sym, ◌∙◌, ap, subst, arith, ℤ}
use Rattle.std.specs.List.{All}
use Rattle.std.proofs.lemmas.List.{map_more}
use Rattle.attr_heads.specs.Head.{width_of}
use Rattle.kd_tree.specs.Keys.{Key, KeyRows}
use Rattle.kd_points.specs.Extents.{axes_over, key_within, offset_of}
use Rattle.kd_points.specs.Keys.{key_of}
use Rattle.kd_points.proofs.Lying.{IsAxis, axes_lie, length-extents_of, least_below}
use Rattle.kd_points.proofs.keys.keys_of.Goals as goal

pub push_key-requires-clause-len : goal.push_key-requires-clause-len
push_key-requires-clause-len c = ap length c.requires.extents ∙ length-extents_of c.args.cloud.now ∙ sym c.point.ensures.len

pub push_key-requires-clause-lie : goal.push_key-requires-clause-lie
push_key-requires-clause-lie c = subst (λ axes. All (IsAxis (length c.args.extents.now)) axes) (sym c.requires.axes) (axes_lie c.args.extents.now c.requires.small)

pub push_key-requires-clause-above : goal.push_key-requires-clause-above
push_key-requires-clause-above c = λ j inside.
    let points = c.args.cloud.now.points in
    let within : c.loop-p.p < length points = omega arith in
    let narrow : j < width_of c.args.cloud.now.heads = omega (arith, inside, c.point.ensures.len) in
    rw (c.requires.extents, c.point.ensures.row) (least_below c.args.cloud.now c.loop-p.p j within narrow)

pub loop-p-preserved : goal.loop-p-preserved
unfolding key_within
loop-p-preserved c =
    let points = c.args.cloud.now.points in
    let extents = c.args.extents.now in
    let p = c.loop-p.p in
    let f = key_within extents in
    let inside : p < length points = omega arith in
    let row : List ℤ = get_or points p [] in
    let key : key_of c.args.axes.now (offset_of extents c.point.result.now) ≡ f row =
    ap (λ axes. key_of axes (offset_of extents c.point.result.now)) c.requires.axes
    ∙ ap (λ r. key_of (axes_over extents) (offset_of extents r)) c.point.ensures.row in
    let behind : KeyRows → KeyRows = λ k. record { depth = k.depth; rows = k.rows ++ key_of c.args.axes.now (offset_of extents c.point.result.now) ∷ [] } in
    let whole : List Key → KeyRows = λ rows. record { depth = c.args.depth; rows = rows } in
    c.in_ok-push_key.ensures
    ∙ ap behind c.loop-p.invariant
    ∙ ap whole (ap (λ k. map f (take p points) ++ k ∷ []) key ∙ sym (map_more f points p [] inside))
