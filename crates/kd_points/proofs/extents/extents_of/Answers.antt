use Rattle.std.proofs.Common.{◌≤◌, ◌++◌, List, [], ◌∷◌, ℕ, map, length, sym, ◌∙◌, ap, arith, zero-add}
use Rattle.std.specs.List.{range_with_len}
use Rattle.std.proofs.lemmas.List.FromFn.{map-range_with_len_more, length-map-range_with_len}
use Rattle.std.proofs.lemmas.List.Elements.{All-push}
use Rattle.kd_points.specs.declared.extents.Extent.{Extent}
use Rattle.kd_points.specs.Extents.{extent_of, column_of}
use Rattle.kd_points.proofs.extents.extents_of.Goals as goal

pub loop-component-preserved : goal.loop-component-preserved
loop-component-preserved c =
    let f : ℕ → Extent = λ component. extent_of (column_of component c.args.cloud.now.points) in
    let n = c.loop-component.component in
    rw c.in_ok-push.ensures.items (
      ap (λ (l : List Extent). l ++ c.extent_of.result ∷ []) c.loop-component.invariant.0
          ∙ ap (λ e. map f (range_with_len 0 n) ++ e ∷ []) c.extent_of.ensures.extent
          ∙ sym (map-range_with_len_more f 0 n n (zero-add n)),
      All-push (λ e. e.bits ≤ 32) c.loop-component.extents.items c.extent_of.result c.loop-component.invariant.1 c.extent_of.ensures.bits,
    )

pub returns-clause-len : goal.returns-clause-len
returns-clause-len c =
    let f : ℕ → Extent = λ component. extent_of (column_of component c.args.cloud.now.points) in
    let len = ap length c.loop-component.invariant.0 ∙ length-map-range_with_len f 0 c.loop-component.component in
    omega (arith, len)

pub returns-clause-few : goal.returns-clause-few
returns-clause-few c =
    let f : ℕ → Extent = λ component. extent_of (column_of component c.args.cloud.now.points) in
    let len = ap length c.loop-component.invariant.0 ∙ length-map-range_with_len f 0 c.loop-component.component in
    omega (arith, len)
