use Rattle.std.proofs.Common.{◌≡◌, ◌++◌, length, arith, sym, ◌∙◌, ap, map, sum, List, ℕ}
use Rattle.std.proofs.lemmas.List.{length-map}
use Rattle.kd_points.specs.declared.axes.Axis.{Axis}
use Rattle.kd_points.specs.Axes.{axes_in}
use Rattle.kd_points.specs.Extents.{axes_over}
use Rattle.kd_points.proofs.Axed.{length-axes_in}
use Rattle.kd_points.proofs.axes.axes_over.Goals as goal

pub append_axes-requires : goal.append_axes-requires
append_axes-requires c =
    let bits : List ℕ = map (λ e. e.bits) c.args.extents.now in
    let is : c.deref_mut.result.now ≡ bits = c.deref_mut.ensures.value ∙ c.in_ok-left.ensures in
    record {
      few = rw is (omega (arith, length-map c.args.extents.now (λ e. e.bits), c.requires.few));
      all = ap sum is ∙ sym c.depth_of-depth.ensures.depth;
    }

pub returns-clause-axes : goal.returns-clause-axes
unfolding axes_over
returns-clause-axes c =
    let bits : List ℕ = map (λ e. e.bits) c.args.extents.now in
    let is : c.deref_mut.result.now ≡ bits = c.deref_mut.ensures.value ∙ c.in_ok-left.ensures in
    let depth = c.depth_of-depth.result in
    c.in_ok-append_axes.ensures
    ∙ ap (λ (l : List Axis). l ++ axes_in depth c.deref_mut.result.now) c.in_ok-axes.ensures.items
    ∙ ap (λ l. axes_in depth l) is
    ∙ ap (λ d. axes_in d bits) c.depth_of-depth.ensures.depth

pub returns-clause-len : goal.returns-clause-len
returns-clause-len c =
    let depth = c.depth_of-depth.result in
    ap length (c.in_ok-append_axes.ensures ∙ ap (λ (l : List Axis). l ++ axes_in depth c.deref_mut.result.now) c.in_ok-axes.ensures.items)
    ∙ length-axes_in depth c.deref_mut.result.now
    ∙ c.depth_of-depth.ensures.depth
