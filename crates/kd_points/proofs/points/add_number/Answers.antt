use Rattle.std.proofs.Common.{◌≡◌, ◌<◌, ◌+◌, length, get_or, drop, arith, inl, inr, sym, ◌∙◌, subst}
use Rattle.std.proofs.lemmas.Bool.{cases_Bool}
use Rattle.std.proofs.lemmas.List.{get_or_default}
use Rattle.kd_tree.specs.Keys.{Key}
use Rattle.kd_tree.specs.Trees.{high_bits}
use Rattle.kd_tree.proofs.Bits.{length-high_bits}
use Rattle.kd_points.specs.declared.axes.Axis.{Axis}
use Rattle.kd_points.specs.Keys.{offset_in}
use Rattle.kd_points.proofs.Offsets.{low-bit, high-bit, high-most}
use Rattle.kd_points.proofs.points.add_number.Goals as goal

none : Axis
none = record { component = 0; bit = 0 }

pub add_bit-requires-clause-fits : goal.add_bit-requires-clause-fits
unfolding none
add_bit-requires-clause-fits c = λ bit.
    let axes = c.args.axes.now in
    let key : Key = high_bits (length c.args.axes.now) c.args.number in
    let d = c.loop-d.d in
    let axis : Axis = get_or axes d none in
    let more : d < length axes = c.loop-d-test.true in
    let long : d < length key = omega (arith, length-high_bits (length axes) c.args.number, more) in
    let inside : axis.component < length c.loop-d.offsets = omega (arith, (c.requires.lie d none more).0, c.loop-d.invariant.1) in
    let most = high-most axes key d axis (get_or c.loop-d.offsets axis.component 0) (offset_in axes key axis.component) more long (sym c.bit_in.ensures ∙ bit)
    (get_or_default axes d none axis more) (c.loop-d.invariant.0 axis.component inside) in
    omega (arith, most, c.requires.fit axis.component)

pub loop-d-preserved : goal.loop-d-preserved
unfolding none
loop-d-preserved c =
    let axes = c.args.axes.now in
    let key : Key = high_bits (length c.args.axes.now) c.args.number in
    let d = c.loop-d.d in
    let offsets = c.loop-d.offsets in
    let axis : Axis = get_or axes d none in
    let more : d < length axes = c.loop-d-test.true in
    let long : d < length key = omega (arith, length-high_bits (length axes) c.args.number, more) in
    let inside : axis.component < length offsets = omega (arith, (c.requires.lie d none more).0, c.loop-d.invariant.1) in
    let same : length c.add_bit.new.offsets ≡ length offsets = c.add_bit.auto.offsets in (
      λ j low.
          let so = c.loop-d.invariant.0 j (omega (arith, low, same)) in
          elim (cases_Bool c.bit_in.result) [
            | inl is ↦
                subst (λ o. get_or o j 0 + offset_in (drop (d + 1) axes) (drop (d + 1) key) j ≡ offset_in axes key j) (sym (c.add_bit.ensures.high is))
                (high-bit axes key d axis offsets j (offset_in axes key j) more long (sym c.bit_in.ensures ∙ is) (get_or_default axes d none axis more) inside so)
            | inr fails ↦
                subst (λ o. get_or o j 0 + offset_in (drop (d + 1) axes) (drop (d + 1) key) j ≡ offset_in axes key j) (sym (c.add_bit.ensures.low fails))
                (low-bit axes key d axis j (get_or offsets j 0) (offset_in axes key j) more long (sym c.bit_in.ensures ∙ fails) so)
          ],
      same ∙ c.loop-d.invariant.1,
    )
