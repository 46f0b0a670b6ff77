use Rattle.std.proofs.Common.{◌≡◌, ℕ, ◌+◌, ◌*◌, ◌<◌, ◌≤◌, ◌++◌, true, false, replicate, length, vec_len, refl, arith, rules, ap, sym, ◌∙◌, subst, add-mul}
use Rattle.drc_bits.specs.Bits.{bits_left, bytes_for}
use Rattle.symbol_coding.specs.Block.{values_in_groups, with_values}
use Rattle.symbol_coding.proofs.Values.{group-long, group-missing, group-taken, group-values, groups-end, groups-taken, less-left, long_of, short_of, taken-there, values_in-few}
use Rattle.symbol_coding.proofs.reading.read_groups.Goals as goal

pub returns-then-width-gt32-clause-values : goal.returns-then-width-gt32-clause-values
returns-then-width-gt32-clause-values c =
    long_of c.args.long _ c.requires.long (group-long c.args.long.at c.args.short.at c.args.comps c.args.groups c.loop-g.g c.pull-width.result c.args.table.now c.loop-g.values.items c.loop-g.decoder c.pull-width.new.decoder c.loop-g.reader _
    c.loop-g-test.true c.requires.comps c.pull-width.ensures.symbol c.pull-width.ensures.after c.if-width-gt32.true c.loop-g.invariant.values)

pub returns-then-not-has-clause-values : goal.returns-then-not-has-clause-values
returns-then-not-has-clause-values c =
    let n : ℕ = c.args.comps * c.pull-width.result in
    let left : ℕ = length (bits_left c.loop-g.reader) in
    let few : left < n = less-left n left false (subst (λ m. m ≤ left → false ≡ true) (ap (λ k. k * c.from-in-loop-g.result) c.from.ensures ∙ ap (λ k. c.args.comps * k) c.from-in-loop-g.ensures) c.if-not-has.ensures.1) refl in
    short_of c.args.short _ c.requires.short (group-missing c.args.long.at c.args.short.at c.args.comps c.args.groups c.loop-g.g c.pull-width.result c.args.table.now c.loop-g.values.items c.loop-g.decoder c.pull-width.new.decoder c.loop-g.reader _
    c.loop-g-test.true c.pull-width.ensures.symbol c.pull-width.ensures.after
    (λ long short ws. values_in-few long short c.pull-width.result c.args.comps ws (bits_left c.loop-g.reader) c.loop-g.values.items (omega (arith, c.if-width-gt32.false)) few) c.loop-g.invariant.values)

pub loop-g-preserved : goal.loop-g-preserved
loop-g-preserved c = record {
  values = group-values c.args.long.at c.args.short.at c.args.comps c.args.groups c.loop-g.g c.pull-width.result c.args.table.now c.loop-g.values.items c.read_group.new.values.items c.loop-g.decoder c.pull-width.new.decoder c.loop-g.reader c.read_group.new.reader _
      c.loop-g-test.true c.pull-width.ensures.symbol c.pull-width.ensures.after
      (λ long short ws. ap (λ xs. with_values xs (values_in_groups long short (replicate c.args.comps c.pull-width.result ++ ws) (bits_left c.loop-g.reader))) (sym c.in_ok-reserve.ensures.items) ∙ c.read_group.ensures.values long short ws)
      c.loop-g.invariant.values;
  bits = search rules;
  taken = group-taken c.args.comps c.args.groups c.loop-g.g c.pull-width.result c.loop-g.reader.taken c.read_group.new.reader.taken _ c.args.table.now c.loop-g.decoder c.pull-width.new.decoder
      c.loop-g-test.true c.pull-width.ensures.symbol c.pull-width.ensures.after c.read_group.ensures.taken c.loop-g.invariant.taken;
  bytes = c.read_group.ensures.bytes ∙ c.loop-g.invariant.bytes;
  within = taken-there (c.args.comps * c.pull-width.result) c.read_group.new.reader.taken c.args.bytes.now c.loop-g.reader c.loop-g.invariant.bytes
      (subst (λ m. m ≤ length (bits_left c.loop-g.reader)) (ap (λ k. k * c.from-in-loop-g.result) c.from.ensures ∙ ap (λ k. c.args.comps * k) c.from-in-loop-g.ensures) (c.if-not-has.ensures.0 refl))
      c.loop-g.invariant.within c.read_group.ensures.taken;
  len =
      let m : (c.loop-g.g + 1) * c.args.comps ≡ c.loop-g.g * c.args.comps + 1 * c.args.comps = add-mul c.loop-g.g 1 c.args.comps in
      let l : length c.reserve.new.self.items ≡ length c.loop-g.values.items = ap (λ xs. length xs) c.in_ok-reserve.ensures.items in
      let same : vec_len c.reserve.new.self ≡ vec_len c.loop-g.values = first_of (omega (arith, l, c.reserve.new.self.ok, c.loop-g.values.ok), search rules) in
      omega (arith, m, c.read_group.ensures.len, c.loop-g.invariant.len, same);
}

pub returns-clause-values : goal.returns-clause-values
returns-clause-values c =
    let e : c.loop-g.g ≡ c.args.groups = omega arith in
    groups-end c.args.long.at c.args.short.at c.args.comps c.args.groups c.args.table.now c.loop-g.values.items c.loop-g.decoder c.loop-g.reader _ (rw e at c.loop-g.invariant.values)

pub returns-clause-used : goal.returns-clause-used
returns-clause-used c =
    let e : c.loop-g.g ≡ c.args.groups = omega arith in
    c.used.ensures ∙ ap bytes_for (groups-taken c.args.comps c.args.groups c.loop-g.reader.taken _ c.args.table.now c.loop-g.decoder (rw e at c.loop-g.invariant.taken))
