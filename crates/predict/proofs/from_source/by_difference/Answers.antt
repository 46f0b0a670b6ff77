use Rattle.std.proofs.Common.{◌≡◌, length, rules, ap, sym, ◌∙◌, FitsSigned, w32, arith}
use Rattle.std.proofs.lemmas.Int.{to_z-of_z}
use Rattle.predict.specs.Restored.{entry_before}
use Rattle.predict.proofs.Puts.{behind_end}
use Rattle.predict.proofs.from_source.by_difference.Goals as goal

pub loop-i-preserved : goal.loop-i-preserved
loop-i-preserved g c =
    let fits : FitsSigned w32 c.value_before-foretold.result = search rules in
    let put = simp to_z-of_z at c.put_value.ensures.values in
    record {
      values = put (entry_before c.args.comps) (ap (entry_before c.args.comps) (sym c.as_slice.ensures.value) ∙ sym c.value_before-foretold.ensures) ∙ c.loop-i.invariant.values;
      left = omega (arith, c.loop-i.invariant.left, c.put_value.ensures.left);
      len = omega (arith, c.loop-i.invariant.len, c.put_value.ensures.len);
      capacity = c.put_value.ensures.capacity ∙ c.loop-i.invariant.capacity;
    }

pub returns-clause-values : goal.returns-clause-values
returns-clause-values g c =
    let none : length (g.C.CorrectionSource.left c.loop-i.source) ≡ 0 = omega (arith, c.loop-i.invariant.left, c.loop-i-test.false) in
    behind_end (entry_before c.args.comps) c.copy-wrap.result c.loop-i.values.items (g.C.CorrectionSource.left c.loop-i.source) _ none c.loop-i.invariant.values
