use Rattle.std.proofs.Common.{◌≡◌, ◌≤◌, ◌+◌, ◌*◌, length, rules, ap, sym, ◌∙◌, FitsSigned, w32, arith, List, ℤ}
use Rattle.std.proofs.lemmas.Int.{to_z-of_z}
use Rattle.std.proofs.lemmas.List.{take_all}
use Rattle.predict.specs.Multi.{by_many}
use Rattle.predict.proofs.multi_from_source.put_by_mean.Goals as goal

pub loop-j-preserved : goal.loop-j-preserved
loop-j-preserved g c =
    let fits : FitsSigned w32 c.mean_of-foretold.result = search rules in
    let put = simp to_z-of_z at c.put_value.ensures.values in
    let same : length c.as_slice.result.now ≡ length c.loop-j.values.items = ap (λ xs. length xs) c.as_slice.ensures.value in
    let len : length c.loop-j.values.items ≡ c.args.e * c.args.comps + c.loop-j.j = omega (arith, same, c.as_slice.ensures.len, c.loop-j.invariant.len) in
    let all : length c.as_slice.result.now ≤ c.args.e * c.args.comps + c.loop-j.j = omega (arith, same, len) in
    record {
      values = λ f foretells. put f (foretells c.loop-j.j c.loop-j.values.items c.loop-j-test.true len
          ∙ ap (λ (v : List ℤ). by_many c.args.comps c.args.faces.now c.loop-j.j v) (sym (take_all (c.args.e * c.args.comps + c.loop-j.j) c.as_slice.result.now all ∙ c.as_slice.ensures.value))
          ∙ sym c.mean_of-foretold.ensures)
          ∙ c.loop-j.invariant.values f foretells;
      left = omega (arith, c.loop-j.invariant.left, c.put_value.ensures.left);
      len = omega (arith, c.loop-j.invariant.len, c.put_value.ensures.len);
      capacity = c.put_value.ensures.capacity ∙ c.loop-j.invariant.capacity;
    }
