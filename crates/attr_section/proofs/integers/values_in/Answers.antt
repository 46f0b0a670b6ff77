use Rattle.std.proofs.Common.{rules, ◌*◌, refl, FitsSigned, w32, arith}
use Rattle.std.proofs.lemmas.Int.{to_z-of_z}
use Rattle.attr_section.proofs.PlainValues.{values-more, values-end}
use Rattle.attr_section.proofs.integers.values_in.Goals as goal

pub loop-k-preserved : goal.loop-k-preserved
loop-k-preserved c =
    let fits : FitsSigned w32 c.signed_of.result = search rules in
    let items = simp to_z-of_z at c.push_reserved.ensures.items in
    let is = c.signed_of.ensures in
    record {
      values = values-more c.args.width c.args.n c.loop-k.k (c.loop-k.k * c.args.width) c.number_in-symbol.result c.signed_of.result c.args.bytes.now c.loop-k.values.items c.push_reserved.new.self.items
          (omega arith) refl c.number_in-symbol.ensures is items c.loop-k.invariant.values;
      len = search rules;
      capacity = search rules;
    }

pub returns-clause-values : goal.returns-clause-values
returns-clause-values c = values-end c.args.width c.args.n c.loop-k.k c.args.bytes.now c.loop-k.values.items (omega arith) c.loop-k.invariant.values
