use Rattle.std.proofs.Common.{◌∙◌, rules, sym}
use Rattle.symbol_coding.proofs.Values.{bits-taken, bits-there, group-next, taken-more, there-more, there-next}
use Rattle.symbol_coding.proofs.reading.read_group.Goals as goal

pub unwrap-value-requires : goal.unwrap-value-requires
unwrap-value-requires c =
    bits-there c.args.width c.loop-k.reader c.bits.result c.bits.ensures.value
    (there-next c.args.width c.args.comps c.loop-k._k c.loop-k.reader c.loop-k-test.true c.loop-k.invariant.there)

pub loop-k-preserved : goal.loop-k-preserved
loop-k-preserved c =
    let taken = bits-taken c.args.width c.unwrap-value.result c.loop-k.reader c.bits.new.self (sym c.unwrap-value.ensures ∙ c.bits.ensures.value) c.bits.ensures.after in record {
      values = λ long short ws. group-next long short c.args.width c.args.comps c.loop-k._k c.unwrap-value.result ws c.loop-k.values.items c.push_reserved.new.self.items c.loop-k.reader c.bits.new.self _
          c.requires.width c.loop-k-test.true taken c.push_reserved.ensures.items (c.loop-k.invariant.values long short ws);
      there = there-more c.args.width c.unwrap-value.result c.args.comps c.loop-k._k c.loop-k.reader c.bits.new.self taken c.loop-k-test.true c.loop-k.invariant.there;
      bytes = rw taken.after c.loop-k.invariant.bytes;
      taken = taken-more c.args.width c.unwrap-value.result c.loop-k._k c.args.reader.now.taken c.loop-k.reader c.bits.new.self taken c.loop-k.invariant.taken;
      len = search rules;
      capacity = search rules;
    }
