use Rattle.std.proofs.Common.{rules, ◌-◌, ◌<◌, length, pos, FitsSigned, get_or, w32, arith}
use Rattle.std.proofs.lemmas.Int.{to_z-of_z}
use Rattle.predict.specs.Restored.{entry_before}
use Rattle.predict.proofs.Restoring.{entry_before-first, entry_before-later}
use Rattle.predict.proofs.Corrections.{symbols-more, symbols-end}
use Rattle.predict.proofs.differences.correct_difference.Goals as goal

pub loop-i-preserved : goal.loop-i-preserved
loop-i-preserved c =
    let has : c.loop-i.i < length c.args.v.now = omega arith in
    let correction_fits : FitsSigned w32 c.correction.result = search rules in
    let value_fits : FitsSigned w32 (get_or c.args.v.now c.loop-i.i (pos 0)) = search rules in
    let is = simp to_z-of_z at c.correction.ensures.correction in
    let symbol = simp to_z-of_z at c.symbol_of.ensures in
    record {
      items = symbols-more (entry_before c.args.comps) c.copy-wrap.result c.args.v.now c.loop-i.symbols.items c.push_reserved.new.self.items c.loop-i.i c.symbol_of.result (pos 0) c.correction.result
          has (entry_before-first c.args.comps c.args.v.now c.loop-i.i has (omega arith)) is symbol c.push_reserved.ensures.items c.loop-i.invariant.items;
      len = search rules;
      room = search rules;
    }

pub loop-k-preserved : goal.loop-k-preserved
loop-k-preserved c =
    let has : c.loop-k.k < length c.args.v.now = omega arith in
    let correction_fits : FitsSigned w32 c.correction-in-loop-k.result = search rules in
    let before_fits : FitsSigned w32 (get_or c.args.v.now (c.loop-k.k - c.args.comps) (pos 0)) = search rules in
    let value_fits : FitsSigned w32 (get_or c.args.v.now c.loop-k.k (pos 0)) = search rules in
    let is = simp to_z-of_z at c.correction-in-loop-k.ensures.correction in
    let symbol = simp to_z-of_z at c.symbol_of-in-loop-k.ensures in
    record {
      items = symbols-more (entry_before c.args.comps) c.copy-wrap.result c.args.v.now c.loop-k.symbols.items c.push_reserved-in-loop-k.new.self.items c.loop-k.k c.symbol_of-in-loop-k.result
          (get_or c.args.v.now (c.loop-k.k - c.args.comps) (pos 0)) c.correction-in-loop-k.result
          has (entry_before-later c.args.comps c.args.v.now c.loop-k.k c.requires.some has (omega arith)) is symbol c.push_reserved-in-loop-k.ensures.items c.loop-k.invariant.items;
      len = search rules;
      room = search rules;
    }

pub returns : goal.returns
returns c = symbols-end (entry_before c.args.comps) c.args.w.now c.args.v.now c.loop-k.symbols.items c.loop-k.k (omega arith) (rw c.copy-wrap.ensures.same at c.loop-k.invariant.items)
