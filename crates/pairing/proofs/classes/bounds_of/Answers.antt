-- One face more, and all sides.
use Rattle.std.proofs.Common.{ℕ, ap, sym, ◌∙◌, get_or, min, max, arith}
use Rattle.corner_table.specs.Sides.{Side, first, second, third, side, next, prev, side_at}
use Rattle.corner_table.proofs.Numbers.{number-side_at, face-lt}
use Rattle.pairing.specs.Positions.{position_in}
use Rattle.pairing.proofs.PositionLists.{face_more}
use Rattle.pairing.proofs.classes.bounds_of.Goals as goal

pub loop-f-preserved : goal.loop-f-preserved
loop-f-preserved c =
    let P = c.positions_of-p.ensures in
    let I = c.loop-f.invariant in
    let l = I.each_low in
    let h = I.each_high in
    let lr = I.low_room in
    let hr = I.high_room in
    let l1 = c.push_reserved.ensures in
    let l2 = c.push_reserved-in-loop-f.ensures in
    let l3 = c.push_reserved-in-loop-f-2.ensures in
    let h1 = c.push_reserved-in-loop-f-3.ensures in
    let h2 = c.push_reserved-in-loop-f-4.ensures in
    let h3 = c.push_reserved-in-loop-f-5.ensures in
    record {
      each_low = (let a = l1.len in let b = l2.len in let d = l3.len in omega arith);
      each_high = (let a = h1.len in let b = h2.len in let d = h3.len in omega arith);
      low_room = l3.capacity ∙ l2.capacity ∙ l1.capacity ∙ lr;
      high_room = h3.capacity ∙ h2.capacity ∙ h1.capacity ∙ hr;
      low = rw (l3.items, l2.items, l1.items) (face_more (λ (x : Side). min (position_in c.args.numbers.now (next x)) (position_in c.args.numbers.now (prev x))) _ _ _ _ _ (record {
        long = l;
        was = I.low;
        first_is = c.min.ensures ∙ ap (λ (n : ℕ). min n c.positions_of-p.result.2) P.second ∙ ap (min (position_in c.args.numbers.now (side c.loop-f.f second))) P.third;
        second_is = c.min-in-loop-f.ensures ∙ ap (λ (n : ℕ). min n c.positions_of-p.result.0) P.third ∙ ap (min (position_in c.args.numbers.now (side c.loop-f.f third))) P.first;
        third_is = c.min-in-loop-f-2.ensures ∙ ap (λ (n : ℕ). min n c.positions_of-p.result.1) P.first ∙ ap (min (position_in c.args.numbers.now (side c.loop-f.f first))) P.second;
      }));
      high = rw (h3.items, h2.items, h1.items) (face_more (λ (x : Side). max (position_in c.args.numbers.now (next x)) (position_in c.args.numbers.now (prev x))) _ _ _ _ _ (record {
        long = h;
        was = I.high;
        first_is = c.max.ensures ∙ ap (λ (n : ℕ). max n c.positions_of-p.result.2) P.second ∙ ap (max (position_in c.args.numbers.now (side c.loop-f.f second))) P.third;
        second_is = c.max-in-loop-f.ensures ∙ ap (λ (n : ℕ). max n c.positions_of-p.result.0) P.third ∙ ap (max (position_in c.args.numbers.now (side c.loop-f.f third))) P.first;
        third_is = c.max-in-loop-f-2.ensures ∙ ap (λ (n : ℕ). max n c.positions_of-p.result.1) P.first ∙ ap (max (position_in c.args.numbers.now (side c.loop-f.f first))) P.second;
      }));
    }

pub returns : goal.returns
returns c =
    let t = c.loop-f-test.false in
    let e = c.loop-f.auto.f-end in
    let n = c.requires.triangles.each in
    let l = c.loop-f.invariant.each_low in
    let h = c.loop-f.invariant.each_high in
    record {
      each_low = omega arith;
      each_high = omega arith;
      low = λ x k. ap (λ (i : ℕ). get_or c.loop-f.lows.items i 0) (sym (number-side_at x)) ∙ c.loop-f.invariant.low (side_at x) (face-lt x c.loop-f.f (omega arith));
      high = λ x k. ap (λ (i : ℕ). get_or c.loop-f.highs.items i 0) (sym (number-side_at x)) ∙ c.loop-f.invariant.high (side_at x) (face-lt x c.loop-f.f (omega arith));
    }
