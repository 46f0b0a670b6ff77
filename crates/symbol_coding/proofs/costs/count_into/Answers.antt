use Rattle.std.proofs.Common.{◌≡◌, ◌+◌, length, arith, ap, ◌∙◌, refl, get_or, take}
use Rattle.symbol_tables.specs.Normal.{greatest_count}
use Rattle.symbol_coding.proofs.Counts.{count_in, counted-all, counted-next, each-greatest}
use Rattle.symbol_coding.proofs.costs.count_into.Goals as goal

pub bounds-counts-symbol : goal.bounds-counts-symbol
bounds-counts-symbol c = let h = each-greatest c.args.symbols.now c.loop-k.k in omega (arith, h, c.requires.len, c.loop-k.auto.counts)

pub loop-k-preserved : goal.loop-k-preserved
loop-k-preserved c =
    let h = each-greatest c.args.symbols.now c.loop-k.k in
    let l : length c.loop-k.counts ≡ greatest_count c.args.symbols.now + 1 = omega (arith, c.requires.len, c.loop-k.auto.counts) in
    counted-next c.args.symbols.now c.loop-k.counts _ c.loop-k.k (get_or c.args.symbols.now c.loop-k.k 0) (greatest_count c.args.symbols.now + 1) c.loop-k-test.true refl
    (omega (arith, h)) l c.loop-k.invariant refl

pub returns : goal.returns
returns c =
    let e : c.loop-k.k ≡ length c.args.symbols.now = omega arith in
    counted-all c.args.symbols.now c.loop-k.counts (let l : length c.loop-k.counts ≡ greatest_count c.args.symbols.now + 1 = omega arith in l)
    (λ s h. c.loop-k.invariant s h ∙ ap (λ n. count_in (take n c.args.symbols.now) s) e)

pub bounds-counts-symbol-in-loop-k : goal.bounds-counts-symbol-in-loop-k
bounds-counts-symbol-in-loop-k c = let h = each-greatest c.args.symbols.now c.loop-k.k in omega (arith, h, c.requires.len, c.loop-k.auto.counts)
