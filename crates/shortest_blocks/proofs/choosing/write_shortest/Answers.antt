use Rattle.std.proofs.Common.{◌^◌, ◌<◌, ◌≡◌, length, ap, subst, sym, arith}
use Rattle.std.specs.List.{best_of}
use Rattle.symbol_coding.specs.Block.{block_at}
use Rattle.symbol_coding.proofs.Again.{none-again}
use Rattle.drc_bits.specs.Spells.{Spells}
use Rattle.shortest_blocks.specs.Shortest.{is_shorter, other_codings}
use Rattle.shortest_blocks.proofs.Shortest.{all-chosen, best-short, shortest-read}
use Rattle.shortest_blocks.proofs.choosing.write_shortest.Goals as goal

pub returns-then-values-eq0-clause-again : goal.returns-then-values-eq0-clause-again
returns-then-values-eq0-clause-again c = none-again c.args.values.now c.new.result.items c.args.comps c.if-values-eq0.true c.new.ensures.items

pub returns-clause-again : goal.returns-clause-again
returns-clause-again c =
    let block = c.in_ok-block.block in
    let best = c.in_ok-with_raw.field-0 in
    let is : best.items ≡ best_of is_shorter block.items (other_codings c.args.values.now c.args.comps) =
    all-chosen c.args.values.now block.items c.in_ok-joined.joined.items c.shorter.result.items best.items c.args.comps c.in_ok-joined.ensures c.shorter.ensures c.in_ok-with_raw.ensures in
    let short : length best.items < 2 ^ 64 = omega (arith, best.ok, best.small) in
    subst (λ xs. Spells (block_at (length c.args.values.now) c.args.comps) xs c.args.values.now) (sym is)
    (shortest-read c.args.comps c.args.values.now block.items c.requires.divides (omega (arith, c.if-values-eq0.false)) c.requires.few (λ k. let h = c.type_inv.values k in omega (arith, h))
    c.in_ok-block.ensures.again (subst (λ xs. length xs < 2 ^ 64) is short))

pub returns-clause-most : goal.returns-clause-most
returns-clause-most c =
    let block = c.in_ok-block.block in
    let best = c.in_ok-with_raw.field-0 in
    let is : best.items ≡ best_of is_shorter block.items (other_codings c.args.values.now c.args.comps) =
    all-chosen c.args.values.now block.items c.in_ok-joined.joined.items c.shorter.result.items best.items c.args.comps c.in_ok-joined.ensures c.shorter.ensures c.in_ok-with_raw.ensures in
    let l = ap length is in
    let m = best-short block.items (other_codings c.args.values.now c.args.comps) in
    let b = ap length c.in_ok-block.ensures.block in
    omega (arith, l, m, b)
