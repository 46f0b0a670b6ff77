use Rattle.std.proofs.Common.{◌-◌, ◌++◌, length, [], ◌∷◌, sym, ap, ◌∙◌}
use Rattle.std.specs.Prelude.{replicate}
use Rattle.rans_binary.specs.Blocks.{Block, first_bits}
use Rattle.kd_tree.specs.Keys.{Key, KeyRows}
use Rattle.kd_tree.specs.Turns.{going, waiting}
use Rattle.kd_tree.proofs.Turns.{copies-end, single-ends}
use Rattle.kd_tree.proofs.reading.append_leaf.Goals as goal

pub returns-then-count-eq1-clause-keys : goal.returns-then-count-eq1-clause-keys
returns-then-count-eq1-clause-keys c = λ fault stack split nested.
    let depth = c.args.out.now.depth in
    let path : Key = c.args.path.now.items in
    ap (λ n. going fault depth n path stack c.args.out.now.rows (record { split = split; rest = c.args.rest.now })) c.if-count-eq1.true
    ∙ single-ends fault depth path stack c.args.out.now.rows (record { split = split; rest = c.args.rest.now })
    ∙ ap (λ (b : Block). waiting fault depth path stack (c.args.out.now.rows ++ (path ++ first_bits (depth - length path) c.args.rest.now) ∷ []) (record { split = split; rest = b })) (sym c.in_ok-append_single.ensures.rest)
    ∙ ap (λ (x : KeyRows). waiting fault depth path stack x.rows (record { split = split; rest = c.append_single.new.rest })) (sym c.in_ok-append_single.ensures.out)
    ∙ ap (λ (k : Key). waiting fault depth k stack c.append_single.new.out.rows (record { split = split; rest = c.append_single.new.rest })) (sym c.in_ok-append_single.ensures.path)

pub returns-clause-keys : goal.returns-clause-keys
returns-clause-keys c = λ fault stack split nested.
    let path = c.args.path.now.items in
    let out = c.in_ok-append_copies.ensures in
    copies-end fault c.args.out.now.depth c.args.count path stack c.args.out.now.rows (record { split = split; rest = c.args.rest.now }) c.requires.deep c.requires.leaf c.if-count-eq1.false
    ∙ ap (λ (key : Key). waiting fault c.args.out.now.depth path stack (c.args.out.now.rows ++ replicate c.args.count key) (record { split = split; rest = c.args.rest.now })) (sym c.as_slice.ensures.value)
    ∙ ap (λ (x : KeyRows). waiting fault c.args.out.now.depth path stack x.rows (record { split = split; rest = c.args.rest.now })) (sym c.in_ok-append_copies.ensures)
