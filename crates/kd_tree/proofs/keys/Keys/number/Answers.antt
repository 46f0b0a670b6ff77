use Rattle.std.proofs.Common.{◌≡◌, length, ap, arith}
use Rattle.kd_tree.specs.Keys.{KeyRows}
use Rattle.kd_tree.proofs.Packed.{count-is}
use Rattle.kd_tree.proofs.Orders.{word-key, word-small, word-there}
use Rattle.kd_tree.proofs.keys.Keys.number.Goals as goal

pub index-requires : goal.index-requires
index-requires c =
    let depth : c.self.inside.depth ≡ c.args.self.now.depth = ap (λ (x : KeyRows). x.depth) c.self.view_is in
    let count = count-is _ _ _ _ c.self.view_is in
    let h = word-there c.self.inside.depth c.self.inside.count c.args.point (length c.self.inside.words.items) (omega (arith, depth, c.requires.few)) c.self.invariant.0 (omega (arith, count, c.requires.point)) in
    omega (arith, h)

pub returns-clause-bits : goal.returns-clause-bits
returns-clause-bits c =
    let depth : c.self.inside.depth ≡ c.args.self.now.depth = ap (λ (x : KeyRows). x.depth) c.self.view_is in
    word-key c.self.inside.depth c.self.inside.count c.self.inside.words.items c.args.self.now c.args.point c.index.result.now c.self.view_is (omega (arith, depth, c.requires.few)) c.self.invariant.0 c.requires.point c.index.ensures

pub returns-clause-small : goal.returns-clause-small
returns-clause-small c =
    let depth : c.self.inside.depth ≡ c.args.self.now.depth = ap (λ (x : KeyRows). x.depth) c.self.view_is in
    word-small c.self.inside.depth c.self.inside.count c.self.inside.words.items c.args.self.now c.args.point c.index.result.now c.self.view_is (omega (arith, depth, c.requires.few)) c.self.invariant.0 c.self.invariant.1
    c.requires.point c.index.ensures
