use Rattle.std.proofs.Common.{◌≡◌, ◌<◌, ◌^◌, ap, sym, subst, arith}
use Rattle.kd_tree.specs.Keys.{KeyRows}
use Rattle.kd_tree.proofs.Packed.{clean-number, length-number, table-number}
use Rattle.kd_tree.proofs.keys.Keys.push_number.Goals as goal

pub invariant_of-self-2 : goal.invariant_of-self-2
invariant_of-self-2 c =
    let depth : c.self.inside.depth ≡ c.args.self.now.depth = ap (λ (x : KeyRows). x.depth) c.self.view_is in
    let few : c.self.inside.depth < 64 = omega (arith, depth, c.requires.few) in
    let small : c.args.number < 2 ^ c.self.inside.depth = subst (λ d. c.args.number < 2 ^ d) (sym depth) c.requires.number in (
      length-number c.self.inside.depth c.self.inside.count c.args.number c.self.inside.words.items c.push.new.self.items c.args.self.now c.self.view_is c.self.invariant.0 few c.in_ok-push.ensures.items,
      clean-number c.self.inside.depth c.self.inside.count c.args.number c.self.inside.words.items c.push.new.self.items c.args.self.now c.self.view_is c.self.invariant.0 few c.in_ok-push.ensures.items
          small c.self.invariant.1,
    )

pub returns-clause-added : goal.returns-clause-added
returns-clause-added c =
    let depth : c.self.inside.depth ≡ c.args.self.now.depth = ap (λ (x : KeyRows). x.depth) c.self.view_is in
    table-number c.self.inside.depth c.self.inside.count c.args.number c.self.inside.words.items c.push.new.self.items c.args.self.now c.self.view_is c.self.invariant.0
    (omega (arith, depth, c.requires.few)) c.in_ok-push.ensures.items
