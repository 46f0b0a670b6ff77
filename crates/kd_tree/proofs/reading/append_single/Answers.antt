use Rattle.std.proofs.Common.{◌≡◌, ◌-◌, ◌++◌, [], ◌∷◌, length, ap, ◌∙◌, arith}
use Rattle.kd_tree.specs.Keys.{Key}
use Rattle.kd_tree.proofs.Bits.{joined-number}
use Rattle.kd_tree.proofs.reading.append_single.Goals as goal

pub push_number-requires-clause-number : goal.push_number-requires-clause-number
push_number-requires-clause-number c =
    let left : c.depth-depth.result - c.len.result ≡ c.args.out.now.depth - length c.args.path.now.items = omega (arith, c.depth-depth.ensures, c.len.ensures) in
    (joined-number c.args.out.now.depth _ c.number_after-number.result c.args.path.now.items _ c.args.rest.now c.requires c.as_slice.ensures.value left c.number_after-number.ensures.number).0

pub returns-then-depth-lt64-clause-out : goal.returns-then-depth-lt64-clause-out
returns-then-depth-lt64-clause-out c =
    let left : c.depth-depth.result - c.len.result ≡ c.args.out.now.depth - length c.args.path.now.items = omega (arith, c.depth-depth.ensures, c.len.ensures) in
    c.in_ok-push_number.ensures.added
    ∙ ap (λ (k : Key). record { depth = c.args.out.now.depth; rows = c.args.out.now.rows ++ k ∷ [] })
    (joined-number c.args.out.now.depth _ c.number_after-number.result c.args.path.now.items _ c.args.rest.now c.requires c.as_slice.ensures.value left c.number_after-number.ensures.number).1
