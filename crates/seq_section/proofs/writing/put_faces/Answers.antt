use Rattle.std.proofs.Common.{◌<◌, ◌^◌, arith}
use Rattle.seq_section.proofs.Written.{Spells-faces}
use Rattle.seq_section.proofs.writing.put_faces.Goals as goal

pub returns-in_ok-out-clause-behind : goal.returns-in_ok-out-clause-behind
returns-in_ok-out-clause-behind c =
    let small : c.args.points < 2 ^ 32 = omega (arith, c.requires.few_points) in
    rw c.if-packed.false (Spells-faces c.args.points c.args.faces.now c.requires.below small)
