use Rattle.std.proofs.Common.{rules, ◌<◌, ◌^◌}
use Rattle.attr_heads.proofs.HeadsBack.{Spells-head}
use Rattle.attr_heads.proofs.head_writing.put_bare_head.Goals as goal

pub returns-clause-again : goal.returns-clause-again
returns-clause-again c =
    let fits : c.args.head.now.id < 2 ^ 32 = search rules in
    λ passes. Spells-head c.args.head.now passes fits
