use Rattle.std.proofs.Common.{◌≡◌, ◌≢◌, length, rules, subst}
use Rattle.rans_binary.specs.Blocks.{IsBlockOf}
use Rattle.attr_section.proofs.SpelledFlags.{Spells-no_flags, Spells-flag_bits}
use Rattle.attr_section.proofs.flag_writing.put_flag_bits.Goals as goal

pub returns-then-is_empty-clause-again : goal.returns-then-is_empty-clause-again
returns-then-is_empty-clause-again c =
    let none : length c.args.flags.now ≡ 0 = search rules in
    Spells-no_flags c.args.flags.now none

pub returns-clause-again : goal.returns-clause-again
returns-clause-again c =
    let some : length c.args.flags.now ≢ 0 = search rules in
    Spells-flag_bits c.args.flags.now some (subst (IsBlockOf c.args.flags.now) c.in_ok-block.ensures.block c.in_ok-block.ensures.again)
