use Rattle.drc_base.specs.Profile.{profile_numbered}
use Rattle.std.proofs.Common.{subst, Bool, map, arith}
use Rattle.drc_bits.specs.Spells.{Spells}
use Rattle.attr_section.specs.Heads.{heads_at, heads_bytes, bare_decoder}
use Rattle.attr_section.proofs.Spelling.{attributes_of-some, heads_spelled}
use Rattle.attr_section.proofs.head_writing.write_heads.Goals as goal

pub overflow_cast-d : goal.overflow_cast-d
overflow_cast-d c = search (arith, attributes_of-some c.args.d.now c.requires.each, c.requires.few)

pub returns-clause-again : goal.returns-clause-again
returns-clause-again c = λ n attr_data has is linked.
    subst (λ (eb : Bool). Spells (heads_at (profile_numbered n) attr_data) (heads_bytes eb c.args.d.now) (map bare_decoder c.args.d.now)) is
    (heads_spelled n attr_data c.args.d.now has c.requires linked c.in_ok-put_decoders.ensures.again)
