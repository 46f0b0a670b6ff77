use Rattle.std.proofs.Common.{◌≡◌, ◌*◌, ◌^◌, ◌≤◌, rules}
use Rattle.std.proofs.lemmas.List.{reverse-reverse}
use Rattle.rans_core.specs.Coder.{spelled}
use Rattle.rans_core.proofs.Closing.{all_spelled-Unpacks}
use Rattle.rans_core.proofs.encoder.Encoder.finish.Goals as goal

pub returns-clause-pulls : goal.returns-clause-pulls
returns-clause-pulls c = λ is fits e.
    let items : c.extend_from_slice.new.self.items ≡ spelled (4 * 2 ^ c.args.self.bits) c.args.self.state = search (rules, reverse-reverse) in
    let high : c.args.self.bits ≤ 20 = search rules in
    rw (items, e) (all_spelled-Unpacks c.args.self.bits is high fits)
